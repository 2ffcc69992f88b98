-- Which of the offered layers an answer chooses (RFC 7798, section 7.1, recv-sub-layer-id; RFC 9328,
-- section 7.2, recv-sublayer-id and recv-ols-id). Where it chooses none, it takes what is offered.
use Rattle.std.specs.Prelude.{◌≡◌, ℕ, List, Option, Some}
use Rattle.std.specs.Option.{option_or}
use Rattle.h26x_sdp.specs.declared.h265.H265Parameter.TheVariants as h265_parameter
use Rattle.h26x_sdp.specs.declared.h266.H266Parameter.TheVariants as h266_parameter
use Rattle.h26x_sdp.specs.H265Rows as h265
use Rattle.h26x_sdp.specs.H266Rows as h266
use Rattle.h26x_fmtp.specs.Tables.{ParameterRow}
use Rattle.h26x_fmtp.specs.Reading.{FormatParameters, number_at, number_or_default}
use Rattle.h26x_answers.specs.LevelsSaid.{IsWithin}

-- the highest sub-layer that an answer takes: the one that it says, or that of the offered stream
abbrev pub chosen_sub_layer : List ParameterRow → FormatParameters → FormatParameters → ℕ → ℕ →
    Option ℕ
chosen_sub_layer rows offered answer choice_row stream_row =
    option_or (number_at rows answer choice_row) (number_or_default rows offered stream_row)

-- it isn't above that of the offered stream
abbrev pub IsSubLayerOffered : List ParameterRow → FormatParameters → FormatParameters → ℕ → ℕ →
    Type 0
IsSubLayerOffered rows offered answer choice_row stream_row = (chosen : ℕ) →
    chosen_sub_layer rows offered answer choice_row stream_row ≡ Some chosen →
    IsWithin rows offered stream_row chosen

-- of H.265, sprop-sub-layer-id and recv-sub-layer-id (section 7.2.2)
abbrev pub TakesOfferedH265 : FormatParameters → FormatParameters → Type 0
TakesOfferedH265 offered answer = IsSubLayerOffered h265.rows offered answer
    (h265.row_place h265_parameter.RecvSubLayerId) (h265.row_place h265_parameter.SpropSubLayerId)

-- the output layer set that an answer of H.266 takes: the one that it says, or the offered one
abbrev pub chosen_layer_set : FormatParameters → FormatParameters → Option ℕ
chosen_layer_set offered answer =
    option_or (number_at h266.rows answer (h266.row_place h266_parameter.RecvOlsId))
    (number_at h266.rows offered (h266.row_place h266_parameter.SpropOlsId))

-- of H.266, the same of sprop-sublayer-id and recv-sublayer-id, and no set of layers but the offered
-- one, which is said only where one was offered (section 7.3.2.2)
pub record TakesOfferedH266 (offered answer : FormatParameters) : Type 0 where
  pub sub_layer : IsSubLayerOffered h266.rows offered answer
      (h266.row_place h266_parameter.RecvSublayerId) (h266.row_place h266_parameter.SpropSublayerId)
  pub layer_set : chosen_layer_set offered answer
      ≡ number_at h266.rows offered (h266.row_place h266_parameter.SpropOlsId)
