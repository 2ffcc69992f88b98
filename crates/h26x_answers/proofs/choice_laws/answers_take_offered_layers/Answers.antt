use Rattle.std.proofs.Common.{◌≡◌, ℕ, List, Option, Some, None, ap, sym, ◌∙◌, arith}
use Rattle.std.specs.Option.{option_or, option_and_then}
use Rattle.h26x_fmtp.specs.Kinds.{number_of}
use Rattle.h26x_fmtp.specs.Tables.{ParameterRow, row_at}
use Rattle.h26x_fmtp.specs.Reading.{FormatParameters, value_at, number_at, number_or_default}
use Rattle.h26x_sdp.specs.declared.h265.H265Parameter.TheVariants as h265_parameter
use Rattle.h26x_sdp.specs.declared.h266.H266Parameter.TheVariants as h266_parameter
use Rattle.h26x_sdp.specs.H265Rows as h265
use Rattle.h26x_sdp.specs.H266Rows as h266
use Rattle.h26x_answers.specs.OperationPoints.{IsSubLayerOffered}
use Rattle.h26x_answers.proofs.ConfigurationsTieredLemmas.{h265_ours, h266_ours}
use Rattle.h26x_answers.proofs.choice_laws.answers_take_offered_layers.Goals as goal

-- a value that is absent says no number
unsaid : (rows : List ParameterRow) (it : FormatParameters) (row : ℕ)
    → value_at it.values row ≡ None → number_at rows it row ≡ None
unsaid rows it row absent = ap (option_and_then (number_of (row_at rows row).kind)) absent

-- and leaves the sub-layer to the offer
left_to_offer : (rows : List ParameterRow) (offered answer : FormatParameters) (choice_row stream_row : ℕ)
    → value_at answer.values choice_row ≡ None
    → IsSubLayerOffered rows offered answer choice_row stream_row
left_to_offer rows offered answer choice_row stream_row absent chosen is = record {
  most = chosen;
  said = sym (ap (λ it. option_or it (number_or_default rows offered stream_row)) (unsaid rows answer choice_row absent)) ∙ is;
  within = omega arith;
}

pub returns : goal.returns
returns c = record {
  h265 = λ by offered own answer theirs ours is.
      left_to_offer h265.rows offered answer (h265.row_place h265_parameter.RecvSubLayerId) (h265.row_place h265_parameter.SpropSubLayerId) (h265_ours by offered own answer theirs ours is).no_choice;
  h266 = λ offered own answer theirs ours is. record {
    sub_layer = left_to_offer h266.rows offered answer (h266.row_place h266_parameter.RecvSublayerId) (h266.row_place h266_parameter.SpropSublayerId) (h266_ours offered own answer theirs ours is).no_sublayer;
    layer_set = ap (λ it. option_or it (number_at h266.rows offered (h266.row_place h266_parameter.SpropOlsId))) (unsaid h266.rows answer (h266.row_place h266_parameter.RecvOlsId) (h266_ours offered own answer theirs ours is).no_layer_set);
  };
}
