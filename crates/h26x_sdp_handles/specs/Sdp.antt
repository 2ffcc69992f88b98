-- Format parameters of SDP by their codec and by names, as the calls on them answer.
use Rattle.std.specs.Prelude.{◌≡◌, ◌⊎◌, ℕ, Bool, true, false, if◌then◌else◌, List, Option, Some, None, is_some, Result, Ok, Err, Vec, MatchResult}
use Rattle.std.specs.List.{slice_get}
use Rattle.std.specs.Option.{ok_or, option_map}
use Rattle.std.specs.Result.{result_map_both}
use Rattle.std.specs.Borrow.{Bor}
use Rattle.std.specs.declared.alloc.Global.{Global}
use Rattle.h26x_cut.specs.Cutting.{AreUnits}
use Rattle.h26x_codec.specs.Codec.{zero_rule}
use Rattle.h26x_codec.specs.declared.codec.Codec.{Codec}
use Rattle.h26x_codec.specs.declared.codec.Codec.TheVariants as c
use Rattle.h26x_fmtp.specs.declared.kind.Kind.{Kind}
use Rattle.h26x_fmtp.specs.declared.kind.Kind.TheVariants as k
use Rattle.h26x_fmtp.specs.declared.error.UnitsError.{UnitsError}
use Rattle.h26x_stream_parameters.specs.declared.error.StreamError.{StreamError}
use Rattle.h26x_sdp.specs.declared.h265.H265Parameter.TheVariants as h265_parameter
use Rattle.h26x_sdp.specs.declared.h266.H266Parameter.TheVariants as h266_parameter
use Rattle.h26x_fmtp.specs.Pairs.{Pair}
use Rattle.h26x_fmtp.specs.Tables.{ParameterRow, row_of}
use Rattle.h26x_fmtp.specs.Reading.{FormatParameters, read_of, all_of, value_at, number_at, value_or_default, number_or_default, number_of_32_bits}
use Rattle.h26x_fmtp.specs.Kinds.{unit_types}
use Rattle.h26x_fmtp.specs.Written.{written}
use Rattle.h26x_fmtp.specs.Units.{sprop_units_at}
use Rattle.h26x_fmtp.specs.UnitsViews.{units_view}
use Rattle.h26x_answers.specs.declared.answer.AnswerConfig.{AnswerConfig}
use Rattle.h26x_answers.specs.declared.fault.FormatFault.{FormatFault}
use Rattle.h26x_answers.specs.Answers.{Rules, allowed_answer, in_cast, own_fault}
use Rattle.h26x_answers.specs.AnswersH264 as h264_answers
use Rattle.h26x_answers.specs.AnswersH265 as h265_answers
use Rattle.h26x_answers.specs.AnswersH266 as h266_answers
use Rattle.h26x_sdp.specs.H264Rows as h264
use Rattle.h26x_sdp.specs.H265Rows as h265
use Rattle.h26x_sdp.specs.H266Rows as h266
use Rattle.h26x_stream_parameters.specs.FromStream.{h264_of_units, h265_of_units, h266_of_units}
use Rattle.h26x_sdp_handles.specs.declared.sdp_code.Refused.{Refused}
use Rattle.h26x_sdp_handles.specs.declared.sdp.SdpEndpoint.{SdpEndpoint}
use Rattle.h26x_sdp_handles.specs.declared.sdp.SdpEndpoint.TheVariants as s
use Rattle.h26x_codes.specs.Codes.{out_of_memory, not_of_this_codec}
use Rattle.h26x_sdp_handles.specs.SdpCodes.{unknown_name, absent, other_kind, no_answer, refused_with, parameters_refused, units_refused, stream_code}

-- a call answers this, or that memory lacks
abbrev pub IsOrOutOfMemory : {T : Type 0} → Result T ℕ → Result T ℕ → Type 0
IsOrOutOfMemory result answer = (result ≡ Err out_of_memory) ⊎ (result ≡ answer)

-- what holds of what a call answers, where memory doesn't lack
abbrev pub OkOrOutOfMemory : {T : Type 0} → Result T ℕ → (T → Type 0) → Type 0
OkOrOutOfMemory result Holds = MatchResult result Holds (λ code. code ≡ out_of_memory)

-- the parameters that a codec's RFC registers, in their order
abbrev pub sdp_rows : Codec → List ParameterRow
sdp_rows c.H264 = h264.rows
sdp_rows c.H265 = h265.rows
sdp_rows c.H266 = h266.rows

-- parameters of a codec
abbrev pub sdp_of : Codec → FormatParameters → SdpEndpoint
sdp_of c.H264 it = s.H264 it
sdp_of c.H265 it = s.H265 it
sdp_of c.H266 it = s.H266 it

abbrev pub sdp_codec : SdpEndpoint → Codec
sdp_codec (s.H264 it) = c.H264
sdp_codec (s.H265 it) = c.H265
sdp_codec (s.H266 it) = c.H266

abbrev pub sdp_parameters : SdpEndpoint → FormatParameters
sdp_parameters (s.H264 it) = it
sdp_parameters (s.H265 it) = it
sdp_parameters (s.H266 it) = it

-- the parameters of a text, or why there are none
abbrev pub sdp_read : Codec → List ℕ → Result SdpEndpoint Refused
sdp_read codec text =
    result_map_both (sdp_of codec) parameters_refused (read_of (sdp_rows codec) text)

-- what units that a stream begins with say of it, or why they say nothing
abbrev pub stream_parameters : Codec → List (List ℕ) → Result FormatParameters StreamError
stream_parameters c.H264 units = h264_of_units units
stream_parameters c.H265 units = h265_of_units units
stream_parameters c.H266 units = h266_of_units units

abbrev pub sdp_of_units : Codec → List (List ℕ) → Result SdpEndpoint ℕ
sdp_of_units codec units =
    result_map_both (sdp_of codec) stream_code (stream_parameters codec units)

-- what holds of the units of a payload
abbrev pub OfPayloadUnits : Codec → List ℕ → (List (List ℕ) → Type 0) → Type 0
OfPayloadUnits codec payload Holds =
    (units : List (List ℕ)) × AreUnits (zero_rule codec) payload units × Holds units

-- the answer to an offered format by one of ours, or that there is none
abbrev pub answer_or_code : Rules → AnswerConfig → FormatParameters → FormatParameters →
    Result FormatParameters ℕ
answer_or_code rules config offered ours =
    ok_or (allowed_answer rules config offered ours) no_answer

-- the same by their codec: of two codecs there is none
abbrev pub sdp_answer : AnswerConfig → SdpEndpoint → SdpEndpoint → Result SdpEndpoint ℕ
sdp_answer config (s.H264 offered) (s.H264 ours) =
    result_map_both s.H264 (λ code. code)
    (answer_or_code (in_cast config (h264_answers.multicast_terms config.rules)
    (h264_answers.rules config.rules)) config offered ours)
sdp_answer config (s.H265 offered) (s.H265 ours) =
    result_map_both s.H265 (λ code. code)
    (answer_or_code (in_cast config (h265_answers.multicast_terms config.rules)
    (h265_answers.rules config.rules)) config offered ours)
sdp_answer config (s.H266 offered) (s.H266 ours) =
    result_map_both s.H266 (λ code. code)
    (answer_or_code (in_cast config h266_answers.multicast_terms h266_answers.rules) config offered
    ours)
sdp_answer config offered ours = Err no_answer

-- the first rule that parameters break as a format of one's own
abbrev pub sdp_own_fault : AnswerConfig → SdpEndpoint → Option FormatFault
sdp_own_fault config (s.H264 it) = own_fault (h264_answers.rules config.rules) config it
sdp_own_fault config (s.H265 it) = own_fault (h265_answers.rules config.rules) config it
sdp_own_fault config (s.H266 it) = own_fault h266_answers.rules config it

-- the name of the parameter at a place of the table
abbrev pub sdp_name : SdpEndpoint → ℕ → Option (List ℕ)
sdp_name it place = option_map (λ (row : ParameterRow). row.name)
    (slice_get (sdp_rows (sdp_codec it)) place)

-- parameters as they are written
abbrev pub sdp_text : SdpEndpoint → List ℕ
sdp_text it = written (all_of (sdp_rows (sdp_codec it)) (sdp_parameters it))

-- whether a parameter is a number
abbrev pub is_number : Kind → Bool
is_number (k.Number least most) = true
is_number (k.HexadecimalNumber most) = true
is_number (k.Hexadecimal bytes) = false
is_number k.TxMode = false
is_number (k.Units types) = false
is_number k.Text = false

-- whether it is units
abbrev pub is_units : Kind → Bool
is_units kind = is_some (unit_types kind)

-- the value of the parameter with a name, or what is taken where it's absent; or why there is none
abbrev pub named_value : List ParameterRow → FormatParameters → List ℕ → Bool → Result (List ℕ) ℕ
named_value rows it name or_default = elim (row_of rows name) [
  | None ↦ Err unknown_name
  | Some row ↦ ok_or (if or_default then value_or_default rows it row.0 else value_at it.values row.0)
      absent
]

abbrev pub sdp_value : SdpEndpoint → List ℕ → Bool → Result (List ℕ) ℕ
sdp_value it = named_value (sdp_rows (sdp_codec it)) (sdp_parameters it)

-- a call answers it, or why there is none
abbrev pub SaysNamedValue : Result (Bor (List ℕ)) ℕ → Result (List ℕ) ℕ → Type 0
SaysNamedValue result said =
    MatchResult result (λ value. said ≡ Ok value.now) (λ code. said ≡ Err code)

-- the number of the parameter with a name, or of what is taken where it's absent; or why there is none
abbrev pub named_number : List ParameterRow → FormatParameters → List ℕ → Bool → Result ℕ ℕ
named_number rows it name or_default = elim (row_of rows name) [
  | None ↦ Err unknown_name
  | Some row ↦ if is_number row.1
      then ok_or (if or_default then number_or_default rows it row.0 else number_at rows it row.0)
      absent
      else Err other_kind
]

abbrev pub sdp_number : SdpEndpoint → List ℕ → Bool → Result ℕ ℕ
sdp_number it = named_number (sdp_rows (sdp_codec it)) (sdp_parameters it)

-- the units of a parameter, or why there are none
abbrev pub units_or_refused : Option (Result (List (List ℕ)) UnitsError) →
    Result (List (List ℕ)) Refused
units_or_refused None = Err (refused_with absent)
units_or_refused (Some (Ok units)) = Ok units
units_or_refused (Some (Err error)) = Err (units_refused error)

-- the same of the parameter with a name
abbrev pub named_units : List ParameterRow → FormatParameters → List ℕ →
    Result (List (List ℕ)) Refused
named_units rows it name = elim (row_of rows name) [
  | None ↦ Err (refused_with unknown_name)
  | Some row ↦ if is_units row.1 then units_or_refused (sprop_units_at rows it row.0)
      else Err (refused_with other_kind)
]

abbrev pub sdp_units : SdpEndpoint → List ℕ → Result (List (List ℕ)) Refused
sdp_units it = named_units (sdp_rows (sdp_codec it)) (sdp_parameters it)

-- a call answers them, or why there are none
abbrev pub SaysNamedUnits : Result (Bor (List (Vec ℕ Global))) Refused →
    Result (List (List ℕ)) Refused → Type 0
SaysNamedUnits result said =
    MatchResult result (λ units. said ≡ Ok (units_view units.now)) (λ it. said ≡ Err it)

-- the parameters that the RFC doesn't have, in their order
abbrev pub sdp_others : SdpEndpoint → List Pair
sdp_others it = (sdp_parameters it).others

-- `sprop-max-don-diff`, or 0 where it's absent; of H.264 it is for interleaving alone
abbrev pub sdp_max_don_diff : SdpEndpoint → Result ℕ ℕ
sdp_max_don_diff (s.H264 it) = Err not_of_this_codec
sdp_max_don_diff (s.H265 it) = ok_or (number_of_32_bits
    (number_or_default h265.rows it (h265.row_place h265_parameter.SpropMaxDonDiff))) absent
sdp_max_don_diff (s.H266 it) = ok_or (number_of_32_bits
    (number_or_default h266.rows it (h266.row_place h266_parameter.SpropMaxDonDiff))) absent
