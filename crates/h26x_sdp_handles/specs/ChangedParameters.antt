-- Format parameters of which one is set or dropped, by its name.
use Rattle.std.specs.Prelude.{ℕ, false, if◌then◌else◌, List, slice_set, Option, Some, None, Result, Ok, Err}
use Rattle.std.specs.Result.{result_map_both}
use Rattle.h26x_fmtp.specs.declared.kind.Kind.{Kind}
use Rattle.h26x_fmtp.specs.declared.error.Fault.{Fault}
use Rattle.h26x_fmtp.specs.Pairs.{trim_ascii}
use Rattle.h26x_fmtp.specs.Written.{is_one_part}
use Rattle.h26x_fmtp.specs.Kinds.{fault_in}
use Rattle.h26x_fmtp.specs.Tables.{ParameterRow, row_of}
use Rattle.h26x_fmtp.specs.Reading.{FormatParameters}
use Rattle.h26x_sdp.specs.H264Rows as h264
use Rattle.h26x_sdp.specs.H265Rows as h265
use Rattle.h26x_sdp.specs.H266Rows as h266
use Rattle.h26x_sdp_handles.specs.declared.sdp.SdpEndpoint.{SdpEndpoint}
use Rattle.h26x_sdp_handles.specs.declared.sdp.SdpEndpoint.TheVariants as s
use Rattle.h26x_sdp_handles.specs.SdpCodes.{unknown_name, not_a_value, fault_code}

-- parameters with this value of a row, or with none
abbrev pub with_value_at : ℕ → Option (List ℕ) → FormatParameters → FormatParameters
with_value_at row value it = record it { values = slice_set it.values row value }

-- parameters with a value of a row, where nothing is wrong with it
abbrev pub with_value_unless : Option Fault → ℕ → List ℕ → FormatParameters →
    Result FormatParameters ℕ
with_value_unless (Some fault) row value it = Err (fault_code fault)
with_value_unless None row value it = Ok (with_value_at row (Some value) it)

-- the same of a text, which is one value where no `;` outside braces stands in it and none is left open
abbrev pub with_text_at : ℕ × Kind → List ℕ → FormatParameters → Result FormatParameters ℕ
with_text_at row value it =
    if is_one_part false value then with_value_unless (fault_in row.1 value) row.0 value it
    else Err not_a_value

-- parameters with a value of the one with a name, without white space at its ends; or why not
abbrev pub with_named_value : List ParameterRow → FormatParameters → List ℕ → List ℕ →
    Result FormatParameters ℕ
with_named_value rows it name value = elim (row_of rows name) [
  | None ↦ Err unknown_name
  | Some row ↦ with_text_at row (trim_ascii value) it
]

-- parameters without a value of the one with a name
abbrev pub without_named_value : List ParameterRow → FormatParameters → List ℕ →
    Result FormatParameters ℕ
without_named_value rows it name = elim (row_of rows name) [
  | None ↦ Err unknown_name
  | Some row ↦ Ok (with_value_at row.0 None it)
]

-- the same of a codec's
abbrev pub sdp_with_value : SdpEndpoint → List ℕ → List ℕ → Result SdpEndpoint ℕ
sdp_with_value (s.H264 it) name value =
    result_map_both s.H264 (λ code. code) (with_named_value h264.rows it name value)
sdp_with_value (s.H265 it) name value =
    result_map_both s.H265 (λ code. code) (with_named_value h265.rows it name value)
sdp_with_value (s.H266 it) name value =
    result_map_both s.H266 (λ code. code) (with_named_value h266.rows it name value)

abbrev pub sdp_without_value : SdpEndpoint → List ℕ → Result SdpEndpoint ℕ
sdp_without_value (s.H264 it) name =
    result_map_both s.H264 (λ code. code) (without_named_value h264.rows it name)
sdp_without_value (s.H265 it) name =
    result_map_both s.H265 (λ code. code) (without_named_value h265.rows it name)
sdp_without_value (s.H266 it) name =
    result_map_both s.H266 (λ code. code) (without_named_value h266.rows it name)
