-- The format parameters of retransmission (RFC 4588, sections 8.3 and 8.6).
use Rattle.std.specs.Prelude.{ℕ, ◌<◌, List, [], ◌∷◌, codes, decimal, Option, Some, None, Result, Ok, Err}
use Rattle.std.specs.Option.{option_map, option_and_then}
use Rattle.h26x_fmtp.specs.declared.kind.Kind.TheVariants.{Number}
use Rattle.h26x_fmtp.specs.declared.error.ParametersError.{ParametersError}
use Rattle.h26x_sdp.specs.declared.error.RtxError.{RtxError}
use Rattle.h26x_sdp.specs.declared.error.RtxError.TheVariants.{Parameters, NoPayloadType}
use Rattle.h26x_sdp.specs.declared.rtx.RtxFormat.{RtxFormat}
use Rattle.h26x_sdp.specs.declared.rtx.RtxParameter.{RtxParameter}
use Rattle.h26x_sdp.specs.declared.rtx.RtxParameter.TheVariants.{Apt, RtxTime}
use Rattle.h26x_fmtp.specs.Tables.{ParameterRow}
use Rattle.h26x_fmtp.specs.Reading.{FormatParameters, read_of, all_of, value_at, number_at}
use Rattle.h26x_fmtp.specs.RtpMaps.{payload_type_in}
use Rattle.h26x_fmtp.specs.Written.{written}
use Rattle.h26x_sdp.specs.CapabilityPoints.{IsAtMost}

abbrev pub rtx_place : RtxParameter → ℕ
rtx_place Apt = 0
rtx_place RtxTime = 1

-- the associated payload type, which must be given, and for how many milliseconds packets are kept
abbrev pub rtx_rows : List ParameterRow
rtx_rows =
    record { name = codes "apt"; kind = Number 0 127; default = None } ∷
    record { name = codes "rtx-time"; kind = Number 0 18446744073709551615; default = None } ∷
    []

-- the payload type that parameters say
abbrev pub associated : FormatParameters → Option ℕ
associated it = option_and_then payload_type_in (value_at it.values (rtx_place Apt))

abbrev pub with_associated : FormatParameters → Option ℕ → Result RtxFormat RtxError
with_associated it None = Err NoPayloadType
with_associated it (Some payload_type) = Ok (record {
  payload_type = payload_type;
  rtx_time = number_at rtx_rows it (rtx_place RtxTime);
})

-- what parameters say that are read by the table
abbrev pub of_rtx_parameters : Result FormatParameters ParametersError → Result RtxFormat RtxError
of_rtx_parameters (Err fault) = Err (Parameters fault)
of_rtx_parameters (Ok it) = with_associated it (associated it)

-- the format of a text
abbrev pub rtx_format_of : List ℕ → Result RtxFormat RtxError
rtx_format_of text = of_rtx_parameters (read_of rtx_rows text)

-- a format as parameters
abbrev pub rtx_parameters : RtxFormat → FormatParameters
rtx_parameters it = record {
  values = Some (decimal it.payload_type) ∷ option_map decimal it.rtx_time ∷ [];
  others = [];
}

-- as it is written
abbrev pub rtx_format_text : RtxFormat → List ℕ
rtx_format_text it = written (all_of rtx_rows (rtx_parameters it))

-- what may stand as a format
pub record IsRtxFormat (it : RtxFormat) : Type 0 where
  pub payload_type : it.payload_type < 128
  pub time : IsAtMost 18446744073709551615 it.rtx_time
