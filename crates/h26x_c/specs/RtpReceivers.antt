-- What a caller of C tells a receiver of datagrams and is told by it.
use Rattle.std.specs.Prelude.{◌≡◌, ◌≢◌, ℕ, Bool, true, false, List, Option, Some, None, is_some, Result, Ok, Err}
use Rattle.h26x_codec.specs.declared.codec.Codec.{Codec}
use Rattle.h26x_codes.specs.Codes.{ok, out_of_memory}
use Rattle.h26x_endpoint.specs.EndpointStates.{endpoint_rtp}
use Rattle.h26x_endpoint.specs.declared.endpoint.Endpoint.{Endpoint}
use Rattle.h26x_handles.specs.RtpState.{RtpState, fresh_rtp_state, IsDatagramPushed, IsRtpUnitGiven}
use Rattle.h26x_handles.specs.UnitsState.{next_numbers, pushed_numbers}
use Rattle.h26x_handles.specs.declared.access_units.NextAnswer.{NextAnswer}
use Rattle.h26x_handles.specs.declared.access_units.UnitTold.{UnitTold}
use Rattle.h26x_model.specs.Where.{Where}
use Rattle.h26x_rtp.specs.declared.report.ReportBlock.{ReportBlock}
use Rattle.h26x_rtp_receiver.specs.declared.original.NoMedia.{NoMedia}
use Rattle.h26x_rtp_receiver.specs.declared.original.NoMedia.TheVariants as none
use Rattle.h26x_rtp_receiver.specs.declared.payload_types.RtpPayloadTypes.{RtpPayloadTypes}
use Rattle.h26x_rtp_receiver.specs.declared.pushed.RtpPushed.{RtpPushed}
use Rattle.h26x_rtp_receiver.specs.declared.pushed.RtpPushed.TheVariants as pushes
use Rattle.h26x_rtp_receiver.specs.declared.pushed.RtpPushError.{RtpPushError}
use Rattle.h26x_rtp_receiver.specs.declared.pushed.RtpPushError.TheVariants as errors
use Rattle.h26x_rtp_receiver.specs.declared.pushed.RtpTaken.{RtpTaken}
use Rattle.h26x_rtp_receiver.specs.declared.sources.RtpSources.{RtpSources}
use Rattle.h26x_c.specs.AccessUnits.{units_config}
use Rattle.h26x_c.specs.Rtcp.{number_where, number_or_0, report_of}
use Rattle.h26x_c.specs.Rtp.{rtp_code, red_code}
use Rattle.h26x_c.specs.declared.access_units.Config.{Config}
use Rattle.h26x_c.specs.declared.rtcp.Report.{Report}
use Rattle.h26x_c.specs.declared.rtp_receiver.DatagramTold.{DatagramTold}
use Rattle.h26x_c.specs.declared.rtp_receiver.PayloadTypes.{PayloadTypes}
use Rattle.h26x_c.specs.declared.rtp_receiver.Sources.{Sources}

-- the payload types of a stream, by what C says of them
abbrev pub payload_types : PayloadTypes → RtpPayloadTypes
payload_types it = record {
  media = it.media;
  rtx = number_where it.has_rtx it.rtx;
  red = number_where it.has_red it.red;
  rtx_of_red = number_where it.has_rtx_of_red it.rtx_of_red;
  fec = number_where it.has_fec it.fec;
}

-- its sources, by what C says of them, and what C is told of them
abbrev pub sources_in : Sources → RtpSources
sources_in it = record {
  media = number_where it.has_media it.media;
  rtx = number_where it.has_rtx it.rtx;
}

abbrev pub sources_told : RtpSources → Sources
sources_told it = record {
  media = number_or_0 it.media;
  rtx = number_or_0 it.rtx;
  has_media = is_some it.media;
  has_rtx = is_some it.rtx;
}

-- a new receiver of a codec
abbrev pub fresh_rtp_with : Codec → PayloadTypes → Config → RtpState
fresh_rtp_with codec types config = fresh_rtp_state codec config.numbers config.avc
    (payload_types types) (units_config config)

-- why a packet bears nothing of the codec, as a number, and its payload type where that is why
abbrev pub no_media_numbers : Option NoMedia → ℕ × ℕ
no_media_numbers None = (0, 0)
no_media_numbers (Some none.Padding) = (1, 0)
no_media_numbers (Some none.Fec) = (2, 0)
no_media_numbers (Some (none.OtherPayloadType payload_type)) = (3, payload_type)

-- what is told of a packet of the stream
abbrev pub taken_told : RtpTaken → DatagramTold
taken_told it = record {
  became = 0;
  ssrc = 0;
  no_media = (no_media_numbers it.no_media).0;
  pushed = (pushed_numbers it.pushed).0;
  behind = (pushed_numbers it.pushed).1;
  sequence = it.sequence;
  payload_type = (no_media_numbers it.no_media).1;
  is_recovered = it.is_recovered;
}

-- what is told of a datagram that brings no packet of the stream
abbrev pub passed_over : ℕ → ℕ → DatagramTold
passed_over became ssrc = record {
  became = became;
  ssrc = ssrc;
  no_media = 0;
  pushed = 0;
  behind = 0;
  sequence = 0;
  payload_type = 0;
  is_recovered = false;
}

-- what is told of a datagram
abbrev pub datagram_told : RtpPushed → DatagramTold
datagram_told (pushes.Packet it) = taken_told it
datagram_told pushes.Rtcp = passed_over 1 0
datagram_told pushes.Probe = passed_over 2 0
datagram_told (pushes.NewSource ssrc) = passed_over 3 ssrc
datagram_told (pushes.OtherSource ssrc) = passed_over 4 ssrc

-- why a datagram isn't taken
abbrev pub rtp_push_code : RtpPushError → ℕ
rtp_push_code (errors.Rtp e) = rtp_code e
rtp_push_code (errors.Red e) = red_code e
rtp_push_code (errors.Packet e) = out_of_memory

-- the code and what is told of what came of a datagram
abbrev pub rtp_push_answer : Result RtpPushed RtpPushError → DatagramTold → ℕ × DatagramTold
rtp_push_answer (Ok pushed) old = (ok, datagram_told pushed)
rtp_push_answer (Err e) old = (rtp_push_code e, old)

-- a datagram came to the endpoint behind a handle, if it takes them, and this is what is answered
abbrev pub IsPushedDatagram : ℕ → ℕ → List ℕ → Endpoint → Endpoint → ℕ → DatagramTold →
    DatagramTold → Type 0
IsPushedDatagram now arrival datagram old new code told new_told = Where (endpoint_rtp old) (λ it.
    (result : Result RtpPushed RtpPushError) × (next : RtpState) × (endpoint_rtp new ≡ Some next)
    × IsDatagramPushed now arrival datagram it result next
    × ((code, new_told) ≡ rtp_push_answer result told))

-- the code and what is told say what came of a call for the next access unit, and that came of it
abbrev pub IsRtpNextCode : ℕ → RtpState → RtpState → List ℕ → List ℕ → ℕ → UnitTold → UnitTold →
    Type 0
IsRtpNextCode now it new to new_to code told new_told = (answer : NextAnswer)
    × ((code, new_told) ≡ next_numbers answer told) × IsRtpUnitGiven now it new to new_to answer

-- the same of the endpoints that stood and stand behind a handle, if they take datagrams, unless memory
-- lacked
abbrev pub IsRtpNextOf : ℕ → Endpoint → Endpoint → List ℕ → List ℕ → ℕ → UnitTold → UnitTold → Type 0
IsRtpNextOf now old new to new_to code told new_told =
    (it : RtpState) → endpoint_rtp old ≡ Some it → code ≢ out_of_memory → (next : RtpState)
    × (endpoint_rtp new ≡ Some next) × IsRtpNextCode now it next to new_to code told new_told

-- whether a source is reported of, and what is reported
abbrev pub rtp_report_answer : Option ReportBlock → Report → Bool × Report
rtp_report_answer None old = (false, old)
rtp_report_answer (Some block) old = (true, report_of block)
