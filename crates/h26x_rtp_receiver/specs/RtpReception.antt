-- What a receiver of datagrams is, and what becomes of one (RFC 3550, RFC 5761, RFC 4588, RFC 2198;
-- ours).
use Rattle.std.specs.Prelude.{◌≡◌, ℕ, Bool, true, false, not, ◌||◌, if◌then◌else◌, List, [], length, take, Option, Some, None, is_some, Result, Ok, Err, ◌⊎◌}
use Rattle.std.specs.Option.{option_map}
use Rattle.h26x_core.specs.declared.error.PacketError.TheVariants.{OutOfMemory}
use Rattle.h26x_model.specs.Receive.DepacketizerState.{DepacketizerState}
use Rattle.h26x_access_units.specs.declared.config.AccessUnitConfig.{AccessUnitConfig}
use Rattle.h26x_access_units.specs.declared.nacks.Nack.{Nack}
use Rattle.h26x_access_units.specs.declared.nacks.NackTimes.{NackTimes}
use Rattle.h26x_access_units.specs.declared.pushed.Pushed.{Pushed}
use Rattle.h26x_access_units.specs.Nacks.{nacks_now, numbers_due, nacks_asked}
use Rattle.h26x_access_units.specs.Pushed.{is_kept}
use Rattle.h26x_access_units.specs.ReceivedAccessUnit.{ReceivedAccessUnitValue}
use Rattle.h26x_access_units.specs.Reception.{Reception, fresh_reception, restarted, reception_answer, IsPushed, IsNext, IsDrainedInPart, ended_reception, with_settings, nack_numbers}
use Rattle.h26x_rtp.specs.Datagram.{HeaderParts, DatagramParts}
use Rattle.h26x_rtp.specs.Reading.{datagram_of}
use Rattle.h26x_rtp.specs.Rtcp.{is_rtcp_packet}
use Rattle.h26x_rtp.specs.Statistics.{no_statistics, after_arrival, after_report, report_block, tally}
use Rattle.h26x_rtp.specs.declared.error.RtpError.{RtpError}
use Rattle.h26x_rtp.specs.declared.red.RedError.{RedError}
use Rattle.h26x_rtp.specs.declared.report.ReportBlock.{ReportBlock}
use Rattle.h26x_rtp.specs.declared.statistics.RtpStatistics.{RtpStatistics}
use Rattle.h26x_rtp_receiver.specs.declared.keyframes.KeyframeRequests.{KeyframeRequests}
use Rattle.h26x_rtp_receiver.specs.declared.original.RtpOriginal.{RtpOriginal}
use Rattle.h26x_rtp_receiver.specs.declared.payload_types.RtpPayloadTypes.{RtpPayloadTypes}
use Rattle.h26x_rtp_receiver.specs.declared.pushed.RtpPushed.{RtpPushed}
use Rattle.h26x_rtp_receiver.specs.declared.pushed.RtpPushed.TheVariants.{Packet, Rtcp, NewSource, OtherSource, Probe}
use Rattle.h26x_rtp_receiver.specs.declared.pushed.RtpPushError.{RtpPushError}
use Rattle.h26x_rtp_receiver.specs.declared.pushed.RtpPushError.TheVariants as errors
use Rattle.h26x_rtp_receiver.specs.declared.sources.RtpSources.{RtpSources}
use Rattle.h26x_rtp_receiver.specs.Keyframes.{no_requests, requests_after, requests_asked}
use Rattle.h26x_rtp_receiver.specs.Original.{original_of, begins_stream}
use Rattle.h26x_rtp_receiver.specs.Sources.{no_sources, told, is_followed, sources_with}

-- what a receiver of datagrams is to contracts: the payload types and the sources of its stream, its
-- receiver of access units, what is counted of the stream's packets, what is known of numbers that are
-- asked for, and of keyframes
pub record RtpReception : Type 0 where
  pub types : RtpPayloadTypes
  pub sources : RtpSources
  pub reception : Reception
  pub statistics : RtpStatistics
  pub nacks : List Nack
  pub keyframes : KeyframeRequests

-- these
abbrev pub rtp_reception : RtpPayloadTypes → RtpSources → Reception → RtpStatistics → List Nack →
    KeyframeRequests → RtpReception
rtp_reception types sources reception statistics nacks keyframes = record {
  types = types;
  sources = sources;
  reception = reception;
  statistics = statistics;
  nacks = nacks;
  keyframes = keyframes;
}

-- before any datagram
abbrev pub fresh_rtp : RtpPayloadTypes → AccessUnitConfig → DepacketizerState → RtpReception
fresh_rtp types config state =
    rtp_reception types no_sources (fresh_reception config state) no_statistics [] no_requests

-- before any datagram of these sources
abbrev pub followed_rtp : RtpSources → RtpReception → RtpReception
followed_rtp sources s =
    rtp_reception s.types sources (restarted s.reception) no_statistics [] no_requests

-- what a datagram brings: it is told so, and changes nothing; or a packet of the stream, which brings
-- this
pub data Brought : Type 0 where
  Told : (pushed : RtpPushed) → Brought
  Brings : (it : DatagramParts) (original : RtpOriginal) → Brought

-- what is told of a packet of another source (RFC 3550, 8)
abbrev pub other_source : RtpPayloadTypes → HeaderParts → RtpPushed
other_source types header = if begins_stream types header.payload_type then NewSource header.ssrc
    else OtherSource header.ssrc

-- what a packet of the stream brings, by its original
abbrev pub brought_by : DatagramParts → Result (Option RtpOriginal) RedError →
    Result Brought RtpPushError
brought_by it (Ok (Some original)) = Ok (Brings it original)
brought_by it (Ok None) = Ok (Told Probe)
brought_by it (Err e) = Err (errors.Red e)

-- so with these payload types (RFC 4588, RFC 2198)
abbrev pub brought_original : RtpPayloadTypes → DatagramParts → Result Brought RtpPushError
brought_original types it = brought_by it (original_of types it)

-- whether a packet is of the stream
abbrev pub is_packet_followed : RtpReception → DatagramParts → Bool
is_packet_followed s it = is_followed s.types s.sources (nack_numbers s.reception) it

-- what a packet brings
abbrev pub brought_packet : RtpReception → DatagramParts → Result Brought RtpPushError
brought_packet s it =
    if is_packet_followed s it then brought_original s.types it
    else Ok (Told (other_source s.types it.header))

-- what bytes bring that are read so
abbrev pub brought_read : RtpReception → Result DatagramParts RtpError → Result Brought RtpPushError
brought_read s (Ok it) = brought_packet s it
brought_read s (Err e) = Err (errors.Rtp e)

-- what a datagram brings: RTCP, or an RTP packet (RFC 5761, 4; RFC 3550, 5.1)
abbrev pub brought : RtpReception → List ℕ → Result Brought RtpPushError
brought s datagram = if is_rtcp_packet datagram then Ok (Told Rtcp)
    else brought_read s (datagram_of datagram)

-- What is counted with a packet of the stream: as received where it has the stream's SSRC, and as
-- recovered where it came as a retransmission and is kept (RFC 3550, 6.4.1; RFC 4588, 4).
abbrev pub statistics_after : ℕ → DatagramParts → Bool → Pushed → RtpStatistics → RtpStatistics
statistics_after arrival it is_recovered answer s =
    if is_recovered
    then (if is_kept answer then record s { recovered = tally s.recovered 1 } else s)
    else after_arrival arrival it.header.sequence it.header.timestamp (length it.payload) s

-- what is told of a packet of the stream
abbrev pub told_packet : RtpOriginal → Pushed → RtpPushed
told_packet original answer = Packet (record {
  sequence = original.packet.0;
  is_recovered = original.is_recovered;
  no_media = original.no_media;
  pushed = answer;
})

-- A packet of the stream came, at this tick, which brings this and is answered so: its receiver of
-- access units was given just that.
pub record IsTaken (now arrival : ℕ) (s : RtpReception) (it : DatagramParts) (original : RtpOriginal)
    (answer : Pushed) (new : RtpReception) : Type 0 where
  pub given : IsPushed now s.reception original.packet answer new.reception
  pub stands : new ≡ record s {
    sources = sources_with it.header.ssrc s.sources;
    reception = new.reception;
    statistics = statistics_after arrival it original.is_recovered answer s.statistics;
  }

-- what comes of what a datagram brings, but for want of memory
abbrev pub BecomesOf : ℕ → ℕ → RtpReception → Result Brought RtpPushError →
    Result RtpPushed RtpPushError → RtpReception → Type 0
BecomesOf now arrival s (Err e) result new = (result ≡ Err e) × (new ≡ s)
BecomesOf now arrival s (Ok (Told pushed)) result new = (result ≡ Ok pushed) × (new ≡ s)
BecomesOf now arrival s (Ok (Brings it original)) result new =
    (result ≡ Ok (told_packet original (reception_answer s.reception original.packet)))
    × IsTaken now arrival s it original (reception_answer s.reception original.packet) new

-- whether a packet of the stream is brought that wants memory, since it is kept
abbrev pub brings_kept : RtpReception → Result Brought RtpPushError → Bool
brings_kept s (Ok (Brings it original)) = is_kept (reception_answer s.reception original.packet)
brings_kept s answer = false

-- where memory lacks all is as it was, and it was wanted
pub record LacksWantedMemory (wants : Bool) (s : RtpReception) (result : Result RtpPushed RtpPushError)
    (new : RtpReception) : Type 0 where
  pub lacks : result ≡ Err (errors.Packet OutOfMemory)
  pub wanted : wants ≡ true
  pub stands : new ≡ s

-- so of a packet of the stream, by what it brings
abbrev pub IsOriginalPush : ℕ → ℕ → RtpReception → DatagramParts → RtpOriginal →
    Result RtpPushed RtpPushError → RtpReception → Type 0
IsOriginalPush now arrival s it original result new =
    LacksWantedMemory (brings_kept s (Ok (Brings it original))) s result new
    ⊎ BecomesOf now arrival s (Ok (Brings it original)) result new

abbrev pub IsBroughtPush : ℕ → ℕ → RtpReception → Result Brought RtpPushError →
    Result RtpPushed RtpPushError → RtpReception → Type 0
IsBroughtPush now arrival s brought result new = LacksWantedMemory (brings_kept s brought) s result new
    ⊎ BecomesOf now arrival s brought result new

-- whether a packet wants memory: of a retransmission whose SSRC doesn't tell it is looked at what is
-- missing
abbrev pub wants_memory : RtpReception → DatagramParts → Bool
wants_memory s it =
    not (is_some (told s.types s.sources it)) || brings_kept s (brought_packet s it)

-- so of any packet
abbrev pub IsPacketPush : ℕ → ℕ → RtpReception → DatagramParts → Result RtpPushed RtpPushError →
    RtpReception → Type 0
IsPacketPush now arrival s it result new = LacksWantedMemory (wants_memory s it) s result new
    ⊎ BecomesOf now arrival s (brought_packet s it) result new

-- whether bytes want memory that are read so
abbrev pub reading_wants : RtpReception → Result DatagramParts RtpError → Bool
reading_wants s (Ok it) = wants_memory s it
reading_wants s (Err e) = false

-- whether a datagram does
abbrev pub datagram_wants : RtpReception → List ℕ → Bool
datagram_wants s datagram =
    if is_rtcp_packet datagram then false else reading_wants s (datagram_of datagram)

-- What comes of a datagram at this tick: memory lacks, or what it brings is told or taken.
abbrev pub IsRtpPush : ℕ → ℕ → RtpReception → List ℕ → Result RtpPushed RtpPushError → RtpReception →
    Type 0
IsRtpPush now arrival s datagram result new =
    LacksWantedMemory (datagram_wants s datagram) s result new
    ⊎ BecomesOf now arrival s (brought s datagram) result new

-- once an access unit was given out, if one was
abbrev pub requests_given : Option ReceivedAccessUnitValue → KeyframeRequests → KeyframeRequests
requests_given None k = k
requests_given (Some unit) k = requests_after unit.is_clean unit.is_disposable k

-- the next access unit is that of the receiver of access units
pub record IsRtpNext (now : ℕ) (s : RtpReception) (unit : Option ReceivedAccessUnitValue)
    (new : RtpReception) : Type 0 where
  pub given : IsNext now s.reception new.reception unit
  pub stands : new ≡ record s {
    reception = new.reception;
    keyframes = requests_given unit s.keyframes;
  }

-- so where memory lacked
pub record IsRtpNextInPart (now : ℕ) (s new : RtpReception) : Type 0 where
  pub given : IsDrainedInPart now s.reception new.reception
  pub stands : new ≡ record s { reception = new.reception }

-- what is known of the numbers that are missing (RFC 4585, 6.2.1)
abbrev pub nacks_known : ℕ → RtpReception → List Nack
nacks_known now s = nacks_now now s.nacks (nack_numbers s.reception)

-- those to ask for
abbrev pub nacks_due : NackTimes → ℕ → ℕ → RtpReception → List ℕ
nacks_due times now most s = take most (numbers_due times now (nacks_known now s))

-- once they were
abbrev pub after_nacks : NackTimes → ℕ → ℕ → RtpReception → RtpReception
after_nacks times now most s = record s { nacks = nacks_asked times now most (nacks_known now s) }

-- once a keyframe was asked for where it is to be
abbrev pub after_keyframe : ℕ → ℕ → RtpReception → RtpReception
after_keyframe again now s = record s { keyframes = requests_asked again now s.keyframes }

-- at the end of the stream
abbrev pub finished_rtp : RtpReception → RtpReception
finished_rtp s = record s { reception = ended_reception s.reception }

-- with other settings
abbrev pub rtp_with_settings : AccessUnitConfig → RtpReception → RtpReception
rtp_with_settings config s = record s { reception = with_settings config s.reception }

-- what is reported of the SSRC that is followed, if it is known (RFC 3550, 6.4.1)
abbrev pub report_of : ℕ → ℕ → RtpReception → Option ReportBlock
report_of last_sender_report delay s =
    option_map (λ ssrc. report_block ssrc last_sender_report delay s.statistics) s.sources.media

-- once it was
abbrev pub after_report_of : RtpReception → RtpReception
after_report_of s = record s {
  statistics = if is_some s.sources.media then after_report s.statistics else s.statistics;
}
