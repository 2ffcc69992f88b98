-- Payloads sent, written, and sent again.
use Rattle.std.specs.Prelude.{◌≡◌, ◌⊎◌, ℕ, Bool, List, [], ◌∷◌, ◌++◌, map, Result, IfOk}
use Rattle.std.specs.List.{AllByRecursion}
use Rattle.h26x_core.specs.declared.error.PacketError.{PacketError}
use Rattle.h26x_core.specs.declared.error.PacketError.TheVariants.{OutOfMemory}
use Rattle.h26x_core.specs.ByteStream.{byte_stream}
use Rattle.h26x_model.specs.Payload.Reading.{IsRead, Refused}
use Rattle.h26x_model.specs.Payload.Format.{Format}
use Rattle.h26x_model.specs.Send.Calls.{Call, default_max_packet_size, all_entries, all_packets, sent_by}
use Rattle.h26x_model.specs.Payload.Facts.{AreCarried}
use Rattle.h26x_model.specs.Send.Again.{NothingDropped, IsSentAlike}
use Rattle.h26x_model.specs.Send.PacketizerState.{PacketizerState, next_call}
use Rattle.h26x_model.specs.Receive.DepacketizerState.{DepacketizerState}
use Rattle.h26x_model.specs.Receive.Received.{received}
use Rattle.h26x_model.specs.Carry.Laws.{calls_like}
use Rattle.h26x_cut.specs.declared.ZeroRule.{ZeroRule}
use Rattle.h26x_cut.specs.Cutting.{AreSeparable}
use Rattle.h26x_codec.specs.declared.codec.Codec.{Codec}
use Rattle.h26x_codec.specs.declared.codec.Codec.TheVariants as c
use Rattle.h26x_transmission.specs.declared.repeated.Repeated.{Repeated}
use Rattle.h26x_codec.specs.Codec.{codec_format, fresh_packetizer_state}

-- the largest packet size of a packetizer that is set to one; that of H.264 has none
abbrev pub starting_max_packet_size : Codec → ℕ → ℕ
starting_max_packet_size c.H264 n = default_max_packet_size
starting_max_packet_size c.H265 n = n
starting_max_packet_size c.H266 n = n

-- a packetizer of a codec before its first call, with this largest packet size
abbrev pub starting_packetizer : Codec → Bool → ℕ → PacketizerState
starting_packetizer codec has_donl n = record (fresh_packetizer_state (codec_format codec has_donl)) {
  max_packet_size = starting_max_packet_size codec n;
}

-- a call of it at a limit
abbrev pub repeated_call : Codec → ℕ → ℕ → List ℕ → Call
repeated_call codec n limit payload = record {
  mtu = limit;
  max_packet_size = starting_max_packet_size codec n;
  payload = payload;
}

-- the calls of payloads
abbrev pub repeated_calls : Codec → ℕ → ℕ → List (List ℕ) → List Call
repeated_calls codec n limit payloads = calls_like (repeated_call codec n limit []) payloads

-- calls at one limit, of these payloads
abbrev pub calls_at : PacketizerState → ℕ → List (List ℕ) → List Call
calls_at s limit payloads = calls_like (next_call s limit []) payloads

-- their packets, of a fresh packetizer
abbrev pub packets_at : PacketizerState → ℕ → List (List ℕ) → List (List ℕ)
packets_at s limit payloads = all_packets s.format 0 (calls_at s limit payloads)

-- the packets of payloads, one call each, of a packetizer of a codec before its first call
abbrev pub repeated_packets : Codec → Bool → ℕ → ℕ → List (List ℕ) → List (List ℕ)
repeated_packets codec has_donl n limit payloads =
    packets_at (starting_packetizer codec has_donl n) limit payloads

-- what a depacketizer without an open run writes for packets
abbrev pub received_text : DepacketizerState → List (List ℕ) → List ℕ
received_text r packets = byte_stream r.is_avc (received (map r.format.read packets))

-- whatever units were sent at one limit are sent so again
abbrev pub SendsAgainAlike : Format → Type 0
SendsAgainAlike f = (limit : ℕ) (units sent : List (List ℕ)) → IsSentAlike f limit units sent

-- where packets can carry what calls send, it is written
abbrev pub IsTextOf : Format → Bool → List Call → Result Repeated PacketError → Type 0
IsTextOf f is_avc calls result = AreCarried f (sent_by f calls) →
    IfOk result (λ it. it.written.items ≡ byte_stream is_avc (sent_by f calls))

-- What calls send may be sent again from its text: packets can carry each unit sent, nothing is
-- dropped for its size, and the units are told apart in their text.
pub record MayBeRepeated (f : Format) (rule : ZeroRule) (calls : List Call) : Type 0 where
  pub carried : AreCarried f (sent_by f calls)
  pub kept : NothingDropped f (all_entries f calls)
  pub apart : AreSeparable rule (sent_by f calls)

-- the first of the packets that is refused, and its error
pub record IsFirstRefused (f : Format) (packets : List (List ℕ)) (error : PacketError) : Type 0
  where
    pub before : List (List ℕ)
    pub packet : List ℕ
    pub later : List (List ℕ)
    pub whole : packets ≡ before ++ packet ∷ later
    pub read : AllByRecursion (λ packet. IsRead (f.read packet)) before
    pub refused : f.read packet ≡ Refused error

-- why packets weren't written: memory lacks, or the first of them that is refused
abbrev pub IsRefusal : Format → List (List ℕ) → PacketError → Type 0
IsRefusal f packets error = (error ≡ OutOfMemory) ⊎ IsFirstRefused f packets error
