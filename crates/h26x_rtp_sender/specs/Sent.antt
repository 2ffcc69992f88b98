-- The RTP packets of an access unit (RFC 3550, 5.1; RFC 6184, 5.1; RFC 7798, 4.1; RFC 9328, 4.1).
use Rattle.std.specs.Prelude.{ℕ, Bool, false, nat_eq, List, [], ◌∷◌, length, map, Option, Some, None}
use Rattle.std.specs.Option.{option_map}
use Rattle.h26x_core.specs.Sequence.{next_sequence_number}
use Rattle.h26x_rtp.specs.Datagram.{ExtensionParts, HeaderParts, DatagramParts, datagram_header}
use Rattle.h26x_rtp.specs.Views.{extension_view}
use Rattle.h26x_rtp_sender.specs.declared.sent.SentPacket.{SentPacket}
use Rattle.h26x_rtp_sender.specs.declared.unit.UnitHeader.{UnitHeader}

-- what the headers of an access unit's packets have in common
pub record UnitParts : Type 0 where
  pub payload_type : ℕ
  pub timestamp : ℕ
  pub ssrc : ℕ
  pub extension : Option ExtensionParts

-- the header of a packet of this number
abbrev pub packet_header : UnitParts → ℕ → Bool → HeaderParts
packet_header unit sequence marker = record {
  marker = marker;
  payload_type = unit.payload_type;
  sequence = sequence;
  timestamp = unit.timestamp;
  ssrc = unit.ssrc;
  csrcs = [];
  extension = unit.extension;
}

-- the packet
abbrev pub packet_of : UnitParts → ℕ → Bool → List ℕ → DatagramParts
packet_of unit sequence marker payload = record {
  header = packet_header unit sequence marker;
  payload = payload;
  padding = [];
}

-- the packets of these payloads: their numbers follow each other, and the last has the marker
abbrev pub numbered_packets : UnitParts → ℕ → List (List ℕ) → List DatagramParts
numbered_packets unit sequence [] = []
numbered_packets unit sequence (payload ∷ payloads) =
    packet_of unit sequence (nat_eq (length payloads) 0) payload
    ∷ numbered_packets unit (next_sequence_number sequence) payloads

-- their headers
abbrev pub packet_headers : UnitParts → ℕ → List (List ℕ) → List (List ℕ)
packet_headers unit sequence payloads =
    map (λ it. datagram_header it.header false) (numbered_packets unit sequence payloads)

-- what the code says of an access unit, and of a packet that is held
abbrev pub unit_view : UnitHeader → UnitParts
unit_view it = record {
  payload_type = it.payload_type;
  timestamp = it.timestamp;
  ssrc = it.ssrc;
  extension = option_map extension_view it.extension;
}

abbrev pub held_extension : Option ℕ → List ℕ → Option ExtensionParts
held_extension None bytes = None
held_extension (Some profile) bytes = Some (record { profile = profile; bytes = bytes })

abbrev pub sent_view : SentPacket → DatagramParts
sent_view it = record {
  header = record {
    marker = it.marker;
    payload_type = it.payload_type;
    sequence = it.sequence;
    timestamp = it.timestamp;
    ssrc = it.ssrc;
    csrcs = [];
    extension = held_extension it.profile it.extension.items;
  };
  payload = it.payload.items;
  padding = [];
}
