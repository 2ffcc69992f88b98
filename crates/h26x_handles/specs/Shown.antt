-- What a depacketizer of H.265 shows, in numbers and parts.
use Rattle.std.specs.Prelude.{ℕ, List, [], ◌∷◌, ◌++◌, map, Option, Some, None}
use Rattle.std.specs.List.{slice_get}
use Rattle.h265_packets.specs.Payload.{FirstUnit, OtherUnit}
use Rattle.h265_packets.specs.declared.payload.H265Payload.{H265Payload}
use Rattle.h265_packets.specs.declared.payload.H265Payload.TheVariants as p
use Rattle.h26x_codec.specs.AnyDepacketizer.{any_depacketizer_shown}
use Rattle.h26x_codec.specs.declared.any_depacketizer.AnyDepacketizer.{AnyDepacketizer}

-- a part of a packet: its bytes, and the number that was read before them (DONL, or the DOND of a
-- further unit)
pub record Part : Type 0 where
  pub number : Option ℕ
  pub bytes : List ℕ

-- bytes without a number
abbrev pub part_without_don : List ℕ → Part
part_without_don bytes = record { number = None; bytes = bytes }

-- the first unit of an aggregation packet
abbrev pub first_part : Option FirstUnit → List Part
first_part None = []
first_part (Some it) = (record { number = it.donl; bytes = it.nal_unit }) ∷ []

-- a further unit of it
abbrev pub other_part : OtherUnit → Part
other_part it = record { number = it.dond; bytes = it.nal_unit }

-- the parts of a packet: what stands behind the headers and DONL of a single NAL unit packet or a
-- fragment; each unit of an aggregation packet; the extension of a PACI packet, and what stands
-- behind it (RFC 7798, 4.4)
abbrev pub payload_parts : H265Payload → List Part
payload_parts (p.H265SingleNALUnitPacket it) = (record { number = it.donl; bytes = it.payload }) ∷ []
payload_parts (p.H265FragmentationUnitPacket it) =
    (record { number = it.donl; bytes = it.payload }) ∷ []
payload_parts (p.H265AggregationPacket it) = first_part it.first ++ map other_part it.others
payload_parts (p.H265PACIPacket it) = part_without_don it.phes ∷ part_without_don it.payload ∷ []

-- the number of a packet's kind
abbrev pub payload_kind_number : H265Payload → ℕ
payload_kind_number (p.H265SingleNALUnitPacket it) = 1
payload_kind_number (p.H265FragmentationUnitPacket it) = 2
payload_kind_number (p.H265AggregationPacket it) = 3
payload_kind_number (p.H265PACIPacket it) = 4

-- the header of a packet; that of an aggregation packet isn't kept
abbrev pub payload_header : H265Payload → ℕ
payload_header (p.H265SingleNALUnitPacket it) = it.header
payload_header (p.H265FragmentationUnitPacket it) = it.header
payload_header (p.H265AggregationPacket it) = 0
payload_header (p.H265PACIPacket it) = it.header

-- the word behind it: S, E and the type of a fragment's unit, or the fields of a PACI packet
abbrev pub payload_word : H265Payload → ℕ
payload_word (p.H265SingleNALUnitPacket it) = 0
payload_word (p.H265FragmentationUnitPacket it) = it.fu_header
payload_word (p.H265AggregationPacket it) = 0
payload_word (p.H265PACIPacket it) = it.fields

-- a part, counted from 0; past the last one without bytes
abbrev pub nth_part : ℕ → List Part → Part
nth_part i parts = elim (slice_get parts i) [ None ↦ part_without_don [] | Some part ↦ part ]

-- a number as it is told; 65536 where there is none
abbrev pub don_number : Option ℕ → ℕ
don_number None = 65536
don_number (Some number) = number

-- the parts of what a depacketizer shows
abbrev pub any_depacketizer_parts : AnyDepacketizer → List Part
any_depacketizer_parts depacketizer = elim (any_depacketizer_shown depacketizer)
    [ None ↦ [] | Some it ↦ payload_parts it ]
