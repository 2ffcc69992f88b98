-- What formats have alike whose headers have two bytes (RFC 7798, 1.1.4; RFC 9328, 1.1.4).
use Rattle.std.specs.Prelude.{ℕ, ◌+◌, nat_le, Bool, true, false, ◌&&◌, ◌==◌, if◌then◌else◌, List, [], ◌∷◌, length, take_while}
use Rattle.std.specs.List.{list_any}
use Rattle.h26x_core.specs.declared.error.PacketError.{PacketError}
use Rattle.h26x_core.specs.declared.error.PacketError.TheVariants.{ErrShortPacket}
use Rattle.h26x_core.specs.declared.extra.CodecExtra.{CodecExtra}
use Rattle.h26x_core.specs.Word.{is_set, flag}
use Rattle.h26x_core.specs.Kind.{Kind, Skipped}
use Rattle.h26x_core.specs.Pieces.{pieces_of}
use Rattle.h26x_model.specs.Payload.Reading.{Reading, Refused}
use Rattle.h26x_model.specs.Payload.Format.{Format}

-- what the headers of units and packets say
pub record TwoByteHeader : Type 0 where
  -- the type in a header, and the types of aggregates and of fragments
  pub type_of : ℕ → ℕ → ℕ
  pub aggregate : ℕ
  pub fragment : ℕ
  -- the unit's type in the byte behind a fragment's header
  pub unit_type : ℕ → ℕ
  -- what becomes of the bytes of a unit's header before its fragments, and the unit's header by a
  -- fragment's and the unit's type
  pub mark_high : ℕ → ℕ
  pub mark_low : ℕ → ℕ
  pub with_type : ℕ → ℕ → ℕ → List ℕ
  -- whether units of a type are key units, and what they are to a packetizer
  pub is_key_type : ℕ → Bool
  pub kind : ℕ → Kind
  -- whether packets can carry units of three bytes or more with a header
  pub carries : ℕ → ℕ → Bool

-- whether a unit is a key unit
abbrev pub is_two_byte_key : TwoByteHeader → List ℕ → Bool
is_two_byte_key h (high ∷ low ∷ unit) = h.is_key_type (h.type_of high low)
is_two_byte_key h unit = false

-- what a unit is to a packetizer
abbrev pub two_byte_kind : TwoByteHeader → List ℕ → Kind
two_byte_kind h (high ∷ low ∷ unit) = h.kind (h.type_of high low)
two_byte_kind h unit = Skipped

-- whether packets can carry a unit
abbrev pub two_byte_carries : TwoByteHeader → List ℕ → Bool
two_byte_carries h (high ∷ low ∷ b ∷ unit) = h.carries high low
two_byte_carries h unit = false

-- a fragment's header: the unit's as fragments bear it, and a byte of S, E and the unit's type
abbrev pub two_byte_fragment_header : TwoByteHeader → List ℕ → Bool → Bool → List ℕ
two_byte_fragment_header h (high ∷ low ∷ unit) start end = h.mark_high high ∷ h.mark_low low ∷
    (flag start 0x80 + flag end 0x40 + h.type_of high low) ∷ []
two_byte_fragment_header h unit start end = []

-- whether a packet of two bytes or more is a fragment
abbrev pub is_two_byte_fragment : TwoByteHeader → List ℕ → Bool
is_two_byte_fragment h (high ∷ low ∷ rest) = h.type_of high low == h.fragment
is_two_byte_fragment h packet = false

-- Whether a key unit is known to stand in a packet, or to begin in it; numbers are not accounted
-- for (str0m's rule).
abbrev pub two_byte_detects_fragment : TwoByteHeader → List ℕ → Bool
two_byte_detects_fragment h [] = false
two_byte_detects_fragment h (fu ∷ body) = is_set fu 7 && h.is_key_type (h.unit_type fu)

abbrev pub two_byte_detects : TwoByteHeader → List ℕ → Bool
two_byte_detects h (high ∷ low ∷ rest) =
    if h.type_of high low == h.aggregate then list_any (is_two_byte_key h) (take_while
    (λ unit. nat_le 2 (length unit)) (pieces_of rest).whole)
    else if h.type_of high low == h.fragment then two_byte_detects_fragment h rest
    else h.is_key_type (h.type_of high low)
two_byte_detects h packet = false

-- what sets such a format apart
pub record TwoByteFormat : Type 0 where
  pub header : TwoByteHeader
  -- the units of a payload
  pub units : List ℕ → List (List ℕ)
  -- whether parameter sets fit one packet, and the packet of those before a unit
  pub sets_fit : ℕ → List (List ℕ) → Bool
  pub sets_packet : ℕ → List (List ℕ) → List ℕ → List ℕ
  -- the error of packets with F set
  pub corrupted : PacketError
  -- how an aggregate is read behind its header; a fragment by its S, its E, its unit's header, and
  -- what stands behind these; and every other packet by its header and what stands behind it
  pub aggregate_of : List ℕ → Reading
  pub fragment_of : Bool → Bool → List ℕ → List ℕ → Reading
  pub own_of : ℕ → ℕ → List ℕ → Reading
  -- what a depacketizer tells of key units, and whether it has told of one
  pub extra : Bool → CodecExtra
  pub has_key : CodecExtra → Bool

-- how a packet is read: two bytes or fewer are too short
abbrev pub two_byte_read : TwoByteFormat → List ℕ → Reading
two_byte_read t (high ∷ low ∷ b ∷ body) =
    if is_set high 7 then Refused t.corrupted
    else if t.header.type_of high low == t.header.aggregate then t.aggregate_of (b ∷ body)
    else if t.header.type_of high low == t.header.fragment then t.fragment_of (is_set b 7)
    (is_set b 6) (t.header.with_type high low (t.header.unit_type b)) body
    else t.own_of high low (b ∷ body)
two_byte_read t packet = Refused ErrShortPacket

-- the format, with or without decoding order numbers
abbrev pub two_byte_format : Bool → TwoByteFormat → Format
two_byte_format has_donl t = record {
  units = t.units;
  kind = two_byte_kind t.header;
  is_key = is_two_byte_key t.header;
  least_mtu = 4;
  has_max_packet_size = true;
  header_len = 2;
  may_have_donl = true;
  has_donl = has_donl;
  sets_fit = t.sets_fit;
  sets_packet = t.sets_packet;
  fragment_header = two_byte_fragment_header t.header;
  read = two_byte_read t;
  carries = two_byte_carries t.header;
  extra = t.extra;
  has_key = t.has_key;
  detects = two_byte_detects t.header;
}
