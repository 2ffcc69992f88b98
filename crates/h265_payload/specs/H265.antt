-- The payload format of H.265 (RFC 7798), with and without decoding order numbers.
use Rattle.std.specs.Prelude.{ℕ, zero, suc, ◌+◌, ◌*◌, ◌%◌, nat_le, nat_lt, Bool, true, false, ◌&&◌, ◌||◌, ◌==◌, if◌then◌else◌, List, [], ◌∷◌, ◌++◌, length, map, take, drop, Option, Some, None}
use Rattle.std.specs.List.{flat_map, sum_by}
use Rattle.h26x_core.specs.declared.extra.CodecExtra.{CodecExtra}
use Rattle.h26x_core.specs.declared.extra.CodecExtra.TheVariants as extras
use Rattle.h26x_core.specs.declared.error.PacketError.TheVariants.{ErrShortPacket, ErrH265CorruptedPacket}
use Rattle.h26x_cut.specs.declared.ZeroRule.TheVariants.{All}
use Rattle.h26x_cut.specs.Cutting.{units_of}
use Rattle.h26x_core.specs.Word.{field}
use Rattle.h26x_core.specs.H265Unit.{type_of, kind_of_type, is_key_type}
use Rattle.h26x_model.specs.Payload.Reading.{Reading, Aggregate, Fragment, Paci, Refused, without_don, two_byte_single}
use Rattle.h26x_model.specs.Payload.Format.{Format, donl_bytes}
use Rattle.h26x_model.specs.Payload.TwoBytes.{TwoByteHeader, TwoByteFormat, two_byte_format}
use Rattle.h26x_core.specs.Pieces.{pieces_of, piece}
use Rattle.h265_packets.specs.Header.{with_type}

-- the high byte of a header with another type, F and the layer's highest bit kept
abbrev pub with_type_and_f : ℕ → ℕ → ℕ
with_type_and_f high type = field high 7 7 * 128 + with_type high type

abbrev pub if_donl : Bool → ℕ → ℕ  -- a length, where packets bear numbers
if_donl has_donl n = if has_donl then n else 0

-- sets fit an aggregate: its header and number, and each set behind its length, from the second on
-- behind a difference too
abbrev pub sets_fit : Bool → ℕ → List (List ℕ) → Bool
sets_fit has_donl limit sets = nat_le (2 + if_donl has_donl (length sets + 1) + sum_by
    (λ set. 2 + length set) sets) limit

-- a set behind the difference of its number, less 1, from that of the set before (DOND, 4.4.2)
abbrev pub further_set : Bool → List ℕ → List ℕ
further_set has_donl set = (if has_donl then 0 ∷ [] else []) ++ piece set

-- an aggregate: the header of the unit behind the sets with type 48, the first set's number, the
-- sets (4.4.2)
abbrev pub sets_packet : Bool → ℕ → List (List ℕ) → List ℕ → List ℕ
sets_packet has_donl n (set ∷ sets) (high ∷ low ∷ unit) =
    (with_type_and_f high 48 ∷ low ∷ []) ++ donl_bytes has_donl n ++ piece set
    ++ flat_map (further_set has_donl) sets
sets_packet has_donl n sets unit = []

-- the units of an aggregate behind the first, each behind the difference of its number and its
-- length
abbrev pub further_units : ℕ → ℕ → List ℕ → List (List ℕ × Option ℕ)
further_units zero n bytes = []
further_units (suc most) n (difference ∷ high ∷ low ∷ bytes) =
    if nat_le (high * 256 + low) (length bytes)
    then (take (high * 256 + low) bytes, Some ((n + difference + 1) % 65536)) ∷
    further_units most ((n + difference + 1) % 65536) (drop (high * 256 + low) bytes)
    else []
further_units (suc most) n bytes = []

-- the units of a numbered aggregate behind DONL
abbrev pub units_behind_donl : ℕ → List ℕ → List (List ℕ × Option ℕ)
units_behind_donl n (high ∷ low ∷ bytes) =
    if nat_le (high * 256 + low) (length bytes)
    then (take (high * 256 + low) bytes, Some n) ∷ further_units (length bytes) n
    (drop (high * 256 + low) bytes)
    else []
units_behind_donl n bytes = []

abbrev pub two_or_more : List (List ℕ × Option ℕ) → Reading  -- an aggregate has two units or more
two_or_more (first ∷ second ∷ units) = Aggregate (first ∷ second ∷ units)
two_or_more units = Refused ErrShortPacket

abbrev pub aggregate_of : Bool → List ℕ → Reading  -- an aggregate behind its header (4.4.2)
aggregate_of false bytes = two_or_more (map without_don (pieces_of bytes).whole)
aggregate_of true (high ∷ low ∷ bytes) = two_or_more (units_behind_donl (high * 256 + low) bytes)
aggregate_of true bytes = Refused ErrShortPacket

-- a fragment by its marks, its unit's header and what stands behind these (4.4.3)
abbrev pub fragment_of : Bool → Bool → Bool → List ℕ → List ℕ → Reading
fragment_of true true end head (d ∷ e ∷ b ∷ body) = Fragment true end head (Some (d * 256 + e))
    (b ∷ body)
fragment_of true true end head body = Refused ErrShortPacket
fragment_of has_donl start end head (b ∷ body) = Fragment start end head None (b ∷ body)
fragment_of has_donl start end head body = Refused ErrShortPacket

-- the header that a PACI packet stands for: A as F, cType, and the packet's layer and temporal id
-- (4.4.4; ours)
abbrev pub paci_head : ℕ → ℕ → ℕ → List ℕ
paci_head high low fields = (field fields 15 15 * 128 + with_type high (field fields 14 9)) ∷ low ∷
    []

abbrev pub paci_behind : ℕ → ℕ → ℕ → List ℕ → List ℕ → Reading  -- a PACI whose extension ends here
paci_behind high low fields extension [] = Refused ErrShortPacket
paci_behind high low fields extension (b ∷ body) = Paci (paci_head high low fields) fields extension
    (b ∷ body)

abbrev pub paci_of : ℕ → ℕ → List ℕ → Reading  -- a PACI behind its header (4.4.4)
paci_of high low (a ∷ b ∷ bytes) = paci_behind high low (a * 256 + b)
    (take (field (a * 256 + b) 8 4) bytes) (drop (field (a * 256 + b) 8 4) bytes)
paci_of high low bytes = Refused ErrShortPacket

-- a packet of another type: a PACI, or a unit
abbrev pub own_of : Bool → ℕ → ℕ → List ℕ → Reading
own_of has_donl high low bytes =
    if type_of high == 50 then paci_of high low bytes else two_byte_single has_donl high low bytes

abbrev pub has_key : CodecExtra → Bool  -- the H.265 variant with its flag true
has_key (extras.H265 extra) = extra.is_keyframe
has_key extra = false

-- what the headers of units and packets say: a fragment's has the unit's bytes with type 49 (4.4.3),
-- and packets carry units with F clear and a type of their own
abbrev pub h265_header : TwoByteHeader
h265_header = record {
  type_of = λ high low. type_of high;
  aggregate = 48;
  fragment = 49;
  unit_type = λ fu. field fu 5 0;
  mark_high = λ high. with_type_and_f high 49;
  mark_low = λ low. low;
  with_type = λ high low type. with_type high type ∷ low ∷ [];
  is_key_type = is_key_type;
  kind = kind_of_type;
  carries = λ high low. nat_lt high 0x80 && (nat_lt (type_of high) 48 || nat_lt 50 (type_of high));
}

-- what sets H.265 apart, with or without numbers
abbrev pub h265_rules : Bool → TwoByteFormat
h265_rules has_donl = record {
  header = h265_header;
  units = units_of All;
  sets_fit = sets_fit has_donl;
  sets_packet = sets_packet has_donl;
  corrupted = ErrH265CorruptedPacket;
  aggregate_of = aggregate_of has_donl;
  fragment_of = fragment_of has_donl;
  own_of = own_of has_donl;
  extra = λ key. extras.H265 (record { is_keyframe = key });
  has_key = has_key;
}

abbrev pub h265 : Bool → Format  -- the format, with or without numbers
h265 has_donl = two_byte_format has_donl (h265_rules has_donl)

-- the same as the relation `IsReading` of the file beside this one, computed
abbrev pub read : Bool → List ℕ → Reading
read has_donl = (h265 has_donl).read
