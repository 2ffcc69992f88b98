-- The payload format of H.266 (RFC 9328), with and without decoding order numbers.
use Rattle.std.specs.Prelude.{ℕ, zero, suc, ◌+◌, ◌-◌, ◌*◌, ◌%◌, nat_le, nat_lt, min, max, Bool, true, false, ◌&&◌, ◌||◌, ◌==◌, if◌then◌else◌, List, [], ◌∷◌, ◌++◌, length, map, take, drop, Option, Some, None, Result, Ok, Err}
use Rattle.std.specs.List.{flat_map, sum_by, list_any}
use Rattle.h26x_core.specs.declared.extra.CodecExtra.{CodecExtra}
use Rattle.h26x_core.specs.declared.extra.CodecExtra.TheVariants as extras
use Rattle.h26x_core.specs.declared.error.PacketError.{PacketError}
use Rattle.h26x_core.specs.declared.error.PacketError.TheVariants.{ErrShortPacket, ErrH266CorruptedPacket}
use Rattle.h26x_cut.specs.declared.ZeroRule.TheVariants.{AtMostThree}
use Rattle.h26x_cut.specs.Cutting.{units_of}
use Rattle.h26x_core.specs.Word.{field, is_set}
use Rattle.h26x_core.specs.H266Unit.{type_of, kind_of_type, is_key_type}
use Rattle.h26x_model.specs.Payload.Reading.{Reading, Aggregate, Fragment, Refused, without_don, two_byte_single}
use Rattle.h26x_model.specs.Payload.Format.{Format, donl_bytes}
use Rattle.h26x_model.specs.Payload.TwoBytes.{TwoByteHeader, TwoByteFormat, two_byte_format}
use Rattle.h26x_core.specs.Pieces.{piece}

-- the low byte of a header with another type: all else kept
abbrev pub with_type : ℕ → ℕ → ℕ
with_type low type = low - type_of low * 8 + type * 8

-- sets fit an aggregate: its header and number, and each set behind its length
abbrev pub sets_fit : Bool → ℕ → List (List ℕ) → Bool
sets_fit has_donl limit sets = nat_le (2 + (if has_donl then 2 else 0) + sum_by
    (λ set. 2 + length set) sets) limit

abbrev pub has_forbidden_bit : List ℕ → Bool  -- whether F is set
has_forbidden_bit [] = false
has_forbidden_bit (high ∷ unit) = is_set high 7

abbrev pub layer_of : List ℕ → ℕ  -- the layer of a unit
layer_of [] = 0
layer_of (high ∷ unit) = field high 5 0

abbrev pub temporal_of : List ℕ → ℕ  -- the temporal id of a unit
temporal_of (high ∷ low ∷ unit) = field low 2 0
temporal_of unit = 0

abbrev pub least : (List ℕ → ℕ) → List (List ℕ) → ℕ  -- the least of a value over units
least value [] = 0
least value (set ∷ []) = value set
least value (set ∷ second ∷ sets) = min (value set) (least value (second ∷ sets))

-- an aggregate: F where a set has it, Z 0, the lowest layer, type 28, the lowest temporal id but at
-- least 1 (4.3.2)
abbrev pub sets_packet : Bool → ℕ → List (List ℕ) → List ℕ → List ℕ
sets_packet has_donl n sets unit =
    (((if list_any has_forbidden_bit sets then 0x80 else 0) + least layer_of sets) ∷
    (28 * 8 + max 1 (least temporal_of sets)) ∷ [])
    ++ donl_bytes has_donl n ++ flat_map piece sets

-- an aggregate or a fragment, which no aggregate may hold
abbrev pub has_packet_type : List ℕ → Bool
has_packet_type (high ∷ low ∷ unit) = (type_of low == 28) || (type_of low == 29)
has_packet_type unit = false

-- one unit more before the others
abbrev pub with_unit : List ℕ → Result (List (List ℕ)) PacketError →
    Result (List (List ℕ)) PacketError
with_unit unit (Ok units) = Ok (unit ∷ units)
with_unit unit (Err error) = Err error

-- units behind their lengths up to the end, or the first fault from the left
abbrev pub units_within : ℕ → List ℕ → Result (List (List ℕ)) PacketError
units_within most [] = Ok []
units_within zero bytes = Err ErrShortPacket
units_within (suc most) (high ∷ []) = Err ErrShortPacket
units_within (suc most) (high ∷ low ∷ bytes) =
    if nat_lt (high * 256 + low) 2 || nat_lt (length bytes) (high * 256 + low)
    then Err ErrShortPacket
    else if has_packet_type (take (high * 256 + low) bytes) then Err ErrH266CorruptedPacket
    else with_unit (take (high * 256 + low) bytes) (units_within most
    (drop (high * 256 + low) bytes))

-- units without numbers, or each numbered one more than the one before
abbrev pub units_with_dons : Option ℕ → List (List ℕ) → List (List ℕ × Option ℕ)
units_with_dons None units = map without_don units
units_with_dons (Some n) [] = []
units_with_dons (Some n) (unit ∷ units) = (unit, Some n) ∷
    units_with_dons (Some ((n + 1) % 65536)) units

-- an aggregate has two units or more
abbrev pub two_or_more : Option ℕ → Result (List (List ℕ)) PacketError → Reading
two_or_more don (Ok (first ∷ second ∷ units)) = Aggregate (units_with_dons don (first ∷ second ∷
    units))
two_or_more don (Ok units) = Refused ErrShortPacket
two_or_more don (Err error) = Refused error

abbrev pub aggregate_of : Bool → List ℕ → Reading  -- an aggregate behind its header (4.3.2)
aggregate_of false bytes = two_or_more None (units_within (length bytes) bytes)
aggregate_of true (d ∷ e ∷ bytes) = two_or_more (Some (d * 256 + e))
    (units_within (length bytes) bytes)
aggregate_of true bytes = Refused ErrShortPacket

-- a fragment by its marks, its unit's header and what stands behind these (4.3.3)
abbrev pub fragment_of : Bool → Bool → Bool → List ℕ → List ℕ → Reading
fragment_of true true end head (d ∷ e ∷ body) = Fragment true end head (Some (d * 256 + e)) body
fragment_of true true end head body = Refused ErrShortPacket
fragment_of has_donl start end head body = Fragment start end head None body

abbrev pub has_key : CodecExtra → Bool  -- the H.266 variant with its flag true
has_key (extras.H266 extra) = extra.is_keyframe
has_key extra = false

-- what the headers of units and packets say: a fragment's has the unit's bytes with type 29 and,
-- behind them, P clear (4.3.3), and packets carry units with F clear and a type of their own
abbrev pub h266_header : TwoByteHeader
h266_header = record {
  type_of = λ high low. type_of low;
  aggregate = 28;
  fragment = 29;
  unit_type = λ fu. field fu 4 0;
  mark_high = λ high. high;
  mark_low = λ low. with_type low 29;
  with_type = λ high low type. high ∷ with_type low type ∷ [];
  is_key_type = is_key_type;
  kind = kind_of_type;
  carries = λ high low. nat_lt high 0x80 && (nat_lt (type_of low) 28 || nat_lt 29 (type_of low));
}

-- what sets H.266 apart, with or without numbers
abbrev pub h266_rules : Bool → TwoByteFormat
h266_rules has_donl = record {
  header = h266_header;
  units = units_of AtMostThree;
  sets_fit = sets_fit has_donl;
  sets_packet = sets_packet has_donl;
  corrupted = ErrH266CorruptedPacket;
  aggregate_of = aggregate_of has_donl;
  fragment_of = fragment_of has_donl;
  own_of = two_byte_single has_donl;
  extra = λ key. extras.H266 (record { is_keyframe = key });
  has_key = has_key;
}

abbrev pub h266 : Bool → Format  -- the format, with or without numbers
h266 has_donl = two_byte_format has_donl (h266_rules has_donl)

-- the same as the relation `IsReading` of the file beside this one, computed
abbrev pub read : Bool → List ℕ → Reading
read has_donl = (h266 has_donl).read
