-- The payload format of H.264 (RFC 6184).
use Rattle.std.specs.Prelude.{ℕ, ◌+◌, ◌*◌, nat_le, nat_lt, Bool, false, ◌&&◌, ◌==◌, if◌then◌else◌, List, [], ◌∷◌, length, map, filter, Option, None}
use Rattle.std.specs.List.{flat_map, list_all, list_any, sum_by}
use Rattle.h26x_core.specs.declared.extra.CodecExtra.{CodecExtra}
use Rattle.h26x_core.specs.declared.extra.CodecExtra.TheVariants as extras
use Rattle.h26x_core.specs.declared.error.PacketError.TheVariants.{ErrShortPacket, NaluTypeIsNotHandled, StapASizeLargerThanBuffer}
use Rattle.h26x_cut.specs.declared.ZeroRule.TheVariants.{All}
use Rattle.h26x_cut.specs.Cutting.{units_of}
use Rattle.h26x_core.specs.Word.{field, is_set, flag}
use Rattle.h26x_core.specs.H264Unit.{type_of, type_of_first, kind, is_key}
use Rattle.h26x_core.specs.ByteStream.{is_not_empty}
use Rattle.h26x_model.specs.Payload.Reading.{Reading, Single, Aggregate, Fragment, Refused, without_don}
use Rattle.h26x_model.specs.Payload.Format.{Format}
use Rattle.h26x_core.specs.Pieces.{Pieces, pieces_of, piece}

-- the two NRI bits of a header, in place
abbrev pub reference_bits : ℕ → ℕ
reference_bits byte = field byte 6 5 * 32

-- sets fit a STAP-A: its header, and each set behind a length of two bytes that holds it
abbrev pub sets_fit : ℕ → List (List ℕ) → Bool
sets_fit limit sets = nat_le (1 + sum_by (λ set. 2 + length set) sets) limit
    && list_all (λ set. nat_lt (length set) 65536) sets

-- a STAP-A: F clear, the highest NRI, type 24 (5.7.1)
abbrev pub sets_packet : ℕ → List (List ℕ) → List ℕ → List ℕ
sets_packet don sets unit = 0x78 ∷ flat_map piece sets

-- an FU-A's indicator, with the unit's NRI, and its header: S, E and the unit's type (5.8)
abbrev pub fragment_header : List ℕ → Bool → Bool → List ℕ
fragment_header [] start end = []
fragment_header (first ∷ unit) start end = (28 + reference_bits first) ∷
    (flag start 0x80 + flag end 0x40 + type_of first) ∷ []

-- units, unless a length that is left over passes the bytes behind it
abbrev pub stap_of : List (List ℕ × Option ℕ) → List ℕ → Reading
stap_of units (high ∷ low ∷ left) = Refused (StapASizeLargerThanBuffer (high * 256 + low)
    (length left))
stap_of units left = Aggregate units

-- the units in a STAP-A behind its header, up to a length that passes the end (5.7.1); a length of
-- 0 holds none (ours)
abbrev pub stap_units : List ℕ → List (List ℕ)
stap_units bytes = filter is_not_empty (pieces_of bytes).whole

-- a STAP-A of these pieces
abbrev pub aggregate_of : Pieces → Reading
aggregate_of p = stap_of (map without_don (filter is_not_empty p.whole)) p.left

-- an FU-A, behind its first byte (5.8)
abbrev pub fragment_of : ℕ → List ℕ → Reading
fragment_of first [] = Refused ErrShortPacket
fragment_of first (second ∷ body) =
    Fragment (is_set second 7) (is_set second 6) ((reference_bits first + type_of second) ∷
    []) None body

-- the same as the relation `IsReading` of the file beside this one, computed
abbrev pub read : List ℕ → Reading
read [] = Refused ErrShortPacket
read (first ∷ rest) =
    if type_of first == 24 then aggregate_of (pieces_of rest)
    else if type_of first == 28 then fragment_of first rest
    else if nat_le 1 (type_of first) && nat_le (type_of first) 23 then Single (first ∷ rest) None
    else Refused (NaluTypeIsNotHandled (type_of first))

-- a unit with F clear and a type of its own, 1 to 23
abbrev pub carries : List ℕ → Bool
carries [] = false
carries (first ∷ unit) = nat_lt first 0x80 && nat_le 1 (type_of first) && nat_le (type_of first) 23

-- the H.264 variant with its flag true
abbrev pub has_key : CodecExtra → Bool
has_key (extras.H264 extra) = extra.is_keyframe
has_key extra = false

-- whether an FU-A, behind its first byte, begins a unit of this type
abbrev pub detects_fragment : ℕ → List ℕ → Bool
detects_fragment type [] = false
detects_fragment type (second ∷ body) = is_set second 7 && (type_of second == type)

-- whether a packet is known to hold a unit of this type, or to begin one (str0m's rule)
abbrev pub detects : ℕ → List ℕ → Bool
detects type [] = false
detects type (first ∷ rest) =
    if type_of first == 24 then list_any (λ unit. type_of_first unit == type) (stap_units rest)
    else if type_of first == 28 then detects_fragment type rest
    else nat_le 1 (type_of first) && nat_le (type_of first) 23 && (type_of first == type)

-- the format
abbrev pub h264 : Format
h264 = record {
  units = units_of All;
  kind = kind;
  is_key = is_key;
  least_mtu = 1;
  has_max_packet_size = false;
  header_len = 1;
  may_have_donl = false;
  has_donl = false;
  sets_fit = sets_fit;
  sets_packet = sets_packet;
  fragment_header = fragment_header;
  read = read;
  carries = carries;
  extra = λ key. extras.H264 (record { is_keyframe = key });
  has_key = has_key;
  detects = detects 5;
}
