-- How an H.265 packet is read: a relation on the whole packet (RFC 7798, 4.4).
use Rattle.std.specs.Prelude.{◌≡◌, ℕ, ◌+◌, ◌*◌, ◌%◌, ◌<◌, ◌≤◌, Bool, true, false, ◌&&◌, List, [], ◌∷◌, ◌++◌, length, map, Option, Some, None, ◌⊎◌}
use Rattle.h26x_core.specs.declared.error.PacketError.TheVariants.{ErrShortPacket, ErrH265CorruptedPacket}
use Rattle.h26x_core.specs.Word.{field, is_set}
use Rattle.h26x_core.specs.H265Unit.{type_of}
use Rattle.h26x_model.specs.Payload.Reading.{Reading, Single, Aggregate, Fragment, Paci, Refused, without_don}
use Rattle.h26x_core.specs.Pieces.{ArePieces, HasNoPiece}
use Rattle.h265_packets.specs.Header.{with_type}
use Rattle.h265_payload.specs.H265.{paci_head}

-- a header with F clear, and one byte or more behind it
pub record IsWhole (packet : List ℕ) (high low : ℕ) (rest : List ℕ) : Type 0 where
  pub whole : packet ≡ high ∷ low ∷ rest
  pub some : 1 ≤ length rest
  pub clear : is_set high 7 ≡ false

-- every type but 48 to 50 is a unit's own
abbrev pub IsUnitType : ℕ → Type 0
IsUnitType type = (type < 48) ⊎ (50 < type)

-- The bytes are these units, each behind the difference of its number, less 1, from the number
-- before (DOND) and its length, and then what is left.
abbrev pub AreFurther : ℕ → List ℕ → List (List ℕ × Option ℕ) → List ℕ → Type 0
AreFurther before bytes [] left = bytes ≡ left
AreFurther before bytes (pair ∷ pairs) left =
    (difference high low : ℕ) × (behind : List ℕ) × (bytes ≡ difference ∷ high ∷ low ∷ pair.0
    ++ behind) × (high * 256 + low ≡ length pair.0)
    × (pair.1 ≡ Some ((before + difference + 1) % 65536))
    × AreFurther ((before + difference + 1) % 65536) behind pairs left

-- no such unit stands whole at the beginning
abbrev pub HasNoFurther : List ℕ → Type 0
HasNoFurther bytes = (difference high low : ℕ) (piece behind : List ℕ) → bytes ≡ difference ∷ high ∷
    low ∷ piece ++ behind → high * 256 + low ≡ length piece → ⊥

-- A rule for each kind of packet; each says what the whole packet is, and how it is read. DONL is
-- `d * 256 + e`.
pub data IsReading (has_donl : Bool) (packet : List ℕ) (reading : Reading) : Type 0 where
  -- two bytes or fewer are too short
  IsShort : length packet ≤ 2 → reading ≡ Refused ErrShortPacket → IsReading has_donl packet reading
  -- else the packet is corrupted where F is set
  IsCorrupted : (high low : ℕ) (rest : List ℕ) → packet ≡ high ∷ low ∷ rest → 1 ≤ length rest →
      is_set high 7 ≡ true →
      reading ≡ Refused ErrH265CorruptedPacket → IsReading has_donl packet reading
  -- a single unit: the packet; with numbers, without DONL behind the header
  IsUnit : (high low : ℕ) (rest : List ℕ) → IsWhole packet high low rest →
      IsUnitType (type_of high) → has_donl ≡ false →
      reading ≡ Single packet None → IsReading has_donl packet reading
  IsNumberedUnit : (high low d e : ℕ) (body : List ℕ) → IsWhole packet high low (d ∷ e ∷ body) →
      IsUnitType (type_of high) → has_donl ≡ true →
      1 ≤ length body → reading ≡ Single (high ∷ low ∷ body) (Some (d * 256 + e)) →
      IsReading has_donl packet reading
  IsShortUnit : (high low : ℕ) (rest : List ℕ) → IsWhole packet high low rest →
      IsUnitType (type_of high) → has_donl ≡ true →
      length rest ≤ 2 → reading ≡ Refused ErrShortPacket → IsReading has_donl packet reading
  -- an aggregate, type 48: two pieces or more behind their lengths, and a rest without a whole
  -- piece
  IsAggregate : (high low : ℕ) (rest left : List ℕ) (pieces : List (List ℕ)) →
      IsWhole packet high low rest → type_of high ≡ 48 → has_donl ≡ false →
      ArePieces rest pieces left → HasNoPiece left → 2 ≤ length pieces →
      reading ≡ Aggregate (map without_don pieces) → IsReading has_donl packet reading
  IsShortAggregate : (high low : ℕ) (rest left : List ℕ) (pieces : List (List ℕ)) →
      IsWhole packet high low rest → type_of high ≡ 48 → has_donl ≡ false →
      ArePieces rest pieces left → HasNoPiece left → length pieces ≤ 1 →
      reading ≡ Refused ErrShortPacket → IsReading has_donl packet reading
  -- with numbers: DONL, a piece, and one further unit or more
  IsNumberedAggregate : (high low d e h l : ℕ) (first behind left : List ℕ) (further : List (List ℕ
      × Option ℕ)) →
      IsWhole packet high low (d ∷ e ∷ h ∷ l ∷ first ++ behind) → type_of high ≡ 48 →
      has_donl ≡ true → h * 256 + l ≡ length first →
      AreFurther (d * 256 + e) behind further left → HasNoFurther left → 1 ≤ length further →
      reading ≡ Aggregate ((first, Some (d * 256 + e)) ∷ further) →
      IsReading has_donl packet reading
  IsOneNumbered : (high low d e h l : ℕ) (first behind : List ℕ) → IsWhole packet high low (d ∷ e ∷
      h ∷ l ∷ first ++ behind) → type_of high ≡ 48 → has_donl ≡ true →
      h * 256 + l ≡ length first → HasNoFurther behind → reading ≡ Refused ErrShortPacket →
      IsReading has_donl packet reading
  IsNoneNumbered : (high low d e : ℕ) (bytes : List ℕ) → IsWhole packet high low (d ∷ e ∷ bytes) →
      type_of high ≡ 48 → has_donl ≡ true →
      HasNoPiece bytes → reading ≡ Refused ErrShortPacket → IsReading has_donl packet reading
  IsWithoutNumber : (high low d : ℕ) → IsWhole packet high low (d ∷ []) → type_of high ≡ 48 →
      has_donl ≡ true →
      reading ≡ Refused ErrShortPacket → IsReading has_donl packet reading
  -- a fragment, type 49: a byte of S, E and the unit's type, and data; a start with numbers has
  -- DONL before its data
  IsFragment : (high low fu : ℕ) (body : List ℕ) → IsWhole packet high low (fu ∷ body) →
      type_of high ≡ 49 → (has_donl && is_set fu 7) ≡ false → 1 ≤ length body →
      reading ≡ Fragment (is_set fu 7) (is_set fu 6) (with_type high (field fu 5 0) ∷ low ∷
      []) None body → IsReading has_donl packet reading
  IsNumberedStart : (high low fu d e : ℕ) (body : List ℕ) → IsWhole packet high low (fu ∷ d ∷ e ∷
      body) → type_of high ≡ 49 → (has_donl && is_set fu 7) ≡ true → 1 ≤ length body →
      reading ≡ Fragment true (is_set fu 6) (with_type high (field fu 5 0) ∷ low ∷
      []) (Some (d * 256 + e)) body → IsReading has_donl packet reading
  IsShortFragment : (high low fu : ℕ) → IsWhole packet high low (fu ∷ []) → type_of high ≡ 49 →
      (has_donl && is_set fu 7) ≡ false →
      reading ≡ Refused ErrShortPacket → IsReading has_donl packet reading
  IsShortStart : (high low fu : ℕ) (body : List ℕ) → IsWhole packet high low (fu ∷ body) →
      type_of high ≡ 49 → (has_donl && is_set fu 7) ≡ true → length body ≤ 2 →
      reading ≡ Refused ErrShortPacket → IsReading has_donl packet reading
  -- a PACI, type 50, which bears no number: the fields word, an extension of PHSsize bytes, and a
  -- payload
  IsPaci : (high low a b : ℕ) (extension body : List ℕ) → IsWhole packet high low (a ∷ b ∷ extension
      ++ body) → type_of high ≡ 50 →
      field (a * 256 + b) 8 4 ≡ length extension → 1 ≤ length body →
      reading ≡ Paci (paci_head high low (a * 256 + b)) (a * 256 + b) extension body →
      IsReading has_donl packet reading
  IsShortPaci : (high low a b : ℕ) (bytes : List ℕ) → IsWhole packet high low (a ∷ b ∷ bytes) →
      type_of high ≡ 50 → length bytes ≤ field (a * 256 + b) 8 4 →
      reading ≡ Refused ErrShortPacket → IsReading has_donl packet reading
  IsPaciWithoutFields : (high low a : ℕ) → IsWhole packet high low (a ∷ []) → type_of high ≡ 50 →
      reading ≡ Refused ErrShortPacket → IsReading has_donl packet reading
