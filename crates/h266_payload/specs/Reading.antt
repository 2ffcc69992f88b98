-- How an H.266 packet is read: a relation on the whole packet (RFC 9328, 4.3).
use Rattle.std.specs.Prelude.{◌≡◌, ℕ, ◌+◌, ◌*◌, ◌<◌, ◌≤◌, Bool, true, false, ◌&&◌, List, [], ◌∷◌, ◌++◌, length, Option, Some, None, ◌⊎◌}
use Rattle.std.specs.List.{AllByRecursion}
use Rattle.h26x_core.specs.declared.error.PacketError.TheVariants.{ErrShortPacket, ErrH266CorruptedPacket}
use Rattle.h26x_core.specs.Word.{field, is_set}
use Rattle.h26x_core.specs.H266Unit.{type_of}
use Rattle.h26x_model.specs.Payload.Reading.{Reading, Single, Aggregate, Fragment, Refused}
use Rattle.h26x_core.specs.Pieces.{ArePieces}
use Rattle.h266_payload.specs.H266.{with_type, has_packet_type, units_with_dons}

-- a header with F clear, and one byte or more behind it
pub record IsWhole (packet : List ℕ) (high low : ℕ) (rest : List ℕ) : Type 0 where
  pub whole : packet ≡ high ∷ low ∷ rest
  pub some : 1 ≤ length rest
  pub clear : is_set high 7 ≡ false

-- every type but 28 and 29 is a unit's own
abbrev pub IsUnitType : ℕ → Type 0
IsUnitType type = (type < 28) ⊎ (29 < type)

-- a unit that an aggregate may hold: a whole header, and a type of its own
abbrev pub IsAllowed : List ℕ → Type 0
IsAllowed unit = (2 ≤ length unit) × (has_packet_type unit ≡ false)

-- behind an aggregate's header: DONL, where packets bear numbers, and then its bytes
pub data IsBehind (has_donl : Bool) (rest : List ℕ) (don : Option ℕ)
    (bytes : List ℕ) : Type 0 where
  IsPlain : has_donl ≡ false → don ≡ None → rest ≡ bytes → IsBehind has_donl rest don bytes
  IsNumbered : (d e : ℕ) → has_donl ≡ true → don ≡ Some (d * 256 + e) → rest ≡ d ∷ e ∷ bytes →
      IsBehind has_donl rest don bytes

-- what begins with a fault: a lone byte, a length under 2 or past the end
pub data IsCut (left : List ℕ) : Type 0 where
  IsLoneByte : (byte : ℕ) → left ≡ byte ∷ [] → IsCut left
  IsBadLength : (high low : ℕ) (bytes : List ℕ) → left ≡ high ∷ low ∷ bytes → (high * 256 + low < 2)
      ⊎ (length bytes < high * 256 + low) → IsCut left

-- A rule for each kind of packet; each says what the whole packet is, and how it is read.
pub data IsReading (has_donl : Bool) (packet : List ℕ) (reading : Reading) : Type 0 where
  -- two bytes or fewer are too short
  IsShort : length packet ≤ 2 → reading ≡ Refused ErrShortPacket → IsReading has_donl packet reading
  -- else the packet is corrupted where F is set
  IsCorrupted : (high low : ℕ) (rest : List ℕ) → packet ≡ high ∷ low ∷ rest → 1 ≤ length rest →
      is_set high 7 ≡ true →
      reading ≡ Refused ErrH266CorruptedPacket → IsReading has_donl packet reading
  -- a single unit: the packet; with numbers, without DONL behind the header
  IsUnit : (high low : ℕ) (rest : List ℕ) → IsWhole packet high low rest →
      IsUnitType (type_of low) → has_donl ≡ false →
      reading ≡ Single packet None → IsReading has_donl packet reading
  IsNumberedUnit : (high low d e : ℕ) (body : List ℕ) → IsWhole packet high low (d ∷ e ∷ body) →
      IsUnitType (type_of low) → has_donl ≡ true →
      1 ≤ length body → reading ≡ Single (high ∷ low ∷ body) (Some (d * 256 + e)) →
      IsReading has_donl packet reading
  IsShortUnit : (high low : ℕ) (rest : List ℕ) → IsWhole packet high low rest →
      IsUnitType (type_of low) → has_donl ≡ true →
      length rest ≤ 2 → reading ≡ Refused ErrShortPacket → IsReading has_donl packet reading
  -- an aggregate, type 28: two allowed units or more behind their lengths, up to the end
  IsAggregate : (high low : ℕ) (rest bytes : List ℕ) (don : Option ℕ) (units : List (List ℕ)) →
      IsWhole packet high low rest → type_of low ≡ 28 →
      IsBehind has_donl rest don bytes → ArePieces bytes units [] →
      AllByRecursion IsAllowed units → 2 ≤ length units →
      reading ≡ Aggregate (units_with_dons don units) → IsReading has_donl packet reading
  IsShortAggregate : (high low : ℕ) (rest bytes : List ℕ) (don : Option ℕ)
      (units : List (List ℕ)) → IsWhole packet high low rest → type_of low ≡ 28 →
      IsBehind has_donl rest don bytes → ArePieces bytes units [] →
      AllByRecursion IsAllowed units → length units ≤ 1 →
      reading ≡ Refused ErrShortPacket → IsReading has_donl packet reading
  -- the first fault behind allowed units decides: what is cut off is too short, a unit that is not
  -- allowed is corrupted
  IsCutAggregate : (high low : ℕ) (rest bytes left : List ℕ) (don : Option ℕ)
      (units : List (List ℕ)) → IsWhole packet high low rest → type_of low ≡ 28 →
      IsBehind has_donl rest don bytes → ArePieces bytes units left →
      AllByRecursion IsAllowed units → IsCut left →
      reading ≡ Refused ErrShortPacket → IsReading has_donl packet reading
  IsCorruptedAggregate : (high low h l : ℕ) (rest bytes unit behind : List ℕ) (don : Option ℕ)
      (units : List (List ℕ)) → IsWhole packet high low rest → type_of low ≡ 28 →
      IsBehind has_donl rest don bytes → ArePieces bytes units (h ∷ l ∷ unit ++ behind) →
      AllByRecursion IsAllowed units → h * 256 + l ≡ length unit → has_packet_type unit ≡ true →
      reading ≡ Refused ErrH266CorruptedPacket → IsReading has_donl packet reading
  -- with numbers there must be room for DONL
  IsWithoutNumber : (high low d : ℕ) → IsWhole packet high low (d ∷ []) → type_of low ≡ 28 →
      has_donl ≡ true →
      reading ≡ Refused ErrShortPacket → IsReading has_donl packet reading
  -- a fragment, type 29: a byte of S, E, P and the unit's type, and data; a start with numbers has
  -- DONL before its data
  IsFragment : (high low fu : ℕ) (body : List ℕ) → IsWhole packet high low (fu ∷ body) →
      type_of low ≡ 29 → (has_donl && is_set fu 7) ≡ false →
      reading ≡ Fragment (is_set fu 7) (is_set fu 6) (high ∷ with_type low (field fu 4 0) ∷
      []) None body → IsReading has_donl packet reading
  IsNumberedStart : (high low fu d e : ℕ) (body : List ℕ) → IsWhole packet high low (fu ∷ d ∷ e ∷
      body) → type_of low ≡ 29 → (has_donl && is_set fu 7) ≡ true →
      reading ≡ Fragment true (is_set fu 6) (high ∷ with_type low (field fu 4 0) ∷
      []) (Some (d * 256 + e)) body → IsReading has_donl packet reading
  IsShortStart : (high low fu : ℕ) (body : List ℕ) → IsWhole packet high low (fu ∷ body) →
      type_of low ≡ 29 → (has_donl && is_set fu 7) ≡ true → length body ≤ 1 →
      reading ≡ Refused ErrShortPacket → IsReading has_donl packet reading
