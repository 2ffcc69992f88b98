-- How an H.264 packet is read: a relation on the whole packet (RFC 6184, 5.2 and 5.6 to 5.8).
use Rattle.std.specs.Prelude.{◌≡◌, ◌≢◌, ℕ, ◌+◌, ◌*◌, ◌<◌, ◌≤◌, List, [], ◌∷◌, length, map, filter, None, ◌⊎◌}
use Rattle.h26x_core.specs.declared.error.PacketError.TheVariants.{ErrShortPacket, NaluTypeIsNotHandled, StapASizeLargerThanBuffer}
use Rattle.h26x_core.specs.Word.{is_set}
use Rattle.h26x_core.specs.H264Unit.{type_of}
use Rattle.h26x_core.specs.ByteStream.{is_not_empty}
use Rattle.h26x_model.specs.Payload.Reading.{Reading, Single, Aggregate, Fragment, Refused, without_don}
use Rattle.h26x_core.specs.Pieces.{ArePieces}
use Rattle.h264_payload.specs.H264.{reference_bits}

-- A rule for each kind of packet; each says what the whole packet is, and how it is read.
pub data IsReading (packet : List ℕ) (reading : Reading) : Type 0 where
  -- an empty packet is too short
  IsEmpty : packet ≡ [] → reading ≡ Refused ErrShortPacket → IsReading packet reading
  -- types 1 to 23: the packet is the unit
  IsUnit : (first : ℕ) (rest : List ℕ) → packet ≡ first ∷ rest → 1 ≤ type_of first →
      type_of first ≤ 23 →
      reading ≡ Single packet None → IsReading packet reading
  -- a STAP-A, type 24: pieces behind their lengths, and at most one byte more; empty pieces hold no
  -- unit
  IsStap : (first : ℕ) (bytes left : List ℕ) (pieces : List (List ℕ)) → packet ≡ first ∷ bytes →
      type_of first ≡ 24 →
      ArePieces bytes pieces left → length left ≤ 1 →
      reading ≡ Aggregate (map without_don (filter is_not_empty pieces)) → IsReading packet reading
  -- a STAP-A with a length that passes its end: the length, and the bytes behind it
  IsCutStap : (first high low : ℕ) (bytes left : List ℕ) (pieces : List (List ℕ)) → packet ≡ first ∷
      bytes → type_of first ≡ 24 →
      ArePieces bytes pieces (high ∷ low ∷ left) → length left < high * 256 + low →
      reading ≡ Refused (StapASizeLargerThanBuffer (high * 256 + low) (length left)) →
      IsReading packet reading
  -- an FU-A, type 28: a second byte with S, E and the type, and data; F of the unit's header is
  -- clear
  IsFragment : (first second : ℕ) (body : List ℕ) → packet ≡ first ∷ second ∷ body →
      type_of first ≡ 28 →
      reading ≡ Fragment (is_set second 7) (is_set second 6)
      ((reference_bits first + type_of second) ∷ []) None body → IsReading packet reading
  -- an FU-A without a second byte is too short
  IsShortFragment : (first : ℕ) → packet ≡ first ∷ [] → type_of first ≡ 28 →
      reading ≡ Refused ErrShortPacket → IsReading packet reading
  -- every other type is not handled
  IsOtherType : (first : ℕ) (rest : List ℕ) → packet ≡ first ∷ rest → (type_of first ≡ 0)
      ⊎ (23 < type_of first) → type_of first ≢ 24 → type_of first ≢ 28 →
      reading ≡ Refused (NaluTypeIsNotHandled (type_of first)) → IsReading packet reading
