-- What a packet is to a depacketizer (RFC 6184, 5.2; RFC 7798, 4.4; RFC 9328, 4.3).
use Rattle.std.specs.Prelude.{◌≡◌, ℕ, ◌+◌, ◌*◌, Bool, true, false, List, [], ◌∷◌, Option, Some, None}
use Rattle.h26x_core.specs.declared.error.PacketError.{PacketError}
use Rattle.h26x_core.specs.declared.error.PacketError.TheVariants.{ErrShortPacket}

-- One unit; several; a part of one, with the header that its unit would have; an H.265 PACI with
-- its fields word and extension; or a packet that is refused. A number is a decoding order number,
-- where there is one.
pub data Reading : Type 0 where
  Single : (unit : List ℕ) (don : Option ℕ) → Reading
  Aggregate : (units : List (List ℕ × Option ℕ)) → Reading
  Fragment : (start end : Bool) (head : List ℕ) (don : Option ℕ) (body : List ℕ) → Reading
  Paci : (head : List ℕ) (fields : ℕ) (extension body : List ℕ) → Reading
  Refused : (error : PacketError) → Reading

-- a unit that bears no number
abbrev pub without_don : List ℕ → List ℕ × Option ℕ
without_don unit = (unit, None)

-- a single unit behind a header of two bytes; where packets bear numbers, one stands between (RFC
-- 7798, 4.4.1; RFC 9328, 4.3.1)
abbrev pub two_byte_single : Bool → ℕ → ℕ → List ℕ → Reading
two_byte_single false high low body = Single (high ∷ low ∷ body) None
two_byte_single true high low (d ∷ e ∷ b ∷ body) = Single (high ∷ low ∷ b ∷ body) (Some (d * 256 + e))
two_byte_single true high low body = Refused ErrShortPacket

-- the packet is not refused
abbrev pub IsRead : Reading → Type 0
IsRead (Refused error) = ⊥
IsRead reading = Unit {0}

-- the packet is a fragment
abbrev pub IsFragment : Reading → Type 0
IsFragment (Fragment start end head don body) = Unit {0}
IsFragment reading = ⊥

-- whether it is a fragment that starts
abbrev pub is_start : Reading → Bool
is_start (Fragment start end head don body) = start
is_start reading = false

-- whether it is a fragment that ends
abbrev pub is_end : Reading → Bool
is_end (Fragment start end head don body) = end
is_end reading = false

-- the header of a fragment
abbrev pub head_of : Reading → List ℕ
head_of (Fragment start end head don body) = head
head_of reading = []

-- the data of a fragment
abbrev pub body_of : Reading → List ℕ
body_of (Fragment start end head don body) = body
body_of reading = []

-- by this relation a packet has one reading, and the function finds it
pub record HasOneReading (IsReading : List ℕ → Reading → Type 0) (read : List ℕ → Reading) : Type 0
  where
    pub is : (packet : List ℕ) → IsReading packet (read packet)
    pub only : (packet : List ℕ) (reading : Reading) → IsReading packet reading →
        read packet ≡ reading
