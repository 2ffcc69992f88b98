-- Single units behind numbers.
use Rattle.std.proofs.Common.{◌≡◌, ℕ, ◌+◌, ◌*◌, ◌≤◌, true, List, [], ◌∷◌, length, Some, refl, arith}
use Rattle.h26x_core.specs.declared.error.PacketError.TheVariants.{ErrShortPacket}
use Rattle.h26x_model.specs.Payload.Reading.{Single, Refused, two_byte_single}

-- two bytes or fewer hold no unit behind a number
pub short_single : (high low : ℕ) (rest : List ℕ) → length rest ≤ 2 → two_byte_single true high low rest ≡ Refused ErrShortPacket
short_single high low [] h = refl
short_single high low (d ∷ []) h = refl
short_single high low (d ∷ e ∷ []) h = refl
short_single high low (d ∷ e ∷ b ∷ rest) h = absurd (omega arith)

-- a byte or more behind a number is a unit's
pub numbered_single : (high low d e : ℕ) (body : List ℕ) → 1 ≤ length body → two_byte_single true high low (d ∷ e ∷ body) ≡ Single (high ∷ low ∷ body) (Some (d * 256 + e))
numbered_single high low d e [] some = absurd (omega arith)
numbered_single high low d e (b ∷ body) some = refl
