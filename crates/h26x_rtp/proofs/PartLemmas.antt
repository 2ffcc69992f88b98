-- A part is counted up to a quotient.
use Rattle.std.proofs.Common.{◌≡◌, ℕ, ◌*◌, ◌/◌, ◌<◌, arith}
use Rattle.std.specs.Prelude.{nat_le}
use Rattle.std.proofs.Math.Nat.{le-div_iff_mul-le}
use Rattle.std.proofs.lemmas.Bool.Decides.{nat_tests}

-- so many times a number is at most another exactly where it is at most their quotient
pub times_test : (part number whole : ℕ) → 0 < number → nat_le (part * number) whole ≡ nat_le part (whole / number)
times_test part number whole some = grind (arith, nat_tests, le-div_iff_mul-le {k = number} {x = part} {y = whole} some)
