-- What is written as digits is read.
use Rattle.std.proofs.Common.{◌≡◌, ℕ, suc, ◌+◌, ◌*◌, ◌/◌, ◌%◌, ◌<◌, true, ltb, List, [], ◌∷◌, slice_index, unwrap_or, refl, ap, arith}
use Rattle.std.proofs.lemmas.Grind.{common_steps}
use Rattle.hex.specs.Hex.{encode_lower, encode_with, lower_digits, IsBytes}
use Rattle.hex.proofs.HexLemmas.{IsDigits-lower_digits}
use Rattle.h26x_lines.specs.Digits.{are_digits, bytes_of, digit_value, joined}

-- the digit of a value has that value
digit_of : (d : ℕ) → d < 16 → digit_value (slice_index lower_digits d) ≡ d
digit_of d l = ap (λ v. unwrap_or v 16) (IsDigits-lower_digits d l)

is_small : (d : ℕ) → d < 16 → ltb d 16 ≡ true
is_small d l = grind (arith, common_steps)

module _ (b : ℕ) (fits : b < 256) where
  pub high_of : digit_value (slice_index lower_digits (b / 16)) ≡ b / 16
  high_of = digit_of (b / 16) (omega arith)

  pub low_of : digit_value (slice_index lower_digits (b % 16)) ≡ b % 16
  low_of = digit_of (b % 16) (omega arith)

pub written_digits : (bytes : List ℕ) → IsBytes bytes → are_digits (encode_lower bytes) ≡ true
unfolding encode_with
written_digits [] fits = refl
written_digits (b ∷ rest) fits =
    let fit : b < 256 = fits 0 in
    rw (high_of b fit, low_of b fit, is_small (b / 16) (omega arith), is_small (b % 16) (omega arith), written_digits rest (λ i. fits (suc i))) refl

pub written_bytes : (bytes : List ℕ) → IsBytes bytes → bytes_of (encode_lower bytes) ≡ bytes
unfolding encode_with joined
written_bytes [] fits = refl
written_bytes (b ∷ rest) fits =
    let fit : b < 256 = fits 0 in
    let whole : 16 * (b / 16) + b % 16 ≡ b = omega arith in
    rw (high_of b fit, low_of b fit, whole, written_bytes rest (λ i. fits (suc i))) refl
