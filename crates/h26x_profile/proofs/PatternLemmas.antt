-- Tests of the places of a pattern.
use Rattle.std.proofs.Common.{◌≡◌, ℕ, ◌/◌, ◌%◌, ◌&&◌, Bool, true, false, List, bit_and, refl, arith}
use Rattle.std.specs.Prelude.{slice_index}
use Rattle.std.proofs.lemmas.Nat.{and_mask}
use Rattle.h26x_profile.specs.Pattern.{takes, matches}

-- eight tests joined from the left are the eight joined from the right
pub eight_joined : (a b c d e f g h : Bool) → (((((((a && b) && c) && d) && e) && f) && g) && h) ≡ (a && (b && (c && (d && (e && (f && (g && (h && true))))))))
eight_joined false b c d e f g h = refl
eight_joined true false c d e f g h = refl
eight_joined true true false d e f g h = refl
eight_joined true true true false e f g h = refl
eight_joined true true true true false f g h = refl
eight_joined true true true true true false g h = refl
eight_joined true true true true true true false h = refl
eight_joined true true true true true true true false = refl
eight_joined true true true true true true true true = refl

-- the lowest bit of a quotient is the bit of the number
pub low_bit : (n d : ℕ) → bit_and (n / d) 1 ≡ n / d % 2
low_bit n d = and_mask (n / d) 1

-- eight tests, of each place and its bit, are the whole test
pub eight_equal : (pattern : List ℕ) (byte : ℕ) {a b c d e f g h : Bool}
    → a ≡ takes (slice_index pattern 0) (bit_and (byte / 128) 1) → b ≡ takes (slice_index pattern 1) (bit_and (byte / 64) 1)
    → c ≡ takes (slice_index pattern 2) (bit_and (byte / 32) 1) → d ≡ takes (slice_index pattern 3) (bit_and (byte / 16) 1)
    → e ≡ takes (slice_index pattern 4) (bit_and (byte / 8) 1) → f ≡ takes (slice_index pattern 5) (bit_and (byte / 4) 1)
    → g ≡ takes (slice_index pattern 6) (bit_and (byte / 2) 1) → h ≡ takes (slice_index pattern 7) (bit_and byte 1)
    → (a && (b && (c && (d && (e && (f && (g && (h && true)))))))) ≡ matches pattern byte
eight_equal pattern byte at_7 at_6 at_5 at_4 at_3 at_2 at_1 at_0 =
    let last : byte / 1 ≡ byte = omega arith in
    rw (at_7, at_6, at_5, at_4, at_3, at_2, at_1, at_0, low_bit byte 128, low_bit byte 64, low_bit byte 32, low_bit byte 16, low_bit byte 8, low_bit byte 4, low_bit byte 2, and_mask byte 1, last) refl
