-- Bytes as hexadecimal digits.
use Rattle.std.proofs.Common.{◌≡◌, ℕ, ◌/◌, ◌%◌, ◌<◌, true, ◌&&◌, List, [], ◌∷◌, refl, arith, Bool, suc}
use Rattle.std.specs.Prelude.{slice_index}
use Rattle.std.specs.List.{list_all}
use Rattle.hex.specs.Hex.{IsBytes, encode_with, encode_lower, lower_digits}
use Rattle.h26x_fmtp.proofs.TestLemmas.{all_at, both_true}

-- what passes at each digit passes at each byte of hexadecimal text
pub encoded_all : (test : ℕ → Bool) (bytes : List ℕ) → list_all test lower_digits ≡ true → IsBytes bytes → list_all test (encode_lower bytes) ≡ true
unfolding encode_with
encoded_all test [] digits are = refl
encoded_all test (b ∷ rest) digits are =
    let small : b < 256 = are 0 in
    both_true (test (slice_index lower_digits (b / 16))) (test (slice_index lower_digits (b % 16)) && list_all test (encode_lower rest))
    (all_at test lower_digits (b / 16) (omega arith) digits)
    (both_true (test (slice_index lower_digits (b % 16))) (list_all test (encode_lower rest))
    (all_at test lower_digits (b % 16) (omega arith) digits)
    (encoded_all test rest digits (λ i. are (suc i))))
