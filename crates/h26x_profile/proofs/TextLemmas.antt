-- Texts that std reads as a byte.
use Rattle.std.proofs.Common.{◌≡◌, ℕ, ◌^◌, ◌<◌, ◌&&◌, true, false, cond, List, [], ◌∷◌, length, Some, None, Result, Ok, Err, refl, arith}
use Rattle.std.specs.Prelude.{nat_lt}
use Rattle.std.specs.List.{list_all}
use Rattle.std.specs.Result.{result_ok}
use Rattle.std.specs.Char.{digit_value}
use Rattle.std.specs.Str.Parse.{AllDigits, IsNumeral, digits_value, without_leading_plus, ParsesUnsigned}
use Rattle.std.proofs.lemmas.Bool.{and_parts}
use Rattle.std.proofs.lemmas.Bool.Decides.{nat_tests}
use Rattle.h26x_profile.specs.Parameters.{writes_byte, byte_of}

-- digits pass the test of digits
pub tested_digits : (ds : List ℕ) → AllDigits 10 ds → list_all (λ c. nat_lt (digit_value c) 10) ds ≡ true
tested_digits [] h = refl
tested_digits (c ∷ cs) h =
    let first : nat_lt (digit_value c) 10 ≡ true = grind (arith, nat_tests, h.0) in
    rw (first, tested_digits cs h.1) refl

-- what passes the test of digits are digits
pub digits_tested : (ds : List ℕ) → list_all (λ c. nat_lt (digit_value c) 10) ds ≡ true → AllDigits 10 ds
digits_tested [] h = tt
digits_tested (c ∷ cs) h =
    let both = and_parts (nat_lt (digit_value c) 10) (list_all (λ c. nat_lt (digit_value c) 10) cs) h in
    let first : digit_value c < 10 = grind (arith, nat_tests, both.0) in
    (first, digits_tested cs both.1)

-- a numeral below 256 passes the test of a byte
pub byte_passes : (ds : List ℕ) → IsNumeral 10 ds → digits_value 10 ds < 2 ^ 8 → writes_byte ds ≡ true
byte_passes ds numeral small =
    let some : nat_lt 0 (length ds) ≡ true = grind (arith, nat_tests, numeral.0) in
    let fits : nat_lt (digits_value 10 ds) (2 ^ 8) ≡ true = grind (arith, nat_tests, small) in
    rw (some, tested_digits ds numeral.1, fits) refl

-- what passes the test of a byte is a numeral below 256
pub passes_byte : (ds : List ℕ) → writes_byte ds ≡ true → IsNumeral 10 ds × (digits_value 10 ds < 2 ^ 8)
passes_byte ds h =
    let all = and_parts (nat_lt 0 (length ds) && list_all (λ c. nat_lt (digit_value c) 10) ds) (nat_lt (digits_value 10 ds) (2 ^ 8)) h in
    let front = and_parts (nat_lt 0 (length ds)) (list_all (λ c. nat_lt (digit_value c) 10) ds) all.0 in
    let some : 0 < length ds = grind (arith, nat_tests, front.0) in
    let fits : digits_value 10 ds < 2 ^ 8 = grind (arith, nat_tests, all.1) in
    ((some, digits_tested ds front.1), fits)

-- what std reads as a `u8` is the byte of the text
pub parsed_byte : {E : Type 0} (text : List ℕ) (r : Result ℕ E) → ParsesUnsigned 8 10 text r → result_ok r ≡ byte_of text
parsed_byte text (Ok n) h = rw (byte_passes (without_leading_plus text) h.0.0 h.0.1, h.1) refl
parsed_byte text (Err e) h =
    elim (writes_byte (without_leading_plus text)) as (λ t. writes_byte (without_leading_plus text) ≡ t → None ≡ cond t (Some (digits_value 10 (without_leading_plus text))) None) [
      | true ↦ λ passes. absurd (h (passes_byte (without_leading_plus text) passes))
      | false ↦ λ _. refl
    ] refl
