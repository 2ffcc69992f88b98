-- Texts of digits.
use Rattle.std.proofs.Common.{◌≡◌, ℕ, ◌<◌, ◌≤◌, ◌^◌, true, false, List, [], ◌∷◌, length, get_or, Result, Ok, Err, refl, subst, arith}
use Rattle.std.specs.Prelude.{nat_lt}
use Rattle.std.specs.Char.{digit_value}
use Rattle.std.specs.Str.{IsAscii, IsUtf8}
use Rattle.std.specs.Str.Parse.{AllDigits, IsNumeral, digits_value, ParsesUnsigned}
use Rattle.std.specs.Result.{OkIff}
use Rattle.std.proofs.lemmas.Bool.{and_parts}
use Rattle.std.proofs.lemmas.Bool.Decides.{nat_tests}
use Rattle.std.proofs.lemmas.Str.{IsUtf8-from_ascii}
use Rattle.std.proofs.lemmas.Str.Ascii.{IsAscii-nil, IsAscii-cons}
use Rattle.std.proofs.lemmas.Str.Parse.{without_leading_plus_none}
use Rattle.h26x_fmtp.specs.Kinds.{are_digits_of, digits_number}
use Rattle.h26x_fmtp.specs.declared.error.Fault.{Fault}
use Rattle.h26x_fmtp.specs.declared.error.Fault.TheVariants.{OutOfRange}

-- what passes the test of digits are digits
pub digits_from_test : (radix : ℕ) (text : List ℕ) → are_digits_of radix text ≡ true → AllDigits radix text
digits_from_test radix [] h = tt
digits_from_test radix (c ∷ cs) h =
    let both = and_parts (nat_lt (digit_value c) radix) (are_digits_of radix cs) h in
    let first : digit_value c < radix = grind (arith, nat_tests, both.0) in
    (first, digits_from_test radix cs both.1)

-- digits are ASCII
no_digit : (c : ℕ) → 123 ≤ c → digit_value c ≡ 36
no_digit c h =
    let a : nat_lt c 48 ≡ false = grind (arith, nat_tests, h) in
    let b : nat_lt c 58 ≡ false = grind (arith, nat_tests, h) in
    let d : nat_lt c 65 ≡ false = grind (arith, nat_tests, h) in
    let e : nat_lt c 91 ≡ false = grind (arith, nat_tests, h) in
    let f : nat_lt c 97 ≡ false = grind (arith, nat_tests, h) in
    let g : nat_lt c 123 ≡ false = grind (arith, nat_tests, h) in
    rw (a, b, d, e, f, g) refl

digit_ascii : (c : ℕ) → digit_value c < 36 → c < 128
digit_ascii c h =
    elim (nat_lt c 128) as (λ t. nat_lt c 128 ≡ t → c < 128) [
      | true ↦ λ yes. grind (arith, nat_tests, yes)
      | false ↦ λ no. let far : 123 ≤ c = grind (arith, nat_tests, no) in absurd (omega (arith, h, no_digit c far))
    ] refl

digits_ascii : (radix : ℕ) (text : List ℕ) → radix ≤ 36 → AllDigits radix text → IsAscii text
digits_ascii radix [] most h = IsAscii-nil
digits_ascii radix (c ∷ cs) most h = IsAscii-cons c cs (digit_ascii c (omega (arith, most, h.0))) (digits_ascii radix cs most h.1)

pub digits_utf8 : (radix : ℕ) (text : List ℕ) → radix ≤ 36 → are_digits_of radix text ≡ true → IsUtf8 text
digits_utf8 radix text most h = IsUtf8-from_ascii text (digits_ascii radix text most (digits_from_test radix text h))

-- no digit is a plus
no_plus : (radix : ℕ) (text : List ℕ) → radix ≤ 36 → AllDigits radix text → get_or text 0 0 ≡ 43 → ⊥
no_plus radix [] most h plus = omega (arith, plus)
no_plus radix (c ∷ cs) most h plus = let first : digit_value 43 < radix = subst (λ it. digit_value it < radix) plus h.0 in omega (arith, most, first)

-- a result whose premise says the same in other words
other_words : {E : Type 0} (r : Result ℕ E) (P Q : Type 0) (v : ℕ) → (P → Q) → (Q → P) → OkIff r P v → OkIff r Q v
other_words (Ok x) P Q v to from h = (to h.0, h.1)
other_words (Err e) P Q v to from h = λ q. h (from q)

-- what std reads is the number
pub parsed_number : {E : Type 0} (radix : ℕ) (text : List ℕ) (r : Result ℕ E) → radix ≤ 36 → ParsesUnsigned 64 radix text r → are_digits_of radix text ≡ true
    → OkIff r ((0 < length text) × (digits_value radix text < 2 ^ 64)) (digits_value radix text)
parsed_number radix text r most h digits =
    let are = digits_from_test radix text digits in
    let plain = without_leading_plus_none text (no_plus radix text most are) in
    other_words r _ _ _ (λ q. (q.0.0, q.1)) (λ q. ((q.0, are), q.1))
    (subst (λ l. OkIff r (IsNumeral radix l × (digits_value radix l < 2 ^ 64)) (digits_value radix l)) plain h)

-- the number of a text of digits
pub number_fits : (radix : ℕ) (other : Fault) (text : List ℕ) → 0 < length text → are_digits_of radix text ≡ true → digits_value radix text < 2 ^ 64
    → digits_number radix other text ≡ Ok (digits_value radix text)
number_fits radix other text some digits fits =
    let a : nat_lt 0 (length text) ≡ true = grind (arith, nat_tests, some) in
    let b : nat_lt (digits_value radix text) (2 ^ 64) ≡ true = grind (arith, nat_tests, fits) in
    rw (a, digits, b) refl

pub number_too_big : (radix : ℕ) (other : Fault) (text : List ℕ) → 0 < length text → are_digits_of radix text ≡ true → (digits_value radix text < 2 ^ 64 → ⊥)
    → digits_number radix other text ≡ Err OutOfRange
number_too_big radix other text some digits big =
    let a : nat_lt 0 (length text) ≡ true = grind (arith, nat_tests, some) in
    let b : nat_lt (digits_value radix text) (2 ^ 64) ≡ false = grind (arith, nat_tests, big) in
    rw (a, digits, b) refl
