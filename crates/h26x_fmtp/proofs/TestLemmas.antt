-- Tests of each byte, and of each number below one.
use Rattle.std.proofs.Common.{◌≡◌, ℕ, zero, suc, ◌<◌, true, false, not, ◌&&◌, cond, List, [], ◌∷◌, length, inl, inr, refl, ap, ◌∙◌, arith, Bool}
use Rattle.std.specs.Prelude.{◌==◌, ◌||◌, slice_index}
use Rattle.std.specs.List.{list_all}
use Rattle.std.proofs.lemmas.Bool.{and_parts, cases_lt}
use Rattle.h26x_fmtp.specs.Pairs.{is_inside}
use Rattle.h26x_fmtp.specs.Written.{is_one_part}
use Rattle.h26x_fmtp.specs.Parameters.{is_mark}

pub both_true : (p q : Bool) → p ≡ true → q ≡ true → (p && q) ≡ true
both_true true q h1 h2 = h2
both_true false q h1 h2 = cc h1

-- what passes at each byte passes at one of them
pub all_at : (test : ℕ → Bool) (xs : List ℕ) (i : ℕ) → i < length xs → list_all test xs ≡ true → test (slice_index xs i) ≡ true
all_at test [] i within all = absurd (omega arith)
all_at test (x ∷ xs) zero within all = (and_parts (test x) (list_all test xs) all).0
all_at test (x ∷ xs) (suc i) within all = all_at test xs i (omega arith) (and_parts (test x) (list_all test xs) all).1

-- a text without marks is one part
first_false : (p q : Bool) → (p || q) ≡ false → p ≡ false
first_false true q h = cc h
first_false false q h = refl

second_false : (p q : Bool) → (p || q) ≡ false → q ≡ false
second_false true q h = cc h
second_false false q h = h

pub not_true : (p : Bool) → not p ≡ true → p ≡ false
not_true true h = cc h
not_true false h = refl

pub one_part_without_marks : (text : List ℕ) → list_all (λ b. not (is_mark b)) text ≡ true → is_one_part false text ≡ true
one_part_without_marks [] all = refl
one_part_without_marks (b ∷ rest) all =
    let parts = and_parts (not (is_mark b)) (list_all (λ x. not (is_mark x)) rest) all in
    let none = not_true (is_mark b) parts.0 in
    let two = first_false ((b == 59) || (b == 123)) (b == 125) none in
    let semicolon : (b == 59) ≡ false = first_false (b == 59) (b == 123) two in
    let brace : (b == 123) ≡ false = second_false (b == 59) (b == 123) two in
    let close : (b == 125) ≡ false = second_false ((b == 59) || (b == 123)) (b == 125) none in
    ap (λ t. not (t && not false) && is_one_part (is_inside false b) rest) semicolon
    ∙ ap (λ t. is_one_part (cond t true (cond (b == 125) false false)) rest) brace
    ∙ ap (λ t. is_one_part (cond t false false) rest) close
    ∙ one_part_without_marks rest parts.1

-- a test of each number below one
abbrev pub all_below : (ℕ → Bool) → ℕ → Bool
all_below test zero = true
all_below test (suc n) = test n && all_below test n

pub below_at : (test : ℕ → Bool) (n k : ℕ) → all_below test n ≡ true → k < n → test k ≡ true
below_at test zero k all within = absurd (omega arith)
below_at test (suc n) k all within =
    let parts = and_parts (test n) (all_below test n) all in
    elim (cases_lt k n) [
      | inl below ↦ below_at test n k parts.1 below
      | inr top ↦ let e : k ≡ n = omega arith in rw e parts.0
    ]
