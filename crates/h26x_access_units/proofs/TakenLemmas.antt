-- Which of the numbers that were taken are told.
use Rattle.std.proofs.Common.{◌≡◌, ◌≢◌, ◌∙◌, ap, sym, subst, refl, ℕ, zero, suc, ◌+◌, ◌%◌, ◌/◌, ◌<◌, ◌≤◌, Bool, true, false, List, [], ◌∷◌, ◌++◌, length, get_or, set, Some, arith}
use Rattle.std.specs.Prelude.{◌==◌, ◌&&◌, ◌||◌, nat_lt, nat_le}
use Rattle.std.specs.List.{repeat, list_any}
use Rattle.std.proofs.lemmas.Bool.Decides.{nat_tests}
use Rattle.std.proofs.lemmas.List.{get_or-set_same, get_or-set_other, length-set}
use Rattle.h26x_core.specs.Sequence.{distance_ahead, next_sequence_number}
use Rattle.h26x_access_units.specs.Passed.{is_noted, is_passed, due_behind, passed_behind, is_told_taken, AreNumbers, AreSoonBehind}

-- at first none is noted
abbrev zeros : ℕ → List ℕ
zeros count = repeat count (0 ∷ [])

none_at : (count place : ℕ) → get_or (zeros count) place 0 ≡ 0
none_at zero place = refl
none_at (suc count) zero = refl
none_at (suc count) (suc place) = none_at count place

all_places : (count : ℕ) → length (zeros count) ≡ count
all_places zero = refl
all_places (suc count) = ap suc (all_places count)

-- as many places as there are
places : (due : ℕ) (numbers : List ℕ) → length (passed_behind due numbers).taken ≡ 1024
places due [] = all_places 1024
places due (n ∷ before) = length-set (passed_behind due before).taken (n % 1024) (n / 1024 + 1) ∙ places due before

-- one that is noted was taken
noted_was : (due number : ℕ) (numbers : List ℕ) → number < 65536 → AreNumbers numbers → is_noted (passed_behind due numbers).taken number ≡ true →
    list_any (λ it. it == number) numbers ≡ true
noted_was due number [] small all noted =
    let none = none_at 1024 (number % 1024) in
    let not : (get_or (zeros 1024) (number % 1024) 0 == number / 1024 + 1) ≡ false = grind (arith, nat_tests) in
    absurd (let bad = sym not ∙ noted in cc)
noted_was due number (n ∷ before) small all noted =
    let taken = (passed_behind due before).taken in
    let len : length taken ≡ 1024 = places due before in
    elim (n == number) as (λ b. (n == number) ≡ b → (b || list_any (λ it. it == number) before) ≡ true) [
      | true ↦ λ e. refl
      | false ↦ λ e. elim (n % 1024 == number % 1024) as (λ b. (n % 1024 == number % 1024) ≡ b → list_any (λ it. it == number) before ≡ true) [
        | true ↦ λ same.
            let at : number % 1024 ≡ n % 1024 = grind (arith, nat_tests) in
            let there : get_or (set taken (n % 1024) (n / 1024 + 1)) (number % 1024) 0 ≡ n / 1024 + 1 =
            ap (λ (k : ℕ). get_or (set taken (n % 1024) (n / 1024 + 1)) k 0) at ∙ get_or-set_same taken (n % 1024) (n / 1024 + 1) 0 (omega (arith, len)) in
            let is : get_or (set taken (n % 1024) (n / 1024 + 1)) (number % 1024) 0 ≡ number / 1024 + 1 = grind (arith, nat_tests) in
            let whole : n / 1024 ≡ number / 1024 = omega (arith, there, is) in
            let equal : n ≡ number = omega (arith, whole, at) in
            absurd (let other : n ≡ number → ⊥ = grind (arith, nat_tests) in other equal)
        | false ↦ λ other.
            let apart : number % 1024 ≢ n % 1024 = grind (arith, nat_tests) in
            noted_was due number before small all.1 (ap (λ (k : ℕ). k == number / 1024 + 1) (sym (get_or-set_other taken (n % 1024) (number % 1024) (n / 1024 + 1) 0 apart)) ∙ noted)
      ] refl
    ] refl

second : (a b : Bool) → (a && b) ≡ true → b ≡ true
second true b e = e
second false b e = absurd (let bad = e in cc)

pub told_was_taken : (due number : ℕ) (numbers : List ℕ) → number < 65536 → AreNumbers numbers → is_told_taken due numbers number ≡ true → list_any (λ it. it == number) numbers ≡ true
told_was_taken due number numbers small all told =
    noted_was due number numbers small all (second (is_passed (passed_behind due numbers) (Some (due_behind due numbers)) number) (is_noted (passed_behind due numbers).taken number) told)

-- what is known of one that was taken, and of those behind it
record IsKnown (due number : ℕ) (numbers : List ℕ) : Type 0 where
  noted : is_noted (passed_behind due numbers).taken number ≡ true
  counted : distance_ahead number (due_behind due numbers) ≤ (passed_behind due numbers).count
  behind : 0 < distance_ahead number (due_behind due numbers)
  soon : distance_ahead number (due_behind due numbers) ≤ 1024
  small : due_behind due numbers < 65536

due_is : (due number : ℕ) (later before : List ℕ) → due_behind due (later ++ number ∷ before) ≡ due_behind (next_sequence_number number) later
due_is due number [] before = refl
due_is due number (n ∷ later) before = refl

known : (due number : ℕ) (later before : List ℕ) → number < 65536 → AreSoonBehind number later → IsKnown due number (later ++ number ∷ before)
known due number [] before small soon =
    let taken = (passed_behind due before).taken in
    let len : length taken ≡ 1024 = places due before in
    let there : get_or (set taken (number % 1024) (number / 1024 + 1)) (number % 1024) 0 ≡ number / 1024 + 1 = get_or-set_same taken (number % 1024) (number / 1024 + 1) 0 (omega (arith, len)) in
    record { noted = grind (arith, nat_tests); counted = omega arith; behind = omega arith; soon = omega arith; small = omega arith }
known due number (n ∷ later) before small soon =
    let rest = known due number later before small soon.3 in
    let numbers = later ++ number ∷ before in
    let d = due_behind due numbers in
    let taken = (passed_behind due numbers).taken in
    let n_small : n < 65536 = soon.0 in
    let at : d ≡ due_behind (next_sequence_number number) later = due_is due number later before in
    let turn : distance_ahead number d ≤ distance_ahead number n = subst (λ (k : ℕ). distance_ahead number k ≤ distance_ahead number n) (sym at) soon.1 in
    let near : distance_ahead number n < 1024 = soon.2 in
    let d_small = rest.small in
    let first = rest.behind in
    let counted = rest.counted in
    let apart : number % 1024 ≢ n % 1024 = λ same. absurd (omega (arith, same, near, turn, first, small, n_small)) in
    let stays : get_or (set taken (n % 1024) (n / 1024 + 1)) (number % 1024) 0 ≡ get_or taken (number % 1024) 0 = get_or-set_other taken (n % 1024) (number % 1024) (n / 1024 + 1) 0 apart in
    let ahead : distance_ahead number n ≡ distance_ahead number d + distance_ahead d n = omega (arith, turn, near, small, n_small, d_small) in
    let next : distance_ahead number (next_sequence_number n) ≡ distance_ahead number n + 1 = omega (arith, near, small, n_small) in
    record {
      noted = ap (λ (k : ℕ). k == number / 1024 + 1) stays ∙ rest.noted;
      counted = omega (arith, next, ahead, near, counted);
      behind = omega (arith, next);
      soon = omega (arith, next, near);
      small = omega arith;
    }

pub taken_is_told : (due number : ℕ) (later before : List ℕ) → number < 65536 → AreSoonBehind number later → is_told_taken due (later ++ number ∷ before) number ≡ true
taken_is_told due number later before small soon =
    let it = known due number later before small soon in
    let numbers = later ++ number ∷ before in
    let d = due_behind due numbers in
    let behind = it.behind in
    let counted = it.counted in
    let some : nat_lt 0 (distance_ahead number d) ≡ true = grind (arith, nat_tests) in
    let most : nat_le (distance_ahead number d) (passed_behind due numbers).count ≡ true = grind (arith, nat_tests) in
    ap (λ (b : Bool). (b && nat_le (distance_ahead number d) (passed_behind due numbers).count) && is_noted (passed_behind due numbers).taken number) some
    ∙ ap (λ (b : Bool). b && is_noted (passed_behind due numbers).taken number) most
    ∙ it.noted
