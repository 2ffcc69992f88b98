-- Missing numbers that are asked for again, one after the other.
use Rattle.std.proofs.Common.{◌≡◌, ◌∙◌, ap, sym, subst, refl, ⊎_elim, ◌⊎◌, ℕ, ◌+◌, ◌-◌, ◌<◌, ◌≤◌, true, false, if◌then◌else◌, List, [], ◌∷◌, ◌++◌, length, get_or, drop, append_assoc, append-nil, arith}
use Rattle.std.specs.Prelude.{suc, ◌&&◌, nat_lt, take}
use Rattle.std.proofs.Math.Seq.{take-nil}
use Rattle.std.proofs.lemmas.List.{at_drop_more, length-append}
use Rattle.std.proofs.lemmas.Bool.Decides.{nat_tests}
use Rattle.h26x_access_units.specs.declared.nacks.Nack.{Nack}
use Rattle.h26x_access_units.specs.declared.nacks.NackTimes.{NackTimes}
use Rattle.h26x_access_units.specs.Nacks.{from_number, nack_of, nacks_now, is_nack_due, numbers_due, asked_at, nacks_asked}

-- a number more is missing
pub one_more : (now number place : ℕ) (missing : List ℕ) (known from : List Nack) (d : ℕ) → place < length missing → number ≡ get_or missing place d → from ≡ from_number number known →
    nacks_now now known (drop place missing) ≡ nack_of now number from ∷ nacks_now now from (drop (place + 1) missing)
one_more now number place missing known from d in_range is rest =
    at_drop_more (nacks_now now known) missing place d in_range
    ∙ ap (λ (n : ℕ). nack_of now n (from_number n known) ∷ nacks_now now (from_number n known) (drop (place + 1) missing)) (sym is)
    ∙ ap (λ (k : List Nack). nack_of now number k ∷ nacks_now now k (drop (place + 1) missing)) (sym rest)

-- what is known of numbers so far, and which of them are asked for, where the rest is to come and so many
-- more may be asked for
pub record AreSoFar (times : NackTimes) (now most : ℕ) (all rest known : List Nack) (numbers : List ℕ) (room : ℕ) : Type 0 where
  pub room_is : length numbers + room ≡ most
  pub known_is : known ++ nacks_asked times now room rest ≡ nacks_asked times now most all
  pub asked : numbers ++ take room (numbers_due times now rest) ≡ take most (numbers_due times now all)

-- one that isn't due stays as it is
pub one_left : (times : NackTimes) (now most : ℕ) (all rest known : List Nack) (numbers : List ℕ) (room : ℕ) (n : Nack) → is_nack_due times now n ≡ false →
    AreSoFar times now most all (n ∷ rest) known numbers room → AreSoFar times now most all rest (known ++ n ∷ []) numbers room
one_left times now most all rest known numbers room n due it =
    let stays : nacks_asked times now room (n ∷ rest) ≡ n ∷ nacks_asked times now room rest = rw due refl in
    let none : numbers_due times now (n ∷ rest) ≡ numbers_due times now rest = rw due refl in
    record {
      room_is = it.room_is;
      known_is = append_assoc known (n ∷ []) (nacks_asked times now room rest) ∙ ap (λ (l : List Nack). known ++ l) (sym stays) ∙ it.known_is;
      asked = ap (λ (l : List ℕ). numbers ++ take room l) (sym none) ∙ it.asked;
    }

-- so where there is no room
pub none_left : (times : NackTimes) (now most : ℕ) (all rest known : List Nack) (numbers : List ℕ) (n : Nack) →
    AreSoFar times now most all (n ∷ rest) known numbers 0 → AreSoFar times now most all rest (known ++ n ∷ []) numbers 0
none_left times now most all rest known numbers n it =
    let stays : nacks_asked times now 0 (n ∷ rest) ≡ n ∷ nacks_asked times now 0 rest = elim (is_nack_due times now n) as (λ b. (if b && nat_lt 0 0 then asked_at now n ∷ nacks_asked times now (0 - 1) rest else n ∷ nacks_asked times now 0 rest) ≡ n ∷ nacks_asked times now 0 rest) [
      | true ↦ refl
      | false ↦ refl
    ] in
    record {
      room_is = it.room_is;
      known_is = append_assoc known (n ∷ []) (nacks_asked times now 0 rest) ∙ ap (λ (l : List Nack). known ++ l) (sym stays) ∙ it.known_is;
      asked = it.asked;
    }

-- one that is due is asked for where there is room
pub one_asked : (times : NackTimes) (now most : ℕ) (all rest known : List Nack) (numbers : List ℕ) (room : ℕ) (n : Nack) → is_nack_due times now n ≡ true →
    AreSoFar times now most all (n ∷ rest) known numbers (suc room) → AreSoFar times now most all rest (known ++ asked_at now n ∷ []) (numbers ++ n.number ∷ []) room
one_asked times now most all rest known numbers room n due it =
    let some : nat_lt 0 (suc room) ≡ true = grind (arith, nat_tests) in
    let less : suc room - 1 ≡ room = omega arith in
    let changes : nacks_asked times now (suc room) (n ∷ rest) ≡ asked_at now n ∷ nacks_asked times now room rest = rw (due, some) (ap (λ (r : ℕ). asked_at now n ∷ nacks_asked times now r rest) less) in
    let one : numbers_due times now (n ∷ rest) ≡ n.number ∷ numbers_due times now rest = rw due refl in
    record {
      room_is = let l : length (numbers ++ n.number ∷ []) ≡ length numbers + 1 = length-append numbers (n.number ∷ []) in omega (arith, l, it.room_is);
      known_is = append_assoc known (asked_at now n ∷ []) (nacks_asked times now room rest) ∙ ap (λ (l : List Nack). known ++ l) (sym changes) ∙ it.known_is;
      asked = append_assoc numbers (n.number ∷ []) (take room (numbers_due times now rest)) ∙ ap (λ (l : List ℕ). numbers ++ take (suc room) l) (sym one) ∙ it.asked;
    }

-- so with what stands then
pub left_so : (times : NackTimes) (now most : ℕ) (all rest known after : List Nack) (numbers : List ℕ) (n : Nack) → ((is_nack_due times now n ≡ false) ⊎ (most ≤ length numbers)) →
    after ≡ known ++ n ∷ [] → AreSoFar times now most all (n ∷ rest) known numbers (most - length numbers) → AreSoFar times now most all rest after numbers (most - length numbers)
left_so times now most all rest known after numbers n why is it = subst (λ (k : List Nack). AreSoFar times now most all rest k numbers (most - length numbers)) (sym is)
    (⊎_elim (λ due. one_left times now most all rest known numbers (most - length numbers) n due it) (λ full.
    let none : most - length numbers ≡ 0 = omega (arith, full) in
    subst (λ (room : ℕ). AreSoFar times now most all rest (known ++ n ∷ []) numbers room) (sym none)
    (none_left times now most all rest known numbers n (subst (λ (room : ℕ). AreSoFar times now most all (n ∷ rest) known numbers room) none it))) why)

pub asked_so : (times : NackTimes) (now most : ℕ) (all rest known after : List Nack) (numbers more : List ℕ) (n : Nack) → is_nack_due times now n ≡ true → length numbers < most →
    after ≡ known ++ asked_at now n ∷ [] → more ≡ numbers ++ n.number ∷ [] → AreSoFar times now most all (n ∷ rest) known numbers (most - length numbers) → AreSoFar times now most all rest after more (most - length more)
asked_so times now most all rest known after numbers more n due some is more_is it =
    let longer : length more ≡ length numbers + 1 = ap length more_is ∙ length-append numbers (n.number ∷ []) in
    let room_is : most - length numbers ≡ suc (most - length more) = omega (arith, some, longer) in
    subst (λ (k : List Nack). AreSoFar times now most all rest k more (most - length more)) (sym is)
    (subst (λ (l : List ℕ). AreSoFar times now most all rest (known ++ asked_at now n ∷ []) l (most - length more)) (sym more_is)
    (one_asked times now most all rest known numbers (most - length more) n due (subst (λ (room : ℕ). AreSoFar times now most all (n ∷ rest) known numbers room) room_is it)))

-- at the end nothing is to come
pub none_come : (times : NackTimes) (now most : ℕ) (all known : List Nack) (numbers : List ℕ) (room : ℕ) → AreSoFar times now most all [] known numbers room →
    (known ≡ nacks_asked times now most all) × (numbers ≡ take most (numbers_due times now all))
none_come times now most all known numbers room it = (
  sym (append-nil known) ∙ it.known_is,
  sym (append-nil numbers) ∙ ap (λ (l : List ℕ). numbers ++ l) (sym (take-nil room)) ∙ it.asked,
)
