-- The numbers that are told to be missing are exactly those that are.
use Rattle.std.proofs.Common.{◌≡◌, ◌∙◌, ap, sym, subst, refl, ℕ, zero, suc, ◌+◌, ◌-◌, ◌<◌, ◌≤◌, Bool, true, false, List, [], ◌∷◌, Option, Some, None, arith}
use Rattle.std.specs.Prelude.{◌==◌, ◌||◌, ◌&&◌, not, nat_lt}
use Rattle.std.specs.List.{list_any}
use Rattle.std.proofs.lemmas.List.Folds.{list_any-append}
use Rattle.std.proofs.lemmas.Bool.Decides.{nat_tests}
use Rattle.h26x_core.specs.Sequence.{distance_ahead, next_sequence_number}
use Rattle.h26x_reorder.specs.Rtp.{RtpBody}
use Rattle.h26x_reorder.specs.ReorderBuffer.{is_number_held, last_number, AreHeldInOrder, IsHeldInOrder}
use Rattle.h26x_reorder.proofs.BufferLemmas.{rest_in_order}
use Rattle.h26x_access_units.specs.JitterBuffer.{awaited_number}
use Rattle.h26x_access_units.specs.Missing.{numbers_from, missing_before, missing_numbers, is_before_last, AreExactlyMissing}
use Rattle.h26x_access_units.proofs.PassedLemmas.{further}

-- tests of the same
same_lt : (a b c d : ℕ) → (a < b → c < d) → (c < d → a < b) → nat_lt a b ≡ nat_lt c d
same_lt a b c d to back = elim (nat_lt a b) as (λ t. nat_lt a b ≡ t → t ≡ nat_lt c d) [
  | true ↦ λ e.
      let lt : a < b = grind (arith, nat_tests) in
      let there : c < d = to lt in
      let is : nat_lt c d ≡ true = grind (arith, nat_tests) in
      sym is
  | false ↦ λ e. elim (nat_lt c d) as (λ t. nat_lt c d ≡ t → false ≡ t) [
    | true ↦ λ h.
        let there : c < d = grind (arith, nat_tests) in
        let lt : a < b = back there in
        let is : nat_lt a b ≡ true = grind (arith, nat_tests) in
        absurd (let bad = sym is ∙ e in cc)
    | false ↦ λ h. refl
  ] refl
] refl

-- a number is among so many from one on where it is less than so many ahead
among_from : (due count n : ℕ) → due < 65536 → n < 65536 → count ≤ 65536 → list_any (λ it. it == n) (numbers_from due count) ≡ nat_lt (distance_ahead due n) count
among_from due zero n d s le = let is : nat_lt (distance_ahead due n) 0 ≡ false = grind (arith, nat_tests) in sym is
among_from due (suc count) n d s le =
    let next = next_sequence_number due in
    elim (due == n) as (λ b. (due == n) ≡ b → (b || list_any (λ it. it == n) (numbers_from next count)) ≡ nat_lt (distance_ahead due n) (suc count)) [
      | true ↦ λ e.
          let same : due ≡ n = grind (arith, nat_tests) in
          let near : distance_ahead due n < suc count = omega (arith, same) in
          let is : nat_lt (distance_ahead due n) (suc count) ≡ true = grind (arith, nat_tests) in
          sym is
      | false ↦ λ e.
          let rest = among_from next count n (omega arith) s (omega arith) in
          rest ∙ same_lt (distance_ahead next n) count (distance_ahead due n) (suc count)
          (λ lt. let one = further_by_one e in omega (arith, lt, one))
          (λ lt. let one = further_by_one e in omega (arith, lt, one))
    ] refl
  where
    further_by_one : (due == n) ≡ false → distance_ahead due n ≡ distance_ahead (next_sequence_number due) n + 1
    further_by_one e = elim (nat_lt due n) as (λ t. nat_lt due n ≡ t → distance_ahead due n ≡ distance_ahead (next_sequence_number due) n + 1) [
      | true ↦ λ h. let lt : due < n = grind (arith, nat_tests) in omega (arith, lt)
      | false ↦ λ h. let gt : n < due = grind (arith, nat_tests) in omega (arith, gt)
    ] refl

-- the last of packets is ahead, and less than half of the circle
last_far : (due from : ℕ) (q : ℕ × RtpBody) (held : List (ℕ × RtpBody)) → AreHeldInOrder due from (q ∷ held) →
    (last_number q.0 held < 65536) × (from ≤ distance_ahead due (last_number q.0 held)) × (distance_ahead due (last_number q.0 held) < 32768)
last_far due from q [] order = (order.0, order.1, order.2)
last_far due from q (r ∷ held) order =
    let rest = last_far due (distance_ahead due q.0 + 1) r held order.3 in
    let at = order.1 in
    (rest.0, omega (arith, rest.1, at), rest.2)

-- no nearer than the first
last_from : (due : ℕ) (p : ℕ × RtpBody) (held : List (ℕ × RtpBody)) → AreHeldInOrder due 0 (p ∷ held) → distance_ahead due p.0 ≤ distance_ahead due (last_number p.0 held)
last_from due p [] order = omega arith
last_from due p (q ∷ held) order = let rest = last_far due (distance_ahead due p.0 + 1) q held order.3 in omega (arith, rest.1)

-- a number nearer than the first isn't held
nearer_not_held : (due n : ℕ) (p : ℕ × RtpBody) (held : List (ℕ × RtpBody)) → AreHeldInOrder due 0 (p ∷ held) → distance_ahead due n < distance_ahead due p.0 → is_number_held n (p ∷ held) ≡ false
nearer_not_held due n p held order near = elim (is_number_held n (p ∷ held)) as (λ t. is_number_held n (p ∷ held) ≡ t → t ≡ false) [
  | true ↦ λ e. absurd (elim (p.0 == n) as (λ b. (p.0 == n) ≡ b → (b || is_number_held n held) ≡ true → ⊥) [
    | true ↦ λ s h. let same : p.0 ≡ n = grind (arith, nat_tests) in let d = ap (distance_ahead due) same in omega (arith, d, near)
    | false ↦ λ s h. let far = further due (distance_ahead due p.0 + 1) n held order.3 h in omega (arith, far.0, near)
  ] refl e)
  | false ↦ λ e. refl
] refl

-- behind the first the same is before the last
last_after : (due n : ℕ) (p : ℕ × RtpBody) (held : List (ℕ × RtpBody)) → due < 65536 → n < 65536 → AreHeldInOrder due 0 (p ∷ held) → distance_ahead due p.0 < distance_ahead due n →
    nat_lt (distance_ahead (next_sequence_number p.0) n) (distance_ahead (next_sequence_number p.0) (last_number (next_sequence_number p.0) held))
    ≡ nat_lt (distance_ahead due n) (distance_ahead due (last_number p.0 held))
last_after due n p [] d s order far =
    let one = order.0 in
    let next = next_sequence_number p.0 in
    same_lt (distance_ahead next n) (distance_ahead next next) (distance_ahead due n) (distance_ahead due p.0)
    (λ lt. absurd (omega (arith, lt, one)))
    (λ lt. absurd (omega (arith, lt, far)))
last_after due n p (q ∷ held) d s order far =
    let one = order.0 in
    let near = order.2 in
    let next = next_sequence_number p.0 in
    let last = last_number q.0 held in
    let there = last_far due (distance_ahead due p.0 + 1) q held order.3 in
    let a : distance_ahead next n + distance_ahead due p.0 + 1 ≡ distance_ahead due n = omega (arith, far, one, near) in
    let b : distance_ahead next last + distance_ahead due p.0 + 1 ≡ distance_ahead due last = omega (arith, there.0, there.1, there.2, one, near) in
    same_lt (distance_ahead next n) (distance_ahead next last) (distance_ahead due n) (distance_ahead due last)
    (λ lt. omega (arith, lt, a, b))
    (λ lt. omega (arith, lt, a, b))

-- the number of the first isn't before the last of those behind it
first_gone : (due : ℕ) (p : ℕ × RtpBody) (held : List (ℕ × RtpBody)) → due < 65536 → AreHeldInOrder due 0 (p ∷ held) →
    nat_lt (distance_ahead (next_sequence_number p.0) p.0) (distance_ahead (next_sequence_number p.0) (last_number (next_sequence_number p.0) held)) ≡ false
first_gone due p [] d order =
    let one = order.0 in
    let le : distance_ahead (next_sequence_number p.0) (next_sequence_number p.0) ≤ distance_ahead (next_sequence_number p.0) p.0 = omega (arith, one) in
    grind (arith, nat_tests)
first_gone due p (q ∷ held) d order =
    let one = order.0 in
    let rest = rest_in_order (Some due) p (q ∷ held) (d, order) in
    let there = last_far (next_sequence_number p.0) 0 q held rest.1 in
    let le : distance_ahead (next_sequence_number p.0) (last_number q.0 held) ≤ distance_ahead (next_sequence_number p.0) p.0 = omega (arith, one, there.2) in
    grind (arith, nat_tests)

and_false : (a : Bool) → (a && false) ≡ false
and_false true = refl
and_false false = refl

exact : (due n : ℕ) (held : List (ℕ × RtpBody)) → due < 65536 → n < 65536 → AreHeldInOrder due 0 held →
    list_any (λ it. it == n) (missing_before due held) ≡ (is_before_last due held n && not (is_number_held n held))
exact due n [] d s order =
    let le : distance_ahead due due ≤ distance_ahead due n = omega arith in
    let e : nat_lt (distance_ahead due n) (distance_ahead due due) ≡ false = grind (arith, nat_tests) in
    rw e refl
exact due n (p ∷ held) d s order =
    let k = distance_ahead due p.0 in
    let next = next_sequence_number p.0 in
    let near = order.2 in
    let rest = exact next n held (omega arith) s (rest_in_order (Some due) p held (d, order)).1 in
    list_any-append (λ it. it == n) (numbers_from due k) (missing_before next held)
    ∙ ap (λ (b : Bool). b || list_any (λ it. it == n) (missing_before next held)) (among_from due k n d s (omega (arith, near)))
    ∙ ap (λ (b : Bool). nat_lt (distance_ahead due n) k || b) rest
    ∙ elim (nat_lt (distance_ahead due n) k) as (λ t. nat_lt (distance_ahead due n) k ≡ t →
    (t || (is_before_last next held n && not (is_number_held n held))) ≡ (is_before_last due (p ∷ held) n && not (is_number_held n (p ∷ held)))) [
      | true ↦ λ e.
          let lt : distance_ahead due n < k = grind (arith, nat_tests) in
          let from = last_from due p held order in
          let before_last : distance_ahead due n < distance_ahead due (last_number p.0 held) = omega (arith, lt, from) in
          let is : nat_lt (distance_ahead due n) (distance_ahead due (last_number p.0 held)) ≡ true = grind (arith, nat_tests) in
          let absent = nearer_not_held due n p held order lt in
          rw (is, absent) refl
      | false ↦ λ e. elim (p.0 == n) as (λ t. (p.0 == n) ≡ t →
          (is_before_last next held n && not (is_number_held n held)) ≡ (is_before_last due (p ∷ held) n && not (t || is_number_held n held))) [
            | true ↦ λ h.
                let same : p.0 ≡ n = grind (arith, nat_tests) in
                let gone : is_before_last next held n ≡ false = subst (λ (m : ℕ). is_before_last next held m ≡ false) same (first_gone due p held d order) in
                ap (λ (b : Bool). b && not (is_number_held n held)) gone ∙ sym (and_false (is_before_last due (p ∷ held) n))
            | false ↦ λ h.
                let far : k < distance_ahead due n = beyond e h in
                ap (λ (b : Bool). b && not (is_number_held n held)) (last_after due n p held d s order far)
          ] refl
    ] refl
  where
    beyond : nat_lt (distance_ahead due n) (distance_ahead due p.0) ≡ false → (p.0 == n) ≡ false → distance_ahead due p.0 < distance_ahead due n
    beyond e h =
        let one = order.0 in
        let le : distance_ahead due p.0 ≤ distance_ahead due n = grind (arith, nat_tests) in
        elim (nat_lt p.0 n) as (λ t. nat_lt p.0 n ≡ t → distance_ahead due p.0 < distance_ahead due n) [
          | true ↦ λ a. let lt : p.0 < n = grind (arith, nat_tests) in omega (arith, lt, le, one)
          | false ↦ λ a. let gt : n < p.0 = grind (arith, nat_tests) in omega (arith, gt, le, one)
        ] refl

-- so of what waits
pub exactly_missing : (due : Option ℕ) (held : List (ℕ × RtpBody)) → IsHeldInOrder due held → AreExactlyMissing due held (missing_numbers due held)
exactly_missing None held order = refl
exactly_missing (Some due) held order = λ n s. exact due n held order.0 s order.1

-- in order from one that is due, packets are so from one that is no farther than the first
in_order_from : (due near from : ℕ) (held : List (ℕ × RtpBody)) → due < 65536 → near < 65536 → distance_ahead due near ≤ from → AreHeldInOrder due from held →
    AreHeldInOrder near (from - distance_ahead due near) held
in_order_from due near from [] d n le order = tt
in_order_from due near from (p ∷ held) d n le order =
    let one = order.0 in
    let at = order.1 in
    let far = order.2 in
    let rest = in_order_from due near (distance_ahead due p.0 + 1) held d n (omega (arith, le, at)) order.3 in
    let same : distance_ahead due p.0 + 1 - distance_ahead due near ≡ distance_ahead near p.0 + 1 = omega (arith, one, at, far, le) in
    (one, omega (arith, one, at, far, le), omega (arith, one, at, far, le), subst (λ (k : ℕ). AreHeldInOrder near k held) same rest)

-- what waits is in order from the number on from which others may be missing
pub awaited_in_order : (has_begun : Bool) (due : Option ℕ) (held : List (ℕ × RtpBody)) → IsHeldInOrder due held → IsHeldInOrder (awaited_number has_begun due held) held
awaited_in_order true due held order = order
awaited_in_order false due [] order = order
awaited_in_order false None (p ∷ held) order = absurd (let bad = order in cc)
awaited_in_order false (Some due) (p ∷ held) order =
    let one = order.1.0 in
    let near = order.1.2 in
    let rest = in_order_from due p.0 (distance_ahead due p.0 + 1) held order.0 one (omega arith) order.1.3 in
    let same : distance_ahead due p.0 + 1 - distance_ahead due p.0 ≡ distance_ahead p.0 p.0 + 1 = omega (arith, one, near) in
    (one, (one, omega arith, omega (arith, one), subst (λ (k : ℕ). AreHeldInOrder p.0 k held) same rest))

-- so of numbers that are these
pub exact_of : (due : Option ℕ) (held : List (ℕ × RtpBody)) (numbers : List ℕ) → IsHeldInOrder due held → numbers ≡ missing_numbers due held → AreExactlyMissing due held numbers
exact_of due held numbers order is = subst (AreExactlyMissing due held) (sym is) (exactly_missing due held order)
