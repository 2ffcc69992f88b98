-- Places that come reordered within a window, without far jumps, have gaps shorter than half of the numbers' circle.
use Rattle.std.proofs.Common.{◌≡◌, ℕ, ◌+◌, ◌<◌, ◌≤◌, true, false, cond, List, [], ◌∷◌, Option, None, Some, refl, ap, ◌∙◌, arith}
use Rattle.std.specs.Prelude.{◌==◌, nat_lt, max}
use Rattle.std.proofs.lemmas.Bool.Decides.{nat_tests}
use Rattle.h26x_receiver.specs.Delivery.{AreNextPlaces}
use Rattle.h26x_reorder.specs.Reordering.{put, puts, in_order, due_after, AreWithinWindow, AreJumpsShort, IsReordered}

-- the last of places in order is behind the one expected
due_ge : (q : ℕ) (places : List ℕ) → AreNextPlaces (Some q) places → q ≤ due_after q places
due_ge q [] next = omega arith
due_ge q (x ∷ places) next =
    let low : q ≤ x = next.0.0 in
    let rest = due_ge (x + 1) places next.1 in omega (arith, rest)

-- places in order with one more that is not far ahead of the last
record IsPutNext (e : Option ℕ) (q p : ℕ) (places new : List ℕ) : Type 0 where
  next : AreNextPlaces e new
  due : due_after q new ≡ max (due_after q places) (p + 1)

put_from : (q p : ℕ) (places : List ℕ) → AreNextPlaces (Some q) places → q ≤ p → p < due_after q places + 32768 → IsPutNext (Some q) q p places (put p places)
put_from q p [] next low near = record { next = ((low, near), tt); due = omega arith }
put_from q p (x ∷ places) next low near =
    let from : q ≤ x = next.0.0 in
    let short : x < q + 32768 = next.0.1 in
    let behind = due_ge (x + 1) places next.1 in
    elim (nat_lt p x) as (λ b. nat_lt p x ≡ b → IsPutNext (Some q) q p (x ∷ places) (cond b (p ∷ x ∷ places) (cond (p == x) (x ∷ places) (x ∷ put p places)))) [
      | true ↦ λ is.
          let before : p < x = grind (arith, nat_tests) in
          record { next = ((low, omega arith), ((omega arith, omega arith), next.1)); due = omega (arith, behind, before) }
      | false ↦ λ is. elim (p == x) as (λ b. (p == x) ≡ b → IsPutNext (Some q) q p (x ∷ places) (cond b (x ∷ places) (x ∷ put p places))) [
        | true ↦ λ at.
            let same : p ≡ x = grind (arith, nat_tests) in
            record { next = next; due = omega (arith, behind, same) }
        | false ↦ λ at.
            let later : x + 1 ≤ p = grind (arith, nat_tests) in
            let rest = put_from (x + 1) p places next.1 later near in
            record { next = (next.0, rest.next); due = rest.due }
      ] refl
    ] refl

-- the same where any may be the first
put_any : (window p n : ℕ) (places : List ℕ) → window ≤ 16384 → AreNextPlaces None places → due_after 0 places ≡ n → 0 < n → n < p + window + 1 → p + window ≤ n + 16384 → IsPutNext None 0 p places (put p places)
put_any window p n [] half next due some near short = absurd (let none : 0 ≡ n = due in omega (arith, none))
put_any window p n (x ∷ places) half next due some near short =
    let behind = due_ge (x + 1) places next.1 in
    let last : due_after (x + 1) places ≡ n = due in
    elim (nat_lt p x) as (λ b. nat_lt p x ≡ b → IsPutNext None 0 p (x ∷ places) (cond b (p ∷ x ∷ places) (cond (p == x) (x ∷ places) (x ∷ put p places)))) [
      | true ↦ λ is.
          let before : p < x = grind (arith, nat_tests) in
          record { next = (tt, ((omega arith, omega (arith, behind, last, near, half)), next.1)); due = omega (arith, behind, before) }
      | false ↦ λ is. elim (p == x) as (λ b. (p == x) ≡ b → IsPutNext None 0 p (x ∷ places) (cond b (x ∷ places) (x ∷ put p places))) [
        | true ↦ λ at.
            let same : p ≡ x = grind (arith, nat_tests) in
            record { next = next; due = omega (arith, behind, same) }
        | false ↦ λ at.
            let later : x + 1 ≤ p = grind (arith, nat_tests) in
            let rest = put_from (x + 1) p places next.1 later (omega (arith, last, short)) in
            record { next = (tt, rest.next); due = rest.due }
      ] refl
    ] refl

puts_next : (window n : ℕ) (held places : List ℕ) → window ≤ 16384 → AreNextPlaces None held → due_after 0 held ≡ n → 0 < n → AreWithinWindow window n places → AreJumpsShort window n places →
    AreNextPlaces None (puts places held)
puts_next window n held [] half next due some within short = next
puts_next window n held (p ∷ places) half next due some within short =
    let one = put_any window p n held half next due some within.0 short.0 in
    puts_next window (max n (p + 1)) (put p held) places half one.next (one.due ∙ ap (λ (m : ℕ). max m (p + 1)) due) (omega (arith, some)) within.1 short.1

-- so of what a network brings
pub gaps_short : (window : ℕ) (places : List ℕ) → window ≤ 16384 → IsReordered window places → AreNextPlaces None (in_order places)
gaps_short window [] half near = tt
gaps_short window (p ∷ places) half near = puts_next window (p + 1) (p ∷ []) places half (tt, tt) refl (omega arith) near.0 near.1
