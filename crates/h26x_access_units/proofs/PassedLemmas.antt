-- Arrivals of packets that went stay until they stand first.
use Rattle.std.proofs.Common.{◌≡◌, ◌∙◌, ap, sym, subst, refl, ℕ, ◌+◌, ◌<◌, ◌≤◌, Bool, true, false, List, [], ◌∷◌, ◌++◌, drop, append_assoc, Option, Some, arith}
use Rattle.std.specs.Prelude.{◌==◌, ◌||◌, nat_lt}
use Rattle.std.specs.List.{AllByRecursion}
use Rattle.std.proofs.lemmas.Bool.Decides.{nat_tests}
use Rattle.h26x_core.specs.Sequence.{distance_ahead, next_sequence_number, is_late}
use Rattle.h26x_reorder.specs.Rtp.{RtpBody}
use Rattle.h26x_reorder.specs.ReorderBuffer.{put_packet, is_number_held, AreHeldInOrder}
use Rattle.h26x_access_units.specs.declared.arrival.Arrival.{Arrival}
use Rattle.h26x_access_units.specs.Arrival.{arrival_of, without_number, not_passed, deadline_of, has_waited, IsArrivalKept, AreArrivalsKept, HaveOwnNumbers, is_first_passed, IsEndOf, IsRoomMade, IsLetGo}

-- the first that waits stands first
pub first_deadline : (due : Option ℕ) (arrivals : List Arrival) (wait : ℕ) → is_first_passed due arrivals ≡ false → deadline_of wait arrivals ≡ deadline_of wait (not_passed due arrivals)
first_deadline due [] wait first = refl
first_deadline due (a ∷ arrivals) wait first = rw first refl

pub first_has_waited : (due : Option ℕ) (arrivals : List Arrival) (wait now : ℕ) → is_first_passed due arrivals ≡ false → has_waited wait now arrivals ≡ has_waited wait now (not_passed due arrivals)
first_has_waited due [] wait now first = refl
first_has_waited due (a ∷ arrivals) wait now first = rw first refl

-- one that comes waits behind the others
pub one_waits : (due : Option ℕ) (arrivals : List Arrival) (a : Arrival) → is_late due a.number ≡ false → not_passed due (arrivals ++ a ∷ []) ≡ not_passed due arrivals ++ a ∷ []
one_waits due [] a early = rw early refl
one_waits due (b ∷ arrivals) a early =
    elim (is_late due b.number) as (λ t. is_late due b.number ≡ t → not_passed due ((b ∷ arrivals) ++ a ∷ []) ≡ not_passed due (b ∷ arrivals) ++ a ∷ []) [
      | true ↦ λ e. rw e (one_waits due arrivals a early)
      | false ↦ λ e. rw e (ap (λ (l : List Arrival). b ∷ l) (one_waits due arrivals a early))
    ] refl

pub first_stays : (due : Option ℕ) (arrivals : List Arrival) (a : Arrival) → is_late due a.number ≡ false → is_first_passed due arrivals ≡ false → is_first_passed due (arrivals ++ a ∷ []) ≡ false
first_stays due [] a early first = early
first_stays due (b ∷ arrivals) a early first = first

-- a number that is held is held with one more
true_or : (a b : Bool) → a ≡ true → (a || b) ≡ true
true_or true b e = refl
true_or false b e = absurd (let bad = e in cc)

or_true : (a b : Bool) → b ≡ true → (a || b) ≡ true
or_true true b e = refl
or_true false b e = e

pub put_holds : (due number : ℕ) (p : ℕ × RtpBody) (held : List (ℕ × RtpBody)) → is_number_held number held ≡ true → is_number_held number (put_packet due p held) ≡ true
put_holds due number p [] is = absurd (let bad = is in cc)
put_holds due number p (q ∷ held) is =
    elim (nat_lt (distance_ahead due p.0) (distance_ahead due q.0)) as (λ b. nat_lt (distance_ahead due p.0) (distance_ahead due q.0) ≡ b → is_number_held number (put_packet due p (q ∷ held)) ≡ true) [
      | true ↦ λ e. rw e (or_true (p.0 == number) ((q.0 == number) || is_number_held number held) is)
      | false ↦ λ e. elim (p.0 == q.0) as (λ b. (p.0 == q.0) ≡ b → is_number_held number (put_packet due p (q ∷ held)) ≡ true) [
        | true ↦ λ s. rw (e, s) is
        | false ↦ λ s. rw (e, s) (elim (q.0 == number) as (λ b. (b || is_number_held number held) ≡ true → (b || is_number_held number (put_packet due p held)) ≡ true) [
          | true ↦ λ h. refl
          | false ↦ λ h. put_holds due number p held h
        ] is)
      ] refl
    ] refl

pub put_holds_it : (due : ℕ) (p : ℕ × RtpBody) (held : List (ℕ × RtpBody)) → is_number_held p.0 (put_packet due p held) ≡ true
put_holds_it due p [] = let same : (p.0 == p.0) ≡ true = grind (arith, nat_tests) in rw same refl
put_holds_it due p (q ∷ held) =
    elim (nat_lt (distance_ahead due p.0) (distance_ahead due q.0)) as (λ b. nat_lt (distance_ahead due p.0) (distance_ahead due q.0) ≡ b → is_number_held p.0 (put_packet due p (q ∷ held)) ≡ true) [
      | true ↦ λ e. let same : (p.0 == p.0) ≡ true = grind (arith, nat_tests) in rw (e, same) refl
      | false ↦ λ e. elim (p.0 == q.0) as (λ b. (p.0 == q.0) ≡ b → is_number_held p.0 (put_packet due p (q ∷ held)) ≡ true) [
        | true ↦ λ s. let same : (q.0 == p.0) ≡ true = grind (arith, nat_tests) in rw (e, s) (true_or (q.0 == p.0) (is_number_held p.0 held) same)
        | false ↦ λ s. rw (e, s) (or_true (q.0 == p.0) (is_number_held p.0 (put_packet due p held)) (put_holds_it due p held))
      ] refl
    ] refl

-- a number that isn't held is another one than one that is
other_number : (a b : ℕ) (held : List (ℕ × RtpBody)) → is_number_held a held ≡ true → is_number_held b held ≡ false → a ≡ b → ⊥
other_number a b held is not_it same = absurd (let bad = sym is ∙ ap (λ (n : ℕ). is_number_held n held) same ∙ not_it in cc)

-- one more arrival is kept, of a packet that is put to those held
module _ (from due now : ℕ) (p : ℕ × RtpBody) (held : List (ℕ × RtpBody)) (small : p.0 < 65536) (early : is_late (Some due) p.0 ≡ false) (new : is_number_held p.0 held ≡ false) where
  abbrev with : List Arrival → List Arrival
  with arrivals = arrivals ++ arrival_of p.0 now ∷ []

  other : (a : Arrival) → IsArrivalKept from due held a → a.number ≡ p.0 → ⊥
  other a kept same =
      let early_too : is_late (Some due) a.number ≡ false = ap (λ (n : ℕ). is_late (Some due) n) same ∙ early in
      other_number a.number p.0 held (kept.waits early_too) new same

  kept_with : (a : Arrival) → IsArrivalKept from due held a → IsArrivalKept from due (put_packet due p held) a
  kept_with a kept = record {
    small = kept.small;
    waits = λ e. put_holds due a.number p held (kept.waits e);
    passed = kept.passed;
  }

  itself : IsArrivalKept from due (put_packet due p held) (arrival_of p.0 now)
  itself = record {
    small = small;
    waits = λ e. put_holds_it due p held;
    passed = λ late. absurd (let bad = sym late ∙ early in cc);
  }

  each_with : (arrivals : List Arrival) → AllByRecursion (IsArrivalKept from due held) arrivals → AllByRecursion (IsArrivalKept from due (put_packet due p held)) (with arrivals)
  each_with [] all = (itself, tt)
  each_with (a ∷ arrivals) all = (kept_with a all.0, each_with arrivals all.1)

  apart_with : (number : ℕ) (arrivals : List Arrival) → (p.0 ≡ number → ⊥) → AllByRecursion (λ b. b.number ≡ number → ⊥) arrivals → AllByRecursion (λ b. b.number ≡ number → ⊥) (with arrivals)
  apart_with number [] not_it all = (not_it, tt)
  apart_with number (b ∷ arrivals) not_it all = (all.0, apart_with number arrivals not_it all.1)

  own_with : (arrivals : List Arrival) → AllByRecursion (IsArrivalKept from due held) arrivals → HaveOwnNumbers arrivals → HaveOwnNumbers (with arrivals)
  own_with [] all own = (tt, tt)
  own_with (a ∷ arrivals) all own = (apart_with a.number arrivals (λ same. other a all.0 (sym same)) own.0, own_with arrivals all.1 own.1)

  pub one_kept : (arrivals : List Arrival) → AreArrivalsKept from due held arrivals → AreArrivalsKept from due (put_packet due p held) (with arrivals)
  one_kept arrivals are = record {
    small = are.small;
    span = are.span;
    each = each_with arrivals are.each;
    own = own_with arrivals are.each are.own;
  }

-- arrivals at the end of others
pub end_kept : (from due : ℕ) (held : List (ℕ × RtpBody)) (front arrivals : List Arrival) → AreArrivalsKept from due held (front ++ arrivals) → AreArrivalsKept from due held arrivals
end_kept from due held [] arrivals are = are
end_kept from due held (a ∷ front) arrivals are = end_kept from due held front arrivals (record { small = are.small; span = are.span; each = are.each.1; own = are.own.1 })

-- one that is held behind the first is further ahead
pub further : (due from number : ℕ) (held : List (ℕ × RtpBody)) → AreHeldInOrder due from held → is_number_held number held ≡ true → (from ≤ distance_ahead due number) × (distance_ahead due number < 32768)
further due from number [] order is = absurd (let bad = is in cc)
further due from number (q ∷ held) order is =
    elim (q.0 == number) as (λ b. (q.0 == number) ≡ b → (b || is_number_held number held) ≡ true → (from ≤ distance_ahead due number) × (distance_ahead due number < 32768)) [
      | true ↦ λ s h.
          let same : q.0 ≡ number = grind (arith, nat_tests) in
          subst (λ (n : ℕ). (from ≤ distance_ahead due n) × (distance_ahead due n < 32768)) same (order.1, order.2)
      | false ↦ λ s h.
          let rest = further due (distance_ahead due q.0 + 1) number held order.3 h in
          let at = order.1 in
          (omega (arith, rest.0, at), rest.1)
    ] refl is

-- what is late by its distance
late_is : (due number : ℕ) → is_late (Some due) number ≡ true → 32768 ≤ distance_ahead due number
late_is due number e = grind (arith, nat_tests)

pub early_is : (due number : ℕ) → is_late (Some due) number ≡ false → distance_ahead due number < 32768
early_is due number e = grind (arith, nat_tests)

is_late_at : (due number : ℕ) → 32768 ≤ distance_ahead due number → is_late (Some due) number ≡ true
is_late_at due number e = grind (arith, nat_tests)

is_early_at : (due number : ℕ) → distance_ahead due number < 32768 → is_late (Some due) number ≡ false
is_early_at due number e = grind (arith, nat_tests)

-- the first packet goes, and the number behind it is due
module _ (from due : ℕ) (p : ℕ × RtpBody) (held : List (ℕ × RtpBody)) (due_small : due < 65536) (from_small : from < 65536) (order : AreHeldInOrder due 0 (p ∷ held)) (span : distance_ahead from due + distance_ahead due p.0 + 1 ≤ 32768) where
  -- what becomes of an arrival
  record Passes (a : Arrival) : Type 0 where
    late : is_late (Some due) a.number ≡ true → is_late (Some (next_sequence_number p.0)) a.number ≡ true
    itself : a.number ≡ p.0 → is_late (Some (next_sequence_number p.0)) a.number ≡ true
    other : is_late (Some due) a.number ≡ false → (a.number == p.0) ≡ false → is_late (Some (next_sequence_number p.0)) a.number ≡ false
    kept : IsArrivalKept from (next_sequence_number p.0) held a

  rest_held : (a : Arrival) → (a.number == p.0) ≡ false → is_number_held a.number (p ∷ held) ≡ true → is_number_held a.number held ≡ true
  rest_held a other is =
      let not_it : (p.0 == a.number) ≡ false = grind (arith, nat_tests) in
      rw not_it at is

  late_stays : (n : ℕ) → n < 65536 → 32768 ≤ distance_ahead due n → distance_ahead n due ≤ distance_ahead from due → 32768 ≤ distance_ahead (next_sequence_number p.0) n
  late_stays n small far near = let one = order.0 in omega arith

  late_near : (n : ℕ) → n < 65536 → 32768 ≤ distance_ahead due n → distance_ahead n due ≤ distance_ahead from due → distance_ahead n (next_sequence_number p.0) ≤ distance_ahead from (next_sequence_number p.0)
  late_near n small far near = let one = order.0 in omega arith

  itself_late : (n : ℕ) → n ≡ p.0 → 32768 ≤ distance_ahead (next_sequence_number p.0) n
  itself_late n same = let one = order.0 in omega arith

  itself_near : (n : ℕ) → n ≡ p.0 → distance_ahead n (next_sequence_number p.0) ≤ distance_ahead from (next_sequence_number p.0)
  itself_near n same = let one = order.0 in omega arith

  early_stays : (n : ℕ) → n < 65536 → distance_ahead due p.0 + 1 ≤ distance_ahead due n → distance_ahead due n < 32768 → distance_ahead (next_sequence_number p.0) n < 32768
  early_stays n small behind near = let one = order.0 in omega arith

  passes : (a : Arrival) → IsArrivalKept from due (p ∷ held) a → Passes a
  passes a kept =
      let n = a.number in
      let next = next_sequence_number p.0 in
      let late : is_late (Some due) n ≡ true → is_late (Some next) n ≡ true = λ l. is_late_at next n (late_stays n kept.small (late_is due n l) (kept.passed l)) in
      let itself : n ≡ p.0 → is_late (Some next) n ≡ true = λ same. is_late_at next n (itself_late n same) in
      let other : is_late (Some due) n ≡ false → (n == p.0) ≡ false → is_late (Some next) n ≡ false = λ e not_it.
      let at = further due (distance_ahead due p.0 + 1) n held order.3 (rest_held a not_it (kept.waits e)) in
      is_early_at next n (early_stays n kept.small at.0 at.1) in
      record {
        late = late;
        itself = itself;
        other = other;
        kept = record {
          small = kept.small;
          waits = λ e. elim (is_late (Some due) n) as (λ t. is_late (Some due) n ≡ t → is_number_held n held ≡ true) [
            | true ↦ λ l. absurd (let bad = sym (late l) ∙ e in cc)
            | false ↦ λ l. elim (n == p.0) as (λ t. (n == p.0) ≡ t → is_number_held n held ≡ true) [
              | true ↦ λ s. absurd (let same : n ≡ p.0 = grind (arith, nat_tests) in let bad = sym (itself same) ∙ e in cc)
              | false ↦ λ s. rest_held a s (kept.waits l)
            ] refl
          ] refl;
          passed = λ e. elim (is_late (Some due) n) as (λ t. is_late (Some due) n ≡ t → distance_ahead n next ≤ distance_ahead from next) [
            | true ↦ λ l. late_near n kept.small (late_is due n l) (kept.passed l)
            | false ↦ λ l. elim (n == p.0) as (λ t. (n == p.0) ≡ t → distance_ahead n next ≤ distance_ahead from next) [
              | true ↦ λ s. itself_near n (grind (arith, nat_tests))
              | false ↦ λ s. absurd (let bad = sym (other l s) ∙ e in cc)
            ] refl
          ] refl;
        };
      }

  each_passes : (arrivals : List Arrival) → AllByRecursion (IsArrivalKept from due (p ∷ held)) arrivals → AllByRecursion (IsArrivalKept from (next_sequence_number p.0) held) arrivals
  each_passes [] all = tt
  each_passes (a ∷ arrivals) all = ((passes a all.0).kept, each_passes arrivals all.1)

  pub first_passed : (arrivals : List Arrival) → AreArrivalsKept from due (p ∷ held) arrivals → AreArrivalsKept from (next_sequence_number p.0) held arrivals
  first_passed arrivals are = record {
    small = are.small;
    span = let one = order.0 in omega arith;
    each = each_passes arrivals are.each;
    own = are.own;
  }

  -- where none is of its number the same wait
  same_wait : (arrivals : List Arrival) → AllByRecursion (IsArrivalKept from due (p ∷ held)) arrivals → AllByRecursion (λ b. b.number ≡ p.0 → ⊥) arrivals →
      not_passed (Some (next_sequence_number p.0)) arrivals ≡ not_passed (Some due) arrivals
  same_wait [] all not_it = refl
  same_wait (a ∷ arrivals) all not_it =
      let it = passes a all.0 in
      let rest = same_wait arrivals all.1 not_it.1 in
      let other : (a.number == p.0) ≡ false = grind (arith, nat_tests, not_it.0) in
      elim (is_late (Some due) a.number) as (λ t. is_late (Some due) a.number ≡ t → not_passed (Some (next_sequence_number p.0)) (a ∷ arrivals) ≡ not_passed (Some due) (a ∷ arrivals)) [
        | true ↦ λ l. rw (l, it.late l) rest
        | false ↦ λ l. rw (l, it.other l other) (ap (λ (r : List Arrival). a ∷ r) rest)
      ] refl

  pub first_waits_no_more : (arrivals : List Arrival) → AllByRecursion (IsArrivalKept from due (p ∷ held)) arrivals → HaveOwnNumbers arrivals →
      not_passed (Some (next_sequence_number p.0)) arrivals ≡ without_number p.0 (not_passed (Some due) arrivals)
  first_waits_no_more [] all own = refl
  first_waits_no_more (a ∷ arrivals) all own =
      let it = passes a all.0 in
      let rest = first_waits_no_more arrivals all.1 own.1 in
      elim (is_late (Some due) a.number) as (λ t. is_late (Some due) a.number ≡ t → not_passed (Some (next_sequence_number p.0)) (a ∷ arrivals) ≡ without_number p.0 (not_passed (Some due) (a ∷ arrivals))) [
        | true ↦ λ l. rw (l, it.late l) rest
        | false ↦ λ l. elim (a.number == p.0) as (λ t. (a.number == p.0) ≡ t → not_passed (Some (next_sequence_number p.0)) (a ∷ arrivals) ≡ without_number p.0 (not_passed (Some due) (a ∷ arrivals))) [
          | true ↦ λ s.
              let same : a.number ≡ p.0 = grind (arith, nat_tests) in
              rw (l, s, it.itself same) (same_wait arrivals all.1 (subst (λ (n : ℕ). AllByRecursion (λ b. b.number ≡ n → ⊥) arrivals) same own.0))
          | false ↦ λ s. rw (l, s, it.other l s) (ap (λ (r : List Arrival). a ∷ r) rest)
        ] refl
      ] refl

-- arrivals of packets that went are dropped
module _ (from due : ℕ) (held : List (ℕ × RtpBody)) (due_small : due < 65536) where
  pub dropped_again : (arrivals : List Arrival) → not_passed (Some due) (not_passed (Some due) arrivals) ≡ not_passed (Some due) arrivals
  dropped_again [] = refl
  dropped_again (a ∷ arrivals) =
      elim (is_late (Some due) a.number) as (λ t. is_late (Some due) a.number ≡ t → not_passed (Some due) (not_passed (Some due) (a ∷ arrivals)) ≡ not_passed (Some due) (a ∷ arrivals)) [
        | true ↦ λ l. rw l (dropped_again arrivals)
        | false ↦ λ l. rw l (rw l (ap (λ (r : List Arrival). a ∷ r) (dropped_again arrivals)))
      ] refl

  each_waits : (arrivals : List Arrival) → AllByRecursion (IsArrivalKept from due held) arrivals → AllByRecursion (IsArrivalKept due due held) (not_passed (Some due) arrivals)
  each_waits [] all = tt
  each_waits (a ∷ arrivals) all =
      elim (is_late (Some due) a.number) as (λ t. is_late (Some due) a.number ≡ t → AllByRecursion (IsArrivalKept due due held) (not_passed (Some due) (a ∷ arrivals))) [
        | true ↦ λ l. rw l (each_waits arrivals all.1)
        | false ↦ λ l. rw l (record { small = all.0.small; waits = all.0.waits; passed = λ late. absurd (let bad = sym late ∙ l in cc) }, each_waits arrivals all.1)
      ] refl

  apart_waits : (number : ℕ) (arrivals : List Arrival) → AllByRecursion (λ b. b.number ≡ number → ⊥) arrivals → AllByRecursion (λ b. b.number ≡ number → ⊥) (not_passed (Some due) arrivals)
  apart_waits number [] all = tt
  apart_waits number (a ∷ arrivals) all =
      elim (is_late (Some due) a.number) as (λ t. is_late (Some due) a.number ≡ t → AllByRecursion (λ b. b.number ≡ number → ⊥) (not_passed (Some due) (a ∷ arrivals))) [
        | true ↦ λ l. rw l (apart_waits number arrivals all.1)
        | false ↦ λ l. rw l (all.0, apart_waits number arrivals all.1)
      ] refl

  own_waits : (arrivals : List Arrival) → HaveOwnNumbers arrivals → HaveOwnNumbers (not_passed (Some due) arrivals)
  own_waits [] own = tt
  own_waits (a ∷ arrivals) own =
      elim (is_late (Some due) a.number) as (λ t. is_late (Some due) a.number ≡ t → HaveOwnNumbers (not_passed (Some due) (a ∷ arrivals))) [
        | true ↦ λ l. rw l (own_waits arrivals own.1)
        | false ↦ λ l. rw l (apart_waits a.number arrivals own.0, own_waits arrivals own.1)
      ] refl

  pub dropped_kept : (arrivals : List Arrival) → AreArrivalsKept from due held arrivals → AreArrivalsKept due due held (not_passed (Some due) arrivals)
  dropped_kept arrivals are = record {
    small = due_small;
    span = omega arith;
    each = each_waits arrivals are.each;
    own = own_waits arrivals are.own;
  }

-- without the first, which went, the same wait
pub front_goes : (due : Option ℕ) (arrivals rest : List Arrival) → is_first_passed due arrivals ≡ true → rest ≡ drop 1 arrivals → not_passed due rest ≡ not_passed due arrivals
front_goes due [] rest late is = absurd (let bad = late in cc)
front_goes due (a ∷ arrivals) rest late is = ap (not_passed due) is ∙ rw late refl

pub front_ends : (due : Option ℕ) (whole arrivals rest : List Arrival) → is_first_passed due arrivals ≡ true → rest ≡ drop 1 arrivals → IsEndOf whole arrivals → IsEndOf whole rest
front_ends due whole [] rest late is end = absurd (let bad = late in cc)
front_ends due whole (a ∷ arrivals) rest late is end =
    (end.0 ++ a ∷ [], end.1 ∙ sym (append_assoc end.0 (a ∷ []) arrivals) ∙ ap (λ (l : List Arrival). (end.0 ++ a ∷ []) ++ l) (sym is))

-- the first goes, and those that went before the first that waits
pub goes : (from since due number : ℕ) (old made new : List Arrival) → due < 65536 → IsRoomMade from due number old since made →
    not_passed (Some (next_sequence_number number)) new ≡ not_passed (Some (next_sequence_number number)) made →
    is_first_passed (Some (next_sequence_number number)) new ≡ false → IsEndOf made new → IsLetGo from due number old since new
goes from since due number old made new small room waits first end = record {
  first = first;
  waits = λ body held order are.
      let there = room.kept ((number, body) ∷ held) are in
      waits
      ∙ first_waits_no_more since due (number, body) held small there.small order room.room made there.each there.own
      ∙ ap (without_number number) room.waits;
  kept = λ body held order are.
      let there = room.kept ((number, body) ∷ held) are in
      let passed = first_passed since due (number, body) held small there.small order room.room made there in
      end_kept since (next_sequence_number number) held end.0 new (subst (AreArrivalsKept since (next_sequence_number number) held) end.1 passed);
}

-- where those that went are dropped there is room
pub room_made : (from due number : ℕ) (old made : List Arrival) → due < 65536 → distance_ahead due number < 32768 → made ≡ not_passed (Some due) old → IsRoomMade from due number old due made
room_made from due number old made small near is = record {
  room = omega arith;
  waits = ap (not_passed (Some due)) is ∙ dropped_again from due [] small old;
  kept = λ held are. subst (AreArrivalsKept due due held) (sym is) (dropped_kept from due held small old are);
}
