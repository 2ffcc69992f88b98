-- Packets that wait and their arrivals, where one comes and where one goes.
use Rattle.std.proofs.Common.{◌≡◌, ◌∙◌, ap, sym, subst, refl, ℕ, ◌+◌, ◌<◌, Bool, true, false, List, [], ◌∷◌, ◌++◌, length, Option, Some, None, arith}
use Rattle.std.specs.Prelude.{◌==◌, slice_get}
use Rattle.std.proofs.lemmas.Bool.Decides.{nat_tests}
use Rattle.std.specs.Option.{unwrap_or}
use Rattle.h26x_core.specs.Sequence.{next_sequence_number, is_late}
use Rattle.h26x_reorder.specs.Rtp.{RtpBody}
use Rattle.h26x_reorder.specs.ReorderBuffer.{BufferState, buffer_state, due_at, put_packet, is_number_held, goes_straight, push_answer, after_push, without_first, IsHeldInOrder}
use Rattle.h26x_reorder.specs.declared.pushed.Pushed.TheVariants as pushes
use Rattle.h26x_reorder.proofs.BufferLemmas.{order_at, put_in_order, rest_in_order, none_held, held_alone}
use Rattle.h26x_access_units.specs.declared.arrival.Arrival.{Arrival}
use Rattle.h26x_access_units.specs.Arrival.{arrival_of, without_number, not_passed, is_first_passed, from_at, AreArrivals, IsLetGo}
use Rattle.h26x_access_units.proofs.PassedLemmas.{one_waits, first_stays, one_kept, early_is}
use Rattle.h26x_access_units.specs.JitterBuffer.{held_bytes, without_arrival_of, begun_with}

-- a packet that is held is neither late nor held before
pub held_is : (b : BufferState RtpBody) (number : ℕ) → push_answer b number ≡ pushes.Held →
    (is_late (Some (due_at b.window b.due number)) number ≡ false) × (is_number_held number b.held ≡ false)
held_is b number is =
    let due = due_at b.window b.due number in
    elim (is_late (Some due) number) as (λ l. is_late (Some due) number ≡ l → (is_late (Some due) number ≡ false) × (is_number_held number b.held ≡ false)) [
      | true ↦ λ e. absurd (let bad = rw e at is in cc)
      | false ↦ λ e. elim (is_number_held number b.held) as (λ t. is_number_held number b.held ≡ t → (is_late (Some due) number ≡ false) × (is_number_held number b.held ≡ false)) [
        | true ↦ λ t. absurd (let bad = rw (e, t) at is in cc)
        | false ↦ λ t. (e, t)
      ] refl
    ] refl

-- what stands once a packet came that waits
pub record Comes (from now : ℕ) (due : Option ℕ) (arrivals : List Arrival) (p : ℕ × RtpBody) (new : BufferState RtpBody) : Type 0 where
  pub order : IsHeldInOrder new.due new.held
  pub kept : AreArrivals (from_at from new.due arrivals) new.due new.held (arrivals ++ arrival_of p.0 now ∷ [])
  pub first : is_first_passed new.due (arrivals ++ arrival_of p.0 now ∷ []) ≡ false
  pub waits : not_passed new.due (arrivals ++ arrival_of p.0 now ∷ []) ≡ not_passed due arrivals ++ arrival_of p.0 now ∷ []

comes_to : (window from now : ℕ) (due : Option ℕ) (held : List (ℕ × RtpBody)) (arrivals : List Arrival) (p : ℕ × RtpBody) → p.0 < 65536 →
    is_late (Some (due_at window due p.0)) p.0 ≡ false → is_number_held p.0 held ≡ false → IsHeldInOrder due held → AreArrivals from due held arrivals → is_first_passed due arrivals ≡ false →
    Comes from now due arrivals p (buffer_state window (Some (due_at window due p.0)) (put_packet (due_at window due p.0) p held))
comes_to window from now due held arrivals p small early absent order kept first =
    let d = due_at window due p.0 in
    let at = order_at window due p.0 held order in
    let in_order : IsHeldInOrder (Some d) (put_packet d p held) = (at.0, put_in_order d 0 p held at.0 small (omega arith) (early_is d p.0 early) at.1) in
    let none = one_kept d d now p held small early absent [] (record { small = at.0; span = omega arith; each = tt; own = tt }) in
    by due arrivals early at.0 in_order none kept first
  where
    by : (due : Option ℕ) (arrivals : List Arrival) → is_late (Some (due_at window due p.0)) p.0 ≡ false → due_at window due p.0 < 65536 →
        IsHeldInOrder (Some (due_at window due p.0)) (put_packet (due_at window due p.0) p held) →
        AreArrivals (due_at window due p.0) (Some (due_at window due p.0)) (put_packet (due_at window due p.0) p held) (arrival_of p.0 now ∷ []) →
        AreArrivals from due held arrivals → is_first_passed due arrivals ≡ false →
        Comes from now due arrivals p (buffer_state window (Some (due_at window due p.0)) (put_packet (due_at window due p.0) p held))
    by None [] early d in_order none kept first = record { order = in_order; kept = none; first = early; waits = one_waits (Some (due_at window None p.0)) [] (arrival_of p.0 now) early }
    by None (a ∷ arrivals) early d in_order none kept first = absurd (let bad = kept in cc)
    by (Some due) [] early d in_order none kept first = record { order = in_order; kept = none; first = early; waits = one_waits (Some due) [] (arrival_of p.0 now) early }
    by (Some due) (a ∷ arrivals) early d in_order none kept first = record {
      order = in_order;
      kept = one_kept from due now p held small early absent (a ∷ arrivals) kept;
      first = first_stays (Some due) (a ∷ arrivals) (arrival_of p.0 now) early first;
      waits = one_waits (Some due) (a ∷ arrivals) (arrival_of p.0 now) early;
    }

comes : (b : BufferState RtpBody) (from now : ℕ) (arrivals : List Arrival) (p : ℕ × RtpBody) → p.0 < 65536 → push_answer b p.0 ≡ pushes.Held →
    IsHeldInOrder b.due b.held → AreArrivals from b.due b.held arrivals → is_first_passed b.due arrivals ≡ false → Comes from now b.due arrivals p (after_push b p)
comes b from now arrivals p small is order kept first =
    let new = held_is b p.0 is in
    let due = due_at b.window b.due p.0 in
    let stands : after_push b p ≡ buffer_state b.window (Some due) (put_packet due p b.held) = rw new.0 refl in
    subst (Comes from now b.due arrivals p) (sym stands) (comes_to b.window from now b.due b.held arrivals p small new.0 new.1 order kept first)

-- so of a buffer, of since when, and of arrivals that are these
pub record Came (due : Option ℕ) (old : List Arrival) (now number : ℕ) (b : BufferState RtpBody) (from : ℕ) (new : List Arrival) : Type 0 where
  pub order : IsHeldInOrder b.due b.held
  pub kept : AreArrivals from b.due b.held new
  pub first : is_first_passed b.due new ≡ false
  pub waits : not_passed b.due new ≡ not_passed due old ++ arrival_of number now ∷ []

pub came : (b n : BufferState RtpBody) (from since now : ℕ) (old new : List Arrival) (p : ℕ × RtpBody) → p.0 < 65536 → push_answer b p.0 ≡ pushes.Held →
    IsHeldInOrder b.due b.held → AreArrivals from b.due b.held old → is_first_passed b.due old ≡ false →
    n ≡ after_push b p → since ≡ from_at from n.due old → new ≡ old ++ arrival_of p.0 now ∷ [] → Came b.due old now p.0 n since new
came b n from since now old new p small is order kept first stands from_is items =
    let it = subst (Comes from now b.due old p) (sym stands) (comes b from now old p small is order kept first) in
    subst (λ (l : List Arrival). Came b.due old now p.0 n since l) (sym items)
    (subst (λ (f : ℕ). Came b.due old now p.0 n f (old ++ arrival_of p.0 now ∷ [])) (sym from_is)
    (record { order = it.order; kept = it.kept; first = it.first; waits = it.waits }))

-- the number that is due once a packet came that waits
due_then : (b : BufferState RtpBody) (p : ℕ × RtpBody) → push_answer b p.0 ≡ pushes.Held → (after_push b p).due ≡ Some (due_at b.window b.due p.0)
due_then b p is = let new = held_is b p.0 is in rw new.0 refl

due_stays : (b : BufferState RtpBody) (due : ℕ) (p : ℕ × RtpBody) → b.due ≡ Some due → push_answer b p.0 ≡ pushes.Held → (after_push b p).due ≡ b.due
due_stays b due p at is = due_then b p is ∙ ap (λ (d : Option ℕ). Some (due_at b.window d p.0)) at ∙ sym at

since_stays : (from : ℕ) (due : Option ℕ) (arrivals : List Arrival) (a : Arrival) → from_at from due (arrivals ++ a ∷ []) ≡ from
since_stays from due [] a = refl
since_stays from due (b ∷ arrivals) a = refl

-- so of two packets that came one after the other
pub record BothCame (due : Option ℕ) (old : List Arrival) (now : ℕ) (p q : ℕ × RtpBody) (b : BufferState RtpBody) (from : ℕ) (new : List Arrival) : Type 0 where
  pub order : IsHeldInOrder b.due b.held
  pub kept : AreArrivals from b.due b.held new
  pub first : is_first_passed b.due new ≡ false
  pub waits : not_passed b.due new ≡ (not_passed due old ++ arrival_of p.0 now ∷ []) ++ arrival_of q.0 now ∷ []

pub both_came : (b n : BufferState RtpBody) (from since now : ℕ) (old one new : List Arrival) (p q : ℕ × RtpBody) → p.0 < 65536 → q.0 < 65536 → push_answer b p.0 ≡ pushes.Held → push_answer (after_push b p) q.0 ≡ pushes.Held →
    IsHeldInOrder b.due b.held → AreArrivals from b.due b.held old → is_first_passed b.due old ≡ false →
    n ≡ after_push (after_push b p) q → since ≡ from_at from n.due old → one ≡ old ++ arrival_of p.0 now ∷ [] → new ≡ one ++ arrival_of q.0 now ∷ [] → BothCame b.due old now p q n since new
both_came b n from since now old one new p q p_small q_small p_held q_held order kept first stands from_is one_is items =
    let m = after_push b p in
    let at = due_then b p p_held in
    let due : n.due ≡ m.due = ap (λ (x : BufferState RtpBody). x.due) stands ∙ due_stays m (due_at b.window b.due p.0) q at q_held in
    let then = from_at from m.due old in
    let f = came b m from then now old one p p_small p_held order kept first refl refl one_is in
    let same : since ≡ then = from_is ∙ ap (λ (d : Option ℕ). from_at from d old) due in
    let later : since ≡ from_at then n.due one = same ∙ sym (ap (from_at then n.due) one_is ∙ since_stays then n.due old (arrival_of p.0 now)) in
    let s = came m n then since now one new q q_small q_held f.order f.kept f.first stands later items in
    record { order = s.order; kept = s.kept; first = s.first; waits = s.waits ∙ ap (λ (l : List Arrival). l ++ arrival_of q.0 now ∷ []) f.waits }

-- where the first of packets went the stream has begun
pub begun_first : (held : List (ℕ × RtpBody)) (has_begun : Bool) (p : ℕ × RtpBody) → slice_get held 0 ≡ Some p → begun_with held has_begun ≡ true
begun_first [] has_begun p is = absurd (let bad = is in cc)
begun_first (q ∷ held) has_begun p is = refl

-- so where one went straight
pub begun_straight : (b : BufferState RtpBody) (has_begun : Bool) (number : ℕ) (body : RtpBody) → number < 65536 → goes_straight b number ≡ true → begun_with (after_push b (number, body)).held has_begun ≡ true
begun_straight b has_begun number body small is = ap (λ (x : BufferState RtpBody). begun_with x.held has_begun) (held_alone b number body small is)

-- what stands once the first packet went
pub record Went (b : BufferState RtpBody) (p : ℕ × RtpBody) : Type 0 where
  pub held : b.held ≡ p ∷ (without_first b).held
  pub due : (without_first b).due ≡ Some (next_sequence_number p.0)
  pub window : (without_first b).window ≡ b.window

pub first_went : (b : BufferState RtpBody) (p : ℕ × RtpBody) → slice_get b.held 0 ≡ Some p → Went b p
first_went b p is = by b.held is
  where
    by : (held : List (ℕ × RtpBody)) → slice_get held 0 ≡ Some p → Went (buffer_state b.window b.due held) p
    by [] is = absurd (let bad = is in cc)
    by (q ∷ held) is =
        let same : q ≡ p = cc in
        record { held = ap (λ (x : ℕ × RtpBody). x ∷ held) same; due = ap (λ (x : ℕ × RtpBody). Some (next_sequence_number x.0)) same; window = refl }

record Goes (due : Option ℕ) (since : ℕ) (p : ℕ × RtpBody) (held : List (ℕ × RtpBody)) (arrivals new : List Arrival) : Type 0 where
  order : IsHeldInOrder (Some (next_sequence_number p.0)) held
  kept : AreArrivals since (Some (next_sequence_number p.0)) held new
  first : is_first_passed (Some (next_sequence_number p.0)) new ≡ false
  waits : not_passed (Some (next_sequence_number p.0)) new ≡ without_number p.0 (not_passed due arrivals)

goes_on : (due : Option ℕ) (from since : ℕ) (p : ℕ × RtpBody) (held : List (ℕ × RtpBody)) (arrivals new : List Arrival) → IsHeldInOrder due (p ∷ held) → AreArrivals from due (p ∷ held) arrivals →
    IsLetGo from (unwrap_or due 0) p.0 arrivals since new → Goes due since p held arrivals new
goes_on None from since p held arrivals new order kept it = absurd (let bad = order in cc)
goes_on (Some due) from since p held arrivals new order kept it = record {
  order = rest_in_order (Some due) p held order;
  kept = it.kept p.1 held order.1 kept;
  first = it.first;
  waits = it.waits p.1 held order.1 kept;
}

-- so of a buffer and arrivals that are these
pub record WentOn (b n : BufferState RtpBody) (p : ℕ × RtpBody) (since : ℕ) (old new : List Arrival) : Type 0 where
  pub order : IsHeldInOrder n.due n.held
  pub kept : AreArrivals since n.due n.held new
  pub first : is_first_passed n.due new ≡ false
  pub waits : not_passed n.due new ≡ without_arrival_of b.held (not_passed b.due old)
  pub window : n.window ≡ b.window
  pub bytes : held_bytes b.held ≡ length p.1.payload + held_bytes n.held

pub went_on : (b n : BufferState RtpBody) (p : ℕ × RtpBody) (from since : ℕ) (old new : List Arrival) → slice_get b.held 0 ≡ Some p → n ≡ without_first b →
    IsHeldInOrder b.due b.held → AreArrivals from b.due b.held old → IsLetGo from (unwrap_or b.due 0) p.0 old since new → WentOn b n p since old new
went_on b n p from since old new is stands order kept it =
    let went = first_went b p is in
    let held : b.held ≡ p ∷ n.held = went.held ∙ ap (λ (x : BufferState RtpBody). p ∷ x.held) (sym stands) in
    let due : n.due ≡ Some (next_sequence_number p.0) = ap (λ (x : BufferState RtpBody). x.due) stands ∙ went.due in
    let goes = goes_on b.due from since p n.held old new (subst (IsHeldInOrder b.due) held order) (subst (λ (l : List (ℕ × RtpBody)). AreArrivals from b.due l old) held kept) it in
    record {
      order = subst (λ (d : Option ℕ). IsHeldInOrder d n.held) (sym due) goes.order;
      kept = subst (λ (d : Option ℕ). AreArrivals since d n.held new) (sym due) goes.kept;
      first = subst (λ (d : Option ℕ). is_first_passed d new ≡ false) (sym due) goes.first;
      waits = ap (λ (d : Option ℕ). not_passed d new) due ∙ goes.waits ∙ sym (ap (λ (l : List (ℕ × RtpBody)). without_arrival_of l (not_passed b.due old)) held);
      window = ap (λ (x : BufferState RtpBody). x.window) stands ∙ went.window;
      bytes = ap held_bytes held;
    }

-- where none waits there is no arrival
none_arrived : (from : ℕ) (due : Option ℕ) (arrivals : List Arrival) → AreArrivals from due [] arrivals → is_first_passed due arrivals ≡ false → arrivals ≡ []
none_arrived from None arrivals kept first = kept
none_arrived from (Some due) [] kept first = refl
none_arrived from (Some due) (a ∷ arrivals) kept first = absurd (let bad = kept.each.0.waits first in cc)

-- what stands once a packet went that needn't wait
pub record WentStraight (b n : BufferState RtpBody) (number : ℕ) (arrivals : List Arrival) : Type 0 where
  pub order : IsHeldInOrder n.due n.held
  pub kept : AreArrivals (next_sequence_number number) n.due n.held arrivals
  pub first : is_first_passed n.due arrivals ≡ false
  pub waits : (now : ℕ) (body : RtpBody) → not_passed n.due arrivals ≡ without_arrival_of (after_push b (number, body)).held (not_passed b.due arrivals ++ arrival_of number now ∷ [])
  pub window : n.window ≡ b.window
  pub bytes : held_bytes n.held ≡ held_bytes b.held

went_straight_at : (window number : ℕ) → number < 65536 → WentStraight (buffer_state window (Some number) []) (buffer_state window (Some (next_sequence_number number)) []) number []
went_straight_at window number small = record {
  order = (omega arith, tt);
  kept = record { small = omega arith; span = omega arith; each = tt; own = tt };
  first = refl;
  waits = λ now body.
      let early : is_late (Some number) number ≡ false = grind (arith, nat_tests) in
      let same : (number == number) ≡ true = grind (arith, nat_tests) in
      rw (early, same) refl;
  window = refl;
  bytes = refl;
}

pub went_straight : (b n : BufferState RtpBody) (from number : ℕ) (arrivals : List Arrival) → number < 65536 → goes_straight b number ≡ true → n ≡ buffer_state b.window (Some (next_sequence_number number)) b.held →
    AreArrivals from b.due b.held arrivals → is_first_passed b.due arrivals ≡ false → WentStraight b n number arrivals
went_straight b n from number arrivals small is stands kept first =
    let at = none_held b.window b.due b.held number is in
    let next = buffer_state b.window (Some (next_sequence_number number)) [] in
    let goes : n ≡ next = stands ∙ ap (λ (h : List (ℕ × RtpBody)). buffer_state b.window (Some (next_sequence_number number)) h) at.0 in
    let none : arrivals ≡ [] = none_arrived from b.due arrivals (subst (λ (h : List (ℕ × RtpBody)). AreArrivals from b.due h arrivals) at.0 kept) first in
    subst (λ (x : BufferState RtpBody). WentStraight b x number arrivals) (sym goes)
    (subst (λ (l : List Arrival). WentStraight b next number l) (sym none)
    (subst (λ (h : List (ℕ × RtpBody)). WentStraight (buffer_state b.window b.due h) next number []) (sym at.0)
    (subst (λ (d : Option ℕ). WentStraight (buffer_state b.window d []) next number []) (sym at.1) (went_straight_at b.window number small))))
