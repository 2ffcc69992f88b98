-- What a buffer holds stays in order.
use Rattle.std.proofs.Common.{◌≡◌, ℕ, ◌+◌, ◌<◌, ◌≤◌, Bool, true, false, cond, List, [], ◌∷◌, ◌++◌, map, length, get_or, drop, Option, Some, None, refl, sym, ap, ◌∙◌, subst, append_assoc, arith}
use Rattle.std.specs.Prelude.{◌==◌, ◌||◌, nat_lt, nat_le, zero, suc, is_some}
use Rattle.std.specs.Option.{unwrap_or}
use Rattle.std.specs.List.{insert}
use Rattle.std.proofs.lemmas.Bool.Decides.{nat_tests}
use Rattle.h26x_core.specs.Sequence.{distance_ahead, next_sequence_number, is_late}
use Rattle.std.proofs.lemmas.List.{drop_more}
use Rattle.h26x_reorder.specs.Rtp.{RtpBody}
use Rattle.h26x_reorder.specs.ReorderBuffer.{BufferState, IsBufferState, buffer_state, due_at, put_packet, is_number_held, goes_straight, last_number, may_go, first_ready, next_packet, without_first_of, without_first, after_push, ready_front, without_front, ready_packets, without_ready, IsReadyStep, IsNothingReady, reordered_from, AreHeldInOrder, IsHeldInOrder}
use Rattle.h26x_reorder.proofs.HeldLemmas.{same_distance, distance_of}

-- the number that is due when a packet comes
pub due_is : (window : ℕ) (due : Option ℕ) (number : ℕ) → unwrap_or due (due_at window None number) ≡ due_at window due number
due_is window None number = refl
due_is window (Some due) number = refl

-- what is held is in order from there
pub order_at : (window : ℕ) (due : Option ℕ) (number : ℕ) (held : List (ℕ × RtpBody)) → IsHeldInOrder due held →
    (due_at window due number < 65536) × AreHeldInOrder (due_at window due number) 0 held
order_at window None number held none = (omega arith, subst (AreHeldInOrder (due_at window None number) 0) (sym none) tt)
order_at window (Some due) number held order = order

-- a packet put to others
pub put_in_order : (due from : ℕ) (p : ℕ × RtpBody) (held : List (ℕ × RtpBody)) → due < 65536 → p.0 < 65536 → from ≤ distance_ahead due p.0 → distance_ahead due p.0 < 32768 →
    AreHeldInOrder due from held → AreHeldInOrder due from (put_packet due p held)
put_in_order due from p [] small one on near order = (one, on, near, tt)
put_in_order due from p (q ∷ held) small one on near order =
    elim (nat_lt (distance_ahead due p.0) (distance_ahead due q.0)) as (λ b. nat_lt (distance_ahead due p.0) (distance_ahead due q.0) ≡ b → AreHeldInOrder due from (put_packet due p (q ∷ held))) [
      | true ↦ λ e.
          let lt : distance_ahead due p.0 < distance_ahead due q.0 = grind (arith, nat_tests) in
          rw e (one, on, near, (order.0, omega arith, order.2, order.3))
      | false ↦ λ e. elim (p.0 == q.0) as (λ b. (p.0 == q.0) ≡ b → AreHeldInOrder due from (put_packet due p (q ∷ held))) [
        | true ↦ λ s. rw (e, s) order
        | false ↦ λ s.
            let other : distance_ahead due p.0 ≡ distance_ahead due q.0 → p.0 ≡ q.0 = same_distance due p.0 q.0 small one order.0 in
            let behind : distance_ahead due q.0 + 1 ≤ distance_ahead due p.0 = grind (arith, nat_tests) in
            rw (e, s) (order.0, order.1, order.2, put_in_order due (distance_ahead due q.0 + 1) p held small one behind near order.3)
      ] refl
    ] refl

-- one that is held is so far ahead
held_ahead : (due from number : ℕ) (held : List (ℕ × RtpBody)) → AreHeldInOrder due from held → is_number_held number held ≡ true → from ≤ distance_ahead due number
held_ahead due from number [] order is = absurd (let bad = is in cc)
held_ahead due from number (q ∷ held) order is =
    elim (q.0 == number) as (λ b. (q.0 == number) ≡ b → (b || is_number_held number held) ≡ true → from ≤ distance_ahead due number) [
      | true ↦ λ s h.
          let same : q.0 ≡ number = grind (arith, nat_tests) in
          subst (λ (n : ℕ). from ≤ distance_ahead due n) same order.1
      | false ↦ λ s h.
          let rest : distance_ahead due q.0 + 1 ≤ distance_ahead due number = held_ahead due (distance_ahead due q.0 + 1) number held order.3 h in
          let first : from ≤ distance_ahead due q.0 = order.1 in
          omega arith
    ] refl is

-- a packet whose number is held changes nothing
pub put_held : (due from : ℕ) (p : ℕ × RtpBody) (held : List (ℕ × RtpBody)) → AreHeldInOrder due from held → is_number_held p.0 held ≡ true → put_packet due p held ≡ held
put_held due from p [] order is = absurd (let bad = is in cc)
put_held due from p (q ∷ held) order is =
    elim (q.0 == p.0) as (λ b. (q.0 == p.0) ≡ b → (b || is_number_held p.0 held) ≡ true → put_packet due p (q ∷ held) ≡ q ∷ held) [
      | true ↦ λ s h.
          let same : q.0 ≡ p.0 = grind (arith, nat_tests) in
          let t : (p.0 == q.0) ≡ true = grind (arith, nat_tests) in
          let e : nat_lt (distance_ahead due p.0) (distance_ahead due q.0) ≡ false = grind (arith, nat_tests, ap (distance_ahead due) same) in
          rw (e, t) refl
      | false ↦ λ s h.
          let rest : distance_ahead due q.0 + 1 ≤ distance_ahead due p.0 = held_ahead due (distance_ahead due q.0 + 1) p.0 held order.3 h in
          let t : (p.0 == q.0) ≡ false = grind (arith, nat_tests) in
          let e : nat_lt (distance_ahead due p.0) (distance_ahead due q.0) ≡ false = grind (arith, nat_tests) in
          rw (e, t) (ap (λ (l : List (ℕ × RtpBody)). q ∷ l) (put_held due (distance_ahead due q.0 + 1) p held order.3 h))
    ] refl is

-- a number that is so far ahead is nearer to a later one
nearer : (due later number : ℕ) → due < 65536 → later < 65536 → number < 65536 → distance_ahead due later ≤ distance_ahead due number →
    distance_ahead later number + distance_ahead due later ≡ distance_ahead due number
nearer due later number d l n le = omega arith

-- what is held is in order from a later number on
later_order : (due later from : ℕ) (held : List (ℕ × RtpBody)) → due < 65536 → later < 65536 → AreHeldInOrder due (distance_ahead due later + from) held → AreHeldInOrder later from held
later_order due later from [] d l order = tt
later_order due later from (q ∷ held) d l order =
    let on : distance_ahead due later + from ≤ distance_ahead due q.0 = order.1 in
    let near : distance_ahead due q.0 < 32768 = order.2 in
    let e = nearer due later q.0 d l order.0 (omega arith) in
    let next : distance_ahead due q.0 + 1 ≡ distance_ahead due later + (distance_ahead later q.0 + 1) = omega arith in (
      order.0,
      omega arith,
      omega arith,
      later_order due later (distance_ahead later q.0 + 1) held d l (subst (λ (n : ℕ). AreHeldInOrder due n held) next order.3),
    )

-- the number behind one that is near is one further ahead
one_further : (due number : ℕ) → due < 65536 → number < 65536 → distance_ahead due number < 32768 → distance_ahead due (next_sequence_number number) ≡ distance_ahead due number + 1
one_further due number d n near = omega arith

-- so it is without the first
pub rest_in_order : (due : Option ℕ) (p : ℕ × RtpBody) (held : List (ℕ × RtpBody)) → IsHeldInOrder due (p ∷ held) → IsHeldInOrder (Some (next_sequence_number p.0)) held
rest_in_order None p held none = absurd (let bad = none in cc)
rest_in_order (Some due) p held (small, order) =
    let far = one_further due p.0 small order.0 order.2 in
    let from : distance_ahead due p.0 + 1 ≡ distance_ahead due (next_sequence_number p.0) + 0 = omega (arith, far) in
    (omega arith, later_order due (next_sequence_number p.0) 0 held small (omega arith) (subst (λ (n : ℕ). AreHeldInOrder due n held) from order.3))

-- the last of packets has the last number
pub last_is : (q : ℕ × RtpBody) (held : List (ℕ × RtpBody)) (d : ℕ × RtpBody) → last_number q.0 held ≡ (get_or (q ∷ held) (length held) d).0
last_is q [] d = refl
last_is q (p ∷ held) d = last_is p held d

-- the last is no nearer than the first
pub last_behind : (due from : ℕ) (q : ℕ × RtpBody) (held : List (ℕ × RtpBody)) → AreHeldInOrder due from ((q ∷ held)) →
    (distance_of due q ≤ distance_ahead due (last_number q.0 held)) × (distance_ahead due (last_number q.0 held) < 32768)
last_behind due from q [] order = (omega arith, order.2)
last_behind due from q (p ∷ held) order =
    let rest = last_behind due (distance_of due q + 1) p held order.3 in
    let step : distance_of due q + 1 ≤ distance_of due p = order.3.1 in
    (omega (arith, rest.0), rest.1)

-- a packet is some where it is asked for
pub some_if : (b : Bool) (p : ℕ × RtpBody) → is_some (cond b (Some p) None) ≡ b
some_if true p = refl
some_if false p = refl

-- a packet that is not late is put to the others
pub pushed_is : {A : Type 0} → (b : BufferState A) (p : ℕ × A) → distance_ahead (due_at b.window b.due p.0) p.0 < 32768 →
    after_push b p ≡ buffer_state b.window (Some (due_at b.window b.due p.0)) (put_packet (due_at b.window b.due p.0) p b.held)
pushed_is b p near =
    let e : is_late (Some (due_at b.window b.due p.0)) p.0 ≡ false = grind (arith, nat_tests) in
    rw e refl

-- one whose number is held changes nothing
pub pushed_again : (b : BufferState RtpBody) (p : ℕ × RtpBody) → IsHeldInOrder b.due b.held → distance_ahead (due_at b.window b.due p.0) p.0 < 32768 → is_number_held p.0 b.held ≡ true → b ≡ after_push b p
pushed_again b p order near is = sym (pushed_is b p near ∙ same b.due b.held order is)
  where
    same : (due : Option ℕ) (held : List (ℕ × RtpBody)) → IsHeldInOrder due held → is_number_held p.0 held ≡ true →
        buffer_state b.window (Some (due_at b.window due p.0)) (put_packet (due_at b.window due p.0) p held) ≡ buffer_state b.window due held
    same None held none is = absurd (let bad = sym (ap (is_number_held p.0) none) ∙ is in cc)
    same (Some due) held order is = ap (λ (l : List (ℕ × RtpBody)). buffer_state b.window (Some due) l) (put_held due 0 p held order.1 is)

-- as many packets as are held in order lie between the first and the last
spread : (due from : ℕ) (p : ℕ × RtpBody) (held : List (ℕ × RtpBody)) → AreHeldInOrder due from (p ∷ held) → distance_ahead due p.0 + length held ≤ distance_ahead due (last_number p.0 held)
spread due from p [] order = omega arith
spread due from p (q ∷ held) order =
    let rest = spread due (distance_ahead due p.0 + 1) q held order.3 in
    let step : distance_ahead due p.0 + 1 ≤ distance_ahead due q.0 = order.3.1 in
    omega (arith, rest)

-- where none may go, fewer are held than the window has
pub few_held : (window : ℕ) (due : Option ℕ) (held : List (ℕ × RtpBody)) → 0 < window → IsHeldInOrder due held → is_some (first_ready window due held) ≡ false → length held < window
few_held window None held some none not = subst (λ (l : List (ℕ × RtpBody)). length l < window) (sym none) some
few_held window (Some due) [] some order not = some
few_held window (Some due) (p ∷ held) some order not =
    let b : may_go window (last_number p.0 held) due p.0 ≡ false = sym (some_if (may_go window (last_number p.0 held) due p.0) p) ∙ not in
    let s = spread due 0 p held order.1 in
    let passed : nat_le (distance_ahead due p.0 + window) (distance_ahead due (last_number p.0 held) + 1) ≡ false = right (p.0 == due) _ b in
    let few : distance_ahead due (last_number p.0 held) + 1 < distance_ahead due p.0 + window = grind (arith, nat_tests) in
    omega arith
  where
    right : (a b : Bool) → (a || b) ≡ false → b ≡ false
    right true b h = absurd (let bad = h in cc)
    right false b h = h

-- the newest doesn't count where none is left
no_newest : (window n m due : ℕ) (p : ℕ × RtpBody) (held : List (ℕ × RtpBody)) → (ready_front window (last_number n held) due held ≡ ready_front window (last_number m held) due held)
    × (without_front window (last_number n held) due held ≡ without_front window (last_number m held) due held)
no_newest window n m due p [] = (refl, refl)
no_newest window n m due p (q ∷ held) = (refl, refl)

ready_step : (window : ℕ) (due : Option ℕ) (held : List (ℕ × RtpBody)) (p : ℕ × RtpBody) → first_ready window due held ≡ Some p → IsReadyStep (buffer_state window due held) p (without_first_of window due held)
ready_step window None held p is = absurd (let bad = is in cc)
ready_step window (Some due) [] p is = absurd (let bad = is in cc)
ready_step window (Some due) (q ∷ held) p is =
    elim (may_go window (last_number q.0 held) due q.0) as (λ b. may_go window (last_number q.0 held) due q.0 ≡ b → cond b (Some q) None ≡ Some p →
    IsReadyStep (buffer_state window (Some due) (q ∷ held)) p (without_first_of window (Some due) (q ∷ held))) [
      | true ↦ λ e i.
          let same : q ≡ p = cc in
          let n = no_newest window q.0 0 (next_sequence_number q.0) q held in
          record {
            ready = rw e (ap (λ (x : ℕ × RtpBody). x ∷ ready_front window (last_number q.0 held) (next_sequence_number q.0) held) same ∙ ap (λ (l : List (ℕ × RtpBody)). p ∷ l) n.0);
            without = rw e n.1;
            length_is = omega arith;
          }
      | false ↦ λ e i. absurd (let bad = i in cc)
    ] refl is

pub step_is : (b : BufferState RtpBody) (p : ℕ × RtpBody) → next_packet b ≡ Some p → IsReadyStep b p (without_first b)
step_is b p is = ready_step b.window b.due b.held p is

-- nothing may go where the first may not
ready_end : (window : ℕ) (due : Option ℕ) (held : List (ℕ × RtpBody)) → first_ready window due held ≡ None → (ready_packets window due held ≡ []) × (without_ready window due held ≡ buffer_state window due held)
ready_end window None held is = (refl, refl)
ready_end window (Some due) [] is = (refl, refl)
ready_end window (Some due) (q ∷ held) is =
    elim (may_go window (last_number q.0 held) due q.0) as (λ b. may_go window (last_number q.0 held) due q.0 ≡ b → cond b (Some q) None ≡ None →
    (ready_packets window (Some due) (q ∷ held) ≡ []) × (without_ready window (Some due) (q ∷ held) ≡ buffer_state window (Some due) (q ∷ held))) [
      | true ↦ λ e i. absurd (let bad = i in cc)
      | false ↦ λ e i. (rw e refl, rw e refl)
    ] refl is

pub end_is : (b : BufferState RtpBody) → next_packet b ≡ None → IsNothingReady b
end_is b is = let end = ready_end b.window b.due b.held is in record { ready = end.0; without = end.1 }

-- so of a buffer
pub few_is : (b : BufferState RtpBody) → IsBufferState b → (result : Bool) → result ≡ is_some (next_packet b) → result ≡ false → length b.held < b.window
few_is b is result ready not = few_held b.window b.due b.held is.some is.order (sym ready ∙ not)

-- packets with one more
pub map_more : {A : Type 0} (f : A → ℕ × RtpBody) (packets : List A) (p : A) → map f (packets ++ p ∷ []) ≡ map f packets ++ f p ∷ []
map_more f [] p = refl
map_more f (q ∷ packets) p = ap (λ (l : List (ℕ × RtpBody)). f q ∷ l) (map_more f packets p)

-- a list of no length is empty
pub empty_is : {A : Type 0} (items : List A) → (0 < length items → ⊥) → items ≡ []
empty_is [] none = refl
empty_is (x ∷ items) none = absurd (none (omega arith))

-- packets with one put at a place
pub map_insert : {A : Type 0} (f : A → ℕ × RtpBody) (held : List A) (at : ℕ) (p : A) → map f (insert held at p) ≡ insert (map f held) at (f p)
map_insert f [] zero p = refl
map_insert f [] (suc at) p = refl
map_insert f (q ∷ held) zero p = refl
map_insert f (q ∷ held) (suc at) p = ap (λ (l : List (ℕ × RtpBody)). f q ∷ l) (map_insert f held at p)

-- what is given out of packets that are left, one of them taken
pub one_taken : (b new : BufferState RtpBody) (packets : List (ℕ × RtpBody)) (i : ℕ) (p : ℕ × RtpBody) (out more : List (ℕ × RtpBody)) → i < length packets → get_or packets i p ≡ p →
    more ≡ out ++ ready_packets (after_push b p).window (after_push b p).due (after_push b p).held →
    new ≡ without_ready (after_push b p).window (after_push b p).due (after_push b p).held →
    more ++ reordered_from new (drop (i + 1) packets) ≡ out ++ reordered_from b (drop i packets)
one_taken b new packets i p out more within here given stands =
    let at : drop i packets ≡ p ∷ drop (i + 1) packets = drop_more packets i p within ∙ ap (λ (q : ℕ × RtpBody). q ∷ drop (i + 1) packets) here in
    rw (given, stands, at) (append_assoc out (ready_packets (after_push b p).window (after_push b p).due (after_push b p).held)
    (reordered_from (without_ready (after_push b p).window (after_push b p).due (after_push b p).held) (drop (i + 1) packets)))

-- where a packet needn't be held
pub none_held : (window : ℕ) (due : Option ℕ) (held : List (ℕ × RtpBody)) (number : ℕ) → goes_straight (buffer_state window due held) number ≡ true → (held ≡ []) × (due ≡ Some number)
none_held window due (q ∷ held) number is = absurd (let some : (length (q ∷ held) == 0) ≡ false = grind (arith, nat_tests) in let bad = rw some at is in cc)
none_held window None [] number is = absurd (let bad = is in cc)
none_held window (Some due) [] number is =
    let same : due ≡ number = grind (arith, nat_tests) in
    (refl, ap (λ (d : ℕ). Some d) same)

-- it is held alone then
held_alone_at : (window number : ℕ) (packet : RtpBody) → number < 65536 → after_push (buffer_state window (Some number) []) (number, packet) ≡ buffer_state window (Some number) ((number, packet) ∷ [])
held_alone_at window number packet small =
    let early : is_late (Some number) number ≡ false = grind (arith, nat_tests) in
    rw early refl

pub held_alone : (b : BufferState RtpBody) (number : ℕ) (packet : RtpBody) → number < 65536 → goes_straight b number ≡ true → after_push b (number, packet) ≡ buffer_state b.window (Some number) ((number, packet) ∷ [])
held_alone b number packet small is =
    let at = none_held b.window b.due b.held number is in
    ap (λ (h : List (ℕ × RtpBody)). after_push (buffer_state b.window b.due h) (number, packet)) at.0
    ∙ ap (λ (d : Option ℕ). after_push (buffer_state b.window d []) (number, packet)) at.1
    ∙ held_alone_at b.window number packet small

-- and the number behind it is due once it went
pub straight_goes : (b : BufferState RtpBody) (number : ℕ) (packet : RtpBody) → number < 65536 → goes_straight b number ≡ true → buffer_state b.window (Some (next_sequence_number number)) b.held ≡ without_first (after_push b (number, packet))
straight_goes b number packet small is =
    let at = none_held b.window b.due b.held number is in
    ap (λ (h : List (ℕ × RtpBody)). buffer_state b.window (Some (next_sequence_number number)) h) at.0
    ∙ sym (ap (λ (x : BufferState RtpBody). without_first x) (held_alone b number packet small is))

pub straight_order : (b : BufferState RtpBody) (number : ℕ) → goes_straight b number ≡ true → IsHeldInOrder (Some (next_sequence_number number)) b.held
straight_order b number is = subst (IsHeldInOrder (Some (next_sequence_number number))) (sym (none_held b.window b.due b.held number is).0) (omega arith, tt)
