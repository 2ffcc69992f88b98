-- What a buffer gives out are the packets that it held.
use Rattle.std.proofs.Common.{◌≡◌, ℕ, ◌<◌, Bool, true, false, cond, List, [], ◌∷◌, ◌++◌, Option, Some, None, refl, sym, ap, ◌∙◌, subst, append_assoc, arith}
use Rattle.std.specs.Prelude.{◌==◌, ◌||◌, nat_lt, IsPermutation}
use Rattle.std.proofs.lemmas.List.{append-nil}
use Rattle.std.proofs.lemmas.List.Sorted.{IsPermutation-refl, IsPermutation-cons, IsPermutation-trans, IsPermutation-to_front, IsPermutation-append_left}
use Rattle.std.proofs.lemmas.Bool.Decides.{nat_tests}
use Rattle.h26x_core.specs.Sequence.{next_sequence_number, distance_ahead, is_late}
use Rattle.h26x_reorder.specs.Rtp.{RtpBody}
use Rattle.h26x_reorder.specs.ReorderBuffer.{BufferState, buffer_state, fresh_buffer, due_at, put_packet, is_number_held, after_push, without_first, IsHeldInOrder, AreHeldInOrder}
use Rattle.h26x_reorder.specs.BufferSteps.{BufferStep, Comes, GoesOut, after_steps, steps_out, steps_held, AreAheadOf, AreInTurn, AreNumbered, GivesOutThoseHeld}
use Rattle.h26x_reorder.proofs.BufferLemmas.{order_at, put_in_order, put_held, rest_in_order}

-- a packet behind others, or before them
moved_front : (a : List (ℕ × RtpBody)) (p : ℕ × RtpBody) (b : List (ℕ × RtpBody)) → IsPermutation (a ++ p ∷ b) ((p ∷ a) ++ b)
moved_front a p b = subst (λ (l : List (ℕ × RtpBody)). IsPermutation l ((p ∷ a) ++ b)) (append_assoc a (p ∷ []) b)
    (IsPermutation-append_left b (a ++ p ∷ []) (p ∷ a) (IsPermutation-to_front a p))

-- the first two of packets exchanged
swapped : (p q : ℕ × RtpBody) (a : List (ℕ × RtpBody)) → IsPermutation (p ∷ q ∷ a) (q ∷ p ∷ a)
swapped p q a = moved_front (p ∷ []) q a

-- a packet whose number isn't held is put to the others
put_more : (due : ℕ) (p : ℕ × RtpBody) (held : List (ℕ × RtpBody)) → is_number_held p.0 held ≡ false → IsPermutation (p ∷ held) (put_packet due p held)
put_more due p [] none = IsPermutation-refl (p ∷ [])
put_more due p (q ∷ held) none =
    elim (q.0 == p.0) as (λ b. (q.0 == p.0) ≡ b → (b || is_number_held p.0 held) ≡ false → IsPermutation (p ∷ q ∷ held) (put_packet due p (q ∷ held))) [
      | true ↦ λ same h. absurd (let bad = h in cc)
      | false ↦ λ other h.
          let apart : (p.0 == q.0) ≡ false = grind (arith, nat_tests) in
          let rest = put_more due p held h in
          let behind = IsPermutation-trans (p ∷ q ∷ held) (q ∷ p ∷ held) (q ∷ put_packet due p held) (swapped p q held) (IsPermutation-cons q (p ∷ held) (put_packet due p held) rest) in
          elim (nat_lt (distance_ahead due p.0) (distance_ahead due q.0)) as (λ b.
          IsPermutation (p ∷ q ∷ held) (cond b (p ∷ q ∷ held) (cond (p.0 == q.0) (q ∷ held) (q ∷ put_packet due p held)))) [
            | true ↦ IsPermutation-refl (p ∷ q ∷ held)
            | false ↦ subst (λ (b : Bool). IsPermutation (p ∷ q ∷ held) (cond b (q ∷ held) (q ∷ put_packet due p held))) (sym apart) behind
          ]
    ] refl none

-- what is held in order is each ahead of the one before
ahead_of : (due from : ℕ) (held : List (ℕ × RtpBody)) → due < 65536 → AreHeldInOrder due from held → AreAheadOf due held
ahead_of due from [] small order = tt
ahead_of due from (p ∷ held) small order =
    let rest = rest_in_order (Some due) p held (small, (order.0, omega arith, order.2, order.3)) in
    (order.2, ahead_of (next_sequence_number p.0) 0 held rest.0 rest.1)

-- from a number that is due, or from any
abbrev AreFrom : Option ℕ → List (ℕ × RtpBody) → Type 0
AreFrom None packets = AreInTurn packets
AreFrom (Some due) packets = AreAheadOf due packets

-- those of a buffer, of which these are held
record GivesFrom (due : Option ℕ) (held : List (ℕ × RtpBody)) (came out : List (ℕ × RtpBody)) : Type 0 where
  exact : IsPermutation (held ++ came) out
  order : AreFrom due out

held_from : (due : Option ℕ) (held : List (ℕ × RtpBody)) → IsHeldInOrder due held → AreFrom due held
held_from None held none = subst AreInTurn (sym none) tt
held_from (Some due) held order = ahead_of due 0 held order.0 order.1

-- where any may be the first they are in turn
in_turn : (due : ℕ) (packets : List (ℕ × RtpBody)) → AreAheadOf due packets → AreInTurn packets
in_turn due [] ahead = tt
in_turn due (p ∷ packets) ahead = ahead.1

from_any : (window : ℕ) (due : Option ℕ) (number : ℕ) (packets : List (ℕ × RtpBody)) → AreAheadOf (due_at window due number) packets → AreFrom due packets
from_any window None number packets ahead = in_turn (due_at window None number) packets ahead
from_any window (Some due) number packets ahead = ahead

-- what is given out by steps, with what is held at the end
abbrev given_by : BufferState RtpBody → List BufferStep → List (ℕ × RtpBody)
given_by b steps = steps_out b steps ++ (after_steps b steps).held

-- the first goes
first_goes : (window : ℕ) (due : Option ℕ) (held : List (ℕ × RtpBody)) (steps : List BufferStep) → IsHeldInOrder due held →
    (let b = buffer_state window due held in
    let next = without_first b in
    (IsHeldInOrder next.due next.held → GivesFrom next.due next.held (steps_held next steps) (given_by next steps)) →
    GivesFrom due held (steps_held b (GoesOut ∷ steps)) (given_by b (GoesOut ∷ steps)))
first_goes window due [] steps order = λ later. later order
first_goes window None (p ∷ held) steps order = λ later. absurd (let bad = order in cc)
first_goes window (Some due) (p ∷ held) steps order = λ later.
    let next = buffer_state window (Some (next_sequence_number p.0)) held in
    let rest = later (rest_in_order (Some due) p held order) in
    record {
      exact = IsPermutation-cons p (held ++ steps_held next steps) (given_by next steps) rest.exact;
      order = (order.1.2, rest.order);
    }

-- a packet comes
one_comes : (window : ℕ) (due : Option ℕ) (held : List (ℕ × RtpBody)) (p : ℕ × RtpBody) (steps : List BufferStep) → p.0 < 65536 → IsHeldInOrder due held →
    (let b = buffer_state window due held in
    let next = after_push b p in
    (IsHeldInOrder next.due next.held → GivesFrom next.due next.held (steps_held next steps) (given_by next steps)) →
    GivesFrom due held (steps_held b (Comes p ∷ steps)) (given_by b (Comes p ∷ steps)))
one_comes window due held p steps small order = λ later.
    let b = buffer_state window due held in
    let d = due_at window due p.0 in
    let from = order_at window due p.0 held order in
    let put = put_packet d p held in
    let next = buffer_state window (Some d) put in
    elim (is_late (Some d) p.0) as (λ t. is_late (Some d) p.0 ≡ t → GivesFrom due held (steps_held b (Comes p ∷ steps)) (given_by b (Comes p ∷ steps))) [
      | true ↦ λ late.
          let stays : after_push b p ≡ b = rw late refl in
          let none : steps_held b (Comes p ∷ steps) ≡ steps_held b steps = rw late refl in
          let rest = subst (λ (x : BufferState RtpBody). (IsHeldInOrder x.due x.held → GivesFrom x.due x.held (steps_held x steps) (given_by x steps))) stays later order in
          subst (λ (l : List (ℕ × RtpBody)). GivesFrom due held l (given_by b (Comes p ∷ steps))) (sym none)
          (subst (λ (x : BufferState RtpBody). GivesFrom due held (steps_held b steps) (given_by x steps)) (sym stays) rest)
      | false ↦ λ timely.
          let near : distance_ahead d p.0 < 32768 = grind (arith, nat_tests) in
          let is_next : after_push b p ≡ next = rw timely refl in
          let in_order = put_in_order d 0 p held from.0 small (omega arith) near from.1 in
          let rest = subst (λ (x : BufferState RtpBody). (IsHeldInOrder x.due x.held → GivesFrom x.due x.held (steps_held x steps) (given_by x steps))) is_next later (from.0, in_order) in
          let came = steps_held next steps in
          let out = given_by next steps in
          let ahead : AreFrom due out = from_any window due p.0 out rest.order in
          elim (is_number_held p.0 held) as (λ t. is_number_held p.0 held ≡ t → GivesFrom due held (steps_held b (Comes p ∷ steps)) (given_by b (Comes p ∷ steps))) [
            | true ↦ λ twice.
                let same : put ≡ held = put_held d 0 p held from.1 twice in
                let none : steps_held b (Comes p ∷ steps) ≡ steps_held (after_push b p) steps = rw (timely, twice) refl in
                subst (λ (x : BufferState RtpBody). GivesFrom due held (steps_held b (Comes p ∷ steps)) (given_by x steps)) (sym is_next)
                (subst (λ (l : List (ℕ × RtpBody)). GivesFrom due held l out) (sym (none ∙ ap (λ (x : BufferState RtpBody). steps_held x steps) is_next)) (record {
                  exact = subst (λ (l : List (ℕ × RtpBody)). IsPermutation (l ++ came) out) same rest.exact;
                  order = ahead;
                }))
            | false ↦ λ fresh.
                let more : steps_held b (Comes p ∷ steps) ≡ p ∷ steps_held (after_push b p) steps = rw (timely, fresh) refl in
                subst (λ (x : BufferState RtpBody). GivesFrom due held (steps_held b (Comes p ∷ steps)) (given_by x steps)) (sym is_next)
                (subst (λ (l : List (ℕ × RtpBody)). GivesFrom due held l out) (sym (more ∙ ap (λ (x : BufferState RtpBody). p ∷ steps_held x steps) is_next)) (record {
                  exact = IsPermutation-trans (held ++ p ∷ came) (put ++ came) out
                      (IsPermutation-trans (held ++ p ∷ came) ((p ∷ held) ++ came) (put ++ came) (moved_front held p came) (IsPermutation-append_left came (p ∷ held) put (put_more d p held fresh)))
                      rest.exact;
                  order = ahead;
                }))
          ] refl
    ] refl

-- so by all steps
all_given : (window : ℕ) (due : Option ℕ) (held : List (ℕ × RtpBody)) (steps : List BufferStep) → AreNumbered steps → IsHeldInOrder due held →
    (let b = buffer_state window due held in GivesFrom due held (steps_held b steps) (given_by b steps))
all_given window due held [] small order = record {
  exact = subst (λ (l : List (ℕ × RtpBody)). IsPermutation l held) (sym (append-nil held)) (IsPermutation-refl held);
  order = held_from due held order;
}
all_given window due held (Comes p ∷ steps) small order =
    let next = after_push (buffer_state window due held) p in
    one_comes window due held p steps small.0 order (λ o. all_given next.window next.due next.held steps small.1 o)
all_given window due held (GoesOut ∷ steps) small order =
    let next = without_first (buffer_state window due held) in
    first_goes window due held steps order (λ o. all_given next.window next.due next.held steps small o)

-- of a new buffer
pub those_held : (window : ℕ) (steps : List BufferStep) → AreNumbered steps → GivesOutThoseHeld (fresh_buffer window) steps
those_held window steps small =
    let all = all_given window None [] steps small refl in
    record { exact = all.exact; order = all.order }
