-- How many bytes wait, where a packet comes and where one goes.
use Rattle.std.proofs.Common.{◌≡◌, ◌∙◌, ap, subst, ℕ, zero, suc, ◌+◌, ◌-◌, ◌<◌, ◌≤◌, ◌^◌, max, Bool, true, false, cond, List, [], ◌∷◌, length, Option, Some, slice_index_or, refl, arith}
use Rattle.std.specs.Prelude.{◌==◌, ◌||◌, ◌&&◌, nat_lt, nat_le}
use Rattle.std.proofs.lemmas.Bool.Decides.{nat_tests}
use Rattle.std.proofs.Math.Nat.{le-max_right}
use Rattle.h26x_core.specs.Sequence.{distance_ahead, is_late}
use Rattle.h26x_reorder.specs.Rtp.{RtpBody, rtp_body}
use Rattle.h26x_reorder.specs.ReorderBuffer.{BufferState, buffer_state, newest_of, due_at, put_packet, is_number_held, push_answer, after_push, AreHeldInOrder, IsHeldInOrder, is_ahead_of}
use Rattle.h26x_reorder.specs.declared.pushed.Pushed.TheVariants as pushes
use Rattle.h26x_access_units.specs.JitterBuffer.{held_bytes, is_outside, far_back, is_far, reach, is_ahead}

-- a packet whose number is not held adds its bytes
pub put_bytes : (due : ℕ) (p : ℕ × RtpBody) (held : List (ℕ × RtpBody)) → is_number_held p.0 held ≡ false →
    held_bytes (put_packet due p held) ≡ held_bytes held + length p.1.payload
put_bytes due p [] new = omega arith
put_bytes due p (q ∷ held) new =
    elim (nat_lt (distance_ahead due p.0) (distance_ahead due q.0)) as (λ b. nat_lt (distance_ahead due p.0) (distance_ahead due q.0) ≡ b → held_bytes (put_packet due p (q ∷ held)) ≡ held_bytes (q ∷ held) + length p.1.payload) [
      | true ↦ λ e. rw e (omega arith)
      | false ↦ λ e. elim (q.0 == p.0) as (λ b. (q.0 == p.0) ≡ b → (b || is_number_held p.0 held) ≡ false → held_bytes (put_packet due p (q ∷ held)) ≡ held_bytes (q ∷ held) + length p.1.payload) [
        | true ↦ λ s n. absurd (let bad = n in cc)
        | false ↦ λ s n.
            let other : (p.0 == q.0) ≡ false = grind (arith, nat_tests) in
            let rest = put_bytes due p held n in
            rw (e, other) (omega (arith, rest))
      ] refl new
    ] refl

-- a packet that is held adds its bytes
pub push_bytes : (b : BufferState RtpBody) (p : ℕ × RtpBody) → push_answer b p.0 ≡ pushes.Held →
    held_bytes (after_push b p).held ≡ held_bytes b.held + length p.1.payload
push_bytes b p is =
    let due = due_at b.window b.due p.0 in
    elim (is_late (Some due) p.0) as (λ l. is_late (Some due) p.0 ≡ l → held_bytes (after_push b p).held ≡ held_bytes b.held + length p.1.payload) [
      | true ↦ λ e. absurd (let bad = rw e at is in cc)
      | false ↦ λ e. elim (is_number_held p.0 b.held) as (λ t. is_number_held p.0 b.held ≡ t → held_bytes (after_push b p).held ≡ held_bytes b.held + length p.1.payload) [
        | true ↦ λ t. absurd (let bad = rw (e, t) at is in cc)
        | false ↦ λ t. rw e (put_bytes due p b.held t)
      ] refl
    ] refl

-- its window stays
pub push_window : (b : BufferState RtpBody) (p : ℕ × RtpBody) → (after_push b p).window ≡ b.window
push_window b p =
    let due = due_at b.window b.due p.0 in
    elim (is_late (Some due) p.0) as (λ l. is_late (Some due) p.0 ≡ l → (after_push b p).window ≡ b.window) [
      | true ↦ λ e. rw e refl
      | false ↦ λ e. rw e refl
    ] refl

-- the numbers of packets that wait have 16 bits
number_small : (due from : ℕ) (held : List (ℕ × RtpBody)) (place : ℕ) → AreHeldInOrder due from held → (slice_index_or held place (0, rtp_body 0 false [])).0 < 65536
number_small due from [] place order = omega arith
number_small due from (p ∷ held) zero order = order.0
number_small due from (p ∷ held) (suc place) order = number_small due (distance_ahead due p.0 + 1) held place order.3

newest_small : (due : ℕ) (held : List (ℕ × RtpBody)) → due < 65536 → AreHeldInOrder due 0 held → newest_of due held < 65536
newest_small due held small order = elim (length held == 0) as (λ b. cond b due (slice_index_or held (length held - 1) (0, rtp_body 0 false [])).0 < 65536) [
  | true ↦ small
  | false ↦ number_small due 0 held (length held - 1) order
]

-- a number less far ahead of the one that is due is not too far
near_not_outside : (far behind due newest number : ℕ) → due < 65536 → newest < 65536 → number < 65536 → distance_ahead due number < far → is_outside far behind due newest number ≡ false
near_not_outside far behind due newest number due_small newest_is number_is near =
    elim (nat_lt (distance_ahead due newest) (distance_ahead due number)) as (λ b. nat_lt (distance_ahead due newest) (distance_ahead due number) ≡ b → (b && (nat_le far (distance_ahead newest number) && nat_le behind (distance_ahead number due))) ≡ false) [
      | true ↦ λ e.
          let beyond : distance_ahead due newest < distance_ahead due number = grind (arith, nat_tests) in
          let less : distance_ahead newest number < far = omega (arith, beyond, near, due_small, newest_is, number_is) in
          let no : nat_le far (distance_ahead newest number) ≡ false = grind (arith, nat_tests) in
          rw no refl
      | false ↦ λ e. refl
    ] refl

pub near_not_far : (far behind : ℕ) (b : BufferState RtpBody) (due number : ℕ) → b.due ≡ Some due → IsHeldInOrder b.due b.held → number < 65536 → distance_ahead due number < far → is_far far behind b number ≡ false
near_not_far far behind b due number is order number_is near =
    let at : IsHeldInOrder (Some due) b.held = subst (λ (d : Option ℕ). IsHeldInOrder d b.held) is order in
    let no = near_not_outside far (far_back far behind) due (newest_of due b.held) number at.0 (newest_small due b.held at.0 at.1) number_is near in
    ap (λ (d : Option ℕ). is_far far behind (buffer_state b.window d b.held) number) is ∙ elim (far == 0) as (λ z. cond z false (is_outside far (far_back far behind) due (newest_of due b.held) number) ≡ false) [
      | true ↦ refl
      | false ↦ no
    ]

-- what is false with another is false
and_false : (a : Bool) → (a && false) ≡ false
and_false true = refl
and_false false = refl

-- nor is it ahead of all by more than those may reach
near_not_beyond : (most due newest number : ℕ) → due < 65536 → newest < 65536 → number < 65536 → distance_ahead due number ≤ most →
    (is_ahead_of due newest number && nat_lt most (distance_ahead newest number)) ≡ false
near_not_beyond most due newest number due_small newest_is number_is near =
    elim (nat_lt (distance_ahead due newest) (distance_ahead due number)) as (λ b. nat_lt (distance_ahead due newest) (distance_ahead due number) ≡ b → ((b && nat_lt (distance_ahead due number) (2 ^ 15)) && nat_lt most (distance_ahead newest number)) ≡ false) [
      | true ↦ λ e.
          let beyond : distance_ahead due newest < distance_ahead due number = grind (arith, nat_tests) in
          let less : distance_ahead newest number ≤ most = omega (arith, beyond, near, due_small, newest_is, number_is) in
          let no : nat_lt most (distance_ahead newest number) ≡ false = grind (arith, nat_tests) in
          rw no (and_false (nat_lt (distance_ahead due number) (2 ^ 15)))
      | false ↦ λ e. refl
    ] refl

pub near_not_ahead : (b : BufferState RtpBody) (due number : ℕ) → b.due ≡ Some due → IsHeldInOrder b.due b.held → number < 65536 → distance_ahead due number ≤ reach b.window → is_ahead b number ≡ false
near_not_ahead b due number is order number_is near =
    let at : IsHeldInOrder (Some due) b.held = subst (λ (d : Option ℕ). IsHeldInOrder d b.held) is order in
    ap (λ (d : Option ℕ). is_ahead (buffer_state b.window d b.held) number) is
    ∙ near_not_beyond (reach b.window) due (newest_of due b.held) number at.0 (newest_small due b.held at.0 at.1) number_is near

-- 100 numbers are within reach, whatever the window
pub near_reach : (window n : ℕ) → n ≤ 100 → n ≤ reach window
near_reach window n near =
    let most : 100 ≤ max window 100 = le-max_right window 100 in
    omega (arith, near, most)
