-- How packets that wait move: each that is pushed waits, is handed on, or is dropped.
use Rattle.std.proofs.Common.{◌≡◌, ◌∙◌, ap, sym, subst, refl, ℕ, ◌+◌, ◌≤◌, ◌<◌, Bool, true, false, cond, List, [], ◌∷◌, ◌++◌, Option, Some, None, append_assoc, arith, inl, inr}
use Rattle.std.specs.Prelude.{◌==◌, ◌||◌, ◌&&◌, nat_lt, slice_get, IsPermutation, ◌⊎◌}
use Rattle.std.proofs.lemmas.List.{append-nil}
use Rattle.std.proofs.lemmas.List.Sorted.{IsPermutation-refl, IsPermutation-sym, IsPermutation-cons, IsPermutation-trans, IsPermutation-to_front, IsPermutation-append_left, IsPermutation-append_right, IsPermutation-append_comm, IsPermutation-middle}
use Rattle.std.proofs.lemmas.Bool.Decides.{nat_tests}
use Rattle.h26x_core.specs.Sequence.{next_sequence_number, distance_ahead, is_late}
use Rattle.h26x_reorder.specs.Rtp.{RtpBody}
use Rattle.h26x_reorder.specs.ReorderBuffer.{BufferState, buffer_state, due_at, put_packet, is_number_held, push_answer, after_push, may_go, last_number, first_ready, without_first, are_beyond, IsHeldInOrder, is_ahead_of, is_beyond, newest_of}
use Rattle.h26x_reorder.specs.declared.pushed.Pushed.TheVariants as buffered
use Rattle.h26x_reorder.proofs.BufferLemmas.{order_at, put_in_order, put_held, rest_in_order}
use Rattle.h26x_access_units.specs.declared.config.AccessUnitConfig.{AccessUnitConfig}
use Rattle.h26x_access_units.specs.declared.pushed.Pushed.{Pushed}
use Rattle.h26x_access_units.specs.declared.pushed.Pushed.TheVariants as pushes
use Rattle.h26x_access_units.specs.JitterBuffer.{JitterState, fresh_jitter, with_held_limit, jitter_answer, after_jitter, with_packet, with_two, has_room_for, without_due, is_ahead, reach}
use Rattle.h26x_access_units.specs.Reception.{pushed_to, anew_of, held_with}
use Rattle.h26x_reorder.proofs.BeyondLemmas.{both_of, beyond_held, two_last}
use Rattle.h26x_access_units.specs.Account.{Account, packet_alone, AreInTurnBack, AreStreams, IsDueBehind}
use Rattle.h26x_access_units.proofs.WaitingLemmas.{held_is, first_went}

abbrev Packet : Type 0
Packet = ℕ × RtpBody

abbrev Packets : Type 0
Packets = List (ℕ × RtpBody)

-- the first two of packets exchanged
swapped : (p q : Packet) (a : Packets) → IsPermutation (p ∷ q ∷ a) (q ∷ p ∷ a)
swapped p q a = IsPermutation-middle (p ∷ []) q a

-- some packets exchanged with others before a third part
exchanged : (a b c : Packets) → IsPermutation (a ++ (b ++ c)) (b ++ (a ++ c))
exchanged a b c =
    subst (λ (l : Packets). IsPermutation l (b ++ (a ++ c))) (append_assoc a b c)
    (subst (IsPermutation ((a ++ b) ++ c)) (append_assoc b a c)
    (IsPermutation-append_left c (a ++ b) (b ++ a) (IsPermutation-append_comm a b)))

-- a packet whose number isn't held is put to the others
put_more : (due : ℕ) (p : Packet) (held : Packets) → is_number_held p.0 held ≡ false → IsPermutation (p ∷ held) (put_packet due p held)
put_more due p [] none_is = IsPermutation-refl (p ∷ [])
put_more due p (q ∷ held) none_is =
    elim (q.0 == p.0) as (λ b. (q.0 == p.0) ≡ b → (b || is_number_held p.0 held) ≡ false → IsPermutation (p ∷ q ∷ held) (put_packet due p (q ∷ held))) [
      | true ↦ λ same h. absurd (let bad = h in cc)
      | false ↦ λ other h.
          let apart : (p.0 == q.0) ≡ false = grind (arith, nat_tests) in
          let rest = put_more due p held h in
          let later = IsPermutation-trans (p ∷ q ∷ held) (q ∷ p ∷ held) (q ∷ put_packet due p held) (swapped p q held) (IsPermutation-cons q (p ∷ held) (put_packet due p held) rest) in
          elim (nat_lt (distance_ahead due p.0) (distance_ahead due q.0)) as (λ b.
          IsPermutation (p ∷ q ∷ held) (cond b (p ∷ q ∷ held) (cond (p.0 == q.0) (q ∷ held) (q ∷ put_packet due p held)))) [
            | true ↦ IsPermutation-refl (p ∷ q ∷ held)
            | false ↦ subst (λ (b : Bool). IsPermutation (p ∷ q ∷ held) (cond b (q ∷ held) (q ∷ put_packet due p held))) (sym apart) later
          ]
    ] refl none_is

-- the number that an assembler expects is the one that is due, or any
abbrev pub IsExpectedDue : Option ℕ → Option ℕ → Type 0
IsExpectedDue None due = Unit {0}
IsExpectedDue (Some number) due = due ≡ Some number

-- What becomes of packets that come to a buffer: they wait, or are lost; and the number that is due
-- stays behind those that were handed on.
pub record Moves (handed more : Packets) (b new : BufferState RtpBody) : Type 0 where
  pub lost : Packets
  pub moved : IsPermutation (more ++ b.held) (lost ++ new.held)
  pub waits : IsHeldInOrder new.due new.held
  pub due : IsDueBehind new.due handed
  pub expects : (expected : Option ℕ) → IsExpectedDue expected b.due → IsExpectedDue expected new.due

-- so where one was
expected_stays : (window number : ℕ) (due expected : Option ℕ) → IsExpectedDue expected due → IsExpectedDue expected (Some (due_at window due number))
expected_stays window number due None is = tt
expected_stays window number due (Some e) is = subst (λ (d : Option ℕ). Some (due_at window d number) ≡ Some e) (sym is) refl

-- the number that is due, where one was
due_stays : (window number : ℕ) (due : Option ℕ) (handed : Packets) → IsDueBehind due handed → IsDueBehind (Some (due_at window due number)) handed
due_stays window number due [] is = tt
due_stays window number due (p ∷ handed) is = subst (λ (d : Option ℕ). Some (due_at window d number) ≡ Some (next_sequence_number p.0)) (sym is) refl

-- a packet comes
module _ (handed : Packets) (b : BufferState RtpBody) (p : Packet) (small : p.0 < 65536) (waits : IsHeldInOrder b.due b.held) (due : IsDueBehind b.due handed) where
  abbrev d : ℕ
  d = due_at b.window b.due p.0

  pushed_by : (l t : Bool) → is_late (Some d) p.0 ≡ l → is_number_held p.0 b.held ≡ t → Moves handed (p ∷ []) b (cond l b (buffer_state b.window (Some d) (put_packet d p b.held)))
  pushed_by true t late held = record { lost = p ∷ []; moved = IsPermutation-refl (p ∷ b.held); waits = waits; due = due; expects = λ expected is. is }
  pushed_by false true late held =
      let from = order_at b.window b.due p.0 b.held waits in
      let near : distance_ahead d p.0 < 32768 = grind (arith, nat_tests) in
      record {
        lost = p ∷ [];
        moved = subst (λ (l : Packets). IsPermutation (p ∷ b.held) (p ∷ l)) (sym (put_held d 0 p b.held from.1 held)) (IsPermutation-refl (p ∷ b.held));
        waits = (from.0, put_in_order d 0 p b.held from.0 small (omega arith) near from.1);
        due = due_stays b.window p.0 b.due handed due;
        expects = expected_stays b.window p.0 b.due;
      }
  pushed_by false false late held =
      let from = order_at b.window b.due p.0 b.held waits in
      let near : distance_ahead d p.0 < 32768 = grind (arith, nat_tests) in
      record {
        lost = [];
        moved = put_more d p b.held held;
        waits = (from.0, put_in_order d 0 p b.held from.0 small (omega arith) near from.1);
        due = due_stays b.window p.0 b.due handed due;
        expects = expected_stays b.window p.0 b.due;
      }

  pub pushed : Moves handed (p ∷ []) b (after_push b p)
  pushed = pushed_by (is_late (Some d) p.0) (is_number_held p.0 b.held) refl refl

  -- where it is told to be held it isn't lost
  held_by : (l t : Bool) (late : is_late (Some d) p.0 ≡ l) (held : is_number_held p.0 b.held ≡ t) → push_answer b p.0 ≡ buffered.Held → (pushed_by l t late held).lost ≡ []
  unfolding pushed_by
  held_by true t late held is = absurd (let early = (held_is b p.0 is).0 in cc)
  held_by false true late held is = absurd (let apart = (held_is b p.0 is).1 in cc)
  held_by false false late held is = refl

  pub pushed_held : push_answer b p.0 ≡ buffered.Held → pushed.lost ≡ []
  unfolding pushed
  pushed_held = held_by (is_late (Some d) p.0) (is_number_held p.0 b.held) refl refl

-- one after the other
both_move : (handed : Packets) (p q : Packet) (b one two : BufferState RtpBody) → Moves handed (q ∷ []) b one → Moves handed (p ∷ []) one two → Moves handed (p ∷ q ∷ []) b two
both_move handed p q b one two first second = record {
  lost = first.lost ++ second.lost;
  moved =
      subst (IsPermutation (p ∷ q ∷ b.held)) (sym (append_assoc first.lost second.lost two.held))
      (IsPermutation-trans (p ∷ q ∷ b.held) (p ∷ (first.lost ++ one.held)) (first.lost ++ (second.lost ++ two.held))
      (IsPermutation-cons p (q ∷ b.held) (first.lost ++ one.held) first.moved)
      (IsPermutation-trans (p ∷ (first.lost ++ one.held)) (first.lost ++ (p ∷ one.held)) (first.lost ++ (second.lost ++ two.held))
      (IsPermutation-sym (first.lost ++ (p ∷ one.held)) (p ∷ (first.lost ++ one.held)) (IsPermutation-middle first.lost p one.held))
      (IsPermutation-append_right first.lost (p ∷ one.held) (second.lost ++ two.held) second.moved)));
  waits = second.waits;
  due = second.due;
  expects = λ expected is. second.expects expected (first.expects expected is);
}

-- in either order
other_order : (handed : Packets) (p q : Packet) (b new : BufferState RtpBody) → Moves handed (q ∷ p ∷ []) b new → Moves handed (p ∷ q ∷ []) b new
other_order handed p q b new it = record {
  lost = it.lost;
  moved = IsPermutation-trans (p ∷ q ∷ b.held) (q ∷ p ∷ b.held) (it.lost ++ new.held) (swapped p q b.held) it.moved;
  waits = it.waits;
  due = it.due;
  expects = it.expects;
}

-- another is lost
one_lost : (handed : Packets) (p q : Packet) (b new : BufferState RtpBody) → Moves handed (p ∷ []) b new → Moves handed (p ∷ q ∷ []) b new
one_lost handed p q b new it = other_order handed p q b new (record {
  lost = q ∷ it.lost;
  moved = IsPermutation-cons q (p ∷ b.held) (it.lost ++ new.held) it.moved;
  waits = it.waits;
  due = it.due;
  expects = it.expects;
})

-- a packet has a number of two bytes
abbrev IsNumbered : Option Packet → Type 0
IsNumbered None = Unit {0}
IsNumbered (Some p) = p.0 < 65536

-- a packet joins those that wait, and the one that waited alone with it, or that is lost
pub record Joins (handed : Packets) (stray : Option Packet) (p : Packet) (b new : BufferState RtpBody) : Type 0 where
  pub moves : Moves handed (p ∷ packet_alone stray) b new
  pub lost_is : (moves.lost ≡ []) ⊎ (moves.lost ≡ packet_alone stray)

none_lost : (handed : Packets) (p q : Packet) (b one two : BufferState RtpBody) (first : Moves handed (q ∷ []) b one) (second : Moves handed (p ∷ []) one two) → first.lost ≡ [] → second.lost ≡ [] → (both_move handed p q b one two first second).lost ≡ []
unfolding both_move
none_lost handed p q b one two first second none_first none_second = ap (λ (x : Packets). x ++ second.lost) none_first ∙ none_second

other_lost : (handed : Packets) (p q : Packet) (b new : BufferState RtpBody) (it : Moves handed (q ∷ p ∷ []) b new) → (other_order handed p q b new it).lost ≡ it.lost
unfolding other_order
other_lost handed p q b new it = refl

one_is_lost : (handed : Packets) (p q : Packet) (b new : BufferState RtpBody) (it : Moves handed (p ∷ []) b new) → it.lost ≡ [] → (one_lost handed p q b new it).lost ≡ q ∷ []
unfolding one_lost other_order
one_is_lost handed p q b new it none_is = ap (λ (x : Packets). q ∷ x) none_is

ahead_held : (b : BufferState RtpBody) (number : ℕ) → IsHeldInOrder b.due b.held → is_ahead b number ≡ true → push_answer b number ≡ buffered.Held
ahead_held b number order ahead = beyond_held b number order (by b.due ahead)
  where
    by : (due : Option ℕ) → is_ahead (record b { due = due }) number ≡ true → is_beyond (record b { due = due }) number ≡ true
    by None e = absurd (let bad = e in cc)
    by (Some d) e = (both_of (is_ahead_of d (newest_of d b.held) number) (nat_lt (reach b.window) (distance_ahead (newest_of d b.held) number)) e).0

-- so of what waits, by any answer
module _ (handed : Packets) (now : ℕ) where
  answered_moves : (j : JitterState) (p : Packet) (answer : Pushed) → p.0 < 65536 → IsHeldInOrder j.buffer.due j.buffer.held → IsDueBehind j.buffer.due handed → Moves handed (p ∷ []) j.buffer (after_jitter now j p answer).buffer
  answered_moves j p pushes.Held small waits due = pushed handed j.buffer p small waits due
  answered_moves j p (pushes.Late n) small waits due = record { lost = p ∷ []; moved = IsPermutation-refl (p ∷ j.buffer.held); waits = waits; due = due; expects = λ expected is. is }
  answered_moves j p pushes.Twice small waits due = record { lost = p ∷ []; moved = IsPermutation-refl (p ∷ j.buffer.held); waits = waits; due = due; expects = λ expected is. is }
  answered_moves j p pushes.Stray small waits due = record { lost = p ∷ []; moved = IsPermutation-refl (p ∷ j.buffer.held); waits = waits; due = due; expects = λ expected is. is }
  answered_moves j p pushes.Anew small waits due = record { lost = p ∷ []; moved = IsPermutation-refl (p ∷ j.buffer.held); waits = waits; due = due; expects = λ expected is. is }
  answered_moves j p pushes.Jumped small waits due = record { lost = p ∷ []; moved = IsPermutation-refl (p ∷ j.buffer.held); waits = waits; due = due; expects = λ expected is. is }
  answered_moves j p pushes.Full small waits due = record { lost = p ∷ []; moved = IsPermutation-refl (p ∷ j.buffer.held); waits = waits; due = due; expects = λ expected is. is }

  two_move : (j : JitterState) (p q : Packet) → p.0 < 65536 → q.0 < 65536 → IsHeldInOrder j.buffer.due j.buffer.held → IsDueBehind j.buffer.due handed → Moves handed (p ∷ q ∷ []) j.buffer (with_two now j q p).buffer
  two_move j p q small alone waits due =
      let one = after_push j.buffer q in
      let first = pushed handed j.buffer q alone waits due in
      both_move handed p q j.buffer one (after_push one p) first (pushed handed one p small first.waits first.due)

  two_join : (j : JitterState) (p q : Packet) (small : p.0 < 65536) (alone : q.0 < 65536) (waits : IsHeldInOrder j.buffer.due j.buffer.held) (due : IsDueBehind j.buffer.due handed) → are_beyond j.buffer q.0 p.0 ≡ true → (two_move j p q small alone waits due).lost ≡ []
  unfolding two_move
  two_join j p q small alone waits due beyond_all =
      let one = after_push j.buffer q in
      let first = pushed handed j.buffer q alone waits due in
      let last = two_last j.buffer q p alone small waits beyond_all in
      none_lost handed p q j.buffer one (after_push one p) first (pushed handed one p small first.waits first.due)
      (pushed_held handed j.buffer q alone waits due last.first)
      (pushed_held handed one p small first.waits first.due last.second)

  pub joined_moves : (j : JitterState) (stray : Option Packet) (p : Packet) → p.0 < 65536 → IsNumbered stray → IsHeldInOrder j.buffer.due j.buffer.held → IsDueBehind j.buffer.due handed → is_ahead j.buffer p.0 ≡ true → Joins handed stray p j.buffer (held_with now j stray p).buffer
  joined_moves j None p small alone waits due ahead = record {
    moves = pushed handed j.buffer p small waits due;
    lost_is = inl (pushed_held handed j.buffer p small waits due (ahead_held j.buffer p.0 waits ahead));
  }
  joined_moves j (Some q) p small alone waits due ahead =
      let single = pushed handed j.buffer p small waits due in
      elim (has_room_for j q && are_beyond j.buffer q.0 p.0) as (λ a. (has_room_for j q && are_beyond j.buffer q.0 p.0) ≡ a → Joins handed (Some q) p j.buffer (cond a (with_two now j q p) (cond (has_room_for j q && are_beyond j.buffer p.0 q.0) (with_two now j p q) (with_packet now j p))).buffer) [
        | true ↦ λ e. record {
          moves = two_move j p q small alone waits due;
          lost_is = inl (two_join j p q small alone waits due (both_of (has_room_for j q) (are_beyond j.buffer q.0 p.0) e).1);
        }
        | false ↦ λ e. elim (has_room_for j q && are_beyond j.buffer p.0 q.0) as (λ a. (has_room_for j q && are_beyond j.buffer p.0 q.0) ≡ a → Joins handed (Some q) p j.buffer (cond a (with_two now j p q) (with_packet now j p)).buffer) [
          | true ↦ λ x. record {
            moves = other_order handed p q j.buffer (with_two now j p q).buffer (two_move j q p alone small waits due);
            lost_is = inl (other_lost handed p q j.buffer (with_two now j p q).buffer (two_move j q p alone small waits due)
                ∙ two_join j q p alone small waits due (both_of (has_room_for j q) (are_beyond j.buffer p.0 q.0) x).1);
          }
          | false ↦ λ x. record {
            moves = one_lost handed p q j.buffer (after_push j.buffer p) single;
            lost_is = inr (one_is_lost handed p q j.buffer (after_push j.buffer p) single (pushed_held handed j.buffer p small waits due (ahead_held j.buffer p.0 waits ahead)));
          }
        ] refl
      ] refl

  pub joined_over : (j : JitterState) (stray : Option Packet) (p : Packet) → (held_with now j stray p).is_over ≡ j.is_over
  joined_over j None p = refl
  joined_over j (Some q) p =
      elim (has_room_for j q && are_beyond j.buffer q.0 p.0) as (λ a. (cond a (with_two now j q p) (cond (has_room_for j q && are_beyond j.buffer p.0 q.0) (with_two now j p q) (with_packet now j p))).is_over ≡ j.is_over) [
        | true ↦ refl
        | false ↦ elim (has_room_for j q && are_beyond j.buffer p.0 q.0) as (λ a. (cond a (with_two now j p q) (with_packet now j p)).is_over ≡ j.is_over) [ true ↦ refl | false ↦ refl ]
      ]

answered_over : (now : ℕ) (j : JitterState) (p : Packet) (answer : Pushed) → (after_jitter now j p answer).is_over ≡ j.is_over
answered_over now j p pushes.Held = refl
answered_over now j p (pushes.Late n) = refl
answered_over now j p pushes.Twice = refl
answered_over now j p pushes.Stray = refl
answered_over now j p pushes.Anew = refl
answered_over now j p pushes.Jumped = refl
answered_over now j p pushes.Full = refl

-- of a stream that begins anew the packet that waited alone and the next one come to none
pub record Begins (more : Packets) (new : JitterState) : Type 0 where
  pub lost : Packets
  pub moved : IsPermutation more (lost ++ new.buffer.held)
  pub waits : IsHeldInOrder new.buffer.due new.buffer.held
  pub over : new.is_over ≡ false

pub anew_moves : (now : ℕ) (config : AccessUnitConfig) (stray : Option Packet) (p : Packet) → p.0 < 65536 → IsNumbered stray → Begins (p ∷ packet_alone stray) (anew_of now config stray p)
anew_moves now config None p small alone =
    let fresh = fresh_jitter config in
    let it = answered_moves [] now fresh p (jitter_answer fresh p) small refl tt in
    record { lost = it.lost; moved = it.moved; waits = it.waits; over = answered_over now fresh p (jitter_answer fresh p) }
anew_moves now config (Some q) p small alone =
    let fresh = fresh_jitter (with_held_limit 18446744073709551615 config) in
    let first = answered_moves [] now fresh q (jitter_answer fresh q) alone refl tt in
    let one = pushed_to now fresh q in
    let second = answered_moves [] now one p (jitter_answer one p) small first.waits tt in
    let two = pushed_to now one p in
    let both = both_move [] p q fresh.buffer one.buffer two.buffer first second in
    record { lost = both.lost; moved = both.moved; waits = both.waits; over = answered_over now one p (jitter_answer one p) ∙ answered_over now fresh q (jitter_answer fresh q) }

-- what is known of the packets that were kept, where these were, whether some may be dropped, and how
-- many streams may have ended
pub record Ledger (kept : Packets) (drops : Bool) (most : ℕ) (a : Account) (j : JitterState) (stray : Option Packet) : Type 0 where
  pub exact : IsPermutation kept ((a.dropped ++ packet_alone stray) ++ ((a.handed ++ a.earlier) ++ j.buffer.held))
  pub quiet : drops ≡ false → a.dropped ++ packet_alone stray ≡ []
  pub turn : AreInTurnBack a.handed
  pub before : AreStreams a.streams a.earlier
  pub few : a.streams + cond j.is_over 1 0 ≤ most
  pub due : IsDueBehind j.buffer.due a.handed
  pub waits : IsHeldInOrder j.buffer.due j.buffer.held
  pub numbered : IsNumbered stray

-- the packets of a list of parts
module _ (kept x s h w : Packets) (exact : IsPermutation kept ((x ++ s) ++ (h ++ w))) where
  pub parts_put : (p : Packet) (new : Packets) → IsPermutation (p ∷ w) new → IsPermutation (p ∷ kept) ((x ++ s) ++ (h ++ new))
  parts_put p new put =
      IsPermutation-trans (p ∷ kept) (p ∷ ((x ++ s) ++ (h ++ w))) ((x ++ s) ++ (h ++ new))
      (IsPermutation-cons p kept ((x ++ s) ++ (h ++ w)) exact)
      (IsPermutation-trans (p ∷ ((x ++ s) ++ (h ++ w))) ((x ++ s) ++ (p ∷ (h ++ w))) ((x ++ s) ++ (h ++ new))
      (IsPermutation-sym ((x ++ s) ++ (p ∷ (h ++ w))) (p ∷ ((x ++ s) ++ (h ++ w))) (IsPermutation-middle (x ++ s) p (h ++ w)))
      (IsPermutation-append_right (x ++ s) (p ∷ (h ++ w)) (h ++ new)
      (IsPermutation-trans (p ∷ (h ++ w)) (h ++ (p ∷ w)) (h ++ new)
      (IsPermutation-sym (h ++ (p ∷ w)) (p ∷ (h ++ w)) (IsPermutation-middle h p w))
      (IsPermutation-append_right h (p ∷ w) new put))))

  pub parts_alone : (p : Packet) → IsPermutation (p ∷ kept) (((x ++ s) ++ (p ∷ [])) ++ (h ++ w))
  parts_alone p =
      IsPermutation-trans (p ∷ kept) (p ∷ ((x ++ s) ++ (h ++ w))) (((x ++ s) ++ (p ∷ [])) ++ (h ++ w))
      (IsPermutation-cons p kept ((x ++ s) ++ (h ++ w)) exact)
      (IsPermutation-append_left (h ++ w) (p ∷ (x ++ s)) ((x ++ s) ++ (p ∷ []))
      (IsPermutation-sym ((x ++ s) ++ (p ∷ [])) (p ∷ (x ++ s)) (IsPermutation-to_front (x ++ s) p)))

  -- what waits, the packet alone and one more are dealt anew
  pub parts_dealt : (p : Packet) (lost new : Packets) → IsPermutation (p ∷ (s ++ w)) (lost ++ new) → IsPermutation (p ∷ kept) (((x ++ lost) ++ []) ++ (h ++ new))
  parts_dealt p lost new dealt =
      let a = x ++ (s ++ (h ++ w)) in
      let b = x ++ (h ++ (s ++ w)) in
      let c = x ++ (h ++ (lost ++ new)) in
      let e = x ++ (lost ++ (h ++ new)) in
      subst (λ (l : Packets). IsPermutation (p ∷ kept) (l ++ (h ++ new))) (sym (append-nil (x ++ lost)))
      (subst (IsPermutation (p ∷ kept)) (sym (append_assoc x lost (h ++ new)))
      (IsPermutation-trans (p ∷ kept) (p ∷ a) e
      (IsPermutation-cons p kept a (subst (IsPermutation kept) (append_assoc x s (h ++ w)) exact))
      (IsPermutation-trans (p ∷ a) (p ∷ b) e
      (IsPermutation-cons p a b (IsPermutation-append_right x (s ++ (h ++ w)) (h ++ (s ++ w)) (exchanged s h w)))
      (IsPermutation-trans (p ∷ b) (x ++ (p ∷ (h ++ (s ++ w)))) e
      (IsPermutation-sym (x ++ (p ∷ (h ++ (s ++ w)))) (p ∷ b) (IsPermutation-middle x p (h ++ (s ++ w))))
      (IsPermutation-append_right x (p ∷ (h ++ (s ++ w))) (lost ++ (h ++ new))
      (IsPermutation-trans (p ∷ (h ++ (s ++ w))) (h ++ (p ∷ (s ++ w))) (lost ++ (h ++ new))
      (IsPermutation-sym (h ++ (p ∷ (s ++ w))) (p ∷ (h ++ (s ++ w))) (IsPermutation-middle h p (s ++ w)))
      (IsPermutation-trans (h ++ (p ∷ (s ++ w))) (h ++ (lost ++ new)) (lost ++ (h ++ new))
      (IsPermutation-append_right h (p ∷ (s ++ w)) (lost ++ new) dealt)
      (exchanged h lost new))))))))

  -- what waits is dropped
  pub parts_anew : (p : Packet) (lost new : Packets) → IsPermutation (p ∷ s) (lost ++ new) → IsPermutation (p ∷ kept) (((x ++ (w ++ lost)) ++ []) ++ (h ++ new))
  parts_anew p lost new dealt = parts_dealt p (w ++ lost) new
      (subst (IsPermutation (p ∷ (s ++ w))) (sym (append_assoc w lost new))
      (IsPermutation-trans (p ∷ (s ++ w)) (w ++ (p ∷ s)) (w ++ (lost ++ new))
      (IsPermutation-append_comm (p ∷ s) w)
      (IsPermutation-append_right w (p ∷ s) (lost ++ new) dealt)))

  -- all is dropped that isn't handed on
  pub parts_dropped : IsPermutation kept ((((x ++ s) ++ w) ++ []) ++ (h ++ []))
  parts_dropped =
      let all = (x ++ s) ++ w in
      subst (λ (l : Packets). IsPermutation kept (l ++ (h ++ []))) (sym (append-nil all))
      (subst (λ (l : Packets). IsPermutation kept (all ++ l)) (sym (append-nil h))
      (subst (IsPermutation kept) (sym (append_assoc (x ++ s) w h))
      (IsPermutation-trans kept ((x ++ s) ++ (h ++ w)) ((x ++ s) ++ (w ++ h)) exact
      (IsPermutation-append_right (x ++ s) (h ++ w) (w ++ h) (IsPermutation-append_comm h w)))))

-- the first that waits is handed on
parts_handed : (kept x h w : Packets) (p : Packet) → IsPermutation kept (x ++ (h ++ (p ∷ w))) → IsPermutation kept (x ++ ((p ∷ h) ++ w))
parts_handed kept x h w p exact = IsPermutation-trans kept (x ++ (h ++ (p ∷ w))) (x ++ ((p ∷ h) ++ w)) exact
    (IsPermutation-append_right x (h ++ (p ∷ w)) ((p ∷ h) ++ w) (IsPermutation-middle h p w))

-- a packet that is due is the first that waits
pub first_is_due : (pressed : Bool) (window : ℕ) (due : Option ℕ) (held : Packets) (p : Packet) → cond pressed (slice_get held 0) (first_ready window due held) ≡ Some p → slice_get held 0 ≡ Some p
first_is_due true window due held p is = is
first_is_due false window None [] p is = absurd (let bad = is in cc)
first_is_due false window (Some due) [] p is = absurd (let bad = is in cc)
first_is_due false window None (q ∷ held) p is = absurd (let bad = is in cc)
first_is_due false window (Some due) (q ∷ held) p is = elim (may_go window (last_number q.0 held) due q.0) as (λ b. cond b (Some q) None ≡ Some p → Some q ≡ Some p) [
  | true ↦ λ e. e
  | false ↦ λ e. absurd (let bad = e in cc)
] is

-- it is ahead of the last that was handed on
one_more_turn : (p : Packet) (rest handed : Packets) (due : Option ℕ) → IsDueBehind due handed → IsHeldInOrder due (p ∷ rest) → AreInTurnBack handed → AreInTurnBack (p ∷ handed)
one_more_turn p rest [] due behind_it order turn = tt
one_more_turn p rest (q ∷ handed) due behind_it order turn =
    let at = subst (λ (d : Option ℕ). IsHeldInOrder d (p ∷ rest)) behind_it order in
    (at.1.2, turn)

-- one more is handed on
abbrev pub with_handed : Packet → Account → Account
with_handed p a = record a { handed = p ∷ a.handed }

pub hands : (kept : Packets) (drops : Bool) (most : ℕ) (a : Account) (j : JitterState) (stray : Option Packet) (p : Packet) → Ledger kept drops most a j stray → slice_get j.buffer.held 0 ≡ Some p → Ledger kept drops most (with_handed p a) (without_due j) stray
hands kept drops most a j stray p l is =
    let went = first_went j.buffer p is in
    let rest = (without_first j.buffer).held in
    let order = subst (IsHeldInOrder j.buffer.due) went.held l.waits in
    record {
      exact = parts_handed kept (a.dropped ++ packet_alone stray) (a.handed ++ a.earlier) rest p
          (subst (λ (w : Packets). IsPermutation kept ((a.dropped ++ packet_alone stray) ++ ((a.handed ++ a.earlier) ++ w))) went.held l.exact);
      quiet = l.quiet;
      turn = one_more_turn p rest a.handed j.buffer.due l.due order l.turn;
      before = l.before;
      few = l.few;
      due = went.due;
      waits = subst (λ (d : Option ℕ). IsHeldInOrder d rest) (sym went.due) (rest_in_order j.buffer.due p rest order);
      numbered = l.numbered;
    }

-- a stream ends, and these are dropped
abbrev pub ended_with : Account → Packets → Account
ended_with a lost = record { handed = []; earlier = a.handed ++ a.earlier; streams = a.streams + 1; dropped = lost }

-- no packet waits alone where no list has it
pub none_alone : (x : Packets) (stray : Option Packet) → x ++ packet_alone stray ≡ [] → stray ≡ None
none_alone x None is = refl
none_alone [] (Some p) is = absurd (let bad = is in cc)
none_alone (q ∷ x) (Some p) is = absurd (let bad = is in cc)
