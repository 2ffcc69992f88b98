-- What becomes of packets that are pushed, before one is taken.
use Rattle.std.proofs.Common.{◌≡◌, ◌∙◌, ap, sym, subst, refl, ℕ, ◌+◌, ◌≤◌, ◌<◌, Bool, true, false, cond, List, [], ◌∷◌, ◌++◌, length, Option, Some, None, append_assoc, arith, inl, inr}
use Rattle.std.specs.Prelude.{IsPermutation, ◌⊎◌}
use Rattle.std.specs.List.{list_any}
use Rattle.std.proofs.lemmas.List.{append-nil}
use Rattle.std.proofs.lemmas.List.Sorted.{IsPermutation-sym, IsPermutation-cons, IsPermutation-trans, IsPermutation-to_front, IsPermutation-append_comm}
use Rattle.h26x_reorder.specs.Rtp.{RtpBody}
use Rattle.h26x_reorder.specs.ReorderBuffer.{push_answer, after_push}
use Rattle.h26x_reorder.specs.declared.pushed.Pushed as buffers
use Rattle.h26x_reorder.specs.declared.pushed.Pushed.TheVariants as buffered
use Rattle.h26x_access_units.specs.declared.pushed.Pushed.{Pushed}
use Rattle.h26x_access_units.specs.declared.pushed.Pushed.TheVariants as pushes
use Rattle.h26x_access_units.specs.declared.way.Way.{Way}
use Rattle.h26x_access_units.specs.declared.way.Way.TheVariants as ways
use Rattle.h26x_access_units.specs.Pushed.{as_pushed}
use Rattle.h26x_access_units.specs.JitterBuffer.{JitterState, is_full, jitter_answer, with_packet, is_ahead}
use Rattle.h26x_access_units.specs.Reception.{Reception, is_behind_stray, is_near_stray, answer_on, way_of, reception_answer, anew_of, held_with, is_repeat, is_too_far}
use Rattle.h26x_access_units.specs.Account.{ReceiverCall, Account, packet_alone, one_stream, stray_packets, drops_all, AreDroppedStrays}
use Rattle.h26x_access_units.proofs.MovesLemmas.{Joins, Ledger, anew_moves, ended_with, joined_over, none_alone, parts_alone, parts_anew, parts_dealt, parts_put, pushed, pushed_held}

abbrev Packet : Type 0
Packet = ℕ × RtpBody

abbrev Packets : Type 0
Packets = List (ℕ × RtpBody)

-- where none waits alone, or one does in its place
abbrev pub Strays : List ReceiverCall → Packets → Option Packet → Type 0
Strays calls dropped stray = list_any drops_all calls ≡ false → AreDroppedStrays (stray_packets calls) dropped stray

-- one more waits alone, and the one before is dropped
pub stray_strays : (told dropped : Packets) (stray : Option Packet) (p : Packet) → AreDroppedStrays told dropped stray → AreDroppedStrays (p ∷ told) (dropped ++ packet_alone stray) (Some p)
stray_strays told dropped stray p it = record {
  joined = it.joined;
  each_once = subst (IsPermutation (p ∷ told)) (append_assoc it.joined (dropped ++ packet_alone stray) (p ∷ []))
      (IsPermutation-trans (p ∷ told) (p ∷ (it.joined ++ (dropped ++ packet_alone stray))) ((it.joined ++ (dropped ++ packet_alone stray)) ++ p ∷ [])
      (IsPermutation-cons p told (it.joined ++ (dropped ++ packet_alone stray)) it.each_once)
      (IsPermutation-sym ((it.joined ++ (dropped ++ packet_alone stray)) ++ p ∷ []) (p ∷ (it.joined ++ (dropped ++ packet_alone stray))) (IsPermutation-to_front (it.joined ++ (dropped ++ packet_alone stray)) p)));
}

-- it is dropped
pub dropped_strays : (told dropped : Packets) (stray : Option Packet) → AreDroppedStrays told dropped stray → AreDroppedStrays told (dropped ++ packet_alone stray) None
dropped_strays told dropped stray it = record {
  joined = it.joined;
  each_once = subst (λ (x : Packets). IsPermutation told (it.joined ++ x)) (sym (append-nil (dropped ++ packet_alone stray))) it.each_once;
}

-- it joins the others, or is lost
pub joined_strays : (told dropped lost : Packets) (stray : Option Packet) → (lost ≡ []) ⊎ (lost ≡ packet_alone stray) → AreDroppedStrays told dropped stray → AreDroppedStrays told (dropped ++ lost) None
joined_strays told dropped lost stray (inl is) it = record {
  joined = packet_alone stray ++ it.joined;
  each_once =
      let alone = packet_alone stray in
      let same : dropped ≡ (dropped ++ lost) ++ [] = sym (append-nil (dropped ++ lost) ∙ ap (λ (x : Packets). dropped ++ x) is ∙ append-nil dropped) in
      subst (λ (x : Packets). IsPermutation told ((alone ++ it.joined) ++ x)) same
      (subst (IsPermutation told) (sym (append_assoc alone it.joined dropped))
      (IsPermutation-trans told (it.joined ++ (dropped ++ alone)) (alone ++ (it.joined ++ dropped)) it.each_once
      (subst (λ (x : Packets). IsPermutation x (alone ++ (it.joined ++ dropped))) (append_assoc it.joined dropped alone)
      (IsPermutation-append_comm (it.joined ++ dropped) alone))));
}
joined_strays told dropped lost stray (inr is) it = subst (λ (x : Packets). AreDroppedStrays told (dropped ++ x) None) (sym is) (dropped_strays told dropped stray it)

-- an account once a packet came
pub record After (packets kept : Packets) (drops : Bool) (most : ℕ) (j : JitterState) (stray : Option Packet) : Type 0 where
  pub account : Account
  pub same : account.handed ++ account.earlier ≡ packets
  pub ledger : Ledger kept drops most account j stray

-- each answer of a push
module _ (kept : Packets) (drops : Bool) (most : ℕ) (a : Account) (now : ℕ) (j : JitterState) (stray : Option Packet) (p : Packet) (small : p.0 < 65536) (l : Ledger kept drops most a j stray) where
  pub held_after : push_answer j.buffer p.0 ≡ buffered.Held → Ledger (p ∷ kept) drops most a (with_packet now j p) stray
  held_after is =
      let it = pushed a.handed j.buffer p small l.waits l.due in
      let new = after_push j.buffer p in
      let put : IsPermutation (p ∷ j.buffer.held) new.held = subst (λ (x : Packets). IsPermutation (p ∷ j.buffer.held) (x ++ new.held)) (pushed_held a.handed j.buffer p small l.waits l.due is) it.moved in
      record {
        exact = parts_put kept a.dropped (packet_alone stray) (a.handed ++ a.earlier) j.buffer.held l.exact p new.held put;
        quiet = l.quiet;
        turn = l.turn;
        before = l.before;
        few = l.few;
        due = it.due;
        waits = it.waits;
        numbered = l.numbered;
      }

  pub stray_after : Ledger (p ∷ kept) true most (record a { dropped = a.dropped ++ packet_alone stray }) j (Some p)
  stray_after = record {
    exact = parts_alone kept a.dropped (packet_alone stray) (a.handed ++ a.earlier) j.buffer.held l.exact p;
    quiet = λ e. absurd (let bad = e in cc);
    turn = l.turn;
    before = l.before;
    few = l.few;
    due = l.due;
    waits = l.waits;
    numbered = small;
  }

  -- where one waits alone packets may be dropped already
  pub quiet_then : (x : Packets) → (stray ≡ None → ⊥) → drops ≡ false → x ≡ []
  quiet_then x some e = absurd (some (none_alone a.dropped stray (l.quiet e)))

  unfoldable pub jumped_after : (stray ≡ None → ⊥) → (joins : Joins a.handed stray p j.buffer (held_with now j stray p).buffer) → After (a.handed ++ a.earlier) (p ∷ kept) drops most (held_with now j stray p) None
  jumped_after some joins =
      let it = joins.moves in
      let new = held_with now j stray p in
      let over = joined_over a.handed now j stray p in
      record {
        account = record a { dropped = a.dropped ++ it.lost };
        same = refl;
        ledger = record {
          exact = parts_dealt kept a.dropped (packet_alone stray) (a.handed ++ a.earlier) j.buffer.held l.exact p it.lost new.buffer.held it.moved;
          quiet = quiet_then ((a.dropped ++ it.lost) ++ []) some;
          turn = l.turn;
          before = l.before;
          few = subst (λ (b : Bool). a.streams + cond b 1 0 ≤ most) (sym over) l.few;
          due = it.due;
          waits = it.waits;
          numbered = tt;
        };
      }

  pub anew_after : (stray ≡ None → ⊥) → After (a.handed ++ a.earlier) (p ∷ kept) drops (most + 1) (anew_of now j.config stray p) None
  anew_after some =
      let it = anew_moves now j.config stray p small l.numbered in
      let new = anew_of now j.config stray p in
      record {
        account = ended_with a (a.dropped ++ (j.buffer.held ++ it.lost));
        same = refl;
        ledger = record {
          exact = parts_anew kept a.dropped (packet_alone stray) (a.handed ++ a.earlier) j.buffer.held l.exact p it.lost new.buffer.held it.moved;
          quiet = quiet_then ((a.dropped ++ (j.buffer.held ++ it.lost)) ++ []) some;
          turn = tt;
          before = one_stream a.streams a.handed a.earlier l.before l.turn;
          few = subst (λ (b : Bool). (a.streams + 1) + cond b 1 0 ≤ most + 1) (sym it.over) (let few = l.few in omega (arith, few));
          due = tt;
          waits = it.waits;
          numbered = tt;
        };
      }

-- where it is told to be held the buffer holds it
pub told_held : (s : Reception) (p : Packet) → pushes.Held ≡ reception_answer s p → push_answer s.waiting.buffer p.0 ≡ buffered.Held
told_held s p is = by (way_of s p.0) is
  where
    window : (f : Bool) (answer : buffers.Pushed) → pushes.Held ≡ cond f pushes.Full (as_pushed answer) → answer ≡ buffered.Held
    window true answer e = absurd (let bad = e in cc)
    window false buffered.Held e = refl
    window false (buffered.Late n) e = absurd (let bad = e in cc)
    window false buffered.Twice e = absurd (let bad = e in cc)

    by : (way : Way) → pushes.Held ≡ answer_on way s p → push_answer s.waiting.buffer p.0 ≡ buffered.Held
    by ways.Repeat e = absurd (let bad = e in cc)
    by ways.Far e = elim (is_behind_stray s.stray p.0) as (λ b. pushes.Held ≡ cond b pushes.Anew pushes.Stray → push_answer s.waiting.buffer p.0 ≡ buffered.Held) [
      | true ↦ λ e. absurd (let bad = e in cc)
      | false ↦ λ e. absurd (let bad = e in cc)
    ] e
    by ways.Ahead e = elim (is_near_stray s.waiting.buffer.window s.stray p.0) as (λ b. pushes.Held ≡ cond b (cond (is_full s.waiting (length p.1.payload)) pushes.Full pushes.Jumped) pushes.Stray → push_answer s.waiting.buffer p.0 ≡ buffered.Held) [
      | true ↦ elim (is_full s.waiting (length p.1.payload)) as (λ b. pushes.Held ≡ cond b pushes.Full pushes.Jumped → push_answer s.waiting.buffer p.0 ≡ buffered.Held) [
        | true ↦ λ e. absurd (let bad = e in cc)
        | false ↦ λ e. absurd (let bad = e in cc)
      ]
      | false ↦ λ e. absurd (let bad = e in cc)
    ] e
    by ways.Window e = window (is_full s.waiting (length p.1.payload)) (push_answer s.waiting.buffer p.0) e

-- where a packet jumps, or the stream begins anew, one waited alone
not_window : (j : JitterState) (p : Packet) (answer : Pushed) → (answer ≡ pushes.Jumped) ⊎ (answer ≡ pushes.Anew) → answer ≡ jitter_answer j p → ⊥
not_window j p answer either is = by (is_full j (length p.1.payload)) (push_answer j.buffer p.0) either is
  where
    by : (f : Bool) (a : buffers.Pushed) → (answer ≡ pushes.Jumped) ⊎ (answer ≡ pushes.Anew) → answer ≡ cond f pushes.Full (as_pushed a) → ⊥
    by true a (inl e) is = let bad = sym e ∙ is in cc
    by true a (inr e) is = let bad = sym e ∙ is in cc
    by false buffered.Held (inl e) is = let bad = sym e ∙ is in cc
    by false buffered.Held (inr e) is = let bad = sym e ∙ is in cc
    by false (buffered.Late n) (inl e) is = let bad = sym e ∙ is in cc
    by false (buffered.Late n) (inr e) is = let bad = sym e ∙ is in cc
    by false buffered.Twice (inl e) is = let bad = sym e ∙ is in cc
    by false buffered.Twice (inr e) is = let bad = sym e ∙ is in cc

not_of : (answer other : Pushed) → (answer ≡ pushes.Jumped) ⊎ (answer ≡ pushes.Anew) → answer ≡ other → (other ≡ pushes.Jumped → ⊥) → (other ≡ pushes.Anew → ⊥) → ⊥
not_of answer other (inl e) is jumped anew = jumped (sym is ∙ e)
not_of answer other (inr e) is jumped anew = anew (sym is ∙ e)

pub one_alone : (s : Reception) (p : Packet) (answer : Pushed) → (answer ≡ pushes.Jumped) ⊎ (answer ≡ pushes.Anew) → answer ≡ reception_answer s p → s.stray ≡ None → ⊥
one_alone s p answer either is none_is = by (way_of s p.0) is
  where
    by : (way : Way) → answer ≡ answer_on way s p → ⊥
    by ways.Repeat e = not_of answer pushes.Twice either e (λ bad. cc) (λ bad. cc)
    by ways.Far e = not_of answer pushes.Stray either (e ∙ ap (λ (x : Option Packet). cond (is_behind_stray x p.0) pushes.Anew pushes.Stray) none_is) (λ bad. cc) (λ bad. cc)
    by ways.Ahead e = not_of answer pushes.Stray either
        (e ∙ ap (λ (x : Option Packet). cond (is_near_stray s.waiting.buffer.window x p.0) (cond (is_full s.waiting (length p.1.payload)) pushes.Full pushes.Jumped) pushes.Stray) none_is) (λ bad. cc) (λ bad. cc)
    by ways.Window e = not_window s.waiting p answer either e

-- one that jumps is ahead
pub jumped_ahead : (s : Reception) (p : Packet) → pushes.Jumped ≡ reception_answer s p → is_ahead s.waiting.buffer p.0 ≡ true
jumped_ahead s p is = by (is_repeat s p.0) (is_too_far s p.0) (is_ahead s.waiting.buffer p.0) refl is
  where
    far : (b : Bool) → pushes.Jumped ≡ cond b pushes.Anew pushes.Stray → ⊥
    far true e = let bad = e in cc
    far false e = let bad = e in cc

    by : (r f a : Bool) → is_ahead s.waiting.buffer p.0 ≡ a → pushes.Jumped ≡ answer_on (cond r ways.Repeat (cond f ways.Far (cond a ways.Ahead ways.Window))) s p → is_ahead s.waiting.buffer p.0 ≡ true
    by true f a ahead e = absurd (let bad = e in cc)
    by false true a ahead e = absurd (far (is_behind_stray s.stray p.0) e)
    by false false true ahead e = ahead
    by false false false ahead e = absurd (not_window s.waiting p pushes.Jumped (inl refl) e)
