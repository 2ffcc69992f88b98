-- Packets that were pushed one after the other, up to a place.
use Rattle.std.proofs.Common.{◌≡◌, ◌∙◌, refl, ap, sym, subst, ℕ, ◌+◌, ◌<◌, ◌≤◌, true, false, List, [], ◌∷◌, ◌++◌, length, drop, map, get_or, slice_set, drop_of_length-le, append_assoc, arith}
use Rattle.std.proofs.lemmas.List.{map-append, length-append, length-map, append-nil}
use Rattle.h26x_codes.specs.Codes.{ok, out_of_memory}
use Rattle.h26x_codes.specs.Copies.{with_first}
use Rattle.h26x_reorder.specs.Rtp.{RtpBody}
use Rattle.h26x_access_units.specs.declared.pushed.Pushed.{Pushed}
use Rattle.h26x_access_units.specs.declared.pushed.Pushed.TheVariants as pushes
use Rattle.h26x_handles.specs.UnitsState.{UnitsState, units_push_answer, IsUnitsPushed}
use Rattle.h26x_handles.specs.declared.push_all.PushTold.{PushTold}
use Rattle.h26x_handles.specs.PushAll.{is_full, push_told, ArePushedInTurn, all_pushed, ends_full, ends_without_memory, pushed_and, AreToldPushed}
use Rattle.h26x_handles.proofs.PayloadLemmas.{none_told, told_more, at_place}

-- Packets were pushed up to a place, with these answers, and none of them is full: whatever comes of
-- the others comes of all.
pub record ArePushedSoFar (now : ℕ) (packets : List (ℕ × RtpBody)) (it at : UnitsState) (room told : List PushTold) (place : ℕ) : Type 0 where
  pub answers : List Pushed
  pub count : length answers ≡ place
  pub tells : told ≡ with_first (map push_told answers) room
  pub goes_on : (others : List Pushed) (new : UnitsState) (code taken : ℕ) → ArePushedInTurn now (drop place packets) at others new code taken → ArePushedInTurn now packets it (answers ++ others) new code (place + taken)

pub none_pushed : (now : ℕ) (packets : List (ℕ × RtpBody)) (it : UnitsState) (room : List PushTold) → ArePushedSoFar now packets it it room room 0
none_pushed now packets it room = record {
  answers = [];
  count = refl;
  tells = none_told room;
  goes_on = λ others new code taken rest. subst (λ k. ArePushedInTurn now packets it others new code k) (omega arith) rest;
}

tells_more : (answers : List Pushed) (pushed : Pushed) (place : ℕ) (room told : List PushTold) → length answers ≡ place → told ≡ with_first (map push_told answers) room →
    slice_set told place (push_told pushed) ≡ with_first (map push_told (answers ++ pushed ∷ [])) room
tells_more answers pushed place room told count tells =
    told_more (map push_told answers) room told place (push_told pushed) (length-map answers push_told ∙ count) tells ∙ ap (λ l. with_first l room) (sym (map-append push_told answers (pushed ∷ [])))

-- at the end all are
pub pushed_to_end : (now : ℕ) (packets : List (ℕ × RtpBody)) (it at : UnitsState) (room told : List PushTold) (place : ℕ) → length packets ≤ place → ArePushedSoFar now packets it at room told place →
    AreToldPushed now packets it at room told ok place
pushed_to_end now packets it at room told place past so =
    let none : drop place packets ≡ [] = drop_of_length-le packets past in
    let one : ArePushedInTurn now [] at [] at ok 0 = all_pushed in
    let here : ArePushedInTurn now (drop place packets) at [] at ok 0 = subst (λ l. ArePushedInTurn now l at [] at ok 0) (sym none) one in
    record {
      answers = so.answers;
      pushed = subst (λ l. ArePushedInTurn now packets it l at ok place) (append-nil so.answers) (subst (λ k. ArePushedInTurn now packets it (so.answers ++ []) at ok k) (omega arith) (so.goes_on [] at ok 0 here));
      tells = so.tells;
    }

-- one more, which isn't full
pub pushed_more : (now : ℕ) (packets : List (ℕ × RtpBody)) (it at next : UnitsState) (room told : List PushTold) (place : ℕ) (p : ℕ × RtpBody) (pushed : Pushed) → place < length packets → get_or packets place p ≡ p →
    ArePushedSoFar now packets it at room told place → pushed ≡ units_push_answer at p → IsUnitsPushed now p at next → is_full pushed ≡ false →
    ArePushedSoFar now packets it next room (slice_set told place (push_told pushed)) (place + 1)
pushed_more now packets it at next room told place p pushed within is so answered after fine =
    record {
      answers = so.answers ++ pushed ∷ [];
      count = let n = so.count in let l = length-append so.answers (pushed ∷ []) in omega (arith, n, l);
      tells = tells_more so.answers pushed place room told so.count so.tells;
      goes_on = λ others new code taken rest.
          let not_full : is_full (units_push_answer at p) ≡ false = ap is_full (sym answered) ∙ fine in
          let one : ArePushedInTurn now (p ∷ drop (place + 1) packets) at (units_push_answer at p ∷ others) new code (1 + taken) = pushed_and after not_full rest in
          let here : ArePushedInTurn now (drop place packets) at (pushed ∷ others) new code (1 + taken) =
          subst (λ a. ArePushedInTurn now (drop place packets) at (a ∷ others) new code (1 + taken)) (sym answered)
          (subst (λ l. ArePushedInTurn now l at (units_push_answer at p ∷ others) new code (1 + taken)) (at_place packets place p within is) one) in
          subst (λ l. ArePushedInTurn now packets it l new code (place + 1 + taken)) (sym (append_assoc so.answers (pushed ∷ []) others))
          (subst (λ k. ArePushedInTurn now packets it (so.answers ++ pushed ∷ others) new code k) (omega arith) (so.goes_on (pushed ∷ others) new code (1 + taken) here));
    }

full_is : (pushed : Pushed) → is_full pushed ≡ true → pushed ≡ pushes.Full
full_is pushes.Full is = refl
full_is pushes.Held is = absurd (let bad : false ≡ true = is in cc)
full_is (pushes.Late n) is = absurd (let bad : false ≡ true = is in cc)
full_is pushes.Twice is = absurd (let bad : false ≡ true = is in cc)
full_is pushes.Stray is = absurd (let bad : false ≡ true = is in cc)
full_is pushes.Anew is = absurd (let bad : false ≡ true = is in cc)
full_is pushes.Jumped is = absurd (let bad : false ≡ true = is in cc)

-- up to one that is full
pub pushed_to_full : (now : ℕ) (packets : List (ℕ × RtpBody)) (it at next : UnitsState) (room told : List PushTold) (place : ℕ) (p : ℕ × RtpBody) (pushed : Pushed) → place < length packets → get_or packets place p ≡ p →
    ArePushedSoFar now packets it at room told place → pushed ≡ units_push_answer at p → IsUnitsPushed now p at next → is_full pushed ≡ true →
    AreToldPushed now packets it next room (slice_set told place (push_told pushed)) ok place
pushed_to_full now packets it at next room told place p pushed within is so answered after lacks =
    let is_it : pushed ≡ pushes.Full = full_is pushed lacks in
    let one : ArePushedInTurn now (p ∷ drop (place + 1) packets) at (pushes.Full ∷ []) next ok 0 = ends_full after (sym answered ∙ is_it) in
    let here : ArePushedInTurn now (drop place packets) at (pushed ∷ []) next ok 0 =
    subst (λ a. ArePushedInTurn now (drop place packets) at (a ∷ []) next ok 0) (sym is_it) (subst (λ l. ArePushedInTurn now l at (pushes.Full ∷ []) next ok 0) (at_place packets place p within is) one) in
    record {
      answers = so.answers ++ pushed ∷ [];
      pushed = subst (λ k. ArePushedInTurn now packets it (so.answers ++ pushed ∷ []) next ok k) (omega arith) (so.goes_on (pushed ∷ []) next ok 0 here);
      tells = tells_more so.answers pushed place room told so.count so.tells;
    }

-- up to one for which memory lacks
pub pushed_in_part : (now : ℕ) (packets : List (ℕ × RtpBody)) (it at : UnitsState) (room told : List PushTold) (place : ℕ) (p : ℕ × RtpBody) → place < length packets → get_or packets place p ≡ p →
    ArePushedSoFar now packets it at room told place → AreToldPushed now packets it at room told out_of_memory place
pushed_in_part now packets it at room told place p within is so =
    let one : ArePushedInTurn now (p ∷ drop (place + 1) packets) at [] at out_of_memory 0 = ends_without_memory in
    let here : ArePushedInTurn now (drop place packets) at [] at out_of_memory 0 = subst (λ l. ArePushedInTurn now l at [] at out_of_memory 0) (at_place packets place p within is) one in
    record {
      answers = so.answers;
      pushed = subst (λ l. ArePushedInTurn now packets it l at out_of_memory place) (append-nil so.answers)
          (subst (λ k. ArePushedInTurn now packets it (so.answers ++ []) at out_of_memory k) (omega arith) (so.goes_on [] at out_of_memory 0 here));
      tells = so.tells;
    }
