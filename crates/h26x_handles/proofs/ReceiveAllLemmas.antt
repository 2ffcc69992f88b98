-- Packets that were received one after the other, up to a place.
use Rattle.std.proofs.Common.{◌≡◌, ◌≢◌, ◌∙◌, refl, ap, sym, subst, ℕ, ◌+◌, ◌-◌, ◌<◌, ◌≤◌, List, [], ◌∷◌, ◌++◌, length, take, drop, get_or, slice_set, drop_of_length-le, append_assoc, arith}
use Rattle.std.proofs.Math.Seq.{drop-append-add, take-append-add, drop-length}
use Rattle.std.proofs.lemmas.List.{drop_more, length-append, length-take-le, append-nil, take-append-drop, take_all, length-drop}
use borrow.Rule.Slice.PartMut.{put_mid, mid_of, Post-is}
use Rattle.h26x_codes.specs.Codes.{ok, no_room, out_of_memory}
use Rattle.h26x_codes.specs.Copies.{with_first}
use Rattle.h26x_handles.specs.Endpoint.{SequencedEndpoint}
use Rattle.h26x_handles.specs.declared.receive_all.ReceivedTold.{ReceivedTold}
use Rattle.h26x_handles.specs.declared.receive_all.TakenTo.{TakenTo}
use Rattle.h26x_handles.specs.ReceiveAll.{IsReceivedInto}
use Rattle.h26x_handles.specs.ReceiveAll.{AreReceivedInTurn, all_received, lacks_memory, lacks_room, received_and, AreToldReceived}
use Rattle.h26x_handles.proofs.PayloadLemmas.{none_told, told_more, at_place}

-- what stands behind a place, and a buffer with other bytes there
pub put_behind : (to room : List ℕ) (place : ℕ) → place ≤ length to → put_mid place (length to - place) to room ≡ take place to ++ room
put_behind to room place within =
    ap (λ (l : List ℕ). take place to ++ (room ++ l)) (Post-is place (length to) to within ∙ drop-length to) ∙ ap (λ (l : List ℕ). take place to ++ l) (append-nil room)

pub all_behind : (to : List ℕ) (place : ℕ) → place ≤ length to → mid_of place (length to - place) to ≡ drop place to
all_behind to place within = take_all (length to - place) (drop place to) (let long = length-drop place to in omega (arith, long))

drop_behind : (to room : List ℕ) (place more : ℕ) → place ≤ length to → drop (place + more) (take place to ++ room) ≡ drop more room
drop_behind to room place more within =
    subst (λ k. drop (k + more) (take place to ++ room) ≡ drop more room) (length-take-le place to within) (drop-append-add (take place to) room more)

take_behind : (to room : List ℕ) (place more : ℕ) → place ≤ length to → take (place + more) (take place to ++ room) ≡ take place to ++ take more room
take_behind to room place more within =
    subst (λ k. take (k + more) (take place to ++ room) ≡ take place to ++ take more room) (length-take-le place to within) (take-append-add (take place to) room more)

-- Packets were received up to a place: whatever comes of the others comes of all.
pub record AreReceivedSoFar (packets : List (ℕ × List ℕ)) (it at : SequencedEndpoint) (first_to to : List ℕ) (room told : List ReceivedTold) (place written : ℕ) : Type 0 where
  pub before : List ReceivedTold
  pub count : length before ≡ place
  pub tells : told ≡ with_first before room
  pub within : written ≤ length to
  pub goes_on : (others : List ReceivedTold) (new : SequencedEndpoint) (rest : List ℕ) (code taken more : ℕ) →
      AreReceivedInTurn (drop place packets) at (drop written to) others new rest code taken more →
      AreReceivedInTurn packets it first_to (before ++ others) new (take written to ++ rest) code (place + taken) (written + more)

pub none_received : (packets : List (ℕ × List ℕ)) (it : SequencedEndpoint) (to : List ℕ) (room : List ReceivedTold) → AreReceivedSoFar packets it it to to room room 0 0
none_received packets it to room = record {
  before = [];
  count = refl;
  tells = none_told room;
  within = omega arith;
  goes_on = λ others new rest code taken more so.
      subst (λ k. AreReceivedInTurn packets it to others new rest code k (0 + more)) (omega arith)
      (subst (λ k. AreReceivedInTurn packets it to others new rest code taken k) (omega arith) so);
}

-- one more, which had room
pub received_more : (packets : List (ℕ × List ℕ)) (it at next : SequencedEndpoint) (first_to to next_to : List ℕ) (room told : List ReceivedTold) (place written : ℕ) (p : ℕ × List ℕ)
    (one : ReceivedTold) → place < length packets → get_or packets place p ≡ p → AreReceivedSoFar packets it at first_to to room told place written →
    IsReceivedInto p at (drop written to) next next_to one → one.code ≢ out_of_memory → one.written ≤ length (drop written to) → length next_to ≡ length (drop written to) →
    AreReceivedSoFar packets it next first_to (take written to ++ next_to) room (slice_set told place one) (place + 1) (written + one.written)
received_more packets it at next first_to to next_to room told place written p one below is so received fine fits long =
    let within = so.within in
    record {
      before = so.before ++ one ∷ [];
      count = let n = so.count in let l = length-append so.before (one ∷ []) in omega (arith, n, l);
      tells = told_more so.before room told place one so.count so.tells;
      within = let l = length-append (take written to) next_to in let m = length-take-le written to within in omega (arith, l, m, fits, long);
      goes_on = λ others new rest code taken more later.
          let behind : AreReceivedInTurn (drop (place + 1) packets) next (drop one.written next_to) others new rest code taken more =
          subst (λ l. AreReceivedInTurn (drop (place + 1) packets) next l others new rest code taken more) (drop_behind to next_to written one.written within) later in
          let step : AreReceivedInTurn (p ∷ drop (place + 1) packets) at (drop written to) (one ∷ others) new (take one.written next_to ++ rest) code (1 + taken) (one.written + more) =
          received_and received fine fits behind in
          let here : AreReceivedInTurn (drop place packets) at (drop written to) (one ∷ others) new (take one.written next_to ++ rest) code (1 + taken) (one.written + more) =
          subst (λ l. AreReceivedInTurn l at (drop written to) (one ∷ others) new (take one.written next_to ++ rest) code (1 + taken) (one.written + more)) (at_place packets place p below is) step in
          let whole = so.goes_on (one ∷ others) new (take one.written next_to ++ rest) code (1 + taken) (one.written + more) here in
          let text : take written to ++ (take one.written next_to ++ rest) ≡ take (written + one.written) (take written to ++ next_to) ++ rest =
          sym (append_assoc (take written to) (take one.written next_to) rest) ∙ ap (λ l. l ++ rest) (sym (take_behind to next_to written one.written within)) in
          subst (λ l. AreReceivedInTurn packets it first_to l new (take (written + one.written) (take written to ++ next_to) ++ rest) code (place + 1 + taken) (written + one.written + more))
          (sym (append_assoc so.before (one ∷ []) others))
          (subst (λ l. AreReceivedInTurn packets it first_to (so.before ++ one ∷ others) new l code (place + 1 + taken) (written + one.written + more)) text
          (subst (λ k. AreReceivedInTurn packets it first_to (so.before ++ one ∷ others) new (take written to ++ (take one.written next_to ++ rest)) code k (written + one.written + more)) (omega arith)
          (subst (λ k. AreReceivedInTurn packets it first_to (so.before ++ one ∷ others) new (take written to ++ (take one.written next_to ++ rest)) code (place + (1 + taken)) k) (omega arith) whole)));
    }

-- at the end all are
pub received_to_end : (packets : List (ℕ × List ℕ)) (it at : SequencedEndpoint) (first_to to : List ℕ) (room told : List ReceivedTold) (place written : ℕ) → length packets ≤ place →
    AreReceivedSoFar packets it at first_to to room told place written → AreToldReceived packets it first_to room at to told (record { code = ok; taken = place; written = written })
received_to_end packets it at first_to to room told place written past so =
    let none : drop place packets ≡ [] = drop_of_length-le packets past in
    let end : AreReceivedInTurn [] at (drop written to) [] at (drop written to) ok 0 0 = all_received in
    let here : AreReceivedInTurn (drop place packets) at (drop written to) [] at (drop written to) ok 0 0 = subst (λ l. AreReceivedInTurn l at (drop written to) [] at (drop written to) ok 0 0) (sym none) end in
    record {
      all_told = so.before;
      received = subst (λ l. AreReceivedInTurn packets it first_to l at to ok place written) (append-nil so.before)
          (subst (λ l. AreReceivedInTurn packets it first_to (so.before ++ []) at l ok place written) (take-append-drop written to)
          (subst (λ k. AreReceivedInTurn packets it first_to (so.before ++ []) at (take written to ++ drop written to) ok k written) (omega arith)
          (subst (λ k. AreReceivedInTurn packets it first_to (so.before ++ []) at (take written to ++ drop written to) ok (place + 0) k) (omega arith) (so.goes_on [] at (drop written to) ok 0 0 here))));
      tells = so.tells;
    }

-- up to one that completes what has no room
pub received_to_last : (packets : List (ℕ × List ℕ)) (it at next : SequencedEndpoint) (first_to to next_to : List ℕ) (room told : List ReceivedTold) (place written : ℕ) (p : ℕ × List ℕ)
    (one : ReceivedTold) → place < length packets → get_or packets place p ≡ p → AreReceivedSoFar packets it at first_to to room told place written →
    IsReceivedInto p at (drop written to) next next_to one → one.code ≢ out_of_memory → length (drop written to) < one.written →
    AreToldReceived packets it first_to room next (take written to ++ next_to) (slice_set told place one) (record { code = no_room; taken = place + 1; written = written })
received_to_last packets it at next first_to to next_to room told place written p one below is so received fine lacks =
    let step : AreReceivedInTurn (p ∷ drop (place + 1) packets) at (drop written to) (one ∷ []) next next_to no_room 1 0 = lacks_room received fine lacks in
    let here : AreReceivedInTurn (drop place packets) at (drop written to) (one ∷ []) next next_to no_room 1 0 =
    subst (λ l. AreReceivedInTurn l at (drop written to) (one ∷ []) next next_to no_room 1 0) (at_place packets place p below is) step in
    record {
      all_told = so.before ++ one ∷ [];
      received = subst (λ k. AreReceivedInTurn packets it first_to (so.before ++ one ∷ []) next (take written to ++ next_to) no_room (place + 1) k) (omega arith) (so.goes_on (one ∷ []) next next_to no_room 1 0 here);
      tells = told_more so.before room told place one so.count so.tells;
    }

-- up to one for which memory lacks
pub received_in_part : (packets : List (ℕ × List ℕ)) (it at next : SequencedEndpoint) (first_to to next_to : List ℕ) (room told : List ReceivedTold) (place written : ℕ) (p : ℕ × List ℕ)
    (one : ReceivedTold) → place < length packets → get_or packets place p ≡ p → AreReceivedSoFar packets it at first_to to room told place written →
    IsReceivedInto p at (drop written to) next next_to one → one.code ≡ out_of_memory →
    AreToldReceived packets it first_to room next (take written to ++ next_to) told (record { code = out_of_memory; taken = place; written = written })
received_in_part packets it at next first_to to next_to room told place written p one below is so received lacks =
    let step : AreReceivedInTurn (p ∷ drop (place + 1) packets) at (drop written to) [] next next_to out_of_memory 0 0 = lacks_memory received lacks in
    let here : AreReceivedInTurn (drop place packets) at (drop written to) [] next next_to out_of_memory 0 0 =
    subst (λ l. AreReceivedInTurn l at (drop written to) [] next next_to out_of_memory 0 0) (at_place packets place p below is) step in
    record {
      all_told = so.before;
      received = subst (λ l. AreReceivedInTurn packets it first_to l next (take written to ++ next_to) out_of_memory place written) (append-nil so.before)
          (subst (λ k. AreReceivedInTurn packets it first_to (so.before ++ []) next (take written to ++ next_to) out_of_memory k written) (omega arith)
          (subst (λ k. AreReceivedInTurn packets it first_to (so.before ++ []) next (take written to ++ next_to) out_of_memory (place + 0) k) (omega arith) (so.goes_on [] next next_to out_of_memory 0 0 here)));
      tells = so.tells;
    }
