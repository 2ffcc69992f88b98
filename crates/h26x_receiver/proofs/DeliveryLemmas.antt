-- What a network brings of the packets sent, by the places of those that are taken.
use Rattle.std.proofs.Common.{◌≡◌, ℕ, zero, suc, ◌+◌, ◌<◌, ◌≤◌, Bool, true, false, cond, List, [], ◌∷◌, length, map, drop, get_or, Option, Some, None, Result, Ok, Err, refl, sym, ap, ◌∙◌, subst, arith}
use Rattle.std.specs.Prelude.{◌==◌, ◌||◌, MatchBool}
use Rattle.std.specs.List.{AllByRecursion, list_any, range_with_len}
use Rattle.std.proofs.lemmas.List.{drop_more}
use Rattle.std.proofs.lemmas.List.FromFn.{length-map-range_with_len}
use Rattle.std.proofs.lemmas.Bool.Decides.{nat_tests}
use Rattle.h26x_core.specs.declared.error.PacketError.{PacketError}
use Rattle.h26x_model.specs.Send.Calls.{Call, AreCalls, all_entries}
use Rattle.h26x_model.specs.Payload.Facts.{IsPayloadFormat, AreCarried}
use Rattle.h26x_model.specs.Send.PacketizerState.{PacketizerState, IsPacketizerState, state_units, state_packets}
use Rattle.h26x_model.specs.Receive.DepacketizerState.{Depacketization, after_packets}
use Rattle.h26x_model.specs.Receive.RunLimit.{without_open_run, with_run_within}
use Rattle.h26x_model.specs.Carry.Gaps.{after_kept_packets, WritesWholeUnits}
use Rattle.h26x_model.specs.Carry.AnySender.{WritesWhatCame}
use Rattle.h26x_model.specs.Payload.Format.{Format}
use Rattle.h26x_receiver.specs.declared.received.Received.{Received}
use Rattle.h26x_receiver.specs.declared.received.Received.TheVariants.{InOrder, Gap, TooLong, Late}
use Rattle.h26x_core.specs.Sequence.{next_sequence_number, distance_behind, is_late, is_expected}
use Rattle.h26x_receiver.specs.Sequenced.{SequencedDepacketization, with_expected, with_run_if, after_sequenced_packet, is_taken, IsSequencedAnswer, after_answers, HaveSequencedAnswers, AreAllReceived}
use Rattle.h26x_receiver.specs.Delivery.{packet_of_place, taken_places, IsNearPlace, AreNearPlaces, taken_mask, WholeUnitsAreWritten, WhatWasTakenIsWritten}
use Rattle.h26x_receiver.proofs.AnswerLemmas.{accepted}
use Rattle.h26x_core.proofs.SequenceLemmas.{number_at, next_number}
use Rattle.h26x_receiver.proofs.PlaceLemmas.{expected_at, is_place, IsOn, on_place}

-- what stands after the packets at these places, which are taken
abbrev pub after_places : ℕ → List (List ℕ) → Depacketization → Option ℕ → List ℕ → Depacketization
after_places most sent w expected [] = w
after_places most sent w expected (place ∷ places) = after_places most sent
    (with_run_within most (after_packets (with_run_if (is_place expected place) w) (get_or sent place [] ∷ []))) (Some (place + 1)) places

-- the places go up
abbrev pub GoUp : Option ℕ → List ℕ → Type 0
GoUp expected [] = Unit {0}
GoUp expected (place ∷ places) = IsOn expected place × GoUp (Some (place + 1)) places

-- a packet that is not answered as late is not late
in_time : (late : Bool) (P : Type 0) (is answer : Received) → (is ≡ answer → ⊥) → MatchBool late (accepted is ≡ accepted answer) P → late ≡ false
in_time true P is answer other h = absurd (other cc)
in_time false P is answer other h = refl

-- what stands after the packet at a place that was taken
abbrev then_at : ℕ → ℕ → List (List ℕ) → SequencedDepacketization → ℕ → SequencedDepacketization
then_at most first sent s place = record {
  at_work = with_run_within most (after_sequenced_packet s (number_at first place) (get_or sent place []));
  expected = Some (next_sequence_number (number_at first place));
}

-- one packet is taken, and then others
taking : (most first : ℕ) (sent : List (List ℕ)) (s : SequencedDepacketization) (expected : Option ℕ) (place : ℕ) (places : List ℕ) (answers : List (Result Received PacketError)) (answer : Received) →
    ((n : ℕ) → answer ≡ Late n → ⊥) → s.expected ≡ expected_at first expected → IsNearPlace expected place →
    IsSequencedAnswer most s (number_at first place) (get_or sent place []) (Ok answer) →
    (let next = then_at most first sent s place in
    (next.expected ≡ expected_at first (Some (place + 1)) → (after_answers most next (map (packet_of_place sent first) places) answers).at_work
    ≡ after_places most sent next.at_work (Some (place + 1)) (taken_places places answers) × GoUp (Some (place + 1)) (taken_places places answers)) →
    ((after_answers most next (map (packet_of_place sent first) places) answers).at_work ≡ after_places most sent s.at_work expected (place ∷ taken_places places answers))
    × GoUp expected (place ∷ taken_places places answers))
taking most first sent s expected place places answers answer other is near here = λ later.
    let number = number_at first place in
    let packet = get_or sent place [] in
    let timely : is_late s.expected number ≡ false = in_time (is_late s.expected number) _ answer (Late (distance_behind s.expected number)) (other (distance_behind s.expected number)) here in
    let on = on_place first expected place near (ap (λ (x : Option ℕ). is_late x number) (sym is) ∙ timely) in
    let follow : is_expected s.expected number ≡ is_place expected place = ap (λ (x : Option ℕ). is_expected x number) is ∙ on.1 in
    let rest = later (ap Some (next_number first place)) in (
      rest.0 ∙ ap (λ (b : Bool). after_places most sent (with_run_within most (after_packets (with_run_if b s.at_work) (packet ∷ []))) (Some (place + 1)) (taken_places places answers)) follow,
      (on.0, rest.1),
    )

-- what stands after packets that a network brought is what stands after those at the places taken
pub delivered : (most first : ℕ) (sent : List (List ℕ)) (s : SequencedDepacketization) (expected : Option ℕ) (places : List ℕ) (answers : List (Result Received PacketError)) →
    s.expected ≡ expected_at first expected → AreNearPlaces expected places answers → HaveSequencedAnswers most s (map (packet_of_place sent first) places) answers →
    ((after_answers most s (map (packet_of_place sent first) places) answers).at_work ≡ after_places most sent s.at_work expected (taken_places places answers))
    × GoUp expected (taken_places places answers)
delivered most first sent s expected [] [] is near each = (refl, tt)
delivered most first sent s expected [] (a ∷ answers) is near each = absurd each
delivered most first sent s expected (place ∷ places) [] is near each = absurd each
delivered most first sent s expected (place ∷ places) (Err e ∷ answers) is near each = delivered most first sent s expected places answers is near.1 each.1
delivered most first sent s expected (place ∷ places) (Ok (Late n) ∷ answers) is near each = delivered most first sent s expected places answers is near.1 each.1
delivered most first sent s expected (place ∷ places) (Ok InOrder ∷ answers) is near each =
    taking most first sent s expected place places answers InOrder (λ n e. cc) is near.0 each.0 (λ e. delivered most first sent (then_at most first sent s place) (Some (place + 1)) places answers e near.1 each.1)
delivered most first sent s expected (place ∷ places) (Ok (Gap n) ∷ answers) is near each =
    taking most first sent s expected place places answers (Gap n) (λ m e. cc) is near.0 each.0 (λ e. delivered most first sent (then_at most first sent s place) (Some (place + 1)) places answers e near.1 each.1)
delivered most first sent s expected (place ∷ places) (Ok (TooLong n) ∷ answers) is near each =
    taking most first sent s expected place places answers (TooLong n) (λ m e. cc) is near.0 each.0 (λ e. delivered most first sent (then_at most first sent s place) (Some (place + 1)) places answers e near.1 each.1)

-- whether a place is among these
abbrev pub is_among : List ℕ → ℕ → Bool
is_among places place = list_any (λ it. it == place) places

-- a place before all of them is not
pub not_among : (from place : ℕ) (places : List ℕ) → place < from → GoUp (Some from) places → is_among places place ≡ false
not_among from place [] before up = refl
not_among from place (p ∷ places) before up =
    let other : (p == place) ≡ false = let h : from ≤ p = up.0 in grind (arith, nat_tests) in
    let later = not_among (p + 1) place places (let h : from ≤ p = up.0 in omega arith) up.1 in
    rw (other, later) refl

-- from a place on it makes no difference whether an earlier one is among them
pub earlier_among : (place from count : ℕ) (places : List ℕ) → place < from →
    map (is_among (place ∷ places)) (range_with_len from count) ≡ map (is_among places) (range_with_len from count)
earlier_among place from zero places before = refl
earlier_among place from (suc count) places before =
    let other : (place == from) ≡ false = grind (arith, nat_tests) in
    let later = earlier_among place (from + 1) count places (omega arith) in
    rw (other, later) refl

-- the same is written and told
record AreAlike (a b : Depacketization) : Type 0 where
  out : a.out ≡ b.out
  extra : a.extra ≡ b.extra

-- where two are the same
alike : {a b : Depacketization} → a ≡ b → AreAlike a b
alike e = record { out = ap (λ (w : Depacketization). w.out) e; extra = ap (λ (w : Depacketization). w.extra) e }

-- one after the other
then_alike : {a b c : Depacketization} → AreAlike a b → AreAlike b c → AreAlike a c
then_alike x y = record { out = x.out ∙ y.out; extra = x.extra ∙ y.extra }

-- a run that is given up twice, or once and then where it is not expected
given_up : (a b : Bool) (w : Depacketization) → a ≡ false → with_run_if a w ≡ with_run_if b (without_open_run w)
given_up a true w e = rw e refl
given_up a false w e = rw e refl

-- what stands after the packets at places is what stands after those that a mask of them keeps
at_is_over : (most : ℕ) (sent : List (List ℕ)) (w : Depacketization) (from count : ℕ) (places : List ℕ) → from + count ≡ length sent →
    GoUp (Some from) places → AllByRecursion (λ place. place < length sent) places →
    AreAlike (after_places most sent w (Some from) places) (after_kept_packets most w (map (is_among places) (range_with_len from count)) (drop from sent))
at_is_over most sent w from zero [] total up within_sent = alike refl
at_is_over most sent w from zero (place ∷ places) total up within_sent = let low : from ≤ place = up.0 in let high : place < length sent = within_sent.0 in absurd (omega arith)
at_is_over most sent w from (suc count) [] total up within_sent =
    let more = drop_more sent from [] (omega arith) in
    let mask = map (is_among []) (range_with_len (from + 1) count) in
    let same : AreAlike w (without_open_run w) = record { out = refl; extra = refl } in
    then_alike same (then_alike (at_is_over most sent (without_open_run w) (from + 1) count [] (omega arith) tt tt)
    (alike (ap (after_kept_packets most w (false ∷ mask)) (sym more))))
at_is_over most sent w from (suc count) (place ∷ places) total up within_sent =
    let more = drop_more sent from [] (omega arith) in
    let low : from ≤ place = up.0 in
    elim (place == from) as (λ b. (place == from) ≡ b →
    AreAlike (after_places most sent w (Some from) (place ∷ places)) (after_kept_packets most w (map (is_among (place ∷ places)) (range_with_len from (suc count))) (drop from sent))) [
      | true ↦ λ e.
          let same : place ≡ from = grind (arith, nat_tests) in
          let packet = get_or sent from [] in
          let next = with_run_within most (after_packets w (packet ∷ [])) in
          let tail = map (is_among (place ∷ places)) (range_with_len (from + 1) count) in
          let skip : tail ≡ map (is_among places) (range_with_len (from + 1) count) = earlier_among place (from + 1) count places (omega arith) in
          let first : after_places most sent w (Some from) (place ∷ places) ≡ after_places most sent next (Some (from + 1)) places =
          ap (λ (b : Bool). after_places most sent (with_run_within most (after_packets (with_run_if b w) (get_or sent place [] ∷ []))) (Some (place + 1)) places) e
          ∙ ap (λ (p : ℕ). after_places most sent (with_run_within most (after_packets w (get_or sent p [] ∷ []))) (Some (p + 1)) places) same in
          let up_next : GoUp (Some (from + 1)) places = subst (λ (p : ℕ). GoUp (Some (p + 1)) places) same up.1 in
          let over : after_kept_packets most w (map (is_among (place ∷ places)) (range_with_len from (suc count))) (drop from sent)
          ≡ after_kept_packets most next (map (is_among places) (range_with_len (from + 1) count)) (drop (from + 1) sent) =
          ap (λ (b : Bool). after_kept_packets most w ((b || is_among places from) ∷ tail) (drop from sent)) e
          ∙ ap (after_kept_packets most w (true ∷ tail)) more
          ∙ ap (λ (m : List Bool). after_kept_packets most next m (drop (from + 1) sent)) skip in
          then_alike (alike first) (then_alike
          (at_is_over most sent next (from + 1) count places (omega arith) up_next within_sent.1) (alike (sym over)))
      | false ↦ λ e.
          let behind_it : from + 1 ≤ place = grind (arith, nat_tests) in
          let none : is_among (place ∷ places) from ≡ false = not_among (from + 1) from (place ∷ places) (omega arith) (behind_it, up.1) in
          let tail = map (is_among (place ∷ places)) (range_with_len (from + 1) count) in
          let first : after_places most sent w (Some from) (place ∷ places) ≡ after_places most sent (without_open_run w) (Some (from + 1)) (place ∷ places) =
          ap (λ (x : Depacketization). after_places most sent (with_run_within most (after_packets x (get_or sent place [] ∷ []))) (Some (place + 1)) places) (given_up (place == from) (place == from + 1) w e) in
          let over : after_kept_packets most w (map (is_among (place ∷ places)) (range_with_len from (suc count))) (drop from sent)
          ≡ after_kept_packets most (without_open_run w) tail (drop (from + 1) sent) =
          ap (λ (b : Bool). after_kept_packets most w (b ∷ tail) (drop from sent)) none
          ∙ ap (after_kept_packets most w (false ∷ tail)) more in
          then_alike (alike first) (then_alike
          (at_is_over most sent (without_open_run w) (from + 1) count (place ∷ places) (omega arith) (behind_it, up.1) within_sent) (alike (sym over)))
    ] refl

-- where any place may be the first, no run is open before it
from_none : (most : ℕ) (sent : List (List ℕ)) (w : Depacketization) (places : List ℕ) → AreAlike (after_places most sent w None places) (after_places most sent (without_open_run w) (Some 0) places)
from_none most sent w [] = record { out = refl; extra = refl }
from_none most sent w (place ∷ places) = alike
    (ap (λ (x : Depacketization). after_places most sent (with_run_within most (after_packets x (get_or sent place [] ∷ []))) (Some (place + 1)) places) (given_up false (place == 0) w refl))

-- and the places go up from 0
pub up_from_first : (e : Option ℕ) (places : List ℕ) → GoUp e places → GoUp (Some 0) places
up_from_first e [] up = tt
up_from_first e (place ∷ places) up = (omega arith, up.1)

-- those taken are places of packets sent
taken_within : (most : ℕ) (places : List ℕ) (answers : List (Result Received PacketError)) → AllByRecursion (λ place. place < most) places →
    AllByRecursion (λ place. place < most) (taken_places places answers)
taken_within most [] answers each = tt
taken_within most (place ∷ places) [] each = tt
taken_within most (place ∷ places) (answer ∷ answers) (here, each) =
    elim (is_taken answer) as (λ b. AllByRecursion (λ p. p < most) (cond b (place ∷ taken_places places answers) (taken_places places answers))) [
      | true ↦ (here, taken_within most places answers each)
      | false ↦ taken_within most places answers each
    ]

-- the law of whole units, as it stands in `laws`
abbrev pub DamagesNothing : Type 0
DamagesNothing = (most : ℕ) (s : PacketizerState) (w : Depacketization) (calls : List Call) → IsPayloadFormat s.format → IsPacketizerState s → AreCalls calls → w.state.format ≡ s.format →
    AreCarried s.format (state_units s (all_entries s.format calls)) → (mask : List Bool) →
    length mask ≡ length (state_packets s (all_entries s.format calls)) → WritesWholeUnits most s w calls mask

-- so the whole units are written and told
pub whole_written : (most : ℕ) (w : Depacketization) (packets : List (ℕ × List ℕ)) (answers : List (Result Received PacketError)) (new : SequencedDepacketization) → DamagesNothing →
    IsPayloadFormat w.state.format → AreAllReceived most (with_expected w None) packets answers new → WholeUnitsAreWritten most w packets answers new.at_work.out new.at_work.extra
whole_written most w packets answers new law ok all = λ s calls first places same it.
    let sent = state_packets s (all_entries s.format calls) in
    let by_places = delivered most first sent (with_expected w None) None places answers refl it.near
    (subst (λ (x : List (ℕ × List ℕ)). HaveSequencedAnswers most (with_expected w None) x answers) it.brought.each all.each) in
    let took = taken_places places answers in
    let mask = taken_mask s calls places answers in
    let long : length mask ≡ length sent = length-map-range_with_len (is_among took) 0 (length sent) in
    let whole = law most s (without_open_run w) calls (subst (λ (f : Format). IsPayloadFormat f) same ok) it.brought.sender it.brought.calls_are same it.brought.carried mask long in
    let stood : new.at_work ≡ after_places most sent w None took =
    ap (λ (x : SequencedDepacketization). x.at_work) all.stands ∙ ap (λ (x : List (ℕ × List ℕ)). (after_answers most (with_expected w None) x answers).at_work) it.brought.each ∙ by_places.0 in
    let over = then_alike (alike stood) (then_alike (from_none most sent w took)
    (at_is_over most sent (without_open_run w) 0 (length sent) took (omega arith) (up_from_first None took by_places.1) (taken_within (length sent) places answers it.brought.sent))) in
    (over.out ∙ whole.written, over.extra ∙ whole.told)

-- the law of what came, as it stands in `laws`
abbrev pub WritesIt : Type 0
WritesIt = (most : ℕ) (w : Depacketization) (mask : List Bool) (packets : List (List ℕ)) → IsPayloadFormat w.state.format → WritesWhatCame most w mask packets

-- so what was taken is written and told, whoever sent it
pub taken_written : (most : ℕ) (w : Depacketization) (packets : List (ℕ × List ℕ)) (answers : List (Result Received PacketError)) (new : SequencedDepacketization) → WritesIt →
    IsPayloadFormat w.state.format → AreAllReceived most (with_expected w None) packets answers new → WhatWasTakenIsWritten most w packets answers new.at_work.out new.at_work.extra
taken_written most w packets answers new law ok all = λ sent first places it.
    let by_places = delivered most first sent (with_expected w None) None places answers refl it.near
    (subst (λ (x : List (ℕ × List ℕ)). HaveSequencedAnswers most (with_expected w None) x answers) it.each all.each) in
    let took = taken_places places answers in
    let mask = map (is_among took) (range_with_len 0 (length sent)) in
    let came = law most (without_open_run w) mask sent ok in
    let stood : new.at_work ≡ after_places most sent w None took =
    ap (λ (x : SequencedDepacketization). x.at_work) all.stands ∙ ap (λ (x : List (ℕ × List ℕ)). (after_answers most (with_expected w None) x answers).at_work) it.each ∙ by_places.0 in
    let over = then_alike (alike stood) (then_alike (from_none most sent w took)
    (at_is_over most sent (without_open_run w) 0 (length sent) took (omega arith) (up_from_first None took by_places.1) (taken_within (length sent) places answers it.within))) in
    (over.out ∙ came.written, over.extra ∙ came.told)
