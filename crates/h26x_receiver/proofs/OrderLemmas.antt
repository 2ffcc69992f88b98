-- Packets in order are all taken.
use Rattle.std.proofs.Common.{◌≡◌, ℕ, ◌+◌, Bool, true, false, cond, List, [], ◌∷◌, length, map, get_or, Option, None, Some, Result, Ok, Err, refl, ap, ◌∙◌, subst}
use Rattle.std.specs.Prelude.{◌==◌, nat_lt, MatchBool}
use Rattle.h26x_core.specs.declared.error.PacketError.{PacketError}
use Rattle.h26x_core.specs.declared.extra.CodecExtra.{CodecExtra}
use Rattle.h26x_model.specs.Send.Calls.{all_entries}
use Rattle.h26x_model.specs.Receive.RunLimit.{run_len}
use Rattle.h26x_model.specs.Carry.Gaps.{whole_units}
use Rattle.h26x_model.specs.Receive.DepacketizerState.{Depacketization, AreWritten}
use Rattle.h26x_model.specs.Send.PacketizerState.{state_packets}
use Rattle.h26x_receiver.specs.declared.received.Received.{Received}
use Rattle.h26x_receiver.specs.declared.received.Received.TheVariants.{InOrder, Gap, TooLong, Late}
use Rattle.h26x_core.specs.Sequence.{missing_count, distance_behind, is_late}
use Rattle.h26x_receiver.specs.Sequenced.{SequencedDepacketization, with_expected, after_sequenced_packet, answer_by_missing, after_answer, HaveSequencedAnswers}
use Rattle.h26x_receiver.specs.Delivery.{packet_of_place, taken_places, AreNearPlaces, mask_of_places, AreNextPlaces, NoneIsRefused, WholeUnitsAreWritten, ThoseThatCameAreWritten}
use Rattle.h26x_core.proofs.SequenceLemmas.{number_at, next_number}
use Rattle.h26x_receiver.proofs.PlaceLemmas.{expected_at, next_in_time, next_near}
use Rattle.h26x_receiver.proofs.AnswerLemmas.{accepted}

-- no packet that is taken is answered as late
never_late : (lost n : ℕ) (long : Bool) → Late n ≡ answer_by_missing lost long → ⊥
never_late lost n true e = cc
never_late lost n false e = elim (lost == 0) as (λ b. Late n ≡ cond b InOrder (Gap lost) → ⊥) [ true ↦ λ h. cc | false ↦ λ h. cc ] e

-- so one that is in time isn't answered so
pub in_time_taken : (late : Bool) (n lost : ℕ) (long : Bool) (is : Received) (P : Type 0) → late ≡ false →
    MatchBool late (accepted (Late n) ≡ accepted is) (P × (Late n ≡ answer_by_missing lost long)) → ⊥
in_time_taken true n lost long is P e h = cc
in_time_taken false n lost long is P e h = never_late lost n long h.1

-- the places taken of those in order are all, and they are near
pub order_taken : (most first : ℕ) (sent : List (List ℕ)) (s : SequencedDepacketization) (expected : Option ℕ) (places : List ℕ) (answers : List (Result Received PacketError)) →
    s.expected ≡ expected_at first expected → AreNextPlaces expected places → HaveSequencedAnswers most s (map (packet_of_place sent first) places) answers → NoneIsRefused answers →
    (taken_places places answers ≡ places) × AreNearPlaces expected places answers
order_taken most first sent s expected [] [] is order each none = (refl, tt)
order_taken most first sent s expected [] (a ∷ answers) is order each none = absurd each
order_taken most first sent s expected (place ∷ places) [] is order each none = absurd each
order_taken most first sent s expected (place ∷ places) (Err e ∷ answers) is order each none = absurd (let bad = none.0 in cc)
order_taken most first sent s expected (place ∷ places) (Ok (Late n) ∷ answers) is order each none =
    let timely : is_late s.expected (number_at first place) ≡ false = ap (λ (x : Option ℕ). is_late x (number_at first place)) is ∙ next_in_time first expected place order.0 in
    absurd (in_time_taken (is_late s.expected (number_at first place)) n (missing_count s.expected (number_at first place))
    (nat_lt most (run_len (after_sequenced_packet s (number_at first place) (get_or sent place [])).state.run)) (Late (distance_behind s.expected (number_at first place))) _ timely each.0)
order_taken most first sent s expected (place ∷ places) (Ok InOrder ∷ answers) is order each none =
    let rest = order_taken most first sent (after_answer most s (number_at first place) (get_or sent place []) (Ok InOrder)) (Some (place + 1)) places answers
    (ap Some (next_number first place)) order.1 each.1 none.1 in
    (ap (λ (x : List ℕ). place ∷ x) rest.0, (next_near expected place order.0, rest.1))
order_taken most first sent s expected (place ∷ places) (Ok (Gap n) ∷ answers) is order each none =
    let rest = order_taken most first sent (after_answer most s (number_at first place) (get_or sent place []) (Ok (Gap n))) (Some (place + 1)) places answers
    (ap Some (next_number first place)) order.1 each.1 none.1 in
    (ap (λ (x : List ℕ). place ∷ x) rest.0, (next_near expected place order.0, rest.1))
order_taken most first sent s expected (place ∷ places) (Ok (TooLong n) ∷ answers) is order each none =
    let rest = order_taken most first sent (after_answer most s (number_at first place) (get_or sent place []) (Ok (TooLong n))) (Some (place + 1)) places answers
    (ap Some (next_number first place)) order.1 each.1 none.1 in
    (ap (λ (x : List ℕ). place ∷ x) rest.0, (next_near expected place order.0, rest.1))

-- so those that came are written
pub came_written : (most : ℕ) (w : Depacketization) (packets : List (ℕ × List ℕ)) (answers : List (Result Received PacketError)) (out : List ℕ) (told : CodecExtra) →
    HaveSequencedAnswers most (with_expected w None) packets answers → NoneIsRefused answers →
    WholeUnitsAreWritten most w packets answers out told → ThoseThatCameAreWritten most w packets out told
came_written most w packets answers out told each none whole = λ s calls first places same it.
    let sent = state_packets s (all_entries s.format calls) in
    let took = order_taken most first sent (with_expected w None) None places answers refl it.order
    (subst (λ (x : List (ℕ × List ℕ)). HaveSequencedAnswers most (with_expected w None) x answers) it.brought.each each) none in
    subst (λ (x : List ℕ). AreWritten w (whole_units most s calls (mask_of_places x (length sent))) out told) took.0
    (whole s calls first places same (record {
      brought = it.brought;
      near = took.1;
    }))
