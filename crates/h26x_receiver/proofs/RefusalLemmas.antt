-- No packet that calls send is refused for what it is.
use Rattle.std.proofs.Common.{◌≡◌, ℕ, zero, suc, ◌<◌, Bool, true, false, List, [], ◌∷◌, length, map, get_or, Option, Result, Ok, Err, refl, sym, subst, inl, inr, ◌⊎◌, arith}
use Rattle.std.specs.Prelude.{◌&&◌, MatchBool}
use Rattle.std.specs.List.{list_any, AllByRecursion}
use Rattle.h26x_core.specs.declared.error.PacketError.{PacketError}
use Rattle.h26x_core.specs.declared.error.PacketError.TheVariants.{AvcUnitTooLong, OutOfMemory}
use Rattle.h26x_model.specs.Send.Calls.{Call, AreCalls, all_entries}
use Rattle.h26x_model.specs.Carry.Laws.{CarriesWhole}
use Rattle.h26x_model.specs.Payload.Facts.{IsPayloadFormat, AreCarried}
use Rattle.h26x_model.specs.Payload.Format.{Format}
use Rattle.h26x_model.specs.Receive.Outcome.{is_too_long, IsReadingOutcome}
use Rattle.h26x_model.specs.Payload.Reading.{Reading, Single, Aggregate, Fragment, Paci, Refused, IsRead}
use Rattle.h26x_model.specs.Receive.Received.{reading_units}
use Rattle.h26x_model.specs.Receive.DepacketizerState.{Depacketization}
use Rattle.h26x_model.specs.Send.PacketizerState.{PacketizerState, IsPacketizerState, state_units, state_packets}
use Rattle.h26x_receiver.specs.declared.received.Received.{Received}
use Rattle.h26x_receiver.specs.declared.received.Received.TheVariants.{InOrder, Gap, TooLong, Late}
use Rattle.h26x_core.specs.Sequence.{distance_behind, is_late, is_expected}
use Rattle.h26x_receiver.specs.Sequenced.{SequencedDepacketization, with_expected, with_run_if, after_answer, HaveSequencedAnswers}
use Rattle.h26x_receiver.specs.Delivery.{packet_of_place, IsWantOrTooLong, NoneIsRefusedForWhatItIs}
use Rattle.h26x_core.proofs.SequenceLemmas.{number_at}
use Rattle.h26x_receiver.proofs.AnswerLemmas.{accepted}

-- a refusal as an outcome of a depacketizer
abbrev refused : PacketError → Result (Unit {0}) PacketError
refused e = Err e

-- as an answer of a receiver
abbrev pub no_answer : PacketError → Result Received PacketError
no_answer e = Err e

-- what holds of each holds of the one at a place
pub at_place : {A : Type 0} (P : A → Type 0) (xs : List A) (i : ℕ) (d : A) → AllByRecursion P xs → i < length xs → P (get_or xs i d)
at_place P [] i d all within = absurd (omega arith)
at_place P (x ∷ xs) zero d all within = all.0
at_place P (x ∷ xs) (suc i) d all within = at_place P xs i d all.1 (omega arith)

-- what is read is refused for want of memory, or in AVC form for a unit that is too long
by_length : (avc long : Bool) (e : PacketError) →
    MatchBool (avc && long) (refused e ≡ refused AvcUnitTooLong) ((refused e ≡ Ok tt) ⊎ (refused e ≡ refused OutOfMemory)) → IsWantOrTooLong avc (Err e)
by_length true true e h = inr (refl, cc)
by_length true false e (inl h) = absurd cc
by_length true false e (inr h) = inl cc
by_length false long e (inl h) = absurd cc
by_length false long e (inr h) = inl cc

cause_of : (avc : Bool) (run : Option (List ℕ)) (reading : Reading) (e : PacketError) → IsRead reading → IsReadingOutcome avc run reading (Err e) → IsWantOrTooLong avc (Err e)
cause_of avc run (Refused error) e read outcome = absurd read
cause_of avc run (Single unit number) e read outcome = by_length avc (list_any is_too_long (reading_units run (Single unit number))) e outcome
cause_of avc run (Aggregate units) e read outcome = by_length avc (list_any is_too_long (reading_units run (Aggregate units))) e outcome
cause_of avc run (Fragment start end head number body) e read outcome = by_length avc (list_any is_too_long (reading_units run (Fragment start end head number body))) e outcome
cause_of avc run (Paci head fields extension body) e read outcome = by_length avc (list_any is_too_long (reading_units run (Paci head fields extension body))) e outcome

-- the same of an answer
pub want_of : (late : Bool) (avc : Bool) (run : Option (List ℕ)) (reading : Reading) (e : PacketError) (answer : Received) → IsRead reading →
    MatchBool late (no_answer e ≡ accepted answer) (IsReadingOutcome avc run reading (Err e) × Unit {0}) → IsWantOrTooLong avc (Err e)
want_of true avc run reading e answer read h = absurd cc
want_of false avc run reading e answer read h = cause_of avc run reading e read h.0

-- the same of all answers
all_want : (most first : ℕ) (sent : List (List ℕ)) (s : SequencedDepacketization) (places : List ℕ) (answers : List (Result Received PacketError)) →
    AllByRecursion (λ packet. IsRead (s.at_work.state.format.read packet)) sent → AllByRecursion (λ place. place < length sent) places →
    HaveSequencedAnswers most s (map (packet_of_place sent first) places) answers → AllByRecursion (IsWantOrTooLong s.at_work.state.is_avc) answers
all_want most first sent s [] [] read within each = tt
all_want most first sent s [] (a ∷ answers) read within each = absurd each
all_want most first sent s (place ∷ places) [] read within each = absurd each
all_want most first sent s (place ∷ places) (Err e ∷ answers) read within each =
    let run = (with_run_if (is_expected s.expected (number_at first place)) s.at_work).state.run in (
      want_of (is_late s.expected (number_at first place)) s.at_work.state.is_avc run (s.at_work.state.format.read (get_or sent place [])) e (Late (distance_behind s.expected (number_at first place)))
          (at_place (λ packet. IsRead (s.at_work.state.format.read packet)) sent place [] read within.0) each.0,
      all_want most first sent s places answers read within.1 each.1,
    )
all_want most first sent s (place ∷ places) (Ok (Late n) ∷ answers) read within each = (tt, all_want most first sent s places answers read within.1 each.1)
all_want most first sent s (place ∷ places) (Ok InOrder ∷ answers) read within each =
    (tt, all_want most first sent (after_answer most s (number_at first place) (get_or sent place []) (Ok InOrder)) places answers read within.1 each.1)
all_want most first sent s (place ∷ places) (Ok (Gap n) ∷ answers) read within each =
    (tt, all_want most first sent (after_answer most s (number_at first place) (get_or sent place []) (Ok (Gap n))) places answers read within.1 each.1)
all_want most first sent s (place ∷ places) (Ok (TooLong n) ∷ answers) read within each =
    (tt, all_want most first sent (after_answer most s (number_at first place) (get_or sent place []) (Ok (TooLong n))) places answers read within.1 each.1)

-- the law of what is carried, as it stands in `laws`
abbrev pub CarriesCalls : Type 0
CarriesCalls = (s : PacketizerState) (w : Depacketization) (calls : List Call) → IsPayloadFormat s.format → IsPacketizerState s → AreCalls calls → w.state.format ≡ s.format →
    AreCarried s.format (state_units s (all_entries s.format calls)) → CarriesWhole s w calls

-- so no packet that calls send is refused for what it is
pub refusals_are_want : (most : ℕ) (w : Depacketization) (expected : Option ℕ) (packets : List (ℕ × List ℕ)) (answers : List (Result Received PacketError)) → CarriesCalls →
    IsPayloadFormat w.state.format → HaveSequencedAnswers most (with_expected w expected) packets answers → NoneIsRefusedForWhatItIs w packets answers
refusals_are_want most w expected packets answers law ok each = λ s calls first places same it.
    let sent = state_packets s (all_entries s.format calls) in
    let whole = law s w calls (subst (λ (f : Format). IsPayloadFormat f) same ok) it.sender it.calls_are same it.carried in
    all_want most first sent (with_expected w expected) places answers
    (subst (λ (f : Format). AllByRecursion (λ packet. IsRead (f.read packet)) sent) (sym same) whole.read) it.sent
    (subst (λ (x : List (ℕ × List ℕ)). HaveSequencedAnswers most (with_expected w expected) x answers) it.each each)
