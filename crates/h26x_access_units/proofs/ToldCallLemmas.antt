-- An access unit all of whose packets were taken is told whole, by any calls of a receiver.
use Rattle.std.proofs.Common.{◌≡◌, sym, subst, ap, ◌∙◌, refl, ℕ, ◌+◌, ◌<◌, true, false, List, [], ◌∷◌, Option, Some, None}
use Rattle.std.specs.List.{Contains}
use Rattle.h26x_model.specs.Carry.Laws.{DepacketizerGoesOn}
use Rattle.h26x_model.specs.Receive.DepacketizerState.{DepacketizerState}
use Rattle.h26x_model.specs.Receive.RunLimit.{state_with_run}
use Rattle.h26x_reorder.specs.Rtp.{RtpBody}
use Rattle.h26x_assembler.specs.AccessUnit.{AccessUnitValue, Assembly, open_assembly, none_open, is_run_closed, is_unit_broken}
use Rattle.h26x_access_units.specs.declared.config.AccessUnitConfig.{AccessUnitConfig}
use Rattle.h26x_access_units.specs.declared.decoder.DecoderState.{DecoderState}
use Rattle.h26x_access_units.specs.declared.framing.Framing.{Framing}
use Rattle.h26x_access_units.specs.declared.numbers.NumbersSoFar.{NumbersSoFar}
use Rattle.h26x_access_units.specs.Numbers.{bears_nothing, first_ended, fresh_numbers, begun_numbers_at}
use Rattle.h26x_access_units.specs.Framing.{fresh_framing}
use Rattle.h26x_access_units.specs.Decoder.{fresh_decoder}
use Rattle.h26x_access_units.specs.ReceivedAccessUnit.{ReceivedAccessUnitValue}
use Rattle.h26x_access_units.specs.Reception.{Reception, fresh_reception, restarted, ends_before, is_behind_missing, ended_behind_missing, without_bare, ended_if_over, after_finish, unit_given_of, without_given_of, IsNext}
use Rattle.h26x_access_units.specs.Account.{ReceiverCall, AreReceiverCalls}
use Rattle.h26x_access_units.specs.WholeSent.{nothing_written, sent_at, IsSender}
use Rattle.h26x_access_units.specs.ToldWhole.{Deed, EndedBefore, EndedStream, ToldFirst, DroppedAll, all_deeds, AreOfSender, none_done, ended_before_packet, ended_its_stream, told_its_first, dropped_before, sent_text, settings_set, units_given, IsUnitSent, WereAllTaken, CanBeWritten, WasToldWhole}
use Rattle.h26x_access_units.proofs.SteadyLemmas.{IsDuePlace, missing_steady, stream_steady, never_by_content, fresh_steady, told_steady}
use Rattle.h26x_access_units.proofs.ToldWholeLemmas.{Both, Within, given_before, fresh_tale, dropped_tale, other_tale, quiet_tale, due_both, bare_both, given_both}
use Rattle.h26x_access_units.proofs.DeedLemmas.{AreKept, calls_story}

abbrev Packet : Type 0
Packet = ℕ × RtpBody

abbrev Units : Type 0
Units = List ReceivedAccessUnitValue

module _ (state : DepacketizerState) (sent : List RtpBody) (first : ℕ) (sender : IsSender state sent) (place count : ℕ) (unit : IsUnitSent sent place count) (goes : DepacketizerGoesOn (nothing_written state))
    (some : bears_nothing (sent_text state sent place count).out ≡ false) (closed : is_run_closed (sent_text state sent place count).state.run ≡ true)
    (units : (k : ℕ) → k < count → is_unit_broken (sent_text state sent place k) (sent_text state sent place (k + 1)) (sent_at sent (place + k)).payload ≡ false) where
  -- what is known of a receiver by these deeds, where these were given out
  record Known (ds : List Deed) (given : List ReceivedAccessUnitValue) (a : Assembly) (f : Framing) (n : NumbersSoFar) (d : DecoderState) (run text : ℕ) : Type 0 where
    each : (due : Option ℕ) → AreOfSender sent first due ds → Both state sent first sender place count unit goes due ds given a f n d
    within : Within state sent first sender place count unit goes run text

  abbrev Limits : AccessUnitConfig → Type 0
  Limits config = Within state sent first sender place count unit goes config.run_limit config.unit_limit

  abbrev Told : List Deed → Units → Reception → Type 0
  Told ds given s = Known ds given s.assembler s.framing s.numbers s.decoder s.run_limit s.unit_limit

  missing_each : (ds : List Deed) (given : Units) (s : Reception) (p : Packet) (new : Option ℕ) → s.assembler.ended ≡ [] → Told ds given s → AreOfSender sent first new (EndedBefore p ∷ ds) →
      Both state sent first sender place count unit goes new (EndedBefore p ∷ ds) given (ended_behind_missing s p).assembler (ended_behind_missing s p).framing (ended_behind_missing s p).numbers s.decoder
  missing_each ds given s p new empty story (ended_before_packet {due = due} q at in_time of) =
      let both = story.each due of in
      record {
        steady = missing_steady state sent first sender due ds s.assembler s.framing s.numbers s.decoder p _ both.steady;
        tale = quiet_tale state sent first sender place count unit goes (EndedBefore p) ds given s.assembler _ s.framing _ s.numbers _ s.decoder _ (λ x e. let bad = e in cc) empty both.tale;
      }

  never_each : (ds : List Deed) (given : Units) (s : Reception) (p : Packet) (new : Option ℕ) → ends_before s.assembler s.framing p ≡ true → is_behind_missing s.assembler p.0 ≡ false → Told ds given s → AreOfSender sent first new (EndedBefore p ∷ ds) → ⊥
  never_each ds given s p new ends present story (ended_before_packet {due = due} q at in_time of) = never_by_content state sent first sender due ds s.assembler s.framing s.numbers s.decoder p at in_time (story.each due of).steady ends present

  stream_each : (ds : List Deed) (given : Units) (s : Reception) (new : Option ℕ) → s.assembler.ended ≡ [] → Told ds given s → AreOfSender sent first new (EndedStream ∷ ds) →
      Both state sent first sender place count unit goes new (EndedStream ∷ ds) given (after_finish s).assembler (after_finish s).framing (after_finish s).numbers s.decoder
  stream_each ds given s new empty story (ended_its_stream {due = due} of) =
      let both = story.each due of in
      record {
        steady = stream_steady state sent first sender due ds s.assembler s.framing s.numbers s.decoder both.steady;
        tale = quiet_tale state sent first sender place count unit goes EndedStream ds given s.assembler _ s.framing _ s.numbers _ s.decoder _ (λ x e. let bad = e in cc) empty both.tale;
      }

  told_each : (ds : List Deed) (given : Units) (s : Reception) (number : ℕ) (new : Option ℕ) → Told ds given s → AreOfSender sent first new (ToldFirst number ∷ ds) →
      Both state sent first sender place count unit goes new (ToldFirst number ∷ ds) given (record s.assembler { expected = Some number }) s.framing (begun_numbers_at s.numbers) s.decoder
  told_each ds given s number new story (told_its_first n none_due is_new of) =
      let both = story.each None of in
      record {
        steady = told_steady state sent first sender new ds s.assembler s.framing s.numbers s.decoder number (subst (λ (x : Option ℕ). IsDuePlace state sent first sender x (Some number)) (sym none_due) tt) is_new both.steady;
        tale = other_tale state sent first sender place count unit goes (ToldFirst number) ds given s.assembler _ s.framing _ s.numbers _ s.decoder _ (λ x e. let bad = e in cc) (λ keeps done. done) both.tale;
      }

  -- where all is dropped nothing counts of what was before
  dropped_each : (ds : List Deed) (given : Units) (s : Reception) (new : Option ℕ) → s.assembler.state ≡ state_with_run state s.assembler.state.run → AreOfSender sent first new (DroppedAll ∷ ds) →
      Both state sent first sender place count unit goes new (DroppedAll ∷ ds) given (restarted s).assembler fresh_framing fresh_numbers fresh_decoder
  dropped_each ds given s new kind (dropped_before before) = record {
    steady = fresh_steady state sent first sender (DroppedAll ∷ ds) s.assembler.state kind (refl, refl);
    tale = dropped_tale state sent first sender place count unit goes ds given _ _ _ _;
  }

  none_each : (given : Units) (new : Option ℕ) → AreOfSender sent first new [] → Both state sent first sender place count unit goes new [] given (open_assembly state None none_open []) fresh_framing fresh_numbers fresh_decoder
  none_each given new none_done = record {
    steady = fresh_steady state sent first sender [] state refl (refl, refl);
    tale = fresh_tale state sent first sender place count unit goes given _ _ _ _;
  }

  kept : AreKept state Known Limits
  kept = record {
    due_taken = λ ds given now s t it empty story. record {
      each = λ due of. due_both state sent first sender place count unit goes some closed units ds given s.assembler s.framing s.numbers s.decoder s.run_limit s.unit_limit story.within empty story.each it.packet it.follows it.answer it.answered it.room due of;
      within = story.within;
    };
    ended_missing = λ ds given s p empty story. record { each = λ due of. missing_each ds given s p due empty story of; within = story.within };
    ended_content = λ ds given s p ends present story. record { each = λ due of. absurd (never_each ds given s p due ends present story of); within = story.within };
    bare_gone = λ ds given s u us is none story. record {
      each = λ due of. bare_both state sent first sender place count unit goes some closed units due ds given s.assembler s.framing s.numbers s.decoder _ (first_ended s.numbers).missing u us is none (story.each due of);
      within = story.within;
    };
    stream_ended = λ ds given s empty story. record { each = λ due of. stream_each ds given s due empty story of; within = story.within };
    unit_given_out = λ ds given s u us is story. record {
      each = λ due of. given_both state sent first sender place count unit goes some closed units due ds given s.assembler s.framing s.numbers s.decoder _ s.waiting.config.has_sets u us is (story.each due of);
      within = story.within;
    };
    number_told = λ ds given s number story. record { each = λ due of. told_each ds given s number due story of; within = story.within };
    all_dropped = λ ds given s kind story. record { each = λ due of. dropped_each ds given s due kind of; within = story.within };
    limits_set = λ ds given s config limits story. record { each = story.each; within = limits };
    none_done = λ config limits. record { each = λ due of. none_each [] due of; within = limits };
  }

  -- by all calls
  told_story : (config : AccessUnitConfig) (calls : List ReceiverCall) (s : Reception) (are : AreReceiverCalls (fresh_reception config state) calls s) →
      ((c : AccessUnitConfig) → Contains (config ∷ settings_set calls) c → Limits c) → Told (all_deeds are) (units_given calls) s
  told_story config calls s are limits = calls_story state Known Limits kept config calls s are limits

-- what was sent and taken is told whole
pub taken_told_whole : (config : AccessUnitConfig) (state : DepacketizerState) (calls : List ReceiverCall) (s : Reception) (sent : List RtpBody) (first place count : ℕ) (due : Option ℕ) (are : AreReceiverCalls (fresh_reception config state) calls s) → DepacketizerGoesOn (nothing_written state) → IsSender state sent →
    AreOfSender sent first due (all_deeds are) → IsUnitSent sent place count → WereAllTaken state sent first place count (all_deeds are) → CanBeWritten state sent place count (config ∷ settings_set calls) → s.assembler.ended ≡ [] → WasToldWhole state sent first place count calls
taken_told_whole config state calls s sent first place count due are goes sender of unit taken written empty =
    let story = told_story state sent first sender place count unit goes written.some written.closed written.units config calls s are written.within in
    let done = (story.each due of).tale.done taken.later taken.before taken.split taken.begun taken.ended taken.stays in
    let it = given_before state sent first sender place count unit goes (units_given calls) s.assembler s.numbers s.decoder empty done in
    record { unit = it.one; given = it.given_is; is_whole = it.whole; timestamp = it.timestamp; first_is = it.first_is; written = it.written }

-- none that ended is left once none is given out
pub none_is_left : (now : ℕ) (s new : Reception) → IsNext now s new None → new.assembler.ended ≡ []
none_is_left now s new it = ap (λ (r : Reception). r.assembler.ended) it.stands ∙ by (without_bare (ended_if_over it.drained)).assembler.ended refl it.unit_is
  where
    by : (left : List AccessUnitValue) → (without_bare (ended_if_over it.drained)).assembler.ended ≡ left → None ≡ unit_given_of (without_bare (ended_if_over it.drained)) left → (without_given_of (without_bare (ended_if_over it.drained)) left).assembler.ended ≡ []
    by [] is e = is
    by (u ∷ us) is e = absurd (let bad = e in cc)
