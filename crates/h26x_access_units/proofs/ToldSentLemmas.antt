-- What is told whole was sent, in a session of any length.
use Rattle.std.proofs.Common.{◌≡◌, ◌∙◌, ap, sym, subst, refl, ℕ, ◌+◌, Bool, true, false, List, [], ◌∷◌, ◌++◌, Option, Some, None, Result, Ok, Err}
use Rattle.std.specs.Prelude.{if◌then◌else◌}
use Rattle.h26x_core.specs.Sequence.{next_sequence_number, missing_count, is_late}
use Rattle.h26x_core.specs.declared.error.PacketError.{PacketError}
use Rattle.h26x_core.specs.declared.error.PacketError.TheVariants.{OutOfMemory}
use Rattle.h26x_model.specs.Carry.Laws.{DepacketizerGoesOn}
use Rattle.h26x_model.specs.Receive.DepacketizerState.{DepacketizerState}
use Rattle.h26x_model.specs.Receive.RunLimit.{state_with_run}
use Rattle.h26x_receiver.specs.declared.received.Received.{Received}
use Rattle.h26x_reorder.specs.Rtp.{RtpBody}
use Rattle.h26x_assembler.specs.AccessUnit.{AccessUnitValue, Assembly, is_unit_at, with_unit_within, after_taken_rtp, behind_missing}
use Rattle.h26x_access_units.specs.declared.config.AccessUnitConfig.{AccessUnitConfig}
use Rattle.h26x_access_units.specs.declared.decoder.DecoderState.{DecoderState}
use Rattle.h26x_access_units.specs.declared.framing.Framing.{Framing}
use Rattle.h26x_access_units.specs.declared.numbers.AccessUnitNumbers.{AccessUnitNumbers}
use Rattle.h26x_access_units.specs.declared.numbers.NumbersSoFar.{NumbersSoFar}
use Rattle.h26x_access_units.specs.Numbers.{after_gap, after_packet, numbers_still, fresh_numbers, without_ended_of, without_first_ended, numbers_carrying, first_ended}
use Rattle.h26x_access_units.specs.Framing.{believes, framing_marked, fresh_framing}
use Rattle.h26x_access_units.specs.Decoder.{fresh_decoder}
use Rattle.h26x_access_units.specs.ReceivedAccessUnit.{ReceivedAccessUnitValue}
use Rattle.h26x_access_units.specs.Reception.{Reception, fresh_reception, restarted, IsAnswerTo, assembly_after, begun_for, expected_for, marker_forgotten, framing_of, believed, framing_answered, numbers_answered, is_one_taken, ends_before, is_behind_missing, ended_behind_missing, without_bare, ended_if_over, after_finish, unit_given_of, unit_given}
use Rattle.h26x_access_units.specs.Account.{ReceiverCall, NextCall, AreReceiverCalls, one_call}
use Rattle.h26x_access_units.specs.WholeSent.{nothing_written, IsSentAt, IsSender, WasSent}
use Rattle.h26x_access_units.specs.ToldWhole.{due_passed, Deed, TookPacket, PassedPacket, EndedBefore, EndedStream, ToldFirst, DroppedAll, packet_deed, all_deeds, call_deeds, is_stream_new, AreOfSenderAtFronts, none_done, took_packet, passed_packet, ended_before_packet, ended_its_stream, told_its_first, dropped_before, open_stamp, units_given}
use Rattle.h26x_access_units.proofs.PieceLemmas.{left_true}
use Rattle.h26x_access_units.proofs.EndedLemmas.{SameStamp}
use Rattle.h26x_access_units.proofs.SteadyLemmas.{IsDuePlace, Steady, due_ways, taken_due, late_due, own_same, new_closed, took_steady, late_steady, refused_steady, missing_steady, stream_steady, never_by_content, fresh_steady, told_steady, gone_steady}
use Rattle.h26x_access_units.proofs.SentSoFarLemmas.{Sound, took_sound, late_sound, refused_sound, finished_sound, fresh_sound, told_sound, gone_sound, carried_sound, given_sent}
use Rattle.h26x_access_units.proofs.DeedLemmas.{AreKept, before_next, calls_story}

abbrev Packet : Type 0
Packet = ℕ × RtpBody

abbrev Units : Type 0
Units = List ReceivedAccessUnitValue

module _ (state : DepacketizerState) (sent : List RtpBody) (first : ℕ) (sender : IsSender state sent) (goes : DepacketizerGoesOn (nothing_written state)) where
  -- what is known of a receiver by these deeds
  record Both (due : Option ℕ) (ds : List Deed) (a : Assembly) (f : Framing) (n : NumbersSoFar) (d : DecoderState) : Type 0 where
    steady : Steady state sent first sender due ds a f n d
    sound : Sound state sent first sender goes due a n

  abbrev Known : List Deed → List ReceivedAccessUnitValue → Assembly → Framing → NumbersSoFar → DecoderState → ℕ → ℕ → Type 0
  Known ds given a f n d run text = (due : Option ℕ) → AreOfSenderAtFronts sent first due ds → Both due ds a f n d

  -- a packet that is due
  module _ (ds : List Deed) (a : Assembly) (f : Framing) (n : NumbersSoFar) (d : DecoderState) (most limit : ℕ) (empty : a.ended ≡ []) (each : (due : Option ℕ) → AreOfSenderAtFronts sent first due ds → Both due ds a f n d) where
    took_each : (p : Packet) (new : Option ℕ) → ends_before a f p ≡ false → is_late (begun_for a p).expected p.0 ≡ false → AreOfSenderAtFronts sent first new (TookPacket p ∷ ds) →
        let b = begun_for a p in let g = framing_of b f n p in let q = believed g p in
        Both new (TookPacket p ∷ ds) (marker_forgotten (with_unit_within limit (after_taken_rtp most b q))) (framing_marked g q.1.marker) (after_packet (numbers_still g.stands_still n) q (missing_count b.expected p.0)) d
    took_each p new follows timely (took_packet {due = due} q at in_time of) =
        let it = each due of in
        let st = it.steady in
        let b = begun_for a p in
        let g = framing_of b f n p in
        let m = believes g p.1.marker in
        let place = taken_due state sent first sender due a.expected p at.place st.place at.number in_time timely in
        record {
          steady = took_steady state sent first sender due ds a f n d p most limit (missing_count b.expected p.0) at in_time st follows timely;
          sound = subst (λ (x : ℕ). Sound state sent first sender goes (Some x) (marker_forgotten (with_unit_within limit (after_taken_rtp most b (believed g p)))) (after_packet (numbers_still g.stands_still n) (believed g p) (missing_count b.expected p.0))) (sym place)
              (took_sound state sent first sender goes g.stands_still due a n p m most limit at in_time st.kind (begun_place due p st.place) st.sync (λ e. left_true p.1.marker _ e) empty it.sound);
        }
      where
        begun_place : (due : Option ℕ) (p : Packet) → IsDuePlace state sent first sender due a.expected → IsDuePlace state sent first sender due (expected_for a.expected p)
        begun_place None p is = tt
        begun_place (Some x) p is = ap (λ (y : Option ℕ). expected_for y p) is

    late_each : (p : Packet) (new : Option ℕ) → is_late (begun_for a p).expected p.0 ≡ true → AreOfSenderAtFronts sent first new (PassedPacket p ∷ ds) → Both new (PassedPacket p ∷ ds) (marker_forgotten (begun_for a p)) f n d
    late_each p new late (passed_packet {due = due} q at in_time of) =
        let it = each due of in
        let st = it.steady in
        record {
          steady = late_steady state sent first sender due ds a f n d p at in_time late st;
          sound = subst (λ (x : Option ℕ). Sound state sent first sender goes x (marker_forgotten (begun_for a p)) n) (sym (late_due state sent first sender due a.expected p at.place st.place at.number in_time late)) (late_sound state sent first sender goes due a n p it.sound);
        }

    refused_each : (p : Packet) (new : Option ℕ) → is_late (begun_for a p).expected p.0 ≡ false → (m : ℕ) → AreOfSenderAtFronts sent first new (PassedPacket p ∷ ds) →
        Both new (PassedPacket p ∷ ds) (marker_forgotten (record (behind_missing (begun_for a p) p.0) { expected = Some (next_sequence_number p.0) })) f (after_gap n (m + 1)) d
    refused_each p new timely m (passed_packet {due = due} q at in_time of) =
        let it = each due of in
        record {
          steady = refused_steady state sent first sender due ds a f n d p (m + 1) at in_time timely it.steady;
          sound = refused_sound state sent first sender goes due (due_passed due at.place) a n p m it.sound;
        }

    -- a packet that was met, and what was done before
    record Met (p : Packet) : Type 0 where
      due : Option ℕ
      at : IsSentAt sent first p
      of : AreOfSenderAtFronts sent first due ds

    packet_met : (p : Packet) (answer : Result Received PacketError) (new : Option ℕ) → AreOfSenderAtFronts sent first new (packet_deed p answer ∷ ds) → Met p
    packet_met p (Err error) new of = passed p new of
      where
        passed : (p : Packet) (new : Option ℕ) → AreOfSenderAtFronts sent first new (PassedPacket p ∷ ds) → Met p
        passed p new (passed_packet {due = due} q at in_time of) = record { due = due; at = at; of = of }
    packet_met p (Ok answer) new of = by (is_one_taken p answer) p new of
      where
        by : (c : Bool) (p : Packet) (new : Option ℕ) → AreOfSenderAtFronts sent first new ((if c then TookPacket p else PassedPacket p) ∷ ds) → Met p
        by true p new (took_packet {due = due} q at in_time of) = record { due = due; at = at; of = of }
        by false p new (passed_packet {due = due} q at in_time of) = record { due = due; at = at; of = of }

    due_both : (p : Packet) → ends_before a f p ≡ false → (answer : Result Received PacketError) → IsAnswerTo most (begun_for a p) (believed (framing_of (begun_for a p) f n p) p) answer → (answer ≡ Err OutOfMemory → ⊥) → (new : Option ℕ) → AreOfSenderAtFronts sent first new (packet_deed p answer ∷ ds) →
        let b = begun_for a p in let g = framing_of b f n p in let q = believed g p in
        Both new (packet_deed p answer ∷ ds) (marker_forgotten (assembly_after most limit b q answer)) (framing_answered f g q answer) (numbers_answered b n g q answer) d
    due_both p follows answer answered room new of =
        let met = packet_met p answer new of in
        due_ways state sent first sender a f n p most limit met.at (each met.due met.of).steady.kind (λ (deed : Deed) (new_a : Assembly) (new_f : Framing) (new_n : NumbersSoFar). AreOfSenderAtFronts sent first new (deed ∷ ds) → Both new (deed ∷ ds) new_a new_f new_n d)
        (λ timely. took_each p new follows timely)
        (λ late. late_each p new late)
        (λ timely m. refused_each p new timely m)
        answer answered room of

  missing_each : (ds : List Deed) (s : Reception) (p : Packet) (new : Option ℕ) → s.assembler.ended ≡ [] → Known ds [] s.assembler s.framing s.numbers s.decoder 0 0 → AreOfSenderAtFronts sent first new (EndedBefore p ∷ ds) →
      Both new (EndedBefore p ∷ ds) (ended_behind_missing s p).assembler (ended_behind_missing s p).framing (ended_behind_missing s p).numbers s.decoder
  missing_each ds s p new empty story (ended_before_packet {due = due} q at in_time of) =
      let both = story due of in
      record {
        steady = missing_steady state sent first sender due ds s.assembler s.framing s.numbers s.decoder p _ both.steady;
        sound = finished_sound state sent first sender goes due None s.assembler s.numbers _ both.steady.sync empty refl refl refl (λ e. e) both.sound;
      }

  never_each : (ds : List Deed) (s : Reception) (p : Packet) (new : Option ℕ) → ends_before s.assembler s.framing p ≡ true → is_behind_missing s.assembler p.0 ≡ false → Known ds [] s.assembler s.framing s.numbers s.decoder 0 0 → AreOfSenderAtFronts sent first new (EndedBefore p ∷ ds) → ⊥
  never_each ds s p new ends present story (ended_before_packet {due = due} q at in_time of) = never_by_content state sent first sender due ds s.assembler s.framing s.numbers s.decoder p at in_time (story due of).steady ends present

  stream_each : (ds : List Deed) (s : Reception) (new : Option ℕ) → s.assembler.ended ≡ [] → Known ds [] s.assembler s.framing s.numbers s.decoder 0 0 → AreOfSenderAtFronts sent first new (EndedStream ∷ ds) →
      Both new (EndedStream ∷ ds) (after_finish s).assembler (after_finish s).framing (after_finish s).numbers s.decoder
  stream_each ds s new empty story (ended_its_stream {due = due} of) =
      let both = story due of in
      record {
        steady = stream_steady state sent first sender due ds s.assembler s.framing s.numbers s.decoder both.steady;
        sound = finished_sound state sent first sender goes due None s.assembler s.numbers _ both.steady.sync empty refl refl refl (λ e. refl) both.sound;
      }

  told_each : (ds : List Deed) (s : Reception) (number : ℕ) (new : Option ℕ) → Known ds [] s.assembler s.framing s.numbers s.decoder 0 0 → AreOfSenderAtFronts sent first new (ToldFirst number ∷ ds) →
      Both new (ToldFirst number ∷ ds) (record s.assembler { expected = Some number }) s.framing (record s.numbers { has_begun = true }) s.decoder
  told_each ds s number new story (told_its_first x told is_new of) =
      let both = story None of in
      let front = told.front in
      subst (λ (y : Option ℕ). Both y (ToldFirst number ∷ ds) (record s.assembler { expected = Some number }) s.framing (record s.numbers { has_begun = true }) s.decoder) (sym told.due_is) (record {
        steady = told_steady state sent first sender (Some front.place) ds s.assembler s.framing s.numbers s.decoder number (ap Some front.number_is) is_new both.steady;
        sound = told_sound state sent first sender goes front.place number s.assembler s.numbers (none_open s.assembler.unit (λ y e. both.steady.opened y e) is_new) front.front both.sound;
      })
    where
      none_open : (u : Option AccessUnitValue) → ((y : ℕ) → is_unit_at u y ≡ true → open_stamp ds ≡ Some y) → is_stream_new ds ≡ true → u ≡ None
      none_open None opened is_new = refl
      none_open (Some u) opened is_new = absurd (let bad = sym (new_closed state sent first sender ds is_new) ∙ opened u.timestamp (own_same u.timestamp) in cc)

  dropped_each : (ds : List Deed) (s : Reception) (new : Option ℕ) → s.assembler.state ≡ state_with_run state s.assembler.state.run → AreOfSenderAtFronts sent first new (DroppedAll ∷ ds) →
      Both new (DroppedAll ∷ ds) (restarted s).assembler fresh_framing fresh_numbers fresh_decoder
  dropped_each ds s new kind (dropped_before before) = record {
    steady = fresh_steady state sent first sender (DroppedAll ∷ ds) s.assembler.state kind (refl, refl);
    sound = fresh_sound state sent first sender goes s.assembler.state;
  }

  none_each : (config : AccessUnitConfig) (new : Option ℕ) → AreOfSenderAtFronts sent first new [] → Both new [] (fresh_reception config state).assembler fresh_framing fresh_numbers fresh_decoder
  none_each config new none_done = record { steady = fresh_steady state sent first sender [] state refl (refl, refl); sound = fresh_sound state sent first sender goes state }

  -- the first that ended is gone, whether given out or passed over
  gone_both : (due : Option ℕ) (ds : List Deed) (a : Assembly) (f : Framing) (n : NumbersSoFar) (d later : DecoderState) (u : AccessUnitValue) (us : List AccessUnitValue) → a.ended ≡ u ∷ us → Both due ds a f n d → Both due ds (record a { ended = us }) f (without_first_ended n) later
  gone_both due ds a f n d later u us is it = record {
    steady = by n.ended;
    sound = gone_sound state sent first sender goes due a n u us is it.sound;
  }
    where
      by : (e : Option AccessUnitNumbers) → Steady state sent first sender due ds (record a { ended = us }) f (without_ended_of n e) later
      by (Some k) = gone_steady state sent first sender due ds a f n _ d later u us is refl refl refl it.steady.sync it.steady
      by None = gone_steady state sent first sender due ds a f n _ d later u us is refl refl refl it.steady.sync it.steady

  carried_both : (due : Option ℕ) (ds : List Deed) (a : Assembly) (f : Framing) (n : NumbersSoFar) (d later : DecoderState) (missing : ℕ) (u : AccessUnitValue) (us : List AccessUnitValue) → a.ended ≡ u ∷ us → Both due ds a f n d →
      Both due ds (record a { ended = us }) f (numbers_carrying (without_first_ended n) missing) later
  carried_both due ds a f n d later missing u us is it = record {
    steady = by n.ended n.ended_by_marker n.unit it.steady;
    sound = carried_sound state sent first sender goes due (record a { ended = us }) (without_first_ended n) missing (gone_sound state sent first sender goes due a n u us is it.sound);
  }
    where
      same_more : (v : Option AccessUnitValue) (x : AccessUnitNumbers) (m : ℕ) → SameStamp v (Some x) → SameStamp v (Some (record x { missing = m }))
      same_more None x m same = same
      same_more (Some v) x m same = same

      by : (e b x : Option AccessUnitNumbers) → Steady state sent first sender due ds a f (record n { ended = e; ended_by_marker = b; unit = x }) d →
          Steady state sent first sender due ds (record a { ended = us }) f (numbers_carrying (without_first_ended (record n { ended = e; ended_by_marker = b; unit = x })) missing) later
      by (Some k) (Some kb) x st = gone_steady state sent first sender due ds a f _ _ d later u us is refl refl refl st.sync st
      by (Some k) None (Some x) st = gone_steady state sent first sender due ds a f _ _ d later u us is refl refl refl (same_more a.unit x _ st.sync) st
      by (Some k) None None st = gone_steady state sent first sender due ds a f _ _ d later u us is refl refl refl st.sync st
      by None b (Some x) st = gone_steady state sent first sender due ds a f _ _ d later u us is refl refl refl (same_more a.unit x _ st.sync) st
      by None b None st = gone_steady state sent first sender due ds a f _ _ d later u us is refl refl refl st.sync st

  abbrev No : AccessUnitConfig → Type 0
  No config = Unit {0}

  kept : AreKept state Known No
  kept = record {
    due_taken = λ ds given now s t it empty story due of. due_both ds s.assembler s.framing s.numbers s.decoder s.run_limit s.unit_limit empty story it.packet it.follows it.answer it.answered it.room due of;
    ended_missing = λ ds given s p empty story due of. missing_each ds s p due empty story of;
    ended_content = λ ds given s p ends present story due of. absurd (never_each ds s p due ends present story of);
    bare_gone = λ ds given s u us is bare story due of. carried_both due ds s.assembler s.framing s.numbers s.decoder _ (first_ended s.numbers).missing u us is (story due of);
    stream_ended = λ ds given s empty story due of. stream_each ds s due empty story of;
    unit_given_out = λ ds given s u us is story due of. gone_both due ds s.assembler s.framing s.numbers s.decoder _ u us is (story due of);
    number_told = λ ds given s number story due of. told_each ds s number due story of;
    all_dropped = λ ds given s kind story due of. dropped_each ds s due kind of;
    limits_set = λ ds given s config is story. story;
    none_done = λ config is due of. none_each config due of;
  }

  last_sent : (ds : List Deed) (s : Reception) (unit : ReceivedAccessUnitValue) (due : Option ℕ) → Some unit ≡ unit_given s → unit.is_whole ≡ true → AreOfSenderAtFronts sent first due ds → Known ds [] s.assembler s.framing s.numbers s.decoder 0 0 → WasSent state sent first unit
  last_sent ds s unit due is whole of story = by s.assembler.ended refl is
    where
      same_unit : (x y : ReceivedAccessUnitValue) → Some x ≡ Some y → x ≡ y
      same_unit x y e = cc

      by : (left : List AccessUnitValue) → s.assembler.ended ≡ left → Some unit ≡ unit_given_of s left → WasSent state sent first unit
      by [] at e = absurd (let bad = e in cc)
      by (u ∷ us) at e =
          let both = story due of in
          let same = same_unit unit _ e in
          subst (WasSent state sent first) (sym same) (given_sent state sent first sender goes due s.decoder s.waiting.config.has_sets s.assembler s.numbers u us at both.steady.kind both.sound (subst (λ (x : ReceivedAccessUnitValue). x.is_whole ≡ true) same whole))

-- what is told whole was sent, where all that was done since the last restart is of its sender
pub told_was_sent : (config : AccessUnitConfig) (state : DepacketizerState) (now : ℕ) (unit : ReceivedAccessUnitValue) (calls : List ReceiverCall) (s : Reception) (sent : List RtpBody) (first : ℕ) (due : Option ℕ) (are : AreReceiverCalls (fresh_reception config state) (NextCall now (Some unit) ∷ calls) s) →
    DepacketizerGoesOn (nothing_written state) → IsSender state sent → AreOfSenderAtFronts sent first due (all_deeds are) → unit.is_whole ≡ true → WasSent state sent first unit
told_was_sent config state now unit calls s sent first due (one_call {t = t} others it) goes sender of whole =
    let story = calls_story state (Known state sent first sender goes) (No state sent first sender goes) (kept state sent first sender goes) config calls t others (λ c is. tt) in
    last_sent state sent first sender goes (call_deeds (NextCall now (Some unit)) t s it ++ all_deeds others) (without_bare (ended_if_over it.drained)) unit due it.unit_is whole of
    (before_next state (Known state sent first sender goes) (No state sent first sender goes) (kept state sent first sender goes) (all_deeds others) (units_given calls) now t s (Some unit) it story)
