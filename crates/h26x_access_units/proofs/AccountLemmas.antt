-- What became of the packets that were given to a receiver.
use Rattle.std.proofs.Common.{◌≡◌, ◌∙◌, ap, sym, subst, refl, ℕ, zero, suc, ◌+◌, ◌≤◌, ◌<◌, Bool, true, false, cond, List, [], ◌∷◌, ◌++◌, length, Option, Some, None, append_assoc, arith, inl, inr, Result, Err}
use Rattle.std.specs.Prelude.{◌&&◌, slice_get, MatchBool, IsPermutation, ◌⊎◌, not, is_some}
use Rattle.std.specs.List.{list_any, Contains}
use Rattle.std.proofs.lemmas.List.{append-nil}
use Rattle.std.proofs.lemmas.List.Elements.{Contains-append_right}
use Rattle.std.proofs.lemmas.List.Sorted.{IsPermutation-refl, IsPermutation-sym, Contains-permutation}
use Rattle.h26x_core.specs.Sequence.{missing_count}
use Rattle.h26x_model.specs.Receive.DepacketizerState.{DepacketizerState}
use Rattle.h26x_reorder.specs.Rtp.{RtpBody}
use Rattle.h26x_reorder.specs.ReorderBuffer.{BufferState, after_push, without_first, begun_at, IsHeldInOrder, AreHeldInOrder}
use Rattle.h26x_assembler.specs.AccessUnit.{AccessUnitValue, Assembly, open_assembly, none_open, after_ending, after_finishing, is_text_given_up}
use Rattle.h26x_access_units.specs.declared.config.AccessUnitConfig.{AccessUnitConfig}
use Rattle.h26x_access_units.specs.declared.pushed.Pushed.{Pushed}
use Rattle.h26x_access_units.specs.declared.pushed.Pushed.TheVariants as pushes
use Rattle.h26x_access_units.specs.Numbers.{bears_nothing, first_ended, fresh_numbers}
use Rattle.h26x_access_units.specs.Framing.{fresh_framing}
use Rattle.h26x_access_units.specs.Decoder.{fresh_decoder}
use Rattle.h26x_access_units.specs.Passed.{none_passed}
use Rattle.h26x_access_units.specs.JitterBuffer.{JitterState, fresh_jitter, may_tell_first, is_pressed, due_packet}
use Rattle.h26x_access_units.specs.ReceivedAccessUnit.{ReceivedAccessUnitValue, received_unit, whole_with}
use Rattle.h26x_access_units.specs.Reception.{Reception, reception, fresh_reception, begun_reception, restarted, reception_answer, held_with, after_reception, is_taken_at_once, is_behind_missing, IsDueTaken, IsEndedBefore, ended_behind_missing, ended_by_content, IsPushed, NoneIsDueUnlessEnded, IsDrained, none, bare, more, behind, IsDrainedInPart, bare_passed, without_bare, without_bare_of, ended_if_anew, ended_if_over, ended_reception, after_finish, has_no_unit, without_given, without_given_of, with_settings, IsNext, begun_for, believed, framing_at, assembly_after, marker_forgotten, unit_given, unit_given_of, has_bare, IsAnswerTo, believed_packet, after_due, ended_before, ends_before}
use Rattle.h26x_core.specs.declared.error.PacketError.{PacketError}
use Rattle.h26x_receiver.specs.declared.received.Received.{Received}
use Rattle.h26x_core.specs.declared.error.PacketError.TheVariants.{OutOfMemory}
use Rattle.h26x_access_units.specs.declared.framing.Framing.{Framing}
use Rattle.h26x_access_units.specs.declared.counts.Counts.{Counts}
use Rattle.h26x_access_units.specs.Counts.{no_counts, counted_push}
use Rattle.h26x_model.specs.Receive.RunLimit.{state_with_run}
use Rattle.h26x_access_units.proofs.ReceptionLemmas.{at_once, held_at_once, bare_stays}
use Rattle.h26x_reorder.proofs.BeyondLemmas.{both_of}
use Rattle.h26x_access_units.specs.Account.{ReceiverCall, PushCall, BackCall, NextCall, LackCall, FinishCall, RestartCall, SettingsCall, BeginCall, IsCall, AreReceiverCalls, no_call, one_call, kept_packets, may_drop, Account, no_account, packet_alone, no_stream, one_stream, IsDueBehind, IsAccounted, IsAssemblerOf, new_assembler, one_taken, unit_ended, stream_ended, number_told, rest_dropped, texts_given, texts_of, IsEachAccounted, AreHandedInOrder, tells_late, ends_stream, call_count, stray_packets}
use Rattle.h26x_access_units.proofs.WaitingLemmas.{first_went}
use Rattle.h26x_access_units.specs.WholeSent.{told_numbers, IsOfWholePackets, IsToldWhole}
use Rattle.h26x_access_units.proofs.WholeSentLemmas.{PartsIf, Parts, due_parts, content_parts, missing_parts, last_parts, restarted_parts, anew_parts, fresh_parts, told_parts, gone_parts, bare_parts, first_whole}
use Rattle.h26x_access_units.proofs.MovesLemmas.{IsExpectedDue, Ledger, ended_with, first_is_due, hands, joined_moves, parts_dropped, pushed, with_handed}
use Rattle.h26x_access_units.proofs.AssembledLemmas.{IsOnTime, after_back, after_expects, answered_on_time, ending_back, finishing_back, first_timely, texts_more, with_gone}
use Rattle.h26x_access_units.proofs.CountedLemmas.{Counted, again, answered_one, back_counted, due_counted, handed_few, handed_kept, kept_few, push_counted, same_counted, texts_few, unit_counted}
use Rattle.h26x_access_units.proofs.AsideLemmas.{Strays, anew_after, dropped_strays, held_after, joined_strays, jumped_after, jumped_ahead, one_alone, stray_after, stray_strays, told_held}

abbrev Packet : Type 0
Packet = ℕ × RtpBody

abbrev Packets : Type 0
Packets = List (ℕ × RtpBody)

-- a receiver that is as a new one but for its counts and limits
abbrev pub as_new : DepacketizerState → AccessUnitConfig → Counts → ℕ → ℕ → Reception
as_new state config c run unit = reception (fresh_jitter config) None false none_passed (open_assembly state None none_open []) fresh_framing fresh_numbers fresh_decoder c run unit

-- so of an assembler that began with this depacketizer, behind so many calls
module _ (state : DepacketizerState) (all : Packets) (told : List ℕ) (past : ℕ) where
  -- what an assembler brings of these packets, of which these texts were given out
  record Made (texts : List (ℕ × List ℕ)) (packets : Packets) (a : Assembly) : Type 0 where
    gone : List AccessUnitValue
    made : IsAssemblerOf state packets (with_gone gone a)
    texts_are : texts ≡ texts_of gone

  module _ (texts : List (ℕ × List ℕ)) (packets : Packets) (a : Assembly) (it : Made texts packets a) where
    finishing_made : Made texts packets (after_finishing a)
    finishing_made = record {
      gone = it.gone;
      made = subst (IsAssemblerOf state packets) (finishing_back it.gone a) (stream_ended packets (with_gone it.gone a) it.made);
      texts_are = it.texts_are;
    }

    before_made : (framing : Framing) (p : Packet) (b : Bool) → ends_before a framing p ≡ true → is_behind_missing a p.0 ≡ b → Made texts packets (cond b (after_finishing a) (after_ending a))
    before_made framing p b ends is = record {
      gone = it.gone;
      made =
          let x = with_gone it.gone a in
          let back : cond b (after_finishing x) (after_ending x) ≡ with_gone it.gone (cond b (after_finishing a) (after_ending a)) =
          elim b as (λ c. cond c (after_finishing x) (after_ending x) ≡ with_gone it.gone (cond c (after_finishing a) (after_ending a))) [ true ↦ finishing_back it.gone a | false ↦ ending_back it.gone a ] in
          subst (IsAssemblerOf state packets) back
          (subst (λ (c : Bool). IsAssemblerOf state packets (cond c (after_finishing x) (after_ending x))) is (unit_ended framing p packets x it.made ends));
      texts_are = it.texts_are;
    }

    told_made : (number : ℕ) → Made texts packets (record a { expected = Some number })
    told_made number = record { gone = it.gone; made = number_told number packets (with_gone it.gone a) it.made; texts_are = it.texts_are }

    restart_made : Made texts packets (open_assembly a.state None none_open [])
    restart_made = record {
      gone = it.gone;
      made = subst (λ (e : List AccessUnitValue). IsAssemblerOf state packets (open_assembly a.state None none_open e)) (sym (append-nil it.gone))
          (rest_dropped it.gone a.ended packets (with_gone it.gone a) it.made refl);
      texts_are = it.texts_are;
    }

    taken_made : (most limit : ℕ) (framing : Framing) (p : Packet) (answer : Result Received PacketError) → IsAnswerTo most (begun_for a p) (believed framing p) answer → (answer ≡ Err OutOfMemory → ⊥) →
        Made texts (p ∷ packets) (marker_forgotten (assembly_after most limit (begun_for a p) (believed framing p) answer))
    taken_made most limit framing p answer answered room = record {
      gone = it.gone;
      made = subst (IsAssemblerOf state (p ∷ packets)) (ap marker_forgotten (after_back it.gone most limit (begun_for a p) (believed framing p) answer))
          (one_taken most limit framing p answer packets (with_gone it.gone a) it.made answered room);
      texts_are = it.texts_are;
    }

    -- the first that ended is gone
    first_made : (unit : AccessUnitValue) (units : List AccessUnitValue) → a.ended ≡ unit ∷ units → Made (texts ++ texts_of (unit ∷ [])) packets (record a { ended = units })
    first_made unit units is = record {
      gone = it.gone ++ unit ∷ [];
      made = subst (λ (e : List AccessUnitValue). IsAssemblerOf state packets (record a { ended = e })) (ap (λ (e : List AccessUnitValue). it.gone ++ e) is ∙ sym (append_assoc it.gone (unit ∷ []) units)) it.made;
      texts_are = ap (λ (t : List (ℕ × List ℕ)). t ++ texts_of (unit ∷ [])) it.texts_are ∙ sym (texts_more it.gone (unit ∷ []));
    }

    -- one without bytes
    bare_made : (unit : AccessUnitValue) (units : List AccessUnitValue) → a.ended ≡ unit ∷ units → bears_nothing unit.bytes ≡ true → Made texts packets (record a { ended = units })
    bare_made unit units is e = subst (λ (t : List (ℕ × List ℕ)). Made t packets (record a { ended = units })) (ap (λ (t : List (ℕ × List ℕ)). texts ++ t) (rw e refl) ∙ append-nil texts) (first_made unit units is)

    -- one with bytes
    given_made : (unit : AccessUnitValue) (units : List AccessUnitValue) → a.ended ≡ unit ∷ units → bears_nothing unit.bytes ≡ false → Made (texts ++ (unit.timestamp, unit.bytes) ∷ []) packets (record a { ended = units })
    given_made unit units is e = subst (λ (t : List (ℕ × List ℕ)). Made t packets (record a { ended = units })) (ap (λ (t : List (ℕ × List ℕ)). texts ++ t) (rw e refl)) (first_made unit units is)

  -- the packets that were kept and the numbers told are among these
  pub record AreAmong (kept : Packets) (calls : List ReceiverCall) : Type 0 where
    pub packets : (p : Packet) → Contains kept p → Contains all p
    pub numbers : (number : ℕ) → Contains (told_numbers calls) number → Contains told number

  -- the first of those that wait was kept
  first_kept : (kept x h w : Packets) (p : Packet) → IsPermutation kept (x ++ (h ++ (p ∷ w))) → Contains kept p
  first_kept kept x h w p exact = Contains-permutation (x ++ (h ++ (p ∷ w))) kept p (IsPermutation-sym kept (x ++ (h ++ (p ∷ w))) exact) (Contains-append_right x (h ++ (p ∷ w)) p (Contains-append_right h (p ∷ w) p (zero, omega arith, refl)))

  first_small : (due : Option ℕ) (p : Packet) (w : Packets) → IsHeldInOrder due (p ∷ w) → p.0 < 65536
  first_small None p w order = absurd (let bad = order in cc)
  first_small (Some d) p w order = order.1.0

  -- one more was kept
  fewer : (kept : Packets) (p : Packet) (calls : List ReceiverCall) → AreAmong (p ∷ kept) calls → AreAmong kept calls
  fewer kept p calls it = record { packets = λ q (k, within, same). it.packets q (suc k, omega (arith, within), same); numbers = it.numbers }

  no_unit_is : (units : List AccessUnitValue) → has_no_unit units ≡ true → units ≡ []
  no_unit_is [] e = refl
  no_unit_is (unit ∷ units) e = absurd (let bad = e in cc)

  -- a number that is due stays so
  due_quiet : (u : Option AccessUnitValue) (old new : Option ℕ) → ((expected : Option ℕ) → IsExpectedDue expected old → IsExpectedDue expected new) → (old ≡ None → u ≡ None) → new ≡ None → u ≡ None
  due_quiet u None new expects quiet e = quiet refl
  due_quiet u (Some d) new expects quiet e = absurd (let is = expects (Some d) refl in let bad = sym is ∙ e in cc)

  -- an account of what waits, and of the packet that waits alone
  record Whole (kept : Packets) (drops : Bool) (most : ℕ) (texts : List (ℕ × List ℕ)) (n : ℕ) (calls : List ReceiverCall) (s : Reception) : Type 0 where
    account : Account
    ledger : Ledger kept drops most account s.waiting s.stray
    made : Made texts (account.handed ++ account.earlier) s.assembler
    counted : Counted past n calls texts (account.handed ++ account.earlier) s.counts
    expects : s.is_anew ≡ false → IsExpectedDue s.assembler.expected s.waiting.buffer.due
    strays : Strays calls account.dropped s.stray
    parts : AreAmong kept calls → PartsIf state all told s.framing.has_slice (account.handed ++ account.earlier) s.assembler s.numbers s.is_anew
    quiet : s.is_anew ≡ false → s.waiting.buffer.due ≡ None → s.assembler.unit ≡ None

  -- so by calls
  abbrev WholeOf : List ReceiverCall → Reception → Type 0
  WholeOf calls s = Whole (kept_packets calls) (list_any may_drop calls) (call_count ends_stream calls) (texts_given calls) (length calls) calls s

  -- what is given out, by its timestamp and bytes
  abbrev unit_texts : Option ReceivedAccessUnitValue → List (ℕ × List ℕ)
  unit_texts None = []
  unit_texts (Some unit) = (unit.timestamp, unit.bytes) ∷ []

  -- each step of a receiver
  module _ (kept : Packets) (drops : Bool) (most : ℕ) (texts : List (ℕ × List ℕ)) (n : ℕ) (calls : List ReceiverCall) (bound : length kept + call_count tells_late calls ≤ n) (few_texts : length texts ≤ n) where
    due_whole : (now : ℕ) (s t : Reception) → s.is_anew ≡ false → s.assembler.ended ≡ [] → IsDueTaken now s t → Whole kept drops most texts n calls s → Whole kept drops most texts n calls t
    due_whole now s t same_stream empty it whole =
        let j = s.waiting in
        let a = whole.account in
        let l = whole.ledger in
        let begun = begun_for s.assembler it.packet in
        let believed_one = believed_packet s it.packet in
        let first = first_is_due (is_pressed now j) j.buffer.window j.buffer.due j.buffer.held it.packet it.due in
        let went = first_went j.buffer it.packet first in
        let timely = first_timely s.assembler j.buffer.due it.packet (without_first j.buffer).held (subst (IsHeldInOrder j.buffer.due) went.held l.waits) (whole.expects same_stream) in
        let on_time = answered_on_time s.run_limit begun believed_one it.answer timely it.answered in
        subst (Whole kept drops most texts n calls) (sym it.stands) (record {
          account = with_handed it.packet whole.account;
          ledger = hands kept drops most whole.account j s.stray it.packet whole.ledger first;
          made = taken_made texts (whole.account.handed ++ whole.account.earlier) s.assembler whole.made s.run_limit s.unit_limit (framing_at s it.packet) it.packet it.answer it.answered it.room;
          counted =
              let rest = (without_first j.buffer).held in
              let few = handed_few past kept (a.dropped ++ packet_alone s.stray) (a.handed ++ a.earlier) rest it.packet (subst (λ (x : Packets). IsPermutation kept ((a.dropped ++ packet_alone s.stray) ++ ((a.handed ++ a.earlier) ++ x))) went.held l.exact) in
              let one = answered_one (begun_for s.assembler it.packet) s.counts (framing_at s it.packet) (believed_packet s it.packet) it.packet.1.marker
              (is_text_given_up s.run_limit s.unit_limit (begun_for s.assembler it.packet) (believed_packet s it.packet)) it.answer timely on_time in
              due_counted past n calls texts (a.handed ++ a.earlier) it.packet s.counts (after_due s it.packet it.answer).counts (omega (arith, few, bound)) one whole.counted;
          strays = whole.strays;
          parts = λ among.
              let held = subst (λ (x : Packets). IsPermutation kept ((a.dropped ++ packet_alone s.stray) ++ ((a.handed ++ a.earlier) ++ x))) went.held l.exact in
              let rest = (without_first j.buffer).held in
              subst (PartsIf state all told (after_due s it.packet it.answer).framing.has_slice (it.packet ∷ (a.handed ++ a.earlier)) (after_due s it.packet it.answer).assembler (after_due s it.packet it.answer).numbers) (sym same_stream)
              (due_parts state all told (a.handed ++ a.earlier) s.assembler s.numbers s.framing it.packet s.run_limit s.unit_limit (first_small j.buffer.due it.packet rest (subst (IsHeldInOrder j.buffer.due) went.held l.waits)) timely
              (among.packets it.packet (first_kept kept (a.dropped ++ packet_alone s.stray) (a.handed ++ a.earlier) rest it.packet held)) empty
              (subst (PartsIf state all told s.framing.has_slice (a.handed ++ a.earlier) s.assembler s.numbers) same_stream (whole.parts among)) it.answer it.answered it.room (λ x is. subst IsOnTime is on_time));
          quiet = λ e none_due. absurd (let bad = sym went.due ∙ none_due in cc);
          expects = λ e. subst (λ (x : Option ℕ). IsExpectedDue x (without_first j.buffer).due) (sym (after_expects s.run_limit s.unit_limit begun believed_one it.answer timely on_time)) went.due;
        })

    ended_whole : (now : ℕ) (s t : Reception) → s.is_anew ≡ false → s.assembler.ended ≡ [] → IsEndedBefore now s t → Whole kept drops most texts n calls s → Whole kept drops most texts n calls t
    ended_whole now s t same_stream empty it whole =
        let a = whole.account in
        let l = whole.ledger in
        let j = s.waiting in
        let handed = a.handed ++ a.earlier in
        let first = first_is_due (is_pressed now j) j.buffer.window j.buffer.due j.buffer.held it.packet it.due in
        let went = first_went j.buffer it.packet first in
        let is_kept = first_kept kept (a.dropped ++ packet_alone s.stray) handed (without_first j.buffer).held it.packet (subst (λ (x : Packets). IsPermutation kept ((a.dropped ++ packet_alone s.stray) ++ (handed ++ x))) went.held l.exact) in
        let parts_now : AreAmong kept calls → Parts state all told s.framing.has_slice handed s.assembler s.numbers = λ among. subst (PartsIf state all told s.framing.has_slice handed s.assembler s.numbers) same_stream (whole.parts among) in
        subst (Whole kept drops most texts n calls) (sym it.stands)
        (elim (is_behind_missing s.assembler it.packet.0) as (λ b. is_behind_missing s.assembler it.packet.0 ≡ b → Whole kept drops most texts n calls (cond b (ended_behind_missing s it.packet) (ended_by_content s))) [
          | true ↦ λ e. record {
            account = a;
            ledger = l;
            made = before_made texts handed s.assembler whole.made s.framing it.packet true it.ends e;
            counted = same_counted past n calls texts handed s.counts (missing_count s.assembler.expected it.packet.0) whole.counted;
            expects = λ e. tt;
            strays = whole.strays;
            parts = λ among. subst (PartsIf state all told s.framing.has_slice handed (ended_behind_missing s it.packet).assembler (ended_behind_missing s it.packet).numbers) (sym same_stream)
                (missing_parts state all told handed s.assembler s.numbers (missing_count s.assembler.expected it.packet.0) empty (parts_now among));
            quiet = λ x y. refl;
          }
          | false ↦ λ e. record {
            account = a;
            ledger = l;
            made = before_made texts handed s.assembler whole.made s.framing it.packet false it.ends e;
            counted = whole.counted;
            expects = whole.expects;
            strays = whole.strays;
            parts = λ among. subst (PartsIf state all told s.framing.has_slice handed (ended_by_content s).assembler (ended_by_content s).numbers) (sym same_stream)
                (content_parts state all told handed s.assembler s.numbers s.framing it.packet it.ends e (among.packets it.packet is_kept) empty (parts_now among));
            quiet = λ x y. refl;
          }
        ] refl)

    bare_whole_of : (units : List AccessUnitValue) (s : Reception) → s.assembler.ended ≡ units → Whole kept drops most texts n calls s → Whole kept drops most texts n calls (without_bare_of s units)
    bare_whole_of [] s is whole = whole
    bare_whole_of (unit ∷ units) s is whole = elim (bears_nothing unit.bytes) as (λ b. bears_nothing unit.bytes ≡ b → Whole kept drops most texts n calls (cond b (without_bare_of (bare_passed s unit units) units) s)) [
      | true ↦ λ e. bare_whole_of units (bare_passed s unit units) refl (record { account = whole.account; ledger = whole.ledger; made = bare_made texts (whole.account.handed ++ whole.account.earlier) s.assembler whole.made unit units is e; counted = whole.counted; expects = whole.expects; strays = whole.strays; quiet = whole.quiet; parts = λ among. bare_parts state all told s.is_anew (whole.account.handed ++ whole.account.earlier) s.assembler s.numbers (first_ended s.numbers).missing unit units is (whole.parts among) })
      | false ↦ λ e. whole
    ] refl

    bare_whole : (s : Reception) → Whole kept drops most texts n calls s → Whole kept drops most texts n calls (without_bare s)
    bare_whole s whole = bare_whole_of s.assembler.ended s refl whole

    -- a packet is taken only where the stream doesn't begin anew: the one before has ended then
    IsReady : Reception → Type 0
    IsReady t = (t.is_anew ≡ false) ⊎ ((has_no_unit t.assembler.ended ≡ false) × (has_bare t.assembler.ended ≡ false))

    bare_anew : (units : List AccessUnitValue) (s : Reception) → (without_bare_of s units).is_anew ≡ s.is_anew
    bare_anew [] s = refl
    bare_anew (unit ∷ units) s = elim (bears_nothing unit.bytes) as (λ b. (cond b (without_bare_of (bare_passed s unit units) units) s).is_anew ≡ s.is_anew) [
      | true ↦ bare_anew units (bare_passed s unit units)
      | false ↦ refl
    ]

    before_anew : (s : Reception) (p : Packet) → (ended_before s p).is_anew ≡ s.is_anew
    before_anew s p = elim (is_behind_missing s.assembler p.0) as (λ b. (cond b (ended_behind_missing s p) (ended_by_content s)).is_anew ≡ s.is_anew) [ true ↦ refl | false ↦ refl ]

    ready_same : (t : Reception) → t.assembler.ended ≡ [] → IsReady t → t.is_anew ≡ false
    unfolding IsReady
    ready_same t empty (inl e) = e
    ready_same t empty (inr (some, bytes)) = absurd (let bad = sym (ap has_no_unit empty) ∙ some in cc)

    ready_bare : (t : Reception) → IsReady t → IsReady (without_bare t)
    unfolding IsReady
    ready_bare t (inl e) = inl (bare_anew t.assembler.ended t ∙ e)
    ready_bare t (inr (some, bytes)) = subst IsReady (sym (bare_stays t bytes)) (inr (some, bytes))

    ready_drained : (now : ℕ) (s t : Reception) → IsDrained now s t → IsReady s → IsReady t
    unfolding IsReady
    ready_drained now s t none ready = ready
    ready_drained now s t (bare before) ready = ready_bare _ (ready_drained now s _ before ready)
    ready_drained now s t (more {t = u} before empty taken) ready = inl (ap (λ (r : Reception). r.is_anew) taken.stands ∙ ready_same u empty (ready_drained now s u before ready))
    ready_drained now s t (behind {t = u} before empty ended) ready = inl (ap (λ (r : Reception). r.is_anew) ended.stands ∙ before_anew u ended.packet ∙ ready_same u empty (ready_drained now s u before ready))

    drained_whole : (now : ℕ) (s t : Reception) → IsDrained now s t → IsReady s → Whole kept drops most texts n calls s → Whole kept drops most texts n calls t
    drained_whole now s t none ready whole = whole
    drained_whole now s t (bare before) ready whole = bare_whole _ (drained_whole now s _ before ready whole)
    drained_whole now s t (more before empty taken) ready whole = due_whole now _ t (ready_same _ empty (ready_drained now s _ before ready)) empty taken (drained_whole now s _ before ready whole)
    drained_whole now s t (behind before empty ended) ready whole = ended_whole now _ t (ready_same _ empty (ready_drained now s _ before ready)) empty ended (drained_whole now s _ before ready whole)

    anew_whole : (s : Reception) → Whole kept drops most texts n calls s → Whole kept drops most texts n calls (ended_if_anew s)
    anew_whole s whole = elim (has_no_unit s.assembler.ended && s.is_anew) as (λ b. (has_no_unit s.assembler.ended && s.is_anew) ≡ b → Whole kept drops most texts n calls (ended_if_anew s)) [
      | true ↦ λ e. rw e (record { account = whole.account; ledger = whole.ledger; made = finishing_made texts (whole.account.handed ++ whole.account.earlier) s.assembler whole.made; counted = whole.counted; expects = λ e. tt; strays = whole.strays; quiet = λ x y. refl; parts = λ among. last_parts state all told s.is_anew false (whole.account.handed ++ whole.account.earlier) s.assembler s.numbers (no_unit_is s.assembler.ended (both_of (has_no_unit s.assembler.ended) s.is_anew e).0) (whole.parts among) })
      | false ↦ λ e. rw e whole
    ] refl

    -- at the end none waits but the packet alone, which is dropped
    finish_whole : (s : Reception) → s.assembler.ended ≡ [] → s.waiting.buffer.held ≡ [] → s.waiting.is_over ≡ true → Whole kept drops most texts n calls s → Whole kept drops most texts n calls (after_finish s)
    finish_whole s gone_all empty over whole =
        let a = whole.account in
        let l = whole.ledger in
        let alone = packet_alone s.stray in
        let same : a.dropped ++ alone ≡ (a.dropped ++ alone) ++ s.waiting.buffer.held = sym (append-nil (a.dropped ++ alone)) ∙ ap (λ (w : Packets). (a.dropped ++ alone) ++ w) (sym empty) in
        record {
          account = ended_with a (a.dropped ++ alone);
          made = finishing_made texts (a.handed ++ a.earlier) s.assembler whole.made;
          counted = whole.counted;
          expects = λ e. tt;
          strays = λ e. dropped_strays (stray_packets calls) a.dropped s.stray (whole.strays e);
          quiet = λ x y. refl;
          parts = λ among. last_parts state all told s.is_anew s.is_anew (a.handed ++ a.earlier) s.assembler s.numbers gone_all (whole.parts among);
          ledger = record {
            exact = subst (λ (x : Packets). IsPermutation kept ((x ++ []) ++ ((a.handed ++ a.earlier) ++ []))) (sym same)
                (parts_dropped kept a.dropped alone (a.handed ++ a.earlier) s.waiting.buffer.held l.exact);
            quiet = λ e. append-nil (a.dropped ++ alone) ∙ l.quiet e;
            turn = tt;
            before = one_stream a.streams a.handed a.earlier l.before l.turn;
            few = let few : a.streams + cond true 1 0 ≤ most = subst (λ (b : Bool). a.streams + cond b 1 0 ≤ most) over l.few in omega (arith, few);
            due = tt;
            waits = refl;
            numbered = tt;
          };
        }

    none_waits : (now : ℕ) (j : JitterState) → j.is_over ≡ true → due_packet now j ≡ None → j.buffer.held ≡ []
    none_waits now j over due = by j.buffer.held (sym (rw over refl) ∙ due)
      where
        by : (held : Packets) → slice_get held 0 ≡ None → held ≡ []
        by [] e = refl
        by (p ∷ held) e = absurd (let bad = e in cc)

    over_whole : (now : ℕ) (s : Reception) → NoneIsDueUnlessEnded now s → Whole kept drops most texts n calls s → Whole kept drops most texts n calls (ended_if_over s)
    over_whole now s until whole =
        elim (has_no_unit s.assembler.ended) as (λ m. has_no_unit s.assembler.ended ≡ m → Whole kept drops most texts n calls (cond (m && s.waiting.is_over) (after_finish s) s)) [
          | true ↦ λ m. elim s.waiting.is_over as (λ o. s.waiting.is_over ≡ o → Whole kept drops most texts n calls (cond o (after_finish s) s)) [
            | true ↦ λ o. finish_whole s (no_unit_is s.assembler.ended m) (none_waits now s.waiting o (until (no_unit_is s.assembler.ended m))) o whole
            | false ↦ λ o. whole
          ] refl
          | false ↦ λ m. whole
        ] refl

    -- the first that ended is given out, where it has bytes
    given_whole : (s : Reception) → has_bare s.assembler.ended ≡ false → Whole kept drops most texts n calls s → Whole kept drops most (texts ++ unit_texts (unit_given s)) (n + 1) calls (without_given s)
    given_whole s some whole = by s.assembler.ended refl some
      where
        by : (ended : List AccessUnitValue) → s.assembler.ended ≡ ended → has_bare ended ≡ false → Whole kept drops most (texts ++ unit_texts (unit_given_of s ended)) (n + 1) calls (without_given_of s ended)
        by [] is e = subst (λ (t : List (ℕ × List ℕ)). Whole kept drops most t (n + 1) calls s) (sym (append-nil texts))
            (record { account = whole.account; ledger = whole.ledger; made = whole.made; counted = λ lt. whole.counted (omega (arith, lt)); expects = whole.expects; strays = whole.strays; quiet = whole.quiet; parts = whole.parts })
        by (unit ∷ units) is e = record { account = whole.account; ledger = whole.ledger; made = given_made texts (whole.account.handed ++ whole.account.earlier) s.assembler whole.made unit units is e; counted = unit_counted past n calls texts (whole.account.handed ++ whole.account.earlier) s.counts (unit.timestamp, unit.bytes) (whole_with s.decoder s.assembler.state.is_avc unit (first_ended s.numbers)) few_texts whole.counted; expects = whole.expects; strays = whole.strays; quiet = whole.quiet; parts = λ among. gone_parts state all told s.is_anew (whole.account.handed ++ whole.account.earlier) s.assembler s.numbers unit units is (whole.parts among) }

    -- those without bytes were passed over
    none_bare_of : (units : List AccessUnitValue) (s : Reception) → s.assembler.ended ≡ units → has_bare (without_bare_of s units).assembler.ended ≡ false
    none_bare_of [] s is = ap has_bare is
    none_bare_of (unit ∷ units) s is = elim (bears_nothing unit.bytes) as (λ b. bears_nothing unit.bytes ≡ b → has_bare (cond b (without_bare_of (bare_passed s unit units) units) s).assembler.ended ≡ false) [
      | true ↦ λ e. none_bare_of units (bare_passed s unit units) refl
      | false ↦ λ e. ap has_bare is ∙ e
    ] refl

    ready_begun : (s : Reception) → IsReady (ended_if_anew (without_bare s))
    unfolding IsReady
    ready_begun s =
        let u = without_bare s in
        elim (has_no_unit u.assembler.ended) as (λ m. has_no_unit u.assembler.ended ≡ m → IsReady (ended_if_anew u)) [
          | true ↦ λ m. elim u.is_anew as (λ a. u.is_anew ≡ a → IsReady (ended_if_anew u)) [
            | true ↦ λ a. inl (rw (m, a) refl)
            | false ↦ λ a. inl (rw (m, a) a)
          ] refl
          | false ↦ λ m. rw m (inr (m, none_bare_of s.assembler.ended s refl))
        ] refl

    begun_whole : (s : Reception) → Whole kept drops most texts n calls s → Whole kept drops most texts n calls (ended_if_anew (without_bare s))
    begun_whole s whole = anew_whole (without_bare s) (bare_whole s whole)

    next_whole : (now : ℕ) (s new : Reception) (unit : Option ReceivedAccessUnitValue) → IsNext now s new unit → Whole kept drops most texts n calls s → Whole kept drops most (texts ++ unit_texts unit) (n + 1) calls new
    next_whole now s new unit it whole =
        let last = ended_if_over it.drained in
        subst (λ (u : Option ReceivedAccessUnitValue). Whole kept drops most (texts ++ unit_texts u) (n + 1) calls new) (sym it.unit_is)
        (subst (Whole kept drops most (texts ++ unit_texts (unit_given (without_bare last))) (n + 1) calls) (sym it.stands)
        (given_whole (without_bare last) (none_bare_of last.assembler.ended last refl)
        (bare_whole last
        (over_whole now it.drained it.until
        (drained_whole now (ended_if_anew (without_bare s)) it.drained it.taken (ready_begun s) (begun_whole s whole))))))

    lack_whole : (now : ℕ) (s new : Reception) → IsDrainedInPart now s new → Whole kept drops most texts n calls s → Whole kept drops most texts n calls new
    lack_whole now s new (inl same) whole = subst (Whole kept drops most texts n calls) (sym same) (bare_whole s whole)
    lack_whole now s new (inr taken) whole = drained_whole now (ended_if_anew (without_bare s)) new taken (ready_begun s) (begun_whole s whole)

    restart_whole : (s : Reception) → n ≤ length calls + 1 → Whole kept drops most texts n calls s → Whole kept true (most + 1) texts (length (RestartCall ∷ calls)) (RestartCall ∷ calls) (restarted s)
    restart_whole s le whole =
        let a = whole.account in
        let l = whole.ledger in
        let alone = packet_alone s.stray in
        record {
          account = ended_with a ((a.dropped ++ alone) ++ s.waiting.buffer.held);
          made = restart_made texts (a.handed ++ a.earlier) s.assembler whole.made;
          counted = again past RestartCall calls texts (a.handed ++ a.earlier) s.counts n le refl refl refl refl whole.counted;
          expects = λ e. tt;
          strays = λ e. absurd (let bad = e in cc);
          quiet = λ x y. refl;
          parts = λ among. restarted_parts state all told s.is_anew (a.handed ++ a.earlier) s.assembler s.numbers (whole.parts (record { packets = among.packets; numbers = among.numbers }));
          ledger = record {
            exact = parts_dropped kept a.dropped alone (a.handed ++ a.earlier) s.waiting.buffer.held l.exact;
            quiet = λ e. absurd (let bad = e in cc);
            turn = tt;
            before = one_stream a.streams a.handed a.earlier l.before l.turn;
            few = let few = l.few in omega (arith, few);
            due = tt;
            waits = refl;
            numbered = tt;
          };
        }

    end_whole : (s : Reception) → Whole kept drops most texts n calls s → Whole kept drops (most + 1) texts n calls (ended_reception s)
    end_whole s whole =
        let l = whole.ledger in
        record {
          account = whole.account;
          made = whole.made;
          counted = whole.counted;
          expects = whole.expects;
          strays = whole.strays;
          quiet = whole.quiet;
          parts = whole.parts;
          ledger = record {
            exact = l.exact;
            quiet = l.quiet;
            turn = l.turn;
            before = l.before;
            few = let few = l.few in omega (arith, few);
            due = l.due;
            waits = l.waits;
            numbered = l.numbered;
          };
        }

    settings_whole : (config : AccessUnitConfig) (s : Reception) → Whole kept drops most texts n calls s → Whole kept drops most texts n calls (with_settings config s)
    settings_whole config s whole =
        let l = whole.ledger in
        record {
          account = whole.account;
          made = whole.made;
          counted = whole.counted;
          expects = whole.expects;
          strays = whole.strays;
          quiet = whole.quiet;
          parts = whole.parts;
          ledger = record { exact = l.exact; quiet = l.quiet; turn = l.turn; before = l.before; few = l.few; due = l.due; waits = l.waits; numbered = l.numbered };
        }

    -- the number that is told is due where none was
    told_ledger : (a : Account) (number : ℕ) (j : JitterState) (stray : Option Packet) → number < 65536 → Ledger kept drops most a j stray → Ledger kept drops most a (record j { buffer = begun_at number j.buffer; has_begun = true }) stray
    told_ledger a number j stray small l = by j.buffer.due l.due l.waits
      where
        at : Option ℕ → JitterState
        at due = record j { buffer = begun_at number (record j.buffer { due = due }); has_begun = true }

        none_handed : (handed : Packets) → IsDueBehind None handed → IsDueBehind (Some number) handed
        none_handed [] is = tt
        none_handed (p ∷ handed) is = absurd (let bad = is in cc)

        by : (due : Option ℕ) → IsDueBehind due a.handed → IsHeldInOrder due j.buffer.held → Ledger kept drops most a (at due) stray
        by None due waits = record {
          exact = l.exact;
          quiet = l.quiet;
          turn = l.turn;
          before = l.before;
          few = l.few;
          numbered = l.numbered;
          due = none_handed a.handed due;
          waits = (small, subst (AreHeldInOrder number 0) (sym waits) tt);
        }
        by (Some d) due waits = record { exact = l.exact; quiet = l.quiet; turn = l.turn; before = l.before; few = l.few; due = due; waits = waits; numbered = l.numbered }

    begun_due : (number : ℕ) (b : BufferState RtpBody) → is_some b.due ≡ false → (begun_at number b).due ≡ Some number
    begun_due number b none_is = by b.due none_is
      where
        by : (due : Option ℕ) → is_some due ≡ false → (begun_at number (record b { due = due })).due ≡ Some number
        by None e = refl
        by (Some d) e = absurd (let bad = e in cc)

    none_due : (due : Option ℕ) → is_some due ≡ false → due ≡ None
    none_due None e = refl
    none_due (Some d) e = absurd (let bad = e in cc)

    may_none : (over some : Bool) → (not over && not some) ≡ true → some ≡ false
    may_none false false e = refl
    may_none false true e = absurd (let bad = e in cc)
    may_none true some e = absurd (let bad = e in cc)

    begin_whole : (number : ℕ) (s : Reception) → number < 65536 → n ≤ length calls → Whole kept drops most texts n calls s → Whole kept drops most texts (length (BeginCall number ∷ calls)) (BeginCall number ∷ calls) (begun_reception number s)
    begin_whole number s small le whole =
        let handed = whole.account.handed ++ whole.account.earlier in
        let still = again past (BeginCall number) calls texts handed s.counts n (omega (arith, le)) refl refl refl refl whole.counted in
        let before : AreAmong kept (BeginCall number ∷ calls) → AreAmong kept calls = λ among. record { packets = among.packets; numbers = λ m (k, within, same). among.numbers m (suc k, omega (arith, within), same) } in
        elim (may_tell_first s.waiting) as (λ b. may_tell_first s.waiting ≡ b → Whole kept drops most texts (length (BeginCall number ∷ calls)) (BeginCall number ∷ calls) (begun_reception number s)) [
          | true ↦ λ e. rw e (record {
            account = whole.account;
            ledger = told_ledger whole.account number s.waiting s.stray small whole.ledger;
            made = told_made texts handed s.assembler whole.made number;
            counted = still;
            expects = λ x. begun_due number s.waiting.buffer (may_none s.waiting.is_over (is_some s.waiting.buffer.due) e);
            strays = whole.strays;
            quiet = λ x y. whole.quiet x (none_due s.waiting.buffer.due (may_none s.waiting.is_over (is_some s.waiting.buffer.due) e));
            parts = λ among. told_parts state all told s.is_anew handed s.assembler s.numbers number small (among.numbers number (zero, omega arith, refl)) (λ x. whole.quiet x (none_due s.waiting.buffer.due (may_none s.waiting.is_over (is_some s.waiting.buffer.due) e))) (whole.parts (before among));
          })
          | false ↦ λ e. rw e (record { account = whole.account; ledger = whole.ledger; made = whole.made; counted = still; expects = whole.expects; strays = whole.strays; quiet = whole.quiet; parts = λ among. whole.parts (before among) })
        ] refl

  -- its answer is counted
  pushed_count : (calls : List ReceiverCall) (now : ℕ) (s : Reception) (p : Packet) (answer : Pushed) (whole : WholeOf calls s) →
      Counted past (length (PushCall now p answer ∷ calls)) (PushCall now p answer ∷ calls) (texts_given calls) (whole.account.handed ++ whole.account.earlier) (after_reception now s p answer).counts
  pushed_count calls now s p answer whole = by answer
    where
      small : length (whole.account.handed ++ whole.account.earlier) + call_count tells_late calls ≤ length calls
      small =
          let bound = kept_few calls in
          let few = handed_kept past (kept_packets calls) (whole.account.dropped ++ packet_alone s.stray) (whole.account.handed ++ whole.account.earlier) s.waiting.buffer.held whole.ledger.exact in
          omega (arith, bound, few)

      by : (answer : Pushed) → Counted past (length (PushCall now p answer ∷ calls)) (PushCall now p answer ∷ calls) (texts_given calls) (whole.account.handed ++ whole.account.earlier) (after_reception now s p answer).counts
      by pushes.Held = λ lt. push_counted past calls (whole.account.handed ++ whole.account.earlier) now p s.counts pushes.Held small whole.counted (omega (arith, lt))
      by (pushes.Late n) = λ lt. push_counted past calls (whole.account.handed ++ whole.account.earlier) now p s.counts (pushes.Late n) small whole.counted (omega (arith, lt))
      by pushes.Twice = λ lt. push_counted past calls (whole.account.handed ++ whole.account.earlier) now p s.counts pushes.Twice small whole.counted (omega (arith, lt))
      by pushes.Full = λ lt. push_counted past calls (whole.account.handed ++ whole.account.earlier) now p s.counts pushes.Full small whole.counted (omega (arith, lt))
      by pushes.Stray = λ lt. push_counted past calls (whole.account.handed ++ whole.account.earlier) now p s.counts pushes.Stray small whole.counted (omega (arith, lt))
      by pushes.Jumped = λ lt. push_counted past calls (whole.account.handed ++ whole.account.earlier) now p s.counts pushes.Jumped small whole.counted (omega (arith, lt))
      by pushes.Anew = same_counted past (length (PushCall now p pushes.Anew ∷ calls)) (PushCall now p pushes.Anew ∷ calls) (texts_given calls) (whole.account.handed ++ whole.account.earlier) (counted_push s.counts pushes.Anew) (length s.waiting.buffer.held)
          (λ lt. push_counted past calls (whole.account.handed ++ whole.account.earlier) now p s.counts pushes.Anew small whole.counted (omega (arith, lt)))

  -- a packet that comes is put aside
  aside_whole : (calls : List ReceiverCall) (now : ℕ) (s : Reception) (p : Packet) (answer : Pushed) → p.0 < 65536 → answer ≡ reception_answer s p → WholeOf calls s → WholeOf (PushCall now p answer ∷ calls) (after_reception now s p answer)
  unfolding jumped_after
  aside_whole calls now s p pushes.Held small is whole =
      let calls_then = PushCall now p pushes.Held ∷ calls in
      let asides = pushed_count calls now s p pushes.Held whole in
      record {
        account = whole.account;
        made = whole.made;
        strays = whole.strays;
        counted = asides;
        expects = λ e. (pushed whole.account.handed s.waiting.buffer p small whole.ledger.waits whole.ledger.due).expects s.assembler.expected (whole.expects e);
        quiet = λ e. due_quiet s.assembler.unit s.waiting.buffer.due (after_push s.waiting.buffer p).due (pushed whole.account.handed s.waiting.buffer p small whole.ledger.waits whole.ledger.due).expects (whole.quiet e);
        parts = λ among. whole.parts (record { packets = (fewer (kept_packets calls) p calls (record { packets = among.packets; numbers = among.numbers })).packets; numbers = among.numbers });
        ledger = held_after (kept_packets calls) (list_any may_drop calls) (call_count ends_stream calls) whole.account now s.waiting s.stray p small whole.ledger (told_held s p is);
      }
  aside_whole calls now s p (pushes.Late n) small is whole =
      let calls_then = PushCall now p (pushes.Late n) ∷ calls in
      let asides = pushed_count calls now s p (pushes.Late n) whole in
      record { account = whole.account; ledger = whole.ledger; made = whole.made; counted = asides; expects = whole.expects; strays = whole.strays; quiet = whole.quiet; parts = λ among. whole.parts (record { packets = among.packets; numbers = among.numbers }) }
  aside_whole calls now s p pushes.Twice small is whole =
      let calls_then = PushCall now p pushes.Twice ∷ calls in
      let asides = pushed_count calls now s p pushes.Twice whole in
      record { account = whole.account; ledger = whole.ledger; made = whole.made; counted = asides; expects = whole.expects; strays = whole.strays; quiet = whole.quiet; parts = λ among. whole.parts (record { packets = among.packets; numbers = among.numbers }) }
  aside_whole calls now s p pushes.Full small is whole =
      let calls_then = PushCall now p pushes.Full ∷ calls in
      let asides = pushed_count calls now s p pushes.Full whole in
      record { account = whole.account; ledger = whole.ledger; made = whole.made; counted = asides; expects = whole.expects; strays = whole.strays; quiet = whole.quiet; parts = λ among. whole.parts (record { packets = among.packets; numbers = among.numbers }) }
  aside_whole calls now s p pushes.Stray small is whole =
      let calls_then = PushCall now p pushes.Stray ∷ calls in
      let asides = pushed_count calls now s p pushes.Stray whole in
      record {
        account = record whole.account { dropped = whole.account.dropped ++ packet_alone s.stray };
        made = whole.made;
        strays = λ e. stray_strays (stray_packets calls) whole.account.dropped s.stray p (whole.strays e);
        counted = asides;
        expects = whole.expects;
        quiet = whole.quiet;
        parts = λ among. whole.parts (record { packets = (fewer (kept_packets calls) p calls (record { packets = among.packets; numbers = among.numbers })).packets; numbers = among.numbers });
        ledger = stray_after (kept_packets calls) (list_any may_drop calls) (call_count ends_stream calls) whole.account now s.waiting s.stray p small whole.ledger;
      }
  aside_whole calls now s p pushes.Jumped small is whole =
      let calls_then = PushCall now p pushes.Jumped ∷ calls in
      let asides = pushed_count calls now s p pushes.Jumped whole in
      let joins = joined_moves whole.account.handed now s.waiting s.stray p small whole.ledger.numbered whole.ledger.waits whole.ledger.due (jumped_ahead s p is) in
      let it = jumped_after (kept_packets calls) (list_any may_drop calls) (call_count ends_stream calls) whole.account now s.waiting s.stray p small whole.ledger (one_alone s p pushes.Jumped (inl refl) is) joins in
      record { account = it.account; ledger = it.ledger; made = subst (λ (packets : Packets). Made (texts_given calls) packets s.assembler) (sym it.same) whole.made; counted = subst (λ (packets : Packets). Counted past (length calls_then) calls_then (texts_given calls) packets (after_reception now s p pushes.Jumped).counts) (sym it.same) asides; expects = λ e. joins.moves.expects s.assembler.expected (whole.expects e); quiet = λ e. due_quiet s.assembler.unit s.waiting.buffer.due (held_with now s.waiting s.stray p).buffer.due joins.moves.expects (whole.quiet e); parts = λ among. subst (λ (packets : Packets). PartsIf state all told s.framing.has_slice packets s.assembler s.numbers s.is_anew) (sym it.same) (whole.parts (record { packets = (fewer (kept_packets calls) p calls (record { packets = among.packets; numbers = among.numbers })).packets; numbers = among.numbers })); strays = λ e. joined_strays (stray_packets calls) whole.account.dropped joins.moves.lost s.stray joins.lost_is (whole.strays e) }
  aside_whole calls now s p pushes.Anew small is whole =
      let calls_then = PushCall now p pushes.Anew ∷ calls in
      let asides = pushed_count calls now s p pushes.Anew whole in
      let it = anew_after (kept_packets calls) (list_any may_drop calls) (call_count ends_stream calls) whole.account now s.waiting s.stray p small whole.ledger (one_alone s p pushes.Anew (inr refl) is) in
      record { account = it.account; ledger = it.ledger; made = subst (λ (packets : Packets). Made (texts_given calls) packets s.assembler) (sym it.same) whole.made; counted = subst (λ (packets : Packets). Counted past (length calls_then) calls_then (texts_given calls) packets (after_reception now s p pushes.Anew).counts) (sym it.same) asides; expects = λ e. absurd (let bad = e in cc); strays = λ e. absurd (let bad = e in cc); quiet = λ e. absurd (let bad = e in cc); parts = λ among. subst (λ (packets : Packets). PartsIf state all told s.framing.has_slice packets s.assembler s.numbers true) (sym it.same) (anew_parts state all told s.is_anew (whole.account.handed ++ whole.account.earlier) s.assembler s.numbers (whole.parts (record { packets = (fewer (kept_packets calls) p calls (record { packets = among.packets; numbers = among.numbers })).packets; numbers = among.numbers }))) }

  push_whole : (calls : List ReceiverCall) (now : ℕ) (s new : Reception) (p : Packet) (answer : Pushed) → p.0 < 65536 → length p.1.payload < 18446744073709551616 → answer ≡ reception_answer s p → IsPushed now s p answer new → WholeOf calls s → WholeOf (PushCall now p answer ∷ calls) new
  push_whole calls now s new p answer small len is it whole =
      let calls_then = PushCall now p answer ∷ calls in
      let aside = aside_whole calls now s p answer small is whole in
      let same : (is_taken_at_once s p ≡ true) → (after_reception now s p answer).is_anew ≡ false = λ e.
      subst (λ (x : Pushed). (after_reception now s p x).is_anew ≡ false) (held_at_once s p small len e ∙ sym is) (at_once s p e).2 in
      let none_left : (is_taken_at_once s p ≡ true) → (after_reception now s p answer).assembler.ended ≡ [] = λ e.
      subst (λ (x : Pushed). (after_reception now s p x).assembler.ended ≡ []) (held_at_once s p small len e ∙ sym is) (no_unit_is s.assembler.ended (at_once s p e).1) in
      elim (is_taken_at_once s p) as (λ b. is_taken_at_once s p ≡ b → MatchBool b (IsDueTaken now (after_reception now s p answer) new) (new ≡ after_reception now s p answer) → WholeOf calls_then new) [
        | true ↦ λ e taken. due_whole (kept_packets calls_then) (list_any may_drop calls_then) (call_count ends_stream calls_then) (texts_given calls_then) (length calls_then) calls_then (kept_few calls_then) (texts_few calls_then) now (after_reception now s p answer) new (same e) (none_left e) taken aside
        | false ↦ λ e stands. subst (WholeOf calls_then) (sym stands) aside
      ] refl it

  call_whole : (call : ReceiverCall) (calls : List ReceiverCall) (s new : Reception) → IsCall call s new → WholeOf calls s → WholeOf (call ∷ calls) new
  call_whole (PushCall now p answer) calls s new it whole = push_whole calls now s new p answer it.0 it.1 it.2 it.3 whole
  call_whole (BackCall p reason) calls s new it whole =
      let a = whole.account in
      let bound = kept_few calls in
      let few = handed_kept past (kept_packets calls) (a.dropped ++ packet_alone s.stray) (a.handed ++ a.earlier) s.waiting.buffer.held whole.ledger.exact in
      subst (WholeOf (BackCall p reason ∷ calls)) (sym it.1) (record {
        account = whole.account;
        ledger = whole.ledger;
        made = whole.made;
        expects = whole.expects;
        strays = whole.strays;
        quiet = whole.quiet;
        parts = λ among. whole.parts (record { packets = among.packets; numbers = among.numbers });
        counted = λ lt. back_counted past calls (a.handed ++ a.earlier) p s.counts reason (omega (arith, bound, few)) whole.counted (omega (arith, lt));
      })
  call_whole (NextCall now None) calls s new it whole =
      let w = next_whole (kept_packets calls) (list_any may_drop calls) (call_count ends_stream calls) (texts_given calls) (length calls) calls (kept_few calls) (texts_few calls) now s new None it whole in
      let texts_same = append-nil (texts_given calls) in
      record {
        account = w.account;
        ledger = w.ledger;
        made = subst (λ (t : List (ℕ × List ℕ)). Made t (w.account.handed ++ w.account.earlier) new.assembler) texts_same w.made;
        expects = w.expects;
        strays = w.strays;
        quiet = w.quiet;
        parts = λ among. w.parts (record { packets = among.packets; numbers = among.numbers });
        counted = again past (NextCall now None) calls (texts_given calls) (w.account.handed ++ w.account.earlier) new.counts (length calls + 1) (omega arith) refl refl refl refl
            (subst (λ (t : List (ℕ × List ℕ)). Counted past (length calls + 1) calls t (w.account.handed ++ w.account.earlier) new.counts) texts_same w.counted);
      }
  call_whole (NextCall now (Some unit)) calls s new it whole =
      let w = next_whole (kept_packets calls) (list_any may_drop calls) (call_count ends_stream calls) (texts_given calls) (length calls) calls (kept_few calls) (texts_few calls) now s new (Some unit) it whole in
      record {
        account = w.account;
        ledger = w.ledger;
        made = w.made;
        expects = w.expects;
        strays = w.strays;
        quiet = w.quiet;
        parts = λ among. w.parts (record { packets = among.packets; numbers = among.numbers });
        counted = again past (NextCall now (Some unit)) calls (texts_given calls ++ (unit.timestamp, unit.bytes) ∷ []) (w.account.handed ++ w.account.earlier) new.counts (length calls + 1) (omega arith) refl refl refl refl w.counted;
      }
  call_whole FinishCall calls s new it whole =
      let w = end_whole (kept_packets calls) (list_any may_drop calls) (call_count ends_stream calls) (texts_given calls) (length calls) calls (kept_few calls) (texts_few calls) s whole in
      subst (WholeOf (FinishCall ∷ calls)) (sym it) (record {
        account = w.account;
        ledger = w.ledger;
        made = w.made;
        expects = w.expects;
        strays = w.strays;
        quiet = w.quiet;
        parts = λ among. w.parts (record { packets = among.packets; numbers = among.numbers });
        counted = again past FinishCall calls (texts_given calls) (w.account.handed ++ w.account.earlier) s.counts (length calls) (omega arith) refl refl refl refl w.counted;
      })
  call_whole RestartCall calls s new it whole =
      subst (WholeOf (RestartCall ∷ calls)) (sym it)
      (restart_whole (kept_packets calls) (list_any may_drop calls) (call_count ends_stream calls) (texts_given calls) (length calls) calls (kept_few calls) (texts_few calls) s (omega arith) whole)
  call_whole (SettingsCall config) calls s new it whole =
      let w = settings_whole (kept_packets calls) (list_any may_drop calls) (call_count ends_stream calls) (texts_given calls) (length calls) calls (kept_few calls) (texts_few calls) config s whole in
      subst (WholeOf (SettingsCall config ∷ calls)) (sym it) (record {
        account = w.account;
        ledger = w.ledger;
        made = w.made;
        expects = w.expects;
        strays = w.strays;
        quiet = w.quiet;
        parts = λ among. w.parts (record { packets = among.packets; numbers = among.numbers });
        counted = again past (SettingsCall config) calls (texts_given calls) (w.account.handed ++ w.account.earlier) s.counts (length calls) (omega arith) refl refl refl refl w.counted;
      })
  call_whole (LackCall now) calls s new it whole =
      let w = lack_whole (kept_packets calls) (list_any may_drop calls) (call_count ends_stream calls) (texts_given calls) (length calls) calls (kept_few calls) (texts_few calls) now s new it whole in
      record {
        account = w.account;
        ledger = w.ledger;
        made = w.made;
        expects = w.expects;
        strays = w.strays;
        quiet = w.quiet;
        parts = λ among. w.parts (record { packets = among.packets; numbers = among.numbers });
        counted = again past (LackCall now) calls (texts_given calls) (w.account.handed ++ w.account.earlier) new.counts (length calls) (omega arith) refl refl refl refl w.counted;
      }
  call_whole (BeginCall number) calls s new it whole =
      subst (WholeOf (BeginCall number ∷ calls)) (sym it.1)
      (begin_whole (kept_packets calls) (list_any may_drop calls) (call_count ends_stream calls) (texts_given calls) (length calls) calls (kept_few calls) (texts_few calls) number s it.0 (omega arith) whole)

  calls_whole : (config : AccessUnitConfig) (c : Counts) (run unit : ℕ) → Counted past 0 [] [] [] c → (calls : List ReceiverCall) (s : Reception) → AreReceiverCalls (as_new state config c run unit) calls s → WholeOf calls s
  calls_whole config c run unit counted calls s no_call = record {
    account = no_account;
    made = record { gone = []; made = new_assembler; texts_are = refl };
    counted = counted;
    expects = λ e. tt;
    strays = λ e. record { joined = []; each_once = IsPermutation-refl [] };
    quiet = λ x y. refl;
    parts = λ among. fresh_parts state all told false [] state refl;
    ledger = record { exact = IsPermutation-refl []; quiet = λ e. refl; turn = tt; before = no_stream; few = omega arith; due = tt; waits = refl; numbered = tt };
  }
  calls_whole config c run unit counted calls s (one_call {call = call} {before = before} {t = t} others it) = call_whole call before t s it (calls_whole config c run unit counted before t others)

  accounted : (calls : List ReceiverCall) (s : Reception) → (length calls < 18446744073709551616 → length calls + past < 18446744073709551616) → WholeOf calls s → IsAccounted state calls s
  accounted calls s counts_to whole =
      let l = whole.ledger in
      record {
        account = whole.account;
        given = record { gone = whole.made.gone; made = whole.made.made; texts = whole.made.texts_are };
        counts = λ lt. let it = whole.counted (counts_to lt) in record { late = it.late; twice = it.twice; stray = it.stray; anew = it.anew; units = it.units; handed = it.handed };
        each = record { exact = l.exact; none_dropped = l.quiet; strays = whole.strays };
        order = record { turn = l.turn; before = l.before; few = let few = l.few in omega (arith, few); due = l.due; waits = l.waits };
      }

  -- what is given out and told whole has all its packets
  record Tells (calls : List ReceiverCall) (s : Reception) (unit : ReceivedAccessUnitValue) : Type 0 where
    account : Account
    each : IsEachAccounted calls s account
    order : AreHandedInOrder calls s account
    whole : IsOfWholePackets told all (account.handed ++ account.earlier) state unit

  same_unit : (a b : ReceivedAccessUnitValue) → Some a ≡ Some b → a ≡ b
  same_unit a b e = cc

  given_tells : (calls : List ReceiverCall) (now : ℕ) (s : Reception) (unit : ReceivedAccessUnitValue) → AreAmong (kept_packets calls) calls → Some unit ≡ unit_given s → unit.is_whole ≡ true → WholeOf calls s → Tells (NextCall now (Some unit) ∷ calls) (without_given s) unit
  given_tells calls now s unit among is told_whole_is whole = by s.assembler.ended refl is
    where
      by : (ended : List AccessUnitValue) → s.assembler.ended ≡ ended → Some unit ≡ unit_given_of s ended → Tells (NextCall now (Some unit) ∷ calls) (without_given_of s ended) unit
      by [] at e = absurd (let bad = e in cc)
      by (u ∷ units) at e =
          let l = whole.ledger in
          let given = received_unit s.decoder s.waiting.config.has_sets s.assembler.state.is_avc u (first_ended s.numbers) in
          let same = same_unit unit given e in
          record {
            account = whole.account;
            each = record { exact = l.exact; none_dropped = l.quiet; strays = whole.strays };
            order = record { turn = l.turn; before = l.before; few = let few = l.few in omega (arith, few); due = l.due; waits = l.waits };
            whole = subst (IsOfWholePackets told all (whole.account.handed ++ whole.account.earlier) state) (sym same)
                (first_whole state all told s.is_anew (whole.account.handed ++ whole.account.earlier) s.decoder s.waiting.config.has_sets s.assembler s.numbers u units at (whole.parts among)
                (subst (λ (x : ReceivedAccessUnitValue). x.is_whole ≡ true) same told_whole_is));
          }

  next_tells : (calls : List ReceiverCall) (now : ℕ) (s new : Reception) (unit : ReceivedAccessUnitValue) → AreAmong (kept_packets calls) calls → IsNext now s new (Some unit) → unit.is_whole ≡ true → WholeOf calls s → Tells (NextCall now (Some unit) ∷ calls) new unit
  next_tells calls now s new unit among it told_whole_is whole =
      let kept = kept_packets calls in
      let drops = list_any may_drop calls in
      let most = call_count ends_stream calls in
      let texts = texts_given calls in
      let n = length calls in
      let begun = begun_whole kept drops most texts n calls (kept_few calls) (texts_few calls) s whole in
      let drained = drained_whole kept drops most texts n calls (kept_few calls) (texts_few calls) now (ended_if_anew (without_bare s)) it.drained it.taken (ready_begun kept drops most texts n calls (kept_few calls) (texts_few calls) s) begun in
      let over = over_whole kept drops most texts n calls (kept_few calls) (texts_few calls) now it.drained it.until drained in
      subst (λ (r : Reception). Tells (NextCall now (Some unit) ∷ calls) r unit) (sym it.stands)
      (given_tells calls now (without_bare (ended_if_over it.drained)) unit among it.unit_is told_whole_is (bare_whole kept drops most texts n calls (kept_few calls) (texts_few calls) (ended_if_over it.drained) over))

no_counts_exact : (state : DepacketizerState) (all : Packets) (told : List ℕ) (past : ℕ) → Counted past 0 [] [] [] no_counts
no_counts_exact state all told past lt = record { late = refl; twice = refl; stray = refl; anew = refl; units = refl; handed = refl }

fresh_whole : (state : DepacketizerState) (all : Packets) (told : List ℕ) (config : AccessUnitConfig) (calls : List ReceiverCall) (s : Reception) → AreReceiverCalls (fresh_reception config state) calls s → WholeOf state all told 0 calls s
fresh_whole state all told config calls s are = calls_whole state all told 0 config no_counts config.run_limit config.unit_limit (no_counts_exact state all told 0) calls s are

pub calls_accounted : (state : DepacketizerState) (config : AccessUnitConfig) (calls : List ReceiverCall) (s : Reception) → AreReceiverCalls (fresh_reception config state) calls s → IsAccounted state calls s
calls_accounted state config calls s are = accounted state [] [] 0 calls s (λ lt. omega (arith, lt)) (fresh_whole state [] [] config calls s are)

-- since a receiver was as a new one what is told whole has all its packets
pub begun_told_whole : (state : DepacketizerState) (config : AccessUnitConfig) (c : Counts) (run most now : ℕ) (unit : ReceivedAccessUnitValue) (calls : List ReceiverCall) (s : Reception) → AreReceiverCalls (as_new state config c run most) (NextCall now (Some unit) ∷ calls) s →
    unit.is_whole ≡ true → IsToldWhole state (NextCall now (Some unit) ∷ calls) s unit
begun_told_whole state config c run most now unit calls s (one_call {t = t} others it) whole =
    let kept = kept_packets calls in
    let numbers = told_numbers calls in
    let past : ℕ = 18446744073709551616 in
    let told = next_tells state kept numbers past calls now t s unit (record { packets = λ p is. is; numbers = λ number is. is }) it whole (calls_whole state kept numbers past config c run most (λ lt. absurd (omega (arith, lt))) calls t others) in
    record { account = told.account; each = told.each; order = told.order; whole = told.whole }

pub calls_told_whole : (state : DepacketizerState) (config : AccessUnitConfig) (now : ℕ) (unit : ReceivedAccessUnitValue) (calls : List ReceiverCall) (s : Reception) → AreReceiverCalls (fresh_reception config state) (NextCall now (Some unit) ∷ calls) s →
    unit.is_whole ≡ true → IsToldWhole state (NextCall now (Some unit) ∷ calls) s unit
calls_told_whole state config now unit calls s are whole = begun_told_whole state config no_counts config.run_limit config.unit_limit now unit calls s are whole

-- whatever is called the depacketizer stays of its kind
pub calls_kind : (state : DepacketizerState) (config : AccessUnitConfig) (calls : List ReceiverCall) (s : Reception) → AreReceiverCalls (fresh_reception config state) calls s → s.assembler.state ≡ state_with_run state s.assembler.state.run
calls_kind state config calls s are = ((fresh_whole state (kept_packets calls) (told_numbers calls) config calls s are).parts (record { packets = λ p is. is; numbers = λ number is. is })).kind
