-- What each deed of a receiver keeps, all its calls keep.
use Rattle.std.proofs.Common.{◌≡◌, ◌∙◌, ap, sym, subst, refl, ℕ, zero, suc, Bool, true, false, cond, List, [], ◌∷◌, ◌++◌, Option, Some, None, append_assoc, arith, inl, inr}
use Rattle.std.specs.Prelude.{◌&&◌, MatchBool, if◌then◌else◌}
use Rattle.std.specs.List.{Contains}
use Rattle.h26x_model.specs.Receive.DepacketizerState.{DepacketizerState}
use Rattle.h26x_model.specs.Receive.RunLimit.{state_with_run}
use Rattle.h26x_reorder.specs.Rtp.{RtpBody}
use Rattle.h26x_assembler.specs.AccessUnit.{AccessUnitValue, Assembly}
use Rattle.h26x_access_units.specs.declared.config.AccessUnitConfig.{AccessUnitConfig}
use Rattle.h26x_access_units.specs.declared.decoder.DecoderState.{DecoderState}
use Rattle.h26x_access_units.specs.declared.framing.Framing.{Framing}
use Rattle.h26x_access_units.specs.declared.numbers.NumbersSoFar.{NumbersSoFar}
use Rattle.h26x_access_units.specs.declared.pushed.Pushed.{Pushed}
use Rattle.h26x_access_units.specs.declared.pushed.Pushed.TheVariants as pushes
use Rattle.h26x_access_units.specs.Numbers.{bears_nothing, begun_numbers_at, first_ended}
use Rattle.h26x_access_units.specs.JitterBuffer.{may_tell_first}
use Rattle.h26x_access_units.specs.ReceivedAccessUnit.{ReceivedAccessUnitValue, received_unit}
use Rattle.h26x_access_units.specs.Reception.{Reception, fresh_reception, begun_reception, restarted, ends_before, has_no_unit, is_taken_at_once, after_reception, after_due, is_behind_missing, IsDueTaken, IsEndedBefore, ended_behind_missing, ended_by_content, bare_passed, without_bare_of, without_bare, IsDrained, none, bare, more, behind, IsDrainedInPart, ended_if_anew, ended_if_over, after_finish, unit_given_of, unit_given, without_given_of, without_given, IsNext}
use Rattle.h26x_access_units.specs.Account.{ReceiverCall, PushCall, BackCall, NextCall, LackCall, FinishCall, RestartCall, SettingsCall, BeginCall, IsCall, AreReceiverCalls, no_call, one_call}
use Rattle.h26x_access_units.specs.ToldWhole.{Deed, EndedBefore, EndedStream, ToldFirst, DroppedAll, packet_deed, drained_deeds, stream_deeds, push_deeds, call_deeds, all_deeds, settings_set, units_given}
use Rattle.h26x_access_units.proofs.AccountLemmas.{calls_kind}
use Rattle.h26x_access_units.proofs.ReceptionLemmas.{at_once}

abbrev Packet : Type 0
Packet = ℕ × RtpBody

abbrev Units : Type 0
Units = List ReceivedAccessUnitValue

pub no_unit_is : (units : List AccessUnitValue) → has_no_unit units ≡ true → units ≡ []
no_unit_is [] e = refl
no_unit_is (unit ∷ units) e = absurd (let bad = e in cc)

both_true : (x y : Bool) → (x && y) ≡ true → x ≡ true
both_true true y e = refl
both_true false y e = absurd (let bad = e in cc)

-- so it is of what is known of a receiver by what was done, and by what was given out, with settings of
-- which so much holds
module _ (state : DepacketizerState) (Known : List Deed → List ReceivedAccessUnitValue → Assembly → Framing → NumbersSoFar → DecoderState → ℕ → ℕ → Type 0) (Limits : AccessUnitConfig → Type 0) where
  abbrev pub Story : List Deed → List ReceivedAccessUnitValue → Reception → Type 0
  Story ds given s = Known ds given s.assembler s.framing s.numbers s.decoder s.run_limit s.unit_limit

  -- each deed keeps it, and so does what is given out or passed over
  pub record AreKept : Type 0 where
    pub due_taken : (ds : List Deed) (given : Units) (now : ℕ) (s t : Reception) (it : IsDueTaken now s t) → s.assembler.ended ≡ [] → Story ds given s → Story (packet_deed it.packet it.answer ∷ ds) given (after_due s it.packet it.answer)
    pub ended_missing : (ds : List Deed) (given : Units) (s : Reception) (p : Packet) → s.assembler.ended ≡ [] → Story ds given s → Story (EndedBefore p ∷ ds) given (ended_behind_missing s p)
    pub ended_content : (ds : List Deed) (given : Units) (s : Reception) (p : Packet) → ends_before s.assembler s.framing p ≡ true → is_behind_missing s.assembler p.0 ≡ false → Story ds given s → Story (EndedBefore p ∷ ds) given (ended_by_content s)
    pub bare_gone : (ds : List Deed) (given : Units) (s : Reception) (u : AccessUnitValue) (us : List AccessUnitValue) → s.assembler.ended ≡ u ∷ us → bears_nothing u.bytes ≡ true → Story ds given s → Story ds given (bare_passed s u us)
    pub stream_ended : (ds : List Deed) (given : Units) (s : Reception) → s.assembler.ended ≡ [] → Story ds given s → Story (EndedStream ∷ ds) given (after_finish s)
    pub unit_given_out : (ds : List Deed) (given : Units) (s : Reception) (u : AccessUnitValue) (us : List AccessUnitValue) → s.assembler.ended ≡ u ∷ us → Story ds given s → Story ds (received_unit s.decoder s.waiting.config.has_sets s.assembler.state.is_avc u (first_ended s.numbers) ∷ given) (without_given_of s (u ∷ us))
    pub number_told : (ds : List Deed) (given : Units) (s : Reception) (number : ℕ) → Story ds given s → Story (ToldFirst number ∷ ds) given (record s { assembler = record s.assembler { expected = Some number }; numbers = begun_numbers_at s.numbers })
    pub all_dropped : (ds : List Deed) (given : Units) (s : Reception) → s.assembler.state ≡ state_with_run state s.assembler.state.run → Story ds given s → Story (DroppedAll ∷ ds) given (restarted s)
    pub limits_set : (ds : List Deed) (given : Units) (s : Reception) (config : AccessUnitConfig) → Limits config → Story ds given s → Known ds given s.assembler s.framing s.numbers s.decoder config.run_limit config.unit_limit
    pub none_done : (config : AccessUnitConfig) → Limits config → Story [] [] (fresh_reception config state)

  module _ (kept : AreKept) where
    due_story : (ds : List Deed) (given : Units) (now : ℕ) (s t : Reception) (it : IsDueTaken now s t) → s.assembler.ended ≡ [] → Story ds given s → Story (packet_deed it.packet it.answer ∷ ds) given t
    due_story ds given now s t it empty story = subst (Story (packet_deed it.packet it.answer ∷ ds) given) (sym it.stands) (kept.due_taken ds given now s t it empty story)

    ended_story : (ds : List Deed) (given : Units) (now : ℕ) (s t : Reception) (it : IsEndedBefore now s t) → s.assembler.ended ≡ [] → Story ds given s → Story (EndedBefore it.packet ∷ ds) given t
    ended_story ds given now s t it empty story =
        subst (Story (EndedBefore it.packet ∷ ds) given) (sym it.stands)
        (elim (is_behind_missing s.assembler it.packet.0) as (λ c. is_behind_missing s.assembler it.packet.0 ≡ c → Story (EndedBefore it.packet ∷ ds) given (cond c (ended_behind_missing s it.packet) (ended_by_content s))) [
          | true ↦ λ e. kept.ended_missing ds given s it.packet empty story
          | false ↦ λ e. kept.ended_content ds given s it.packet it.ends e story
        ] refl)

    bare_story_of : (ds : List Deed) (given : Units) (left : List AccessUnitValue) (s : Reception) → s.assembler.ended ≡ left → Story ds given s → Story ds given (without_bare_of s left)
    bare_story_of ds given [] s is story = story
    bare_story_of ds given (u ∷ us) s is story = elim (bears_nothing u.bytes) as (λ c. bears_nothing u.bytes ≡ c → Story ds given (cond c (without_bare_of (bare_passed s u us) us) s)) [
      | true ↦ λ e. bare_story_of ds given us (bare_passed s u us) refl (kept.bare_gone ds given s u us is e story)
      | false ↦ λ e. story
    ] refl

    bare_story : (ds : List Deed) (given : Units) (s : Reception) → Story ds given s → Story ds given (without_bare s)
    bare_story ds given s story = bare_story_of ds given s.assembler.ended s refl story

    drained_story : (ds : List Deed) (given : Units) (now : ℕ) (s t : Reception) (it : IsDrained now s t) → Story ds given s → Story (drained_deeds it ++ ds) given t
    drained_story ds given now s t none story = story
    drained_story ds given now s t (bare before) story = bare_story (drained_deeds before ++ ds) given _ (drained_story ds given now s _ before story)
    drained_story ds given now s t (more before empty taken) story = due_story (drained_deeds before ++ ds) given now _ t taken empty (drained_story ds given now s _ before story)
    drained_story ds given now s t (behind before empty ended) story = ended_story (drained_deeds before ++ ds) given now _ t ended empty (drained_story ds given now s _ before story)

    anew_story : (ds : List Deed) (given : Units) (s : Reception) → Story ds given s → Story (stream_deeds s s.is_anew ++ ds) given (ended_if_anew s)
    anew_story ds given s story = elim (has_no_unit s.assembler.ended && s.is_anew) as (λ c. (has_no_unit s.assembler.ended && s.is_anew) ≡ c → Story (stream_deeds s s.is_anew ++ ds) given (ended_if_anew s)) [
      | true ↦ λ e. rw e (kept.stream_ended ds given s (no_unit_is s.assembler.ended (both_true (has_no_unit s.assembler.ended) s.is_anew e)) story)
      | false ↦ λ e. rw e story
    ] refl

    over_story : (ds : List Deed) (given : Units) (s : Reception) → Story ds given s → Story (stream_deeds s s.waiting.is_over ++ ds) given (ended_if_over s)
    over_story ds given s story = elim (has_no_unit s.assembler.ended && s.waiting.is_over) as (λ c. (has_no_unit s.assembler.ended && s.waiting.is_over) ≡ c → Story (stream_deeds s s.waiting.is_over ++ ds) given (ended_if_over s)) [
      | true ↦ λ e. rw e (kept.stream_ended ds given s (no_unit_is s.assembler.ended (both_true (has_no_unit s.assembler.ended) s.waiting.is_over e)) story)
      | false ↦ λ e. rw e story
    ] refl

    -- with what is given out
    abbrev with_given : Option ReceivedAccessUnitValue → Units → Units
    with_given None given = given
    with_given (Some one) given = one ∷ given

    given_story : (ds : List Deed) (given : Units) (s : Reception) → Story ds given s → Story ds (with_given (unit_given s) given) (without_given s)
    given_story ds given s story = by s.assembler.ended refl
      where
        by : (left : List AccessUnitValue) → s.assembler.ended ≡ left → Story ds (with_given (unit_given_of s left) given) (without_given_of s left)
        by [] is = story
        by (u ∷ us) is = kept.unit_given_out ds given s u us is story

    given_units : (calls : List ReceiverCall) (now : ℕ) (one : Option ReceivedAccessUnitValue) → with_given one (units_given calls) ≡ units_given (NextCall now one ∷ calls)
    given_units calls now None = refl
    given_units calls now (Some one) = refl

    -- before the next access unit is given out
    pub before_next : (ds : List Deed) (given : Units) (now : ℕ) (s new : Reception) (one : Option ReceivedAccessUnitValue) (it : IsNext now s new one) → Story ds given s →
        Story (call_deeds (NextCall now one) s new it ++ ds) given (without_bare (ended_if_over it.drained))
    before_next ds given now s new one it story =
        let over = stream_deeds it.drained it.drained.waiting.is_over in
        let drained = drained_deeds it.taken in
        let anew = stream_deeds (without_bare s) (without_bare s).is_anew in
        let same : (over ++ (drained ++ anew)) ++ ds ≡ over ++ (drained ++ (anew ++ ds)) = append_assoc over (drained ++ anew) ds ∙ ap (λ (x : List Deed). over ++ x) (append_assoc drained anew ds) in
        let begun = anew_story ds given (without_bare s) (bare_story ds given s story) in
        let taken = drained_story (anew ++ ds) given now (ended_if_anew (without_bare s)) it.drained it.taken begun in
        subst (λ (x : List Deed). Story x given (without_bare (ended_if_over it.drained))) (sym same)
        (bare_story (over ++ (drained ++ (anew ++ ds))) given (ended_if_over it.drained) (over_story (drained ++ (anew ++ ds)) given it.drained taken))

    next_story : (ds : List Deed) (calls : List ReceiverCall) (now : ℕ) (s new : Reception) (one : Option ReceivedAccessUnitValue) (it : IsNext now s new one) → Story ds (units_given calls) s →
        Story (call_deeds (NextCall now one) s new it ++ ds) (units_given (NextCall now one ∷ calls)) new
    next_story ds calls now s new one it story =
        let all = call_deeds (NextCall now one) s new it ++ ds in
        let last = without_bare (ended_if_over it.drained) in
        subst (Story all (units_given (NextCall now one ∷ calls))) (sym it.stands)
        (subst (λ (x : Units). Story all x (without_given last)) (ap (λ (x : Option ReceivedAccessUnitValue). with_given x (units_given calls)) (sym it.unit_is) ∙ given_units calls now one)
        (given_story all (units_given calls) last (before_next ds (units_given calls) now s new one it story)))

    lack_story : (ds : List Deed) (given : Units) (now : ℕ) (s new : Reception) (it : IsDrainedInPart now s new) → Story ds given s → Story (call_deeds (LackCall now) s new it ++ ds) given new
    lack_story ds given now s new (inl same) story = subst (Story ds given) (sym same) (bare_story ds given s story)
    lack_story ds given now s new (inr taken) story =
        let drained = drained_deeds taken in
        let anew = stream_deeds (without_bare s) (without_bare s).is_anew in
        let same : (drained ++ anew) ++ ds ≡ drained ++ (anew ++ ds) = append_assoc drained anew ds in
        let begun = anew_story ds given (without_bare s) (bare_story ds given s story) in
        subst (λ (x : List Deed). Story x given new) (sym same) (drained_story (anew ++ ds) given now (ended_if_anew (without_bare s)) new taken begun)

    aside_story : (ds : List Deed) (given : Units) (now : ℕ) (s : Reception) (p : Packet) (answer : Pushed) → Story ds given s → Story ds given (after_reception now s p answer)
    aside_story ds given now s p pushes.Held story = story
    aside_story ds given now s p (pushes.Late n) story = story
    aside_story ds given now s p pushes.Twice story = story
    aside_story ds given now s p pushes.Full story = story
    aside_story ds given now s p pushes.Stray story = story
    aside_story ds given now s p pushes.Jumped story = story
    aside_story ds given now s p pushes.Anew story = story

    aside_ended : (now : ℕ) (s : Reception) (p : Packet) (answer : Pushed) → (after_reception now s p answer).assembler.ended ≡ s.assembler.ended
    aside_ended now s p pushes.Held = refl
    aside_ended now s p (pushes.Late n) = refl
    aside_ended now s p pushes.Twice = refl
    aside_ended now s p pushes.Full = refl
    aside_ended now s p pushes.Stray = refl
    aside_ended now s p pushes.Jumped = refl
    aside_ended now s p pushes.Anew = refl

    push_story : (ds : List Deed) (given : Units) (now : ℕ) (s new : Reception) (c : Bool) (it : MatchBool c (IsDueTaken now s new) (new ≡ s)) → (c ≡ true → s.assembler.ended ≡ []) → Story ds given s → Story (push_deeds now s new c it ++ ds) given new
    push_story ds given now s new true it empty story = due_story ds given now s new it (empty refl) story
    push_story ds given now s new false same empty story = subst (Story ds given) (sym same) story

    -- by each call
    call_story : (ds : List Deed) (calls : List ReceiverCall) (call : ReceiverCall) (s new : Reception) (it : IsCall call s new) → s.assembler.state ≡ state_with_run state s.assembler.state.run → ((config : AccessUnitConfig) → call ≡ SettingsCall config → Limits config) → Story ds (units_given calls) s → Story (call_deeds call s new it ++ ds) (units_given (call ∷ calls)) new
    call_story ds calls (PushCall now p answer) s new it kind limits story = push_story ds (units_given calls) now (after_reception now s p answer) new (is_taken_at_once s p) it.3
        (λ e. aside_ended now s p answer ∙ no_unit_is s.assembler.ended (at_once s p e).1) (aside_story ds (units_given calls) now s p answer story)
    call_story ds calls (BackCall p reason) s new it kind limits story = subst (Story ds (units_given calls)) (sym it.1) story
    call_story ds calls (NextCall now None) s new it kind limits story = next_story ds calls now s new None it story
    call_story ds calls (NextCall now (Some one)) s new it kind limits story = next_story ds calls now s new (Some one) it story
    call_story ds calls (LackCall now) s new it kind limits story = lack_story ds (units_given calls) now s new it story
    call_story ds calls FinishCall s new it kind limits story = subst (Story ds (units_given calls)) (sym it) story
    call_story ds calls RestartCall s new it kind limits story = subst (Story (DroppedAll ∷ ds) (units_given calls)) (sym it) (kept.all_dropped ds (units_given calls) s kind story)
    call_story ds calls (SettingsCall config) s new it kind limits story = subst (Story ds (units_given calls)) (sym it) (kept.limits_set ds (units_given calls) s config (limits config refl) story)
    call_story ds calls (BeginCall number) s new it kind limits story = subst (Story (call_deeds (BeginCall number) s new it ++ ds) (units_given calls)) (sym it.1)
        (elim (may_tell_first s.waiting) as (λ c. may_tell_first s.waiting ≡ c → Story ((if c then ToldFirst number ∷ [] else []) ++ ds) (units_given calls) (begun_reception number s)) [
          | true ↦ λ e. rw e (kept.number_told ds (units_given calls) s number story)
          | false ↦ λ e. rw e story
        ] refl)

    -- by all calls
    pub calls_story : (config : AccessUnitConfig) (calls : List ReceiverCall) (s : Reception) (are : AreReceiverCalls (fresh_reception config state) calls s) →
        ((c : AccessUnitConfig) → Contains (config ∷ settings_set calls) c → Limits c) → Story (all_deeds are) (units_given calls) s
    calls_story config calls s no_call limits = kept.none_done config (limits config (zero, omega arith, refl))
    calls_story config calls s (one_call {call = call} {before = before} {t = t} others it) limits =
        call_story (all_deeds others) before call t s it (calls_kind state config before t others) (λ c is. limits c (set_now call before c is)) (calls_story config before t others (λ c is. limits c (set_before call before c is)))
      where
        set_now : (call : ReceiverCall) (before : List ReceiverCall) (c : AccessUnitConfig) → call ≡ SettingsCall c → Contains (config ∷ settings_set (call ∷ before)) c
        set_now call before c is = subst (λ (x : ReceiverCall). Contains (config ∷ settings_set (x ∷ before)) c) (sym is) (suc zero, omega arith, refl)

        later : (x c : AccessUnitConfig) (left : List AccessUnitConfig) → Contains (config ∷ left) c → Contains (config ∷ x ∷ left) c
        later x c left (zero, within, same) = (zero, omega arith, same)
        later x c left (suc k, within, same) = (suc (suc k), omega (arith, within), same)

        set_before : (call : ReceiverCall) (before : List ReceiverCall) (c : AccessUnitConfig) → Contains (config ∷ settings_set before) c → Contains (config ∷ settings_set (call ∷ before)) c
        set_before (SettingsCall x) before c is = later x c (settings_set before) is
        set_before (PushCall now p answer) before c is = is
        set_before (BackCall p reason) before c is = is
        set_before (NextCall now one) before c is = is
        set_before (LackCall now) before c is = is
        set_before FinishCall before c is = is
        set_before RestartCall before c is = is
        set_before (BeginCall number) before c is = is
