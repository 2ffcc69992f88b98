-- What was given to the decoder that a receiver knows of.
use Rattle.std.proofs.Common.{◌≡◌, ◌∙◌, ap, sym, subst, refl, ℕ, Bool, true, false, cond, List, [], ◌∷◌, ◌++◌, Option, Some}
use Rattle.std.specs.Prelude.{◌&&◌, MatchBool}
use Rattle.h26x_reorder.specs.Rtp.{RtpBody}
use Rattle.h26x_assembler.specs.AccessUnit.{AccessUnitValue}
use Rattle.h26x_access_units.specs.declared.config.AccessUnitConfig.{AccessUnitConfig}
use Rattle.h26x_access_units.specs.declared.decoder.DecoderState.{DecoderState}
use Rattle.h26x_access_units.specs.declared.pushed.Pushed.{Pushed}
use Rattle.h26x_access_units.specs.declared.pushed.Pushed.TheVariants as pushes
use Rattle.h26x_access_units.specs.Numbers.{bears_nothing, begun_numbers_at, first_ended}
use Rattle.h26x_reorder.specs.ReorderBuffer.{begun_at}
use Rattle.h26x_access_units.specs.JitterBuffer.{JitterState, may_tell_first, begun_jitter}
use Rattle.h26x_access_units.specs.ReceivedAccessUnit.{ReceivedAccessUnitValue, decoder_with}
use Rattle.h26x_access_units.specs.Reception.{Reception, after_reception, is_taken_at_once, IsDueTaken, IsEndedBefore, is_behind_missing, ended_behind_missing, ended_by_content, IsPushed, IsDrained, none, bare, more, behind, bare_passed, without_bare, without_bare_of, ended_if_anew, ended_if_over, has_no_unit, unit_given, unit_given_of, without_given, without_given_of, begun_reception, with_settings, IsNext}
use Rattle.h26x_access_units.specs.Decodable.{GivenUnit, decoder_behind, given_unit, WereGiven, IsToldClean, IsGivenBehind}
use Rattle.h26x_access_units.proofs.LimitLemmas.{config_stays, anew_config, joined_config}
use Rattle.h26x_access_units.proofs.DecodableLemmas.{clean_is_decodable}

-- where the settings and what is known of a decoder stay
stays : (units : List GivenUnit) (s t : Reception) → t.decoder ≡ s.decoder → t.waiting.config ≡ s.waiting.config → WereGiven units s → WereGiven units t
stays units s t decoder config given =
    decoder ∙ given ∙ ap (λ (c : AccessUnitConfig). decoder_behind c.has_sets units) (sym config)

-- a packet that waits changes neither
pushed_given : (now : ℕ) (units : List GivenUnit) (s : Reception) (p : ℕ × RtpBody) (answer : Pushed) → WereGiven units s → WereGiven units (after_reception now s p answer)
pushed_given now units s p pushes.Held given = stays units s (after_reception now s p pushes.Held) refl (config_stays now s.waiting p pushes.Held) given
pushed_given now units s p (pushes.Late n) given = stays units s (after_reception now s p (pushes.Late n)) refl (config_stays now s.waiting p (pushes.Late n)) given
pushed_given now units s p pushes.Twice given = stays units s (after_reception now s p pushes.Twice) refl (config_stays now s.waiting p pushes.Twice) given
pushed_given now units s p pushes.Full given = stays units s (after_reception now s p pushes.Full) refl (config_stays now s.waiting p pushes.Full) given
pushed_given now units s p pushes.Stray given = given
pushed_given now units s p pushes.Jumped given = stays units s (after_reception now s p pushes.Jumped) refl (joined_config now s.waiting s.stray p) given
pushed_given now units s p pushes.Anew given = stays units s (after_reception now s p pushes.Anew) refl (anew_config now s.waiting.config s.stray p) given

-- nor one that is taken
due_given : (now : ℕ) (units : List GivenUnit) (s t : Reception) → IsDueTaken now s t → WereGiven units s → WereGiven units t
due_given now units s t it given = subst (WereGiven units) (sym it.stands) given

pub push_given : (now : ℕ) (units : List GivenUnit) (s new : Reception) (p : ℕ × RtpBody) (answer : Pushed) → IsPushed now s p answer new → WereGiven units s → WereGiven units new
push_given now units s new p answer pushed given =
    elim (is_taken_at_once s p) as (λ b. MatchBool b (IsDueTaken now (after_reception now s p answer) new) (new ≡ after_reception now s p answer) → WereGiven units new) [
      | true ↦ λ taken. due_given now units (after_reception now s p answer) new taken (pushed_given now units s p answer given)
      | false ↦ λ stands. subst (WereGiven units) (sym stands) (pushed_given now units s p answer given)
    ] pushed

-- some were given more
record MoreGiven (units : List GivenUnit) (t : Reception) : Type 0 where
  later : List GivenUnit
  given : WereGiven (later ++ units) t

-- those without bytes that are passed over are given
bare_given_of : (units : List GivenUnit) (ended : List AccessUnitValue) (s : Reception) → MoreGiven units s → MoreGiven units (without_bare_of s ended)
bare_given_of units [] s it = it
bare_given_of units (unit ∷ ended) s it = elim (bears_nothing unit.bytes) as (λ b. MoreGiven units (cond b (without_bare_of (bare_passed s unit ended) ended) s)) [
  | true ↦
      let u = given_unit s.assembler.state.is_avc unit (first_ended s.numbers) in
      bare_given_of units ended (bare_passed s unit ended) (record {
        later = u ∷ it.later;
        given = ap (λ (d : DecoderState). decoder_with d s.waiting.config.has_sets s.assembler.state.is_avc unit (first_ended s.numbers)) it.given;
      })
  | false ↦ it
]

bare_given : (units : List GivenUnit) (s : Reception) → MoreGiven units s → MoreGiven units (without_bare s)
bare_given units s it = bare_given_of units s.assembler.ended s it

ended_given : (now : ℕ) (units : List GivenUnit) (s t : Reception) → IsEndedBefore now s t → MoreGiven units s → MoreGiven units t
ended_given now units s t it given = subst (MoreGiven units) (sym it.stands)
    (elim (is_behind_missing s.assembler it.packet.0) as (λ b. MoreGiven units (cond b (ended_behind_missing s it.packet) (ended_by_content s))) [
      | true ↦ record { later = given.later; given = given.given }
      | false ↦ record { later = given.later; given = given.given }
    ])

drained_given : (now : ℕ) (units : List GivenUnit) (s t : Reception) → IsDrained now s t → MoreGiven units s → MoreGiven units t
drained_given now units s t none it = it
drained_given now units s t (bare before) it = bare_given units _ (drained_given now units s _ before it)
drained_given now units s t (more before empty taken) it =
    let given = drained_given now units s _ before it in
    record { later = given.later; given = due_given now (given.later ++ units) _ t taken given.given }
drained_given now units s t (behind before empty ended) it = ended_given now units _ t ended (drained_given now units s _ before it)

anew_given : (units : List GivenUnit) (s : Reception) → WereGiven units s → WereGiven units (ended_if_anew s)
anew_given units s given = elim (has_no_unit s.assembler.ended && s.is_anew) as (λ b. (has_no_unit s.assembler.ended && s.is_anew) ≡ b → WereGiven units (ended_if_anew s)) [
  | true ↦ λ e. rw e given
  | false ↦ λ e. rw e given
] refl

over_given : (units : List GivenUnit) (s : Reception) → MoreGiven units s → MoreGiven units (ended_if_over s)
over_given units s it = elim (has_no_unit s.assembler.ended && s.waiting.is_over) as (λ b. (has_no_unit s.assembler.ended && s.waiting.is_over) ≡ b → MoreGiven units (ended_if_over s)) [
  | true ↦ λ e. rw e (record { later = it.later; given = it.given })
  | false ↦ λ e. rw e it
] refl

-- the first that ended is given out
first_given : (units : List GivenUnit) (s new : Reception) (unit : Option ReceivedAccessUnitValue) → MoreGiven units s → unit ≡ unit_given s → new ≡ without_given s → IsGivenBehind units new unit
first_given units s new unit it is stands = by s.assembler.ended is stands
  where
    by : (ended : List AccessUnitValue) → unit ≡ unit_given_of s ended → new ≡ without_given_of s ended → IsGivenBehind units new unit
    by [] is stands =
        subst (λ (r : Reception). IsGivenBehind units r unit) (sym stands)
        (subst (IsGivenBehind units s) (sym is) (record { later = it.later; given = it.given; told = tt }))
    by (x ∷ ended) is stands =
        let hs = s.waiting.config.has_sets in
        let u = given_unit s.assembler.state.is_avc x (first_ended s.numbers) in
        let clean : IsToldClean hs (unit_given_of (record s { decoder = decoder_behind hs (it.later ++ units) }) (x ∷ ended)) (u ∷ (it.later ++ units)) = (refl, clean_is_decodable hs u (it.later ++ units)) in
        let with_one = λ (d : DecoderState). decoder_with d hs s.assembler.state.is_avc x (first_ended s.numbers) in
        subst (λ (r : Reception). IsGivenBehind units r unit) (sym stands)
        (subst (IsGivenBehind units (without_given_of s (x ∷ ended))) (sym is) (record {
          later = u ∷ it.later;
          given = ap with_one it.given;
          told = subst (λ (d : DecoderState). IsToldClean hs (unit_given_of (record s { decoder = d }) (x ∷ ended)) (u ∷ (it.later ++ units))) (sym it.given) clean;
        }))

pub next_given : (now : ℕ) (units : List GivenUnit) (s new : Reception) (unit : Option ReceivedAccessUnitValue) → IsNext now s new unit → WereGiven units s → IsGivenBehind units new unit
next_given now units s new unit it given =
    let first = bare_given units s (record { later = []; given = given }) in
    let begun : MoreGiven units (ended_if_anew (without_bare s)) = record { later = first.later; given = anew_given (first.later ++ units) (without_bare s) first.given } in
    first_given units (without_bare (ended_if_over it.drained)) new unit
    (bare_given units (ended_if_over it.drained) (over_given units it.drained (drained_given now units (ended_if_anew (without_bare s)) it.drained it.taken begun)))
    it.unit_is it.stands

begun_config : (number : ℕ) (j : JitterState) → (begun_jitter number j).config ≡ j.config
begun_config number j = elim (may_tell_first j) as (λ b. (cond b (record j { buffer = begun_at number j.buffer; has_begun = true }) j).config ≡ j.config) [
  | true ↦ refl
  | false ↦ refl
]

pub begun_given : (number : ℕ) (units : List GivenUnit) (s : Reception) → WereGiven units s → WereGiven units (begun_reception number s)
begun_given number units s given = elim (may_tell_first s.waiting) as (λ b. WereGiven units (cond b (record s { waiting = begun_jitter number s.waiting; assembler = record s.assembler { expected = Some number }; numbers = begun_numbers_at s.numbers }) s)) [
  | true ↦ stays units s (record s { waiting = begun_jitter number s.waiting; assembler = record s.assembler { expected = Some number }; numbers = begun_numbers_at s.numbers }) refl (begun_config number s.waiting) given
  | false ↦ given
]

-- nor do other settings, where the decoder has the sets as before
pub settings_given : (config : AccessUnitConfig) (s : Reception) (units : List GivenUnit) → config.has_sets ≡ s.waiting.config.has_sets → WereGiven units s → WereGiven units (with_settings config s)
settings_given config s units same given = given ∙ ap (λ (b : Bool). decoder_behind b units) (sym same)
