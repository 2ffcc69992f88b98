-- The text of an access unit that is open, with the run that is open in it, as contracts see them.
use Rattle.std.specs.Prelude.{◌≡◌, ℕ, ◌+◌, ◌-◌, ◌≤◌, length, Bool, true, false, if◌then◌else◌, List, ◌++◌, take, drop, Option, Some, None, is_some}
use Rattle.h26x_core.specs.declared.extra.CodecExtra.{CodecExtra}
use Rattle.h26x_model.specs.Receive.DepacketizerState.{DepacketizerState, Depacketization, depacketization}
use Rattle.h26x_depacketizer.specs.declared.parts.Parts.{Parts}
use Rattle.h26x_depacketizer.specs.declared.parts.Parts.TheVariants as p
use Rattle.h26x_model.specs.Receive.RunLimit.{run_len, state_with_run}
use Rattle.h26x_model.specs.Payload.Format.{Format}
use Rattle.h26x_model.specs.Payload.Reading.{Reading}
use Rattle.h26x_depacketizer.specs.DepacketizerView.{DepacketizerView, depacketizer_of}
use Rattle.h26x_depacketizer.specs.Run.{run_memory, reading_text}

-- What was written, and the open run. Where the run's data stand in the memory of the text they are
-- inside: the header that its unit will have has so many bytes. That memory has so many bytes. It lacks
-- a smaller place where there was none to move to when it was last to be given back.
pub record OpenTextView : Type 0 where
  pub text : List ℕ
  pub run : Option (List ℕ)
  pub inside : Option ℕ
  pub memory : ℕ
  pub lacks_place : Bool

-- bytes of which those before the first place are text, where a run is inside, and those from the
-- second on its data; else all are text, and the run is aside
abbrev pub open_text_view : Bool → ℕ → ℕ → List ℕ → Option (List ℕ) → ℕ → Bool → OpenTextView
open_text_view is_inside at from bytes aside memory lacks_place = record {
  text = if is_inside then take at bytes else bytes;
  run = if is_inside then Some (drop from bytes) else aside;
  inside = if is_inside then Some (from - at - 4) else None;
  memory = memory;
  lacks_place = lacks_place;
}

-- how many bytes a run takes in the memory of a text, behind its start code and its header
abbrev pub inside_len : Option ℕ → Option (List ℕ) → ℕ
inside_len None run = 0
inside_len (Some header_len) run = 4 + header_len + run_len run

-- memory that is too large for what stands there went back: it has twice as many bytes at most, or
-- 2^20, but where there was no smaller place to move to
abbrev pub IsGivenBack : OpenTextView → Type 0
IsGivenBack text = text.lacks_place ≡ false →
    text.memory ≤ run_memory (length text.text + inside_len text.inside text.run)

-- at least half of what stands there is a run
abbrev pub IsMostlyRun : OpenTextView → Type 0
IsMostlyRun text = (is_some text.inside ≡ true)
    × (length text.text ≤ inside_len text.inside text.run)

-- the same text, with the same run
pub record IsSameText (a b : OpenTextView) : Type 0 where
  pub text : a.text ≡ b.text
  pub run : a.run ≡ b.run

-- whether a packet is a fragment
abbrev pub is_fragment : Parts → Bool
is_fragment (p.Fragment fragment) = true
is_fragment parts = false

-- the run that a packet meets: the open one is given up, but where the packet is the next one
abbrev pub run_if : Bool → Option (List ℕ) → Option (List ℕ)
run_if is_next run = if is_next then run else None

-- a text as a packet meets it
abbrev pub met_text : Bool → OpenTextView → OpenTextView
met_text is_next text = record text { run = run_if is_next text.run }

-- its bytes once the units that a reading brings to it were written
abbrev pub text_with : Bool → OpenTextView → Reading → List ℕ
text_with is_avc text reading = text.text ++ reading_text is_avc text.run reading

-- a depacketizer at work on a text, with the run that is open there
abbrev pub text_depacketization : DepacketizerState → OpenTextView → CodecExtra → Depacketization
text_depacketization r text extra = depacketization (state_with_run r text.run) text.text extra

-- the same as a packet meets it
abbrev pub met_depacketization : Bool → DepacketizerState → OpenTextView → CodecExtra →
    Depacketization
met_depacketization is_next r text extra = depacketization
    (state_with_run r (run_if is_next text.run)) text.text extra

-- these two of a depacketizer by its setting
abbrev pub view_in_text : {C S : Type 0} → (C → Format) → DepacketizerView C S → OpenTextView →
    CodecExtra → Depacketization
view_in_text format it text extra = text_depacketization (depacketizer_of format it) text extra

abbrev pub view_met_in_text : {C S : Type 0} → Bool → (C → Format) → DepacketizerView C S →
    OpenTextView → CodecExtra → Depacketization
view_met_in_text is_next format it text extra =
    met_depacketization is_next (depacketizer_of format it) text extra
