-- How a format finds the units of a payload.
use Rattle.std.specs.Prelude.{◌≡◌, ℕ, List, [], ◌∷◌, IsTrue}
use Rattle.std.specs.List.{AllByRecursion}
use Rattle.h26x_cut.specs.declared.ZeroRule.{ZeroRule}
use Rattle.h26x_cut.specs.Cutting.{units_of, IsUnit, AreSeparable}
use Rattle.h26x_core.specs.ByteStream.{is_not_empty, annex_b}
use Rattle.h26x_core.specs.Mark.{IsMark}
use Rattle.h26x_model.specs.Payload.Format.{Format}
use Rattle.h26x_model.specs.Send.Calls.{Call, all_entries, all_packets, sent_by}
use Rattle.h26x_model.specs.Send.Again.{NothingDropped}
use Rattle.h26x_model.specs.Carry.Laws.{calls_like}

-- payloads are cut by this rule
abbrev pub CutsBy : Format → ZeroRule → Type 0
CutsBy f rule = (payload : List ℕ) → f.units payload ≡ units_of rule payload

-- no unit is empty
abbrev pub AreNotEmpty : List (List ℕ) → Type 0
AreNotEmpty units = AllByRecursion (λ unit. IsTrue (is_not_empty unit)) units

-- no unit holds a start code
abbrev pub HaveNoMark : List (List ℕ) → Type 0
HaveNoMark units = AllByRecursion (λ unit. (place : ℕ) → ¬ IsMark unit place) units

-- the text of units, each of which may be one, and which are told apart in it, is cut into these
abbrev pub IsCutAgain : Format → ZeroRule → List (List ℕ) → Type 0
IsCutAgain f rule units = AllByRecursion IsUnit units → AreSeparable rule units →
    f.units (annex_b units) ≡ units

-- the text of units that calls like one sent, where nothing is dropped for its size and the units are
-- told apart in it, makes the same packets in one such call
abbrev pub IsSentAgain : Format → ZeroRule → Call → List (List ℕ) → List (List ℕ) → Type 0
IsSentAgain f rule call payloads units =
    NothingDropped f (all_entries f (calls_like call payloads)) →
    units ≡ sent_by f (calls_like call payloads) → AreSeparable rule units →
    all_packets f 0 (record call { payload = annex_b units } ∷ [])
    ≡ all_packets f 0 (calls_like call payloads)
