-- The units of payloads that are cut by a rule.
use Rattle.std.proofs.Common.{◌≡◌, ℕ, List, refl, sym, ap, subst, ◌∙◌}
use Rattle.std.specs.List.{AllByRecursion}
use Rattle.h26x_core.specs.ByteStream.{annex_b}
use Rattle.h26x_cut.specs.declared.ZeroRule.{ZeroRule}
use Rattle.h26x_cut.specs.Cutting.{IsUnit, AreSeparable, cut_segments, units_of, units_of_segments}
use Rattle.h26x_cut.proofs.CuttingLemmas.{has_cutting, cutting_is}
use Rattle.h26x_cut.proofs.TextLemmas.{units_of_text}
use Rattle.h26x_cut.proofs.UnitLemmas.{units_whole}
use Rattle.h26x_model.specs.Payload.Format.{Format}
use Rattle.h26x_payload.specs.Units.{CutsBy}

-- each is one
pub are_units : (f : Format) (rule : ZeroRule) → CutsBy f rule → (payload : List ℕ) → AllByRecursion IsUnit (f.units payload)
are_units f rule cuts payload =
    let are : AllByRecursion IsUnit (units_of rule payload) =
    units_whole rule payload (units_of rule payload) (cut_segments rule payload, has_cutting rule payload, refl) in
    subst (AllByRecursion IsUnit) (sym (cuts payload)) are

-- the written text of units is cut into them
pub text_is_cut : (f : Format) (rule : ZeroRule) → CutsBy f rule → (units : List (List ℕ)) → AllByRecursion IsUnit units → AreSeparable rule units →
    f.units (annex_b units) ≡ units
text_is_cut f rule cuts units each apart =
    let (segments, cut, same) = units_of_text rule units each apart in
    cuts (annex_b units) ∙ sym (same ∙ ap units_of_segments (cutting_is rule (annex_b units) segments cut))
