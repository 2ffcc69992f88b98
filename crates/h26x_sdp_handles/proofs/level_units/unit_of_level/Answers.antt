use Rattle.std.proofs.Common.{Some, None, sym, ap, ◌∙◌, subst}
use Rattle.std.specs.List.{slice_get}
use Rattle.h26x_fmtp.specs.ParametersViews.{SaysValue}
use Rattle.h26x_fmtp.specs.UnitsViews.{units_view}
use Rattle.h26x_sdp_handles.proofs.LevelUnitLemmas.{unit_found}
use Rattle.h26x_sdp_handles.proofs.level_units.unit_of_level.Goals as goal

pub returns-in-Some : goal.returns-in-Some
returns-in-Some c =
    let found = unit_found c.args.level c.args.i c.args.levels.now (Some c.in-Some.it.now) c.in-Some.ensures in
    subst (SaysValue c.unit_at.result) (sym (found ∙ ap (λ units. slice_get (units_view units) c.args.i) (sym c.as_slice.ensures.value))) c.unit_at.ensures

pub returns-in-None : goal.returns-in-None
returns-in-None c = unit_found c.args.level c.args.i c.args.levels.now None c.in-None.ensures
