use Rattle.std.proofs.Common.{◌∙◌, refl, ap, Option, inl, inr}
use Rattle.h26x_access_units.specs.ReceivedAccessUnit.{ReceivedAccessUnitValue}
use Rattle.h26x_access_units.specs.Reception.{none}
use Rattle.h26x_handles.specs.UnitsState.{units_state}
use Rattle.h26x_handles.proofs.UnitCaseLemmas.{not_changed}
use Rattle.h26x_handles.proofs.cases.units_without_memory.Goals as goal

pub returns-clause-none : goal.returns-clause-none
returns-clause-none c = λ now it new lacks. lacks.none

pub returns-clause-stays : goal.returns-clause-stays
returns-clause-stays c = λ now it new lacks.
    lacks.stands ∙ ap (λ (left : Option ReceivedAccessUnitValue). units_state it.codec new.reception left it.nacks) lacks.none

pub returns-clause-not_due : goal.returns-clause-not_due
returns-clause-not_due c = λ now it new lacks. not_changed now it new lacks.stands lacks.taken

pub returns-clause-kept : goal.returns-clause-kept
returns-clause-kept c = λ now codec r. record { none = refl; stands = refl; taken = inl refl }

pub returns-clause-anew : goal.returns-clause-anew
returns-clause-anew c = λ now codec r. record { none = refl; stands = refl; taken = inr none }
