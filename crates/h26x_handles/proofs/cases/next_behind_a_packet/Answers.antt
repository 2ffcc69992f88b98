use Rattle.std.proofs.Common.{◌≡◌, ◌∙◌, ap, subst, None}
use Rattle.h26x_access_units.specs.declared.pushed.Pushed.{Pushed}
use Rattle.h26x_access_units.specs.declared.pushed.Pushed.TheVariants as pushes
use Rattle.h26x_access_units.specs.Reception.{after_reception, IsPushed}
use Rattle.h26x_handles.specs.UnitsState.{UnitsState, units_with_reception}
use Rattle.h26x_handles.proofs.UnitCaseLemmas.{next_of, given_of}
use Rattle.h26x_handles.proofs.cases.next_behind_a_packet.Goals as goal

pub returns : goal.returns
returns c = λ now later it pushed p new unit small held is none next.
    let left : pushed.left ≡ None = ap (λ (u : UnitsState). u.left) is.stands ∙ none in
    let came = subst (λ (a : Pushed). IsPushed now it.reception p a pushed.reception) held is.pushed in
    given_of later (units_with_reception (after_reception now it.reception p pushes.Held) it) new unit none
    (c.packets_taken_at_once_are_as_those_that_wait.ensures now later it.reception pushed.reception new p unit small came (next_of later pushed new unit left next))
