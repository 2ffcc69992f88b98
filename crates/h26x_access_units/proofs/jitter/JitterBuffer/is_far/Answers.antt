use Rattle.std.proofs.Common.{rules, ◌≡◌, ◌<◌, Some, false, sym, subst}
use Rattle.h26x_core.specs.Sequence.{distance_ahead}
use Rattle.h26x_access_units.specs.JitterBuffer.{JitterState, is_far}
use Rattle.h26x_access_units.proofs.JitterLemmas.{near_not_far}
use Rattle.h26x_access_units.proofs.jitter.JitterBuffer.is_far.Goals as goal

pub returns-in_default : goal.returns-in_default
returns-in_default c =
    let b = c.self.inside.buffer in
    let due = c.in-Some.due in
    let number = c.args.number in
    let far = c.self.inside.config.far in
    let behind = c.self.inside.config.far_behind in
    let is : b.due ≡ Some due = search rules in
    let small : number < 65536 = search rules in
    let near : distance_ahead due number < far = search rules in
    subst (λ (j : JitterState). false ≡ is_far j.config.far j.config.far_behind j.buffer number) c.self.view_is (sym (near_not_far far behind b due number is c.self.invariant.order small near))
