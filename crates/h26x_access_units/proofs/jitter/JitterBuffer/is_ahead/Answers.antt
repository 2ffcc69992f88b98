use Rattle.std.proofs.Common.{rules, ◌≡◌, ◌<◌, ◌≤◌, Some, false, sym, subst}
use Rattle.h26x_core.specs.Sequence.{distance_ahead}
use Rattle.h26x_access_units.specs.JitterBuffer.{JitterState, is_ahead}
use Rattle.h26x_access_units.proofs.JitterLemmas.{near_not_ahead, near_reach}
use Rattle.h26x_access_units.proofs.jitter.JitterBuffer.is_ahead.Goals as goal

pub returns-in_default-2-clause-ahead : goal.returns-in_default-2-clause-ahead
returns-in_default-2-clause-ahead c =
    let b = c.self.inside.buffer in
    let due = c.in-Some.due in
    let number = c.args.number in
    let is : b.due ≡ Some due = search rules in
    let small : number < 65536 = search rules in
    let near : distance_ahead due number ≤ 100 = search rules in
    subst (λ (j : JitterState). false ≡ is_ahead j.buffer number) c.self.view_is
    (sym (near_not_ahead b due number is c.self.invariant.order small (near_reach b.window (distance_ahead due number) near)))
