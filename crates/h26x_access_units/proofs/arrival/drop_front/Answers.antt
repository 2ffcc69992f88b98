use Rattle.std.proofs.Common.{rules, ◌≡◌, ◌∙◌, true, Some}
use Rattle.h26x_access_units.specs.Arrival.{is_first_passed}
use Rattle.h26x_access_units.proofs.PassedLemmas.{front_goes, front_ends}
use Rattle.h26x_access_units.proofs.arrival.drop_front.Goals as goal

pub loop-arrivals-preserved : goal.loop-arrivals-preserved
loop-arrivals-preserved c =
    let before = c.loop-arrivals.arrivals.items in
    let late : is_first_passed (Some c.args.due) before ≡ true = search rules in (
      front_goes (Some c.args.due) before c.pop_front.new.self.items late c.pop_front.ensures.rest ∙ c.loop-arrivals.invariant.0,
      front_ends (Some c.args.due) c.args.arrivals.now.items before c.pop_front.new.self.items late c.pop_front.ensures.rest c.loop-arrivals.invariant.1,
    )
