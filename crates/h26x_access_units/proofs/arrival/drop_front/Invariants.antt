use Rattle.std.proofs.Common.{◌≡◌, Some, length}
use Rattle.h26x_access_units.specs.Arrival.{not_passed, IsEndOf}
use Rattle.h26x_access_units.proofs.arrival.drop_front.Given as goal

-- what stands is the end of what stood, and the same wait
abbrev pub invariant-loop-arrivals : goal.invariant-loop-arrivals
invariant-loop-arrivals l = (not_passed (Some l.due) l.arrivals.items ≡ not_passed (Some l.due) l.fn.arrivals.items)
    × IsEndOf l.fn.arrivals.items l.arrivals.items

abbrev pub decreases-loop-arrivals : goal.decreases-loop-arrivals
decreases-loop-arrivals l = length l.arrivals.items
