use Rattle.std.proofs.Common.{◌-◌, ◌≤◌, length}
use Rattle.h26x_cut.specs.Search.{HasNoCode}
use Rattle.h26x_cut.proofs.behind.first_by_zeros.Given as goal

-- no start code begins before a place
abbrev pub invariant-loop-tests : goal.invariant-loop-tests
invariant-loop-tests l = record { within : l.place ≤ length l.bytes; passed : HasNoCode l.bytes 0 l.place }

abbrev pub decreases-loop-tests : goal.decreases-loop-tests
decreases-loop-tests l = length l.bytes - l.place
