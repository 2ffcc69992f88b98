use Rattle.std.proofs.Common.{◌-◌, ◌≤◌, length}
use Rattle.h26x_cut.specs.Search.{HasNoCode}
use Rattle.h26x_cut.proofs.portable.first_behind.Given as goal

-- no start code begins before a place
abbrev pub invariant-loop-failed : goal.invariant-loop-failed
invariant-loop-failed l = record { within : l.place ≤ length l.bytes; passed : HasNoCode l.bytes 0 l.place }

abbrev pub decreases-loop-failed : goal.decreases-loop-failed
decreases-loop-failed l = length l.bytes - l.place
