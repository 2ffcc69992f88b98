use Rattle.std.proofs.Common.{◌-◌, ◌≤◌, length}
use Rattle.h26x_cut.specs.Search.{HasNoCode}
use Rattle.h26x_cut.proofs.behind.first_behind.Given as goal

-- no start code begins before a place
abbrev pub invariant-loop-near : goal.invariant-loop-near
invariant-loop-near l = record { within : l.place ≤ length l.bytes; passed : HasNoCode l.bytes 0 l.place }

abbrev pub decreases-loop-near : goal.decreases-loop-near
decreases-loop-near l = length l.bytes - l.place
