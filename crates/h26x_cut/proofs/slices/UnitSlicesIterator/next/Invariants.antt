use Rattle.std.proofs.Common.{◌≡◌, length}
use Rattle.h26x_cut.specs.Slices.{units_behind, IsFirstCode}
use Rattle.h26x_cut.proofs.slices.UnitSlicesIterator.next.Given as goal

-- the units that are left are those from the start on, and the next start code is known
abbrev pub invariant-loop-self : goal.invariant-loop-self
invariant-loop-self l =
    (units_behind l.self-inside.rule l.self-inside.rest.now ≡ units_behind l.initial.self-inside.rule l.initial.self-inside.rest.now)
    × IsFirstCode l.self-inside.rest.now l.self-inside.next_code

abbrev pub decreases-loop-self : goal.decreases-loop-self
decreases-loop-self l = length l.self-inside.rest.now
