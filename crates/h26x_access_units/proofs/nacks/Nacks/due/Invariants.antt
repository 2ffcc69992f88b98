use Rattle.std.proofs.Common.{◌≤◌, ◌-◌, length, drop}
use Rattle.h26x_access_units.specs.Nacks.{nacks_now}
use Rattle.h26x_access_units.proofs.NackLemmas.{AreSoFar}
use Rattle.h26x_access_units.proofs.nacks.Nacks.due.Given as goal

-- what is known of the numbers so far, and which of them are asked for
abbrev pub invariant-loop-place : goal.invariant-loop-place
invariant-loop-place l = (l.from ≤ length l.self-inside.known.items)
    × AreSoFar l.fn.times l.fn.now l.fn.most (nacks_now l.fn.now l.self-inside.known.items l.fn.missing)
    (nacks_now l.fn.now (drop l.from l.self-inside.known.items) (drop l.place l.fn.missing)) l.known.items l.numbers.items (l.fn.most - length l.numbers.items)
