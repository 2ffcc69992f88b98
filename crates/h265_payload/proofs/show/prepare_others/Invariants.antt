use Rattle.std.proofs.Common.{◌≡◌, ◌≤◌, ◌++◌, length, take}
use Rattle.h265_payload.specs.Shown.{others_of}
use Rattle.h265_payload.proofs.show.prepare_others.Given as goal

-- the units that are in place, with those to come, are all
abbrev pub invariant-loop-other : goal.invariant-loop-other
invariant-loop-other l =
    (l.count ≤ length l.spare.others.items) × (take l.count l.spare.others.items ++ others_of l.has_donl l.rest ≡ others_of l.has_donl l.bytes)
    × (l.spare.data.items ≡ l.initial.spare.data.items)

abbrev pub decreases-loop-other : goal.decreases-loop-other
decreases-loop-other l = length l.rest
