use Rattle.std.proofs.Common.{◌≡◌, ◌≤◌, length, take}
use Rattle.h265_payload.proofs.spare.Spare.limit_others.Given as goal

-- the units that stay are still there
abbrev pub invariant-loop-self : goal.invariant-loop-self
invariant-loop-self l =
    (l.count ≤ length l.self.others.items) × (take l.count l.self.others.items ≡ take l.count l.initial.self.others.items)
    × (l.self.data.items ≡ l.initial.self.data.items)

abbrev pub decreases-loop-self : goal.decreases-loop-self
decreases-loop-self l = length l.self.others.items
