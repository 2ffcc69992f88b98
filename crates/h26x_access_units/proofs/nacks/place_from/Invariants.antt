use Rattle.std.proofs.Common.{length, ◌-◌, ◌≡◌, ◌≤◌, drop}
use Rattle.h26x_access_units.specs.Nacks.{from_number}
use Rattle.h26x_access_units.proofs.nacks.place_from.Given as goal

-- those that were passed over are behind the number
abbrev pub invariant-loop-place : goal.invariant-loop-place
invariant-loop-place l = (from_number l.fn.number (drop l.place l.known) ≡ from_number l.fn.number (drop l.fn.from l.known)) × (l.place ≤ length l.known)

abbrev pub decreases-loop-place : goal.decreases-loop-place
decreases-loop-place l = length l.known - l.place
