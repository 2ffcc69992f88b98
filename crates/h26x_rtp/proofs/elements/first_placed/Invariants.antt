use Rattle.std.proofs.Common.{◌≡◌, ◌-◌, length, drop}
use Rattle.h26x_rtp.specs.Elements.{first_placed}
use Rattle.h26x_rtp.proofs.elements.first_placed.Given as goal

abbrev pub invariant-loop-place : goal.invariant-loop-place
invariant-loop-place l = first_placed l.form l.from (drop l.from l.bytes) ≡ first_placed l.form l.place (drop l.place l.bytes)

abbrev pub decreases-loop-place : goal.decreases-loop-place
decreases-loop-place l = length l.bytes - l.place
