use Rattle.std.proofs.Common.{◌≡◌, ◌+◌, ◌≤◌, length}
use Rattle.h26x_rtp.specs.Red.{blocks_size}
use Rattle.h26x_rtp.proofs.red.size_within.Given as goal

abbrev pub invariant-loop-rest : goal.invariant-loop-rest
invariant-loop-rest l = (l.most + blocks_size l.rest ≡ l.left + blocks_size l.headers) × (l.left ≤ l.most)

abbrev pub decreases-loop-rest : goal.decreases-loop-rest
decreases-loop-rest l = length l.rest
