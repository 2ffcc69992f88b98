use Rattle.std.proofs.Common.{◌≡◌, length}
use Rattle.h26x_fmtp.specs.Pairs.{pairs}
use Rattle.h26x_fmtp.proofs.pairs.PairsIterator.next.Given as goal

abbrev pub invariant-loop-self : goal.invariant-loop-self
invariant-loop-self l = pairs l.self-inside.rest.now ≡ pairs l.initial.self-inside.rest.now

abbrev pub decreases-loop-self : goal.decreases-loop-self
decreases-loop-self l = length l.self-inside.rest.now
