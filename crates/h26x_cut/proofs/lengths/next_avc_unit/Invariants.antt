use Rattle.std.proofs.Common.{length}
use Rattle.h26x_cut.proofs.LengthLemmas.{Left}
use Rattle.h26x_cut.proofs.lengths.next_avc_unit.Given as goal

-- what is left stands behind lengths of empty units
abbrev pub invariant-loop-len : goal.invariant-loop-len
invariant-loop-len l = Left l.text l.rest l.from

abbrev pub decreases-loop-len : goal.decreases-loop-len
decreases-loop-len l = length l.rest
