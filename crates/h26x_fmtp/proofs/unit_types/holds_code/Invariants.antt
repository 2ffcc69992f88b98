use Rattle.std.proofs.Common.{◌≡◌, length}
use Rattle.h26x_fmtp.specs.UnitTypes.{holds_code}
use Rattle.h26x_fmtp.proofs.unit_types.holds_code.Given as goal

abbrev pub invariant-loop-rest : goal.invariant-loop-rest
invariant-loop-rest l = holds_code l.rest ≡ holds_code l.bytes

abbrev pub decreases-loop-rest : goal.decreases-loop-rest
decreases-loop-rest l = length l.rest
