use Rattle.std.proofs.Common.{◌≡◌, ◌+◌, ◌-◌, length, drop}
use Rattle.std.specs.Option.{option_map}
use Rattle.h26x_rtp.specs.Red.{headers_end}
use Rattle.h26x_rtp.proofs.red.headers_end.Given as goal

abbrev pub invariant-loop-end : goal.invariant-loop-end
invariant-loop-end l = headers_end l.bytes ≡ option_map (λ end. l.end + end) (headers_end (drop l.end l.bytes))

abbrev pub decreases-loop-end : goal.decreases-loop-end
decreases-loop-end l = length l.initial.bytes - l.end
