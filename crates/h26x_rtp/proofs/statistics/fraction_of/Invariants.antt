use Rattle.std.proofs.Common.{◌-◌, ◌*◌, ◌/◌, ◌≤◌}
use Rattle.h26x_rtp.proofs.statistics.fraction_of.Given as goal

-- so many 256ths were lost at least
abbrev pub invariant-loop-part : goal.invariant-loop-part
invariant-loop-part l = (l.part ≤ (l.fn.expected - l.fn.received) * 256 / l.fn.expected) × (l.part ≤ 255)

abbrev pub decreases-loop-part : goal.decreases-loop-part
decreases-loop-part l = 255 - l.part
