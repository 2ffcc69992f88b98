use Rattle.std.proofs.Common.{ℕ, ◌-◌, ◌<◌, ◌≤◌, length, get_or}
use Rattle.h26x_core.specs.Sequence.{distance_ahead}
use Rattle.h26x_reorder.specs.Rtp.{RtpBody}
use Rattle.h26x_reorder.proofs.order.NumberOrder.search.Given as goal

-- those before are nearer, and those behind further ahead
abbrev pub invariant-loop-low : goal.invariant-loop-low
invariant-loop-low g l = record {
  rise : l.low ≤ l.high;
  in_range : l.high ≤ length l.self.held;
  before : (k : ℕ) (d : ℕ × RtpBody) → k < l.low → distance_ahead l.due (get_or l.self.held k d).0 < distance_ahead l.due l.number;
  behind : (k : ℕ) (d : ℕ × RtpBody) → l.high ≤ k → k < length l.self.held → distance_ahead l.due l.number < distance_ahead l.due (get_or l.self.held k d).0;
}

abbrev pub decreases-loop-low : goal.decreases-loop-low
decreases-loop-low g l = l.high - l.low
