use Rattle.std.proofs.Common.{length}
use Rattle.h26x_jobs.proofs.awkward.from_both_ends.Given as goal

-- each packet that is given out leaves one fewer
abbrev pub decreases-loop-held : goal.decreases-loop-held
decreases-loop-held l = length l.buffer.held
