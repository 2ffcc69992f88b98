use Rattle.std.proofs.Common.{length}
use Rattle.h26x_jobs.proofs.receive_owned.receive_through.Given as goal

-- each packet that is given out leaves one fewer
abbrev pub decreases-loop-held : goal.decreases-loop-held
decreases-loop-held g l = length l.buffer.held

abbrev pub decreases-loop-held-2 : goal.decreases-loop-held-2
decreases-loop-held-2 g l = length l.buffer.held
