use Rattle.std.proofs.Common.{length}
use Rattle.h26x_lines.proofs.session.answer_lines.Given as goal

abbrev pub decreases-loop-out : goal.decreases-loop-out
decreases-loop-out g l = length l.rest
