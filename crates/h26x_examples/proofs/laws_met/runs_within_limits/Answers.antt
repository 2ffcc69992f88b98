use Rattle.std.proofs.Common.{arith}
use Rattle.h26x_examples.proofs.laws_met.runs_within_limits.Goals as goal

pub returns : goal.returns
returns c = λ codec has_donl most packets answers. c.runs_stay_within_the_limit.ensures most _ packets answers (omega arith)
