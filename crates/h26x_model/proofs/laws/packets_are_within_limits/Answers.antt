use Rattle.h26x_model.proofs.LimitLemmas.{plan_within}
use Rattle.h26x_model.proofs.laws.packets_are_within_limits.Goals as goal

pub returns : goal.returns
returns c = plan_within
