use Rattle.h26x_model.proofs.EndLemmas.{left_out}
use Rattle.h26x_model.proofs.laws.calls_without_effect.Goals as goal

pub returns : goal.returns
returns c = left_out
