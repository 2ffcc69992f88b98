use Rattle.h26x_model.proofs.SteadyLemmas.{steady}
use Rattle.h26x_model.proofs.laws.what_was_sent_is_sent_again.Goals as goal

pub returns : goal.returns
returns c = steady
