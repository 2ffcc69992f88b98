use Rattle.h26x_model.proofs.ReceiverLemmas.{after_is_from}
use Rattle.h26x_model.proofs.laws.received_from_a_run.Goals as goal

pub returns : goal.returns
returns c = after_is_from
