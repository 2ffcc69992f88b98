use Rattle.h26x_model.proofs.EndLemmas.{receiver_goes_on}
use Rattle.h26x_model.proofs.laws.depacketizers_go_on.Goals as goal

pub returns : goal.returns
returns c = receiver_goes_on
