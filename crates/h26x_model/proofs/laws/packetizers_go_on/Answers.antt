use Rattle.h26x_model.proofs.SenderLemmas.{as_plan}
use Rattle.h26x_model.proofs.EndLemmas.{sender_goes_on}
use Rattle.h26x_model.proofs.laws.packetizers_go_on.Goals as goal

pub returns : goal.returns
returns c = record { goes_on = sender_goes_on; planned = as_plan }
