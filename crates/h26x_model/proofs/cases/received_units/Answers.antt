use Rattle.h26x_model.proofs.PlaceLemmas.{are_received}
use Rattle.h26x_model.proofs.cases.received_units.Goals as goal

pub returns : goal.returns
returns c = are_received _
