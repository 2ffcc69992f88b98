use Rattle.h26x_model.proofs.PlaceLemmas.{are_received, only_received}
use Rattle.h26x_model.proofs.laws.received_by_places.Goals as goal

pub returns : goal.returns
returns c = record { are = are_received; only = only_received }
