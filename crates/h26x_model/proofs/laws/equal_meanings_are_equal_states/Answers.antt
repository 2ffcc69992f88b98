use Rattle.h26x_model.proofs.MeaningLemmas.{same_packetizers, same_depacketizers}
use Rattle.h26x_model.proofs.laws.equal_meanings_are_equal_states.Goals as goal

pub returns : goal.returns
returns c = record { packetizers = same_packetizers; depacketizers = same_depacketizers }
