use Rattle.h26x_model.proofs.FewestPacketsLemmas.{takes_fewest_packets}
use Rattle.h26x_model.proofs.laws.every_unit_takes_the_fewest_packets.Goals as goal

pub returns : goal.returns
returns c = λ f packs. takes_fewest_packets f packs.holds packs.parts
