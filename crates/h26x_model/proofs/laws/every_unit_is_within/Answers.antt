use Rattle.h26x_model.proofs.EveryWithinLemmas.{every_within}
use Rattle.h26x_model.proofs.laws.every_unit_is_within.Goals as goal

pub returns : goal.returns
returns c = λ f packs. every_within f packs.limits
