use Rattle.h26x_model.proofs.FewestLemmas.{takes_fewest}
use Rattle.h26x_model.proofs.laws.fewest_fragments.Goals as goal

pub returns : goal.returns
returns c = takes_fewest
