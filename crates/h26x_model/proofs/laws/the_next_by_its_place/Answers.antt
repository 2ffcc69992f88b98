use Rattle.h26x_model.proofs.NextPlaceLemmas.{next_brings}
use Rattle.h26x_model.proofs.laws.the_next_by_its_place.Goals as goal

pub returns : goal.returns
returns c = next_brings
