use Rattle.h26x_codec.proofs.PlainLemmas.{one_list}
use Rattle.h26x_codec.proofs.laws.lengths_tell_units_apart.Goals as goal

pub returns : goal.returns
returns c = one_list
