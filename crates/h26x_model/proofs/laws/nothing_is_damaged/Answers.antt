use Rattle.h26x_model.proofs.GapLemmas.{writes_whole}
use Rattle.h26x_model.proofs.laws.nothing_is_damaged.Goals as goal

pub returns : goal.returns
returns c = writes_whole
