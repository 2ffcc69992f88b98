use Rattle.h26x_model.proofs.AnySenderLemmas.{writes_what_came}
use Rattle.h26x_model.proofs.laws.what_came_is_written.Goals as goal

pub returns : goal.returns
returns c = writes_what_came
