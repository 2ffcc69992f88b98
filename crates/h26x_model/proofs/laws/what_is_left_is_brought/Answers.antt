use Rattle.h26x_model.proofs.RunLawLemmas.{loses_little}
use Rattle.h26x_model.proofs.laws.what_is_left_is_brought.Goals as goal

pub returns : goal.returns
returns c = loses_little
