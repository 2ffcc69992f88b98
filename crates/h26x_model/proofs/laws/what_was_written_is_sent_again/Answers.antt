use Rattle.h26x_model.proofs.RunLawLemmas.{sends_again}
use Rattle.h26x_model.proofs.laws.what_was_written_is_sent_again.Goals as goal

pub returns : goal.returns
returns c = sends_again
