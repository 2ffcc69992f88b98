use Rattle.h26x_model.proofs.SourceLemmas.{sent_came}
use Rattle.h26x_model.proofs.laws.what_is_sent_came.Goals as goal

pub returns : goal.returns
returns c = sent_came
