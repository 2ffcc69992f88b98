use Rattle.h26x_model.proofs.AcceptedLemmas.{all_read}
use Rattle.h26x_model.proofs.SentLemmas.{all_received}
use Rattle.h26x_model.proofs.laws.what_is_sent_is_received.Goals as goal

pub returns : goal.returns
returns c = record { items = all_received; read = all_read }
