use Rattle.h26x_model.proofs.SentLemmas.{can_send, entries_of_calls}
use Rattle.h26x_model.proofs.SenderLemmas.{sender_plans}
use Rattle.h26x_model.proofs.laws.what_is_carried_can_be_sent.Goals as goal

pub returns : goal.returns
returns c = record {
  planned = λ s calls is room other small. sender_plans s is room other _ (entries_of_calls s.format calls small);
  can_send = can_send;
}
