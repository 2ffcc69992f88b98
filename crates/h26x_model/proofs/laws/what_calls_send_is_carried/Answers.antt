use Rattle.h26x_model.proofs.EndLemmas.{carries_whole}
use Rattle.h26x_model.proofs.laws.what_calls_send_is_carried.Goals as goal

pub returns : goal.returns
returns c = carries_whole
