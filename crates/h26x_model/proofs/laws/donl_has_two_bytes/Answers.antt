use Rattle.h26x_model.proofs.SenderLemmas.{two_bytes, no_numbers}
use Rattle.h26x_model.proofs.laws.donl_has_two_bytes.Goals as goal

pub returns : goal.returns
returns c = record { round = two_bytes; none = no_numbers }
