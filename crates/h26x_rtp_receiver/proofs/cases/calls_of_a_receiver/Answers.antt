use Rattle.h26x_rtp_receiver.proofs.CaseLemmas.{calls_of_case}
use Rattle.h26x_rtp_receiver.proofs.cases.calls_of_a_receiver.Goals as goal

pub returns : goal.returns
returns c = calls_of_case
