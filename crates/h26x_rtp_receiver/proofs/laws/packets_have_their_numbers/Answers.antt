use Rattle.h26x_rtp_receiver.proofs.OriginalLemmas.{own_numbered, resent_numbered}
use Rattle.h26x_rtp_receiver.proofs.laws.packets_have_their_numbers.Goals as goal

pub returns-clause-own : goal.returns-clause-own
returns-clause-own c = own_numbered

pub returns-clause-resent : goal.returns-clause-resent
returns-clause-resent c = resent_numbered
