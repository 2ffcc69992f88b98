use Rattle.h26x_rtp_receiver.proofs.OriginalLemmas.{retransmission_brings}
use Rattle.h26x_rtp_receiver.proofs.laws.retransmissions_bring_their_originals.Goals as goal

pub returns : goal.returns
returns c = retransmission_brings
