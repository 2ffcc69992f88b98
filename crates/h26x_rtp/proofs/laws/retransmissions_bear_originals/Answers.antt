use Rattle.h26x_rtp.proofs.RtxLemmas.{bears_original, one_original, retransmitted_again}
use Rattle.h26x_rtp.proofs.laws.retransmissions_bear_originals.Goals as goal

pub returns : goal.returns
returns c = record { bears = bears_original; only = one_original; again = retransmitted_again }
