use Rattle.h26x_sdp.proofs.RtxLemmas.{rtx_table, rtx_back, rtx_again}
use Rattle.h26x_sdp.proofs.laws.formats_of_retransmission_and_their_text.Goals as goal

pub returns : goal.returns
returns c = record { table = rtx_table; read = rtx_back; again = rtx_again }
