use Rattle.h26x_sdp.proofs.ConstraintsLemmas.{constraints_written, constraints_read}
use Rattle.h26x_sdp.proofs.laws.constraints_and_their_text.Goals as goal

pub returns : goal.returns
returns c = record { read = constraints_written; written = constraints_read }
