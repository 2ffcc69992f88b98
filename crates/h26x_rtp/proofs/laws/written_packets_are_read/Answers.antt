use Rattle.h26x_rtp.proofs.WritingLemmas.{written_is_read}
use Rattle.h26x_rtp.proofs.laws.written_packets_are_read.Goals as goal

pub returns : goal.returns
returns c = written_is_read
