use Rattle.h26x_fmtp.proofs.RtpMapLemmas.{map_back}
use Rattle.h26x_fmtp.proofs.laws.what_is_written_of_an_rtp_map_is_read.Goals as goal

pub returns : goal.returns
returns c = map_back
