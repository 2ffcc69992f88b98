use Rattle.h26x_rtp.proofs.WritingLemmas.{rtcp_packet}
use Rattle.h26x_rtp.proofs.laws.rtcp_is_no_packet_of_other_payload_types.Goals as goal

pub returns : goal.returns
returns c = rtcp_packet
