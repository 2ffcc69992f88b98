use Rattle.h26x_rtp.proofs.WritingLemmas.{header_before, packet_before}
use Rattle.h26x_rtp.proofs.laws.headers_before_payloads_make_packets.Goals as goal

pub returns : goal.returns
returns c = record { bytes = header_before; packet = packet_before }
