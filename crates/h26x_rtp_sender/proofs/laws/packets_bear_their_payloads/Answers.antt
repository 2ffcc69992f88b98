use Rattle.h26x_rtp_sender.proofs.LawLemmas.{packets_count, packet_at, packets_read}
use Rattle.h26x_rtp_sender.proofs.laws.packets_bear_their_payloads.Goals as goal

pub returns : goal.returns
returns c = record { count = packets_count; each = packet_at; read = packets_read c.one_reading_of_a_packet.ensures.read }
