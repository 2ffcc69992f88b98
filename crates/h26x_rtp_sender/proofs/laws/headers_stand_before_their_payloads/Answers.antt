use Rattle.h26x_rtp_sender.proofs.LawLemmas.{header_at, packet_behind}
use Rattle.h26x_rtp_sender.proofs.laws.headers_stand_before_their_payloads.Goals as goal

pub returns : goal.returns
returns c = record { place = header_at; packet = packet_behind }
