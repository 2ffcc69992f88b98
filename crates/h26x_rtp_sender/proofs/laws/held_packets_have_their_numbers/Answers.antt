use Rattle.h26x_rtp_sender.proofs.LawLemmas.{held_number}
use Rattle.h26x_rtp_sender.proofs.NumberLemmas.{unit_held}
use Rattle.h26x_rtp_sender.proofs.laws.held_packets_have_their_numbers.Goals as goal

pub returns : goal.returns
returns c = record { sent = unit_held; number = held_number }
