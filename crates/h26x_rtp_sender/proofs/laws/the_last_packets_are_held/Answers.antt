use Rattle.h26x_rtp_sender.proofs.HistoryLemmas.{last_again}
use Rattle.h26x_rtp_sender.proofs.LawLemmas.{last_end, last_is_within, last_is_longest}
use Rattle.h26x_rtp_sender.proofs.laws.the_last_packets_are_held.Goals as goal

pub returns : goal.returns
returns c = record { end = last_end; within = last_is_within; longest = last_is_longest; again = last_again }
