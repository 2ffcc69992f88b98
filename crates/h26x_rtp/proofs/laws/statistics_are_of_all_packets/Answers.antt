use Rattle.h26x_rtp.proofs.StatisticsLemmas.{all_counted}
use Rattle.h26x_rtp.proofs.laws.statistics_are_of_all_packets.Goals as goal

pub returns : goal.returns
returns c = all_counted
