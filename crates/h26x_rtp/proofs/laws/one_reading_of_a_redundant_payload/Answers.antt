use Rattle.h26x_rtp.proofs.RedLawLemmas.{is_red_read, red_read, one_red}
use Rattle.h26x_rtp.proofs.laws.one_reading_of_a_redundant_payload.Goals as goal

pub returns : goal.returns
returns c = record { read = is_red_read; spelled = red_read; one = one_red }
