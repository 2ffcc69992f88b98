use Rattle.h26x_rtp.proofs.ReadingLemmas.{is_read, read_is_spelled, one_packet}
use Rattle.h26x_rtp.proofs.laws.one_reading_of_a_packet.Goals as goal

pub returns : goal.returns
returns c = record { read = is_read; spelled = read_is_spelled; one = one_packet }
