use Rattle.h26x_rtp_receiver.proofs.CallLemmas.{calls_given}
use Rattle.h26x_rtp_receiver.proofs.laws.a_receiver_is_given_the_originals.Goals as goal

pub returns : goal.returns
returns c = calls_given c.one_reading_of_a_packet.ensures.spelled c.one_reading_of_a_redundant_payload.ensures.spelled
