use Rattle.h26x_rtp_sender.proofs.ReceivingLemmas.{sent_brings, again_brings}
use Rattle.h26x_rtp_sender.proofs.laws.receivers_are_brought_what_was_sent.Goals as goal

pub returns : goal.returns
returns c = record {
  sent = sent_brings c.one_reading_of_a_packet.ensures.read;
  again = again_brings c.one_reading_of_a_packet.ensures.read c.retransmissions_bring_their_originals.ensures;
}
