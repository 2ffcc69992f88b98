use Rattle.h26x_rtp_receiver.proofs.PlainLemmas.{plain_push, plain_sources}
use Rattle.h26x_rtp_receiver.proofs.receiver.RtpReceiver.push_plain.Goals as goal

pub push_itself-requires : goal.push_itself-requires
push_itself-requires g c = plain_sources _ _ _ c.requires

pub returns : goal.returns
returns g c = plain_push _ _ _ _ _ _ c.requires c.push_itself.ensures
