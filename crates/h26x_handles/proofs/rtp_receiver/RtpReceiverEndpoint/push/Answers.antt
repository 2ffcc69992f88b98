use Rattle.h26x_handles.proofs.RtpUnitLemmas.{refused_stays}
use Rattle.h26x_handles.proofs.rtp_receiver.RtpReceiverEndpoint.push.Goals as goal

pub returns-clause-kept : goal.returns-clause-kept
returns-clause-kept c = refused_stays c.args.now c.args.arrival _ _ _ _ c.args.datagram.now _ c.push.ensures
