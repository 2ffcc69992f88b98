use Rattle.h26x_rtp.specs.Views.{datagram_view}
use Rattle.h26x_c.proofs.RtpLemmas.{payload_at}
use Rattle.h26x_c.proofs.rtp.h26x_rtp_read.Goals as goal

pub returns-in-Ok-clause-payload : goal.returns-in-Ok-clause-payload
returns-in-Ok-clause-payload c = rw (c.in-Ok.ensures.read, c.places_of.ensures)
    (payload_at c.args.datagram.now (datagram_view c.in-Ok.it) c.in-Ok.ensures.spelled)
