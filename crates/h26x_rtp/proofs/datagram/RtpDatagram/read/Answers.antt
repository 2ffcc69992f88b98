use Rattle.std.proofs.Common.{arith}
use Rattle.h26x_rtp.proofs.ReadingLemmas.{if_read_is_spelled}
use Rattle.h26x_rtp.proofs.datagram.RtpDatagram.read.Goals as goal

pub returns-clause-spelled : goal.returns-clause-spelled
returns-clause-spelled c = if_read_is_spelled c.args.bytes.now c.read_datagram.result (λ i. omega (arith, c.type_inv.bytes i)) c.read_datagram.ensures
