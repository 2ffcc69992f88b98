use Rattle.std.proofs.Common.{arith}
use Rattle.h26x_rtp.proofs.RedLawLemmas.{if_red_read}
use Rattle.h26x_rtp.proofs.red.RedPayload.read.Goals as goal

pub returns-clause-spelled : goal.returns-clause-spelled
returns-clause-spelled c = if_red_read c.args.bytes.now c.read_red.result (λ i. omega (arith, c.type_inv.bytes i)) c.read_red.ensures
