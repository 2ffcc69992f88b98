use Rattle.std.proofs.Common.{arith}
use Rattle.h26x_rtp.proofs.RedLemmas.{found_at, passed_at}
use Rattle.h26x_rtp.proofs.red.headers_end.Goals as goal

pub returns-then-bytes-end-lt128-clause-end : goal.returns-then-bytes-end-lt128-clause-end
returns-then-bytes-end-lt128-clause-end c = found_at c.args.bytes.now c.loop-end.end c.loop-end.invariant c.loop-end-test.true c.if-bytes-end-lt128.true

pub loop-end-preserved : goal.loop-end-preserved
loop-end-preserved c = passed_at c.args.bytes.now c.loop-end.end c.loop-end.invariant c.loop-end-test.true (omega (arith, c.if-bytes-end-lt128.false))
