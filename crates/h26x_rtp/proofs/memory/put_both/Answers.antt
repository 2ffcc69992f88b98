use Rattle.std.proofs.Common.{arith}
use Rattle.h26x_rtp.proofs.MemoryLemmas.{written_twice}
use Rattle.h26x_rtp.proofs.memory.put_both.Goals as goal

pub returns : goal.returns
returns c = written_twice 0 c.put-behind.result c.args.head.now c.args.payload.now c.args.to.now c.put-behind.new.to c.put.new.to
    c.put-behind.ensures.written c.put-behind.ensures.end c.put.ensures.written (omega (arith, c.requires))
