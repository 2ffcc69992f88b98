use Rattle.std.proofs.Common.{arith}
use Rattle.h26x_packetizer.proofs.BufferLemmas.{packet_within}
use Rattle.h26x_packetizer.proofs.buffer_packets.next_bounds.Goals as goal

pub overflow_add-result : goal.overflow_add-result
overflow_add-result c =
    let w = packet_within c.args.headroom c.args.start c.args.ends.now 0 c.requires.order c.requires.some in
    let le = c.requires.within in
    grind (arith, w, le)

pub returns-clause-order : goal.returns-clause-order
returns-clause-order c =
    let w = packet_within c.args.headroom c.args.start c.args.ends.now 0 c.requires.order c.requires.some in
    grind (arith, w)

pub returns-clause-within : goal.returns-clause-within
returns-clause-within c =
    let w = packet_within c.args.headroom c.args.start c.args.ends.now 0 c.requires.order c.requires.some in
    let le = c.requires.within in
    grind (arith, w, le)
