use Rattle.std.proofs.Common.{arith}
use Rattle.h26x_rtp_sender.proofs.EndLemmas.{first_reached}
use Rattle.h26x_rtp_sender.proofs.payloads.next_bounds.Goals as goal

pub overflow_add-result : goal.overflow_add-result
overflow_add-result c =
    let w = first_reached c.args.headroom c.args.start c.args.ends.now c.requires.order c.requires.some in
    let le = c.requires.within in
    grind (arith, w, le)

pub returns-clause-order : goal.returns-clause-order
returns-clause-order c =
    let w = first_reached c.args.headroom c.args.start c.args.ends.now c.requires.order c.requires.some in
    grind (arith, w)

pub returns-clause-within : goal.returns-clause-within
returns-clause-within c =
    let w = first_reached c.args.headroom c.args.start c.args.ends.now c.requires.order c.requires.some in
    let le = c.requires.within in
    grind (arith, w, le)
