use Rattle.std.proofs.Common.{◌<◌, length, arith, rules}
use Rattle.h26x_rtp.proofs.NackLemmas.{nack_done, pairs_within}
use Rattle.h26x_rtp.proofs.nack.write_nack.Goals as goal

pub overflow_cast-pairs : goal.overflow_cast-pairs
overflow_cast-pairs c =
    let l = pairs_within c.min-most.result c.args.numbers.now in
    record { fits = omega (arith, l, c.min-most.ensures, c.put_pairs-written.ensures.size) }

pub head-requires : goal.head-requires
head-requires c =
    let l = pairs_within c.min-most.result c.args.numbers.now in
    omega (arith, l, c.min-most.ensures, c.put_pairs-written.ensures.size)

pub returns : goal.returns
returns c =
    let made = c.put_pairs-written in
    let some : 0 < length c.args.numbers.now = search rules in
    nack_done c.args.sender c.args.media c.args.numbers.now c.args.to.now made.new.to c.put.new.to c.head.result made.result some (omega (arith, c.if-to.false))
    (rw c.min-most.ensures at made.ensures.written) (rw c.min-most.ensures at made.ensures.size) (rw c.min-most.ensures at made.ensures.count) c.head.ensures c.put.ensures.written
