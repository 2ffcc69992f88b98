use Rattle.std.proofs.Common.{◌+◌, refl, arith}
use Rattle.h26x_cut.proofs.blocks.least_of_block.Goals as goal

pub returns : goal.returns
returns c =
    let bytes = c.args.bytes.now in
    let place = c.args.place in
    let first = c.lower-first.ensures bytes place (place + 16) 1 c.load.ensures c.load-2.ensures refl in
    let second = c.lower-second.ensures bytes (place + 32) (place + 48) 1 c.load-3.ensures c.load-4.ensures (omega arith) in
    let third = c.lower-third.ensures bytes (place + 64) (place + 80) 1 c.load-5.ensures c.load-6.ensures (omega arith) in
    let fourth = c.lower-fourth.ensures bytes (place + 96) (place + 112) 1 c.load-7.ensures c.load-8.ensures (omega arith) in
    let front = c.lower.ensures bytes place (place + 32) 2 first second refl in
    let back = c.lower-2.ensures bytes (place + 64) (place + 96) 2 third fourth (omega arith) in
    c.lower-3.ensures bytes place (place + 64) 4 front back refl
