use Rattle.std.proofs.Common.{◌<◌, drop, length, arith}
use Rattle.std.proofs.lemmas.List.{length-drop}
use Rattle.h26x_codes.proofs.CopyLemmas.{are_most, end_behind, end_from}
use Rattle.h26x_codes.proofs.copy.copy_ends.Goals as goal

pub overflow_sub-end : goal.overflow_sub-end
overflow_sub-end c =
    let packets = c.args.packets.now.packets in
    let first = c.args.first in
    let n = c.loop-count.count in
    let long = length-drop first packets in
    let count = c.packet_ends.ensures.count in
    let within : n < length (drop first packets) = let some = c.loop-count-test.true in omega (arith, some, long, count) in
    let end = end_from packets c.packet_ends.result.now first n c.packet_ends.ensures.ends c.requires.first within in
    let start = c.start_of-start.ensures in
    omega (arith, end, start)

pub loop-count-preserved : goal.loop-count-preserved
loop-count-preserved c =
    let packets = c.args.packets.now.packets in
    let first = c.args.first in
    let n = c.loop-count.count in
    let long = length-drop first packets in
    let count = c.packet_ends.ensures.count in
    let within : n < length (drop first packets) = let some = c.loop-count-test.true in omega (arith, some, long, count) in
    let end = end_from packets c.packet_ends.result.now first n c.packet_ends.ensures.ends c.requires.first within in
    let start = c.start_of-start.ensures in
    let room = c.if-end-room.false in
    let inside = c.loop-count.invariant in
    record {
      packets = omega (arith, within);
      place = omega (arith, end, start);
      fits = omega (arith, room);
      fit = omega arith;
      ends = end_behind (drop first packets) n _ c.args.ends.now c.loop-count.ends within (rw (← c.loop-count.auto.ends) c.if-count-ends.true) inside.ends (omega (arith, end, start));
    }

pub returns-then-end-room-clause-most : goal.returns-then-end-room-clause-most
returns-then-end-room-clause-most c =
    let packets = c.args.packets.now.packets in
    let first = c.args.first in
    let n = c.loop-count.count in
    let inside = c.loop-count.invariant in
    let over = c.if-end-room.true in
    are_most (drop first packets) c.args.room (length c.args.ends.now) n (record { there = inside.packets; fit = rw (← inside.place) inside.fits; ends_fit = inside.fit })
    (λ within room.
    let end = end_from packets c.packet_ends.result.now first n c.packet_ends.ensures.ends c.requires.first within in
    let start = c.start_of-start.ensures in
    omega (arith, end, start, over))
