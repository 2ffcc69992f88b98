use Rattle.std.proofs.Common.{rules, ◌≡◌, ◌∙◌, ◌+◌, ◌-◌, ◌≤◌, ap, get_or, length, [], arith, ℕ, List}
use Rattle.std.proofs.lemmas.List.{get_or_default}
use borrow.Rule.Slice.PartMut.{put_mid}
use Rattle.h26x_packetizer.proofs.PlacementLemmas.{IsLaidNext, laid_next, end_next, size_next}
use Rattle.h26x_packetizer.proofs.placement.lay.Goals as goal
use Rattle.h26x_packetizer.proofs.placement.lay.Goals.{In-loop-count, After-len}

next : (c : In-loop-count) → IsLaidNext c.args.headroom c.args.packets.now c.loop-count.count c.args.to.now c.loop-count.to c.loop-count.place
next c = let inv = c.loop-count.invariant in laid_next c.args.headroom c.args.packets.now c.loop-count.count c.args.to.now c.loop-count.to c.loop-count.place c.loop-count-test.true c.requires.room inv.place inv.laid

-- how long the packet is
long : (c : After-len) → c.len.result ≡ length (get_or c.args.packets.now c.loop-count.count [])
long c =
    let packets = c.args.packets.now in
    let same = ap length (c.index-packets-count.is ∙ get_or_default packets c.loop-count.count c.index-packets-count.result [] c.loop-count-test.true) in
    let all = (next (goal.at.overflow_add-end c).In-loop-count).1.0 in
    let small = c.requires.small in
    let len = c.len.ensures in
    omega (arith, all, small, same, len)

pub overflow_add-start : goal.overflow_add-start
overflow_add-start c =
    let all = (next c).1.0 in
    let small = c.requires.small in
    record { fits = omega (arith, all, small) }

pub overflow_add-end : goal.overflow_add-end
overflow_add-end c =
    let all = (next (goal.at.overflow_add-end c).In-loop-count).1.0 in
    let small = c.requires.small in
    let is = long c in
    record { fits = omega (arith, all, small, is) }

pub slice_bounds-copy_to-end : goal.slice_bounds-copy_to-end
slice_bounds-copy_to-end c =
    let within = (next (goal.at.slice_bounds-copy_to-end c).In-loop-count).0 in
    let is = long (goal.at.slice_bounds-copy_to-end c).After-len in
    let bounds : c.loop-count.place + c.args.headroom + c.len.result ≤ length c.loop-count.to = omega (arith, within, is) in
    search rules

pub loop-count-preserved : goal.loop-count-preserved
loop-count-preserved c =
    let packets = c.args.packets.now in
    let n = c.loop-count.count in
    let inv = c.loop-count.invariant in
    let is = long (goal.at.loop-count-preserved c).After-len in
    let laid = (next (goal.at.loop-count-preserved c).In-loop-count).1.1 in
    let more = size_next c.args.headroom packets n c.loop-count-test.true in
    let place = inv.place in
    let ends = c.requires.ends in
    let some = c.loop-count-test.true in
    let packet : c.copy_to.new.to ≡ get_or packets n [] = c.copy_to.ensures ∙ c.index-packets-count-in-loop-count.is ∙ get_or_default packets n c.index-packets-count-in-loop-count.result [] c.loop-count-test.true in
    let width : c.loop-count.place + c.args.headroom + c.len.result - (c.loop-count.place + c.args.headroom) ≡ length (get_or packets n []) = omega (arith, is) in
    record {
      packets = omega (arith, some);
      place = omega (arith, more, place, is);
      laid = ap (λ (p : List ℕ). put_mid (c.loop-count.place + c.args.headroom) (c.loop-count.place + c.args.headroom + c.len.result - (c.loop-count.place + c.args.headroom)) c.loop-count.to p) packet
          ∙ ap (λ k. put_mid (c.loop-count.place + c.args.headroom) k c.loop-count.to (get_or packets n [])) width ∙ laid;
      ends = end_next c.args.headroom packets n c.args.ends.now c.loop-count.ends (c.loop-count.place + c.args.headroom + c.len.result) some (omega (arith, some, ends)) inv.ends (omega (arith, place, is));
    }
