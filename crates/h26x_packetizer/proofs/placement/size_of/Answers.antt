use Rattle.std.proofs.Common.{◌≡◌, ◌∙◌, ap, get_or, length, [], arith}
use Rattle.std.proofs.lemmas.List.{get_or_default}
use Rattle.h26x_packetizer.proofs.PlacementLemmas.{size_next}
use Rattle.h26x_packetizer.proofs.placement.size_of.Goals as goal

pub loop-packet-preserved : goal.loop-packet-preserved
loop-packet-preserved c =
    let packets = c.args.packets.now in
    let i = c.loop-packet.packet-index in
    let next = size_next c.args.headroom packets i c.loop-packet-test.true in
    let here : c.packet-item.result ≡ get_or packets i [] = c.packet-item.is ∙ get_or_default packets i c.packet-item.result [] c.loop-packet-test.true in
    let first = c.saturating_add.ensures in
    let both = c.saturating_add-bytes.ensures in
    let long = c.len.ensures in
    let same = ap length here in
    let so_far = c.loop-packet.invariant in
    omega (arith, next, first, both, long, same, so_far)
