use Rattle.std.proofs.Common.{rules, ◌≡◌, ap, length, arith}
use Rattle.h26x_packetizer.specs.Buffer.{PacketBufferView}
use Rattle.h26x_packetizer.proofs.BufferLemmas.{packets_count}
use Rattle.h26x_packetizer.proofs.buffer.PacketBuffer.with_headroom.Goals as goal

pub bounds_of-start-requires-clause-place : goal.bounds_of-start-requires-clause-place
bounds_of-start-requires-clause-place c =
    let ends : c.deref-2.result.now ≡ c.self.inside.ends.items = search rules in
    let count = packets_count c.self.inside.headroom 0 c.self.inside.bytes.items c.self.inside.ends.items in
    let same = ap (λ (b : PacketBufferView). length b.packets) c.self.view_is in
    let less = c.requires in
    rw ends (omega (arith, count, same, less))
