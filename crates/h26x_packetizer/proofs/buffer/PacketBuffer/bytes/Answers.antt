use Rattle.std.proofs.Common.{rules, ◌≡◌, subst}
use Rattle.h26x_packetizer.specs.Buffer.{PacketBufferView, HoldPackets, HoldHeadrooms}
use Rattle.h26x_packetizer.proofs.BufferLemmas.{buffer_holds, buffer_holds_rooms}
use Rattle.h26x_packetizer.proofs.buffer.PacketBuffer.bytes.Goals as goal

pub returns-clause-packets : goal.returns-clause-packets
returns-clause-packets c =
    let bytes : c.deref.result.now ≡ c.self.inside.bytes.items = search rules in
    subst (λ (b : PacketBufferView). HoldPackets b.headroom b.packets c.deref.result.now) c.self.view_is
    (rw bytes (buffer_holds c.self.inside.headroom c.self.inside.bytes.items c.self.inside.ends.items c.self.invariant))

pub returns-clause-headrooms : goal.returns-clause-headrooms
returns-clause-headrooms c =
    let bytes : c.deref.result.now ≡ c.self.inside.bytes.items = search rules in
    subst (λ (b : PacketBufferView). HoldHeadrooms b.headroom b.packets b.headrooms c.deref.result.now) c.self.view_is
    (rw bytes (buffer_holds_rooms c.self.inside.headroom c.self.inside.bytes.items c.self.inside.ends.items c.self.invariant))
