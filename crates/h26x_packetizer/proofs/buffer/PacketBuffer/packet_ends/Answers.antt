use Rattle.std.proofs.Common.{rules, ◌≡◌, ap, ◌∙◌}
use Rattle.h26x_packetizer.specs.Buffer.{PacketBufferView, packet_ends}
use Rattle.h26x_packetizer.proofs.BufferLemmas.{buffer_ends}
use Rattle.h26x_packetizer.proofs.buffer.PacketBuffer.packet_ends.Goals as goal

pub returns : goal.returns
returns c =
    let ends : c.deref.result.now ≡ c.self.inside.ends.items = search rules in
    ends ∙ buffer_ends c.self.inside.headroom c.self.inside.bytes.items c.self.inside.ends.items c.self.invariant
    ∙ ap (λ (b : PacketBufferView). packet_ends b.headroom 0 b.packets) c.self.view_is
