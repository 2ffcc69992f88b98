use Rattle.std.proofs.Common.{rules, ◌≡◌, ap, sym, ◌∙◌, length}
use Rattle.h26x_packetizer.specs.Buffer.{PacketBufferView}
use Rattle.h26x_packetizer.proofs.BufferLemmas.{packets_count, headrooms_count}
use Rattle.h26x_packetizer.proofs.buffer.PacketBuffer.len.Goals as goal

pub returns-clause-packets : goal.returns-clause-packets
returns-clause-packets c =
    let e : c.len.result ≡ length c.self.inside.ends.items = search rules in
    e ∙ sym (packets_count c.self.inside.headroom 0 c.self.inside.bytes.items c.self.inside.ends.items) ∙ ap (λ (b : PacketBufferView). length b.packets) c.self.view_is

pub returns-clause-headrooms : goal.returns-clause-headrooms
returns-clause-headrooms c =
    let e : c.len.result ≡ length c.self.inside.ends.items = search rules in
    e ∙ sym (headrooms_count c.self.inside.headroom 0 c.self.inside.bytes.items c.self.inside.ends.items) ∙ ap (λ (b : PacketBufferView). length b.headrooms) c.self.view_is
