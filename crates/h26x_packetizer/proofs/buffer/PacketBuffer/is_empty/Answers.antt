use Rattle.std.proofs.Common.{rules, ◌≡◌, ap, sym, ◌∙◌, length, nat_eq}
use Rattle.h26x_packetizer.specs.Buffer.{PacketBufferView}
use Rattle.h26x_packetizer.proofs.BufferLemmas.{packets_count}
use Rattle.h26x_packetizer.proofs.buffer.PacketBuffer.is_empty.Goals as goal

pub returns : goal.returns
returns c =
    let e : c.is_empty.result ≡ nat_eq (length c.self.inside.ends.items) 0 = search rules in
    e ∙ ap (λ k. nat_eq k 0) (sym (packets_count c.self.inside.headroom 0 c.self.inside.bytes.items c.self.inside.ends.items) ∙ ap (λ (b : PacketBufferView). length b.packets) c.self.view_is)
