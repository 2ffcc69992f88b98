use Rattle.std.proofs.Common.{◌≡◌, ◌≤◌, ◌+◌, ◌*◌, max, length, subst, sym, ap, ◌∙◌, OnOk, ℕ}
use Rattle.h26x_packetizer.specs.Buffer.{PacketBufferView}
use Rattle.h26x_packetizer.proofs.BufferLemmas.{packets_count}
use Rattle.h26x_packetizer.proofs.buffer.PacketBuffer.reserve.Goals as goal

pub returns-clause-room : goal.returns-clause-room
returns-clause-room c =
    let count : c.self.inside.ends.len ≡ length c.args.self.now.packets = c.self.inside.ends.ok.0 ∙ sym (packets_count c.self.inside.headroom 0 c.self.inside.bytes.items c.self.inside.ends.items) ∙ ap (λ (b : PacketBufferView). length b.packets) c.self.view_is in
    subst (λ (n : ℕ). OnOk c.make_room.result (n + c.args.count ≤ c.make_room.new.list.cap)) count c.make_room.ensures.room

pub returns-clause-bounded : goal.returns-clause-bounded
returns-clause-bounded c =
    let count : c.self.inside.ends.len ≡ length c.args.self.now.packets = c.self.inside.ends.ok.0 ∙ sym (packets_count c.self.inside.headroom 0 c.self.inside.bytes.items c.self.inside.ends.items) ∙ ap (λ (b : PacketBufferView). length b.packets) c.self.view_is in
    let old : c.self.inside.ends.cap ≡ c.args.self.now.memory.ends = ap (λ (b : PacketBufferView). b.memory.ends) c.self.view_is in
    subst (λ (n : ℕ). c.make_room.new.list.cap ≤ max c.args.self.now.memory.ends (2 * (n + max c.args.count 8))) count
    (subst (λ (n : ℕ). c.make_room.new.list.cap ≤ max n (2 * (c.self.inside.ends.len + max c.args.count 8))) old c.make_room.ensures.most)
