use Rattle.std.proofs.Common.{rules, subst, arith, ◌≡◌, ap, ◌∙◌, ◌++◌, ◌∷◌, [], length, replicate, ℕ, List}
use Rattle.std.proofs.lemmas.List.{length-replicate}
use Rattle.h26x_packetizer.specs.Buffer.{PacketBufferView, IsMemoryFor, packets_from, headrooms_from, buffer_of, with_packets}
use Rattle.h26x_packetizer.specs.Sending.{body_bytes}
use Rattle.std.specs.Prelude.{vec_capacity, max, ◌*◌, ◌+◌, ◌≤◌}
use Rattle.h26x_packetizer.specs.declared.buffer.memory.BufferMemory.{BufferMemory}
use Rattle.h26x_packetizer.proofs.BufferLemmas.{buffer_push, memory_for}
use Rattle.h26x_packetizer.proofs.buffer.PacketBuffer.push_parts.Goals as goal

pub invariant_of-self-2 : goal.invariant_of-self-2
invariant_of-self-2 c =
    let room : List ℕ = replicate c.self.inside.headroom 0 in
    let packet : List ℕ = c.args.header.now ++ (c.args.donl.now ++ body_bytes c.args.body) in
    let all : c.put_packet.new.bytes.items ≡ c.self.inside.bytes.items ++ (room ++ packet) = search rules in
    let ends : c.push.new.self.items ≡ c.self.inside.ends.items ++ c.len-2.result ∷ [] = search rules in
    let end : c.len-2.result ≡ length c.put_packet.new.bytes.items = search rules in
    rw ends (buffer_push c.self.inside.headroom c.self.inside.bytes.items c.self.inside.ends.items room packet _ _ c.self.invariant (length-replicate c.self.inside.headroom 0) all end).0

pub returns-clause-pushed : goal.returns-clause-pushed
returns-clause-pushed c =
    let room : List ℕ = replicate c.self.inside.headroom 0 in
    let packet : List ℕ = c.args.header.now ++ (c.args.donl.now ++ body_bytes c.args.body) in
    let all : c.put_packet.new.bytes.items ≡ c.self.inside.bytes.items ++ (room ++ packet) = search rules in
    let ends : c.push.new.self.items ≡ c.self.inside.ends.items ++ c.len-2.result ∷ [] = search rules in
    let end : c.len-2.result ≡ length c.put_packet.new.bytes.items = search rules in
    let made = (buffer_push c.self.inside.headroom c.self.inside.bytes.items c.self.inside.ends.items room packet _ _ c.self.invariant (length-replicate c.self.inside.headroom 0) all end) in
    let memory : BufferMemory = record { bytes = vec_capacity c.put_packet.new.bytes; ends = vec_capacity c.push.new.self } in
    ap (λ (l : List ℕ). buffer_of c.self.inside.headroom c.put_packet.new.bytes.items l memory) ends
    ∙ ap (λ (l : List (List ℕ)). record { packets = l; headrooms = headrooms_from c.self.inside.headroom 0 c.put_packet.new.bytes.items (c.self.inside.ends.items ++ c.len-2.result ∷ []); headroom = c.self.inside.headroom; memory = memory }) made.1
    ∙ ap (λ (l : List (List ℕ)). record { packets = packets_from c.self.inside.headroom 0 c.self.inside.bytes.items c.self.inside.ends.items ++ packet ∷ []; headrooms = l; headroom = c.self.inside.headroom; memory = memory }) made.2
    ∙ ap (λ (b : PacketBufferView). with_packets b (packet ∷ []) memory) c.self.view_is

pub returns-in_err-make_room-2-clause-bounded : goal.returns-in_err-make_room-2-clause-bounded
returns-in_err-make_room-2-clause-bounded c =
    let bytes = c.self.inside.bytes in
    let ends = c.self.inside.ends in
    let old : BufferMemory = record { bytes = vec_capacity bytes; ends = vec_capacity ends } in
    let new : BufferMemory = record { bytes = vec_capacity c.make_room-2.new.list; ends = vec_capacity c.make_room.new.list } in
    let kept = c.in_err-make_room-2.ensures.kept in
    let few_bytes : vec_capacity c.make_room-2.new.list ≤ max (vec_capacity bytes) (2 * length bytes.items) = omega (arith, kept) in
    let few_ends : vec_capacity c.make_room.new.list ≤ max (vec_capacity ends) (2 * (length ends.items + 8)) = subst (λ (n : ℕ). vec_capacity c.make_room.new.list ≤ max (vec_capacity ends) (2 * (n + 8))) ends.ok.0 c.make_room.ensures.most in
    let all = subst (λ (b : PacketBufferView). IsMemoryFor b.headroom b.packets b.memory new) c.self.view_is (memory_for c.self.inside.headroom bytes.items ends.items old new c.self.invariant few_bytes few_ends) in
    search rules
