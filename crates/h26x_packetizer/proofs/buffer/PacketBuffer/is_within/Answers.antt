use Rattle.std.proofs.Common.{arith, ◌≡◌, ◌≤◌, ◌*◌, max, length, subst, sym, ◌∙◌, IsTrue, false}
use Rattle.std.specs.Prelude.{vec_capacity}
use Rattle.h26x_packetizer.specs.Buffer.{PacketBufferView, IsMemoryFor}
use Rattle.h26x_packetizer.specs.declared.buffer.memory.BufferMemory.{BufferMemory}
use Rattle.h26x_packetizer.proofs.BufferLemmas.{memory_for, memory_of}
use Rattle.h26x_packetizer.proofs.buffer.PacketBuffer.is_within.Goals as goal

pub returns-then-is_at_most : goal.returns-then-is_at_most
returns-then-is_at_most c =
    let bytes = c.self.inside.bytes in
    let ends = c.self.inside.ends in
    let h = c.self.inside.headroom in
    let old = c.args.before in
    let new : BufferMemory = record { bytes = vec_capacity bytes; ends = vec_capacity ends } in
    let r = c.is_at_most-then-is_at_most.result in
    let len : c.len.result ≡ length bytes.items = c.len.ensures ∙ bytes.ok.0 in
    let count : c.len-then-is_at_most.result ≡ length ends.items = c.len-then-is_at_most.ensures ∙ ends.ok.0 in
    let few : vec_capacity bytes ≤ max old.bytes (2 * length bytes.items) = rw (sym c.capacity.ensures, sym len) (c.is_at_most.ensures.0 c.if-is_at_most.true) in
    subst (λ (b : PacketBufferView). (IsTrue r → IsMemoryFor b.headroom b.packets old b.memory) × (IsMemoryFor b.headroom b.packets old b.memory → IsTrue r)) c.self.view_is (
      λ yes. memory_for h bytes.items ends.items old new c.self.invariant few (rw (sym c.capacity-then-is_at_most.ensures, sym count) (c.is_at_most-then-is_at_most.ensures.0 yes)),
      λ is. c.is_at_most-then-is_at_most.ensures.1 (rw (c.capacity-then-is_at_most.ensures, count) (memory_of h bytes.items ends.items old new c.self.invariant is).1),
    )

pub returns-else-is_at_most : goal.returns-else-is_at_most
returns-else-is_at_most c =
    let bytes = c.self.inside.bytes in
    let ends = c.self.inside.ends in
    let h = c.self.inside.headroom in
    let old = c.args.before in
    let new : BufferMemory = record { bytes = vec_capacity bytes; ends = vec_capacity ends } in
    let r = c.is_at_most.result in
    let len : c.len.result ≡ length bytes.items = c.len.ensures ∙ bytes.ok.0 in
    subst (λ (b : PacketBufferView). (IsTrue r → IsMemoryFor b.headroom b.packets old b.memory) × (IsMemoryFor b.headroom b.packets old b.memory → IsTrue r)) c.self.view_is (
      λ yes. let no : IsTrue false = sym c.if-is_at_most.false ∙ yes in absurd (grind (arith, no)),
      λ is. c.is_at_most.ensures.1 (rw (c.capacity.ensures, len) (memory_of h bytes.items ends.items old new c.self.invariant is).0),
    )
