use Rattle.std.proofs.Common.{rules, ◌≡◌, ap, ◌∙◌, ◌+◌, ◌-◌, ◌<◌, ◌≤◌, take, length, arith, ℕ, List}
use Rattle.std.specs.Vec.{with_items}
use Rattle.std.proofs.lemmas.List.{with_items_is}
use borrow.Rule.Slice.PartMut.{put_mid}
use Rattle.h26x_packetizer.specs.Buffer.{PacketBufferView, last_end, packets_from, headrooms_from, buffer_of, headed_at}
use Rattle.std.specs.Prelude.{vec_capacity}
use Rattle.h26x_packetizer.specs.declared.buffer.memory.BufferMemory.{BufferMemory}
use Rattle.h26x_packetizer.proofs.BufferLemmas.{packets_count, packets_headed, headrooms_headed, length_put}
use Rattle.h26x_packetizer.proofs.buffer.PacketBuffer.write_header.Goals as goal

pub bounds_of-start-requires-clause-place : goal.bounds_of-start-requires-clause-place
bounds_of-start-requires-clause-place c =
    let ends : c.deref-2.result.now ≡ c.self.inside.ends.items = search rules in
    let count = packets_count c.self.inside.headroom 0 c.self.inside.bytes.items c.self.inside.ends.items in
    let same = ap (λ (b : PacketBufferView). length b.packets) c.self.view_is in
    let less = c.requires.place in
    rw ends (omega (arith, count, same, less))

pub returns : goal.returns
returns c =
    let h = c.self.inside.headroom in
    let memory : BufferMemory = record { bytes = vec_capacity c.self.inside.bytes; ends = vec_capacity c.self.inside.ends } in
    let bytes = c.self.inside.bytes.items in
    let ends = c.self.inside.ends.items in
    let same_ends : c.deref-2.result.now ≡ ends = search rules in
    let same_bytes : c.deref_mut.result.now ≡ bytes = search rules in
    let header = c.copy_from_slice.new.self in
    let start = c.bounds_of-start.result.0 in
    let a = start - length c.args.header.now in
    let k = start - (start - length c.args.header.now) in
    let at : start ≡ last_end 0 (take c.args.place ends) + h = c.bounds_of-start.ensures.start ∙ ap (λ (l : List ℕ). last_end 0 (take c.args.place l) + h) same_ends in
    let room : length c.args.header.now ≤ h = rw (ap (λ (b : PacketBufferView). b.headroom) c.self.view_is) c.requires.room in
    let count = packets_count h 0 bytes ends in
    let same = ap (λ (b : PacketBufferView). length b.packets) c.self.view_is in
    let less = c.requires.place in
    let long : length header ≡ k = search rules in
    let within : a ≤ length bytes = search rules in
    let place : c.args.place < length ends = omega (arith, count, same, less) in
    let start_within : start ≤ length bytes = search rules in
    let len : length bytes ≡ c.self.inside.bytes.len = search rules in
    let put = length_put a k c.deref_mut.result.now header long (rw same_bytes (omega (arith, at, room, start_within))) in
    let wrote : (with_items c.self.inside.bytes (put_mid a k c.deref_mut.result.now header)).items ≡ put_mid a k c.deref_mut.result.now header =
    with_items_is c.self.inside.bytes _ (put ∙ ap length same_bytes ∙ len) in
    let copied : header ≡ c.args.header.now = search rules in
    let last = c.self.invariant.to_the_end in
    let packets = packets_headed h 0 bytes ends header a k c.args.place c.self.invariant.in_order place (omega (arith, at, room)) (omega (arith, at, room)) long within in
    let headrooms = headrooms_headed h 0 bytes ends header a k c.args.place c.self.invariant.in_order place (omega (arith, at, room)) (omega (arith, at, room)) long (omega (arith, last)) in
    ap (λ (b : List ℕ). buffer_of h b ends memory) wrote ∙ ap (λ (b : List ℕ). buffer_of h (put_mid a k b header) ends memory) same_bytes
    ∙ ap (λ (l : List (List ℕ)). record { packets = l; headrooms = headrooms_from h 0 (put_mid a k bytes header) ends; headroom = h; memory = memory }) packets
    ∙ ap (λ (l : List (List ℕ)). record { packets = packets_from h 0 bytes ends; headrooms = l; headroom = h; memory = memory }) headrooms
    ∙ ap (λ (b : PacketBufferView). record b { headrooms = headed_at c.args.place header b.headrooms }) c.self.view_is
    ∙ ap (λ (l : List ℕ). record c.args.self.now { headrooms = headed_at c.args.place l c.args.self.now.headrooms }) copied
