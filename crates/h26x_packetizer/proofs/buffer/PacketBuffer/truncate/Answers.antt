use Rattle.std.proofs.Common.{rules, ◌≡◌, ap, sym, ◌∙◌, ◌≤◌, take, length, arith, ℕ, List}
use Rattle.std.proofs.lemmas.List.{take_all}
use Rattle.h26x_packetizer.specs.Buffer.{last_end, packets_from, headrooms_from, buffer_of, first_packets}
use Rattle.std.specs.Prelude.{vec_capacity}
use Rattle.h26x_packetizer.specs.declared.buffer.memory.BufferMemory.{BufferMemory}
use Rattle.h26x_packetizer.proofs.BufferLemmas.{buffer_take, packets_count, headrooms_count}
use Rattle.h26x_packetizer.proofs.buffer.PacketBuffer.truncate.Goals as goal

pub invariant_of-self : goal.invariant_of-self
invariant_of-self c =
    let bytes : c.truncate.new.self.items ≡ take c.end_of_first.result c.self.inside.bytes.items = search rules in
    let ends : c.truncate-then-count-len.new.self.items ≡ take c.args.count c.self.inside.ends.items = search rules in
    let end : c.end_of_first.result ≡ last_end 0 (take c.args.count c.self.inside.ends.items) = search rules in
    rw (bytes, ends) (buffer_take c.self.inside.headroom c.self.inside.bytes.items c.self.inside.ends.items c.args.count c.end_of_first.result c.self.invariant end).0

pub returns-then-count-len : goal.returns-then-count-len
returns-then-count-len c =
    let bytes : c.truncate.new.self.items ≡ take c.end_of_first.result c.self.inside.bytes.items = search rules in
    let ends : c.truncate-then-count-len.new.self.items ≡ take c.args.count c.self.inside.ends.items = search rules in
    let end : c.end_of_first.result ≡ last_end 0 (take c.args.count c.self.inside.ends.items) = search rules in
    let kept = buffer_take c.self.inside.headroom c.self.inside.bytes.items c.self.inside.ends.items c.args.count c.end_of_first.result c.self.invariant end in
    let h = c.self.inside.headroom in
    let memory : BufferMemory = record { bytes = vec_capacity c.self.inside.bytes; ends = vec_capacity c.self.inside.ends } in
    let few = take c.args.count c.self.inside.ends.items in
    let front = take c.end_of_first.result c.self.inside.bytes.items in
    let bytes_kept : vec_capacity c.truncate.new.self ≡ vec_capacity c.self.inside.bytes = search rules in
    let ends_kept : vec_capacity c.truncate-then-count-len.new.self ≡ vec_capacity c.self.inside.ends = search rules in
    ap (λ (n : ℕ). buffer_of h c.truncate.new.self.items c.truncate-then-count-len.new.self.items record { bytes = n; ends = vec_capacity c.truncate-then-count-len.new.self }) bytes_kept
    ∙ ap (λ (n : ℕ). buffer_of h c.truncate.new.self.items c.truncate-then-count-len.new.self.items record { bytes = vec_capacity c.self.inside.bytes; ends = n }) ends_kept
    ∙ ap (λ (b : List ℕ). buffer_of h b c.truncate-then-count-len.new.self.items memory) bytes ∙ ap (λ (l : List ℕ). buffer_of h front l memory) ends
    ∙ ap (λ (l : List (List ℕ)). record { packets = l; headrooms = headrooms_from h 0 front few; headroom = h; memory = memory }) kept.1
    ∙ ap (λ (l : List (List ℕ)). record { packets = take c.args.count (packets_from h 0 c.self.inside.bytes.items c.self.inside.ends.items); headrooms = l; headroom = h; memory = memory }) kept.2
    ∙ ap (first_packets c.args.count) c.self.view_is

pub returns-else-count-len : goal.returns-else-count-len
returns-else-count-len c =
    let long : length c.self.inside.ends.items ≤ c.args.count = search rules in
    let count = packets_count c.self.inside.headroom 0 c.self.inside.bytes.items c.self.inside.ends.items in
    let all = take_all c.args.count (packets_from c.self.inside.headroom 0 c.self.inside.bytes.items c.self.inside.ends.items) (omega (arith, long, count)) in
    let h = c.self.inside.headroom in
    let memory : BufferMemory = record { bytes = vec_capacity c.self.inside.bytes; ends = vec_capacity c.self.inside.ends } in
    let packets = packets_from h 0 c.self.inside.bytes.items c.self.inside.ends.items in
    let headrooms = headrooms_from h 0 c.self.inside.bytes.items c.self.inside.ends.items in
    let rooms = headrooms_count h 0 c.self.inside.bytes.items c.self.inside.ends.items in
    let all_rooms = take_all c.args.count headrooms (omega (arith, long, rooms)) in
    sym c.self.view_is ∙ ap (λ (l : List (List ℕ)). record { packets = l; headrooms = headrooms; headroom = h; memory = memory }) (sym all)
    ∙ ap (λ (l : List (List ℕ)). record { packets = take c.args.count packets; headrooms = l; headroom = h; memory = memory }) (sym all_rooms)
    ∙ ap (first_packets c.args.count) c.self.view_is
