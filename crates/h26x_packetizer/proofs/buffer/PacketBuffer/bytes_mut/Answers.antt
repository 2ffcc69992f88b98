use Rattle.std.proofs.Common.{rules, ◌≡◌, ap, refl, subst, ◌∙◌, ◌++◌, length, take, drop, List, ℕ}
use Rattle.h26x_packetizer.specs.Buffer.{PacketBufferView, HoldPackets, HoldHeadrooms, packets_from, headrooms_from}
use Rattle.h26x_packetizer.specs.BufferLoan.{buffer_under, packets_under}
use Rattle.std.specs.Prelude.{vec_capacity}
use Rattle.h26x_packetizer.specs.declared.buffer.memory.BufferMemory.{BufferMemory}
use Rattle.h26x_packetizer.proofs.BufferLemmas.{buffer_holds, buffer_holds_rooms}
use Rattle.h26x_packetizer.proofs.BufferLoanLemmas.{buffer_lent, buffer_rooms_lent}
use Rattle.h26x_packetizer.proofs.buffer.PacketBuffer.bytes_mut.Goals as goal

pub returns : goal.returns
returns c =
    let h = c.self.inside.headroom in
    let memory : BufferMemory = record { bytes = vec_capacity c.self.inside.bytes; ends = vec_capacity c.self.inside.ends } in
    let bytes : c.deref_mut.result.now ≡ c.self.inside.bytes.items = search rules in (
      (
        refl,
        λ w.
            let under = take c.self.inside.bytes.len (w ++ drop (length w) c.self.inside.bytes.items) in
            ap (λ (l : List (List ℕ)). record { packets = l; headrooms = headrooms_from h 0 under c.self.inside.ends.items; headroom = h; memory = memory })
            (buffer_lent h c.self.inside.bytes.len c.self.inside.bytes.items w c.self.inside.ends.items c.self.inside.bytes.ok.0 c.self.invariant)
            ∙ ap (λ (l : List (List ℕ)). record { packets = packets_under h 0 w (packets_from h 0 c.self.inside.bytes.items c.self.inside.ends.items); headrooms = l; headroom = h; memory = memory })
            (buffer_rooms_lent h c.self.inside.bytes.len c.self.inside.bytes.items w c.self.inside.ends.items c.self.inside.bytes.ok.0 c.self.invariant)
            ∙ ap (λ (b : PacketBufferView). buffer_under b w) c.self.view_is,
      ),
      record {
        writes_back = tt;
        bytes = subst (λ (b : PacketBufferView). HoldPackets b.headroom b.packets c.deref_mut.result.now) c.self.view_is
            (rw bytes (buffer_holds h c.self.inside.bytes.items c.self.inside.ends.items c.self.invariant));
        headrooms = subst (λ (b : PacketBufferView). HoldHeadrooms b.headroom b.packets b.headrooms c.deref_mut.result.now) c.self.view_is
            (rw bytes (buffer_holds_rooms h c.self.inside.bytes.items c.self.inside.ends.items c.self.invariant));
      },
    )
