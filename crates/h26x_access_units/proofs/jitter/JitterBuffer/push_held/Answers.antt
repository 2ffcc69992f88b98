use Rattle.std.proofs.Common.{rules, ◌≡◌, ◌∙◌, ap, sym, ℕ, ◌+◌, length}
use Rattle.h26x_reorder.specs.Rtp.{RtpBody}
use Rattle.h26x_reorder.specs.ReorderBuffer.{BufferState, numbered_packet, push_answer, after_push}
use Rattle.h26x_reorder.specs.declared.pushed.Pushed.TheVariants as pushes
use Rattle.h26x_access_units.specs.JitterBuffer.{JitterState, held_bytes}
use Rattle.h26x_access_units.proofs.JitterLemmas.{push_bytes, push_window}
use Rattle.h26x_access_units.proofs.WaitingLemmas.{came}
use Rattle.h26x_access_units.proofs.jitter.JitterBuffer.push_held.Goals as goal

pub invariant_of-self-in-Ok : goal.invariant_of-self-in-Ok
invariant_of-self-in-Ok c =
    let b = c.self.inside.buffer in
    let p = numbered_packet c.args.packet in
    let is : push_answer b p.0 ≡ pushes.Held = search rules in
    let after : c.push_held.new.self ≡ after_push b p = search rules in
    let len : c.len.result ≡ length p.1.payload = search rules in
    let bytes : c.in-Some.bytes ≡ held_bytes b.held + length p.1.payload = c.in-Some.ensures.1
    ∙ ap (λ (n : ℕ). held_bytes c.args.self.now.buffer.held + n) len
    ∙ ap (λ (j : JitterState). held_bytes j.buffer.held + length p.1.payload) (sym c.self.view_is) in
    let there = came b c.push_held.new.self c.self.inside.from c.from_at-self-inside.result c.args.now c.self.inside.arrivals.items c.push_back_reserved.new.self.items p
    (search rules) is c.self.invariant.order c.self.invariant.kept c.self.invariant.first after (search rules) (search rules) in
    record {
      count = bytes ∙ sym (push_bytes b p is) ∙ ap (λ (b : BufferState RtpBody). held_bytes b.held) (sym after);
      window = ap (λ (b : BufferState RtpBody). b.window) after ∙ push_window b p ∙ c.self.invariant.window;
      some = c.self.invariant.some;
      half = c.self.invariant.half;
      order = there.order;
      kept = there.kept;
      first = there.first;
    }
