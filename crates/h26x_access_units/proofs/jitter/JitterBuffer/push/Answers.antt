use Rattle.std.proofs.Common.{rules, ◌≡◌, ◌∙◌, ap, sym, ℕ, ◌+◌, length}
use Rattle.h26x_reorder.specs.Rtp.{RtpBody}
use Rattle.h26x_reorder.specs.ReorderBuffer.{BufferState, push_answer, after_push}
use Rattle.h26x_reorder.specs.declared.pushed.Pushed.TheVariants as pushes
use Rattle.h26x_access_units.specs.JitterBuffer.{JitterState, held_bytes}
use Rattle.h26x_access_units.proofs.JitterLemmas.{push_bytes, push_window}
use Rattle.h26x_access_units.proofs.WaitingLemmas.{came}
use Rattle.h26x_access_units.proofs.jitter.JitterBuffer.push.Goals as goal

pub invariant_of-self-in-Held-2 : goal.invariant_of-self-in-Held-2
invariant_of-self-in-Held-2 c =
    let b = c.self.inside.buffer in
    let p = c.args.packet.now in
    let is : push_answer b p.0 ≡ pushes.Held = sym c.in_ok-push.ensures.answer ∙ c.in-Held-2.is in
    let after : c.push.new.self ≡ after_push b p = search rules in
    let bytes : c.in-Some.bytes ≡ held_bytes b.held + length p.1.payload = c.in-Some.ensures.1
    ∙ ap (λ (j : JitterState). held_bytes j.buffer.held + length c.packet.inside.payload.now) (sym c.self.view_is)
    ∙ ap (λ (q : ℕ × RtpBody). held_bytes b.held + length q.1.payload) c.packet.view_is in
    let there = came b c.push.new.self c.self.inside.from c.from_at-self-inside.result c.args.now c.self.inside.arrivals.items c.push_back_reserved.new.self.items p
    (search rules) is c.self.invariant.order c.self.invariant.kept c.self.invariant.first after (search rules) (search rules) in
    record {
      count = bytes ∙ sym (push_bytes b p is) ∙ ap (λ (b : BufferState RtpBody). held_bytes b.held) (sym after);
      window = ap (λ (b : BufferState RtpBody). b.window) after ∙ push_window b p ∙ c.self.invariant.window;
      some = c.self.invariant.some;
      half = c.self.invariant.half;
      order = there.order;
      kept = there.kept;
      first = there.first;
    }
