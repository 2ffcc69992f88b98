use Rattle.std.proofs.Common.{rules, ◌≡◌, ◌∙◌, ap, ℕ, length, arith}
use Rattle.h26x_reorder.specs.Rtp.{RtpBody}
use Rattle.h26x_reorder.specs.ReorderBuffer.{BufferState, push_answer, after_push}
use Rattle.h26x_reorder.specs.declared.pushed.Pushed.TheVariants as pushes
use Rattle.h26x_access_units.specs.JitterBuffer.{held_bytes}
use Rattle.h26x_access_units.proofs.JitterLemmas.{push_bytes, push_window}
use Rattle.h26x_access_units.proofs.WaitingLemmas.{both_came}
use Rattle.h26x_access_units.proofs.jitter.JitterBuffer.push_two.Goals as goal

pub invariant_of-self-2 : goal.invariant_of-self-2
invariant_of-self-2 c =
    let b = c.self.inside.buffer in
    let p = c.args.first.now in
    let q = c.args.second.now in
    let n = c.push_two.new.self in
    let p_held : push_answer b p.0 ≡ pushes.Held = search rules in
    let q_held : push_answer (after_push b p) q.0 ≡ pushes.Held = search rules in
    let after : n ≡ after_push (after_push b p) q = search rules in
    let p_len : length c.first.inside.payload.now ≡ length p.1.payload = ap (λ (x : ℕ × RtpBody). length x.1.payload) c.first.view_is in
    let q_len : length c.second.inside.payload.now ≡ length q.1.payload = ap (λ (x : ℕ × RtpBody). length x.1.payload) c.second.view_is in
    let there = both_came b n c.self.inside.from c.from_at-self-inside.result c.args.now c.self.inside.arrivals.items c.push_back_reserved.new.self.items c.push_back_reserved-2.new.self.items p q
    (search rules) (search rules) p_held q_held c.self.invariant.order c.self.invariant.kept c.self.invariant.first after (search rules) (search rules) (search rules) in
    let one = push_bytes b p p_held in
    let two = push_bytes (after_push b p) q q_held in
    let stands = ap (λ (b : BufferState RtpBody). held_bytes b.held) after in
    let count = c.self.invariant.count in
    record {
      count = omega (arith, one, two, stands, count, p_len, q_len);
      window = ap (λ (b : BufferState RtpBody). b.window) after ∙ push_window (after_push b p) q ∙ push_window b p ∙ c.self.invariant.window;
      some = c.self.invariant.some;
      half = c.self.invariant.half;
      order = there.order;
      kept = there.kept;
      first = there.first;
    }
