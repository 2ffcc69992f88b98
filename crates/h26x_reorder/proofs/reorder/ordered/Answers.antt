use Rattle.std.proofs.Common.{arith, Bor, ◌≡◌, ◌∙◌, ◌++◌, map, ℕ, subst, sym}
use Rattle.std.proofs.lemmas.Grind.{common_steps}
use Rattle.h26x_reorder.specs.Rtp.{RtpBody}
use Rattle.h26x_reorder.specs.ReorderBuffer.{BufferState, after_push, ready_packets, without_ready}
use Rattle.h26x_reorder.proofs.BufferLemmas.{one_taken}
use Rattle.h26x_reorder.proofs.reorder.ordered.Goals as goal

pub loop-packet-preserved : goal.loop-packet-preserved
loop-packet-preserved c =
    let now : Bor (ℕ × RtpBody) → ℕ × RtpBody = λ q. q.now in
    let packets = c.args.packets.now in
    let i = c.loop-packet.packet-index in
    let p : ℕ × RtpBody = c.packet-item.result in
    let out = map now c.loop-packet.out.items in
    let more = map now c.pop_ready.new.out.items in
    let pushed : c.push.new.order ≡ after_push c.loop-packet.order p = c.in_ok-push.ensures.after in
    record {
      len = grind (arith, common_steps);
      room = grind (arith, common_steps);
      packets = one_taken c.loop-packet.order c.pop_ready.new.order packets i p out more c.loop-packet-test.true (sym c.packet-item.is)
          (subst (λ (b : BufferState RtpBody). more ≡ out ++ ready_packets b.window b.due b.held) pushed c.pop_ready.ensures.packets)
          (subst (λ (b : BufferState RtpBody). c.pop_ready.new.order ≡ without_ready b.window b.due b.held) pushed c.pop_ready.ensures.after)
          ∙ c.loop-packet.invariant.packets;
    }
