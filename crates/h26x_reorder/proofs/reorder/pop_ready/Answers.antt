use Rattle.std.proofs.Common.{rules, arith, ◌≡◌, ◌∙◌, ◌++◌, ◌∷◌, [], ℕ, List, map, sym, ap, append_assoc, Some, Bor}
use Rattle.std.proofs.lemmas.Grind.{common_steps}
use Rattle.h26x_reorder.specs.Rtp.{RtpBody}
use Rattle.h26x_reorder.specs.ReorderBuffer.{ready_packets, without_first, next_packet}
use Rattle.h26x_reorder.proofs.BufferLemmas.{step_is, map_more}
use Rattle.h26x_reorder.proofs.reorder.pop_ready.Goals as goal

pub loop-packet-preserved : goal.loop-packet-preserved
loop-packet-preserved c =
    let p = c.in-Some.packet.now in
    let now : Bor (ℕ × RtpBody) → ℕ × RtpBody = λ q. q.now in
    let old = c.loop-packet.order in
    let next : next_packet old ≡ Some p = sym c.in-Some.ensures.packet in
    let new : c.pop.new.self ≡ without_first old = c.in-Some.ensures.after in
    let step = step_is old p next in
    let items : c.push.new.self.items ≡ c.loop-packet.out.items ++ c.in-Some.packet ∷ [] = search rules in
    let pushed : map now c.push.new.self.items ≡ map now c.loop-packet.out.items ++ p ∷ [] =
    ap (map now) items ∙ map_more now c.loop-packet.out.items c.in-Some.packet in
    let short = step.length_is in
    record {
      len = rw new (grind (arith, common_steps, short));
      capacity = grind (arith, common_steps);
      packets = rw (new, pushed) (append_assoc (map now c.loop-packet.out.items) (p ∷ []) (ready_packets (without_first old).window (without_first old).due (without_first old).held)
          ∙ ap (λ (l : List (ℕ × RtpBody)). map now c.loop-packet.out.items ++ l) (sym step.ready)
          ∙ c.loop-packet.invariant.packets);
      after = rw new (sym step.without ∙ c.loop-packet.invariant.after);
    }
