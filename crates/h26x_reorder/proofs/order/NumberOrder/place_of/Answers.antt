use Rattle.std.proofs.Common.{arith, ◌≡◌, ◌<◌, ◌∙◌, ℕ, true, subst, map}
use Rattle.h26x_core.specs.Sequence.{distance_ahead}
use Rattle.h26x_reorder.specs.Rtp.{RtpBody}
use Rattle.h26x_reorder.specs.ReorderBuffer.{BufferState, buffer_state, is_number_held, after_push}
use Rattle.h26x_reorder.proofs.BufferLemmas.{due_is, pushed_again}
use Rattle.h26x_reorder.proofs.order.NumberOrder.place_of.Goals as goal

pub returns-in-Ok-clause-same : goal.returns-in-Ok-clause-same
returns-in-Ok-clause-same g c = λ packet.
    let number = c.args.sequence in
    let b : BufferState RtpBody = buffer_state c.self.inside.window c.self.inside.due (map g.T.Numbered.numbered c.self.inside.held) in
    let due = c.unwrap_or-due.ensures ∙ due_is c.self.inside.window c.self.inside.due number in
    let near = subst (λ (d : ℕ). distance_ahead d number < 32768) due (omega (arith, c.if-ahead-ge-HALF.false)) in
    subst (λ (s : BufferState RtpBody). is_number_held number s.held ≡ true → s ≡ after_push s (number, packet)) c.self.view_is
    (λ held. pushed_again b (number, packet) c.self.invariant.buffer.order near held) c.in-Ok.ensures
