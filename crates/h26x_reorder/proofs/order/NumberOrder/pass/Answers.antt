use Rattle.std.proofs.Common.{rules, ◌≡◌, ◌∙◌, ap, true, map}
use Rattle.h26x_reorder.specs.Rtp.{RtpBody}
use Rattle.h26x_reorder.specs.ReorderBuffer.{BufferState, buffer_state, goes_straight, after_push, without_first}
use Rattle.h26x_reorder.proofs.BufferLemmas.{straight_goes, straight_order}
use Rattle.h26x_reorder.proofs.order.NumberOrder.pass.Goals as goal

pub invariant_of-self : goal.invariant_of-self
invariant_of-self g c =
    let b = buffer_state c.self.inside.window c.self.inside.due (map g.T.Numbered.numbered c.self.inside.held) in
    let is : goes_straight b c.args.number ≡ true = search rules in
    record { buffer = record { some = c.self.invariant.buffer.some; half = c.self.invariant.buffer.half; order = straight_order b c.args.number is }; last = c.self.invariant.last }

pub returns : goal.returns
returns g c = λ packet.
    let b = buffer_state c.self.inside.window c.self.inside.due (map g.T.Numbered.numbered c.self.inside.held) in
    let is : goes_straight b c.args.number ≡ true = search rules in
    straight_goes b c.args.number packet (search rules) is ∙ ap (λ (x : BufferState RtpBody). without_first (after_push x (c.args.number, packet))) c.self.view_is
