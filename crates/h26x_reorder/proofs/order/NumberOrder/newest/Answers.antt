use Rattle.std.proofs.Common.{rules, ◌≡◌, subst, false, length}
use Rattle.std.specs.Prelude.{◌==◌}
use Rattle.h26x_reorder.specs.Rtp.{RtpBody}
use Rattle.h26x_reorder.specs.ReorderBuffer.{BufferState, last_number}
use Rattle.h26x_reorder.proofs.NewestLemmas.{newest_is}
use Rattle.h26x_reorder.proofs.order.NumberOrder.newest.Goals as goal

pub returns-else-is_empty : goal.returns-else-is_empty
returns-else-is_empty g c =
    let some : (length c.args.self.now.held == 0) ≡ false = search rules in
    newest_is c.self.inside.newest c.args.due c.args.self.now.held
    (subst (λ (b : BufferState RtpBody). last_number c.self.inside.newest b.held ≡ c.self.inside.newest) c.self.view_is c.self.invariant.last) some
