use Rattle.std.proofs.Common.{arith, ◌≡◌, ◌∙◌, ◌-◌, ap, sym, subst, ℕ, get_or}
use Rattle.h26x_core.specs.Sequence.{distance_ahead}
use Rattle.h26x_reorder.specs.Rtp.{RtpBody}
use Rattle.h26x_reorder.specs.ReorderBuffer.{BufferState, last_number}
use Rattle.h26x_reorder.proofs.NewestLemmas.{last_at}
use Rattle.h26x_reorder.proofs.HeldLemmas.{BelongsAt, behind_none, behind_last, not_held, put_at}
use Rattle.h26x_reorder.proofs.order.NumberOrder.place_from.Given.{Over}
use Rattle.h26x_reorder.proofs.order.NumberOrder.place_from.Goals as goal
use Rattle.h26x_reorder.proofs.order.NumberOrder.place_from.Goals.{then-len-eq0-via-then-len-eq0, then-len-eq0-via-else-len-eq0+then-self-due}

belongs : (g : Over) (c : goal.Joined-then-len-eq0 g) → BelongsAt c.args.due c.args.number c.args.self.now.held c.len-len.result
belongs g c =
    elim c.then-len-eq0.branch [
      | then-len-eq0-via-then-len-eq0 w ↦ behind_none c.args.due c.args.number c.args.self.now.held c.len-len.result c.len-len.ensures w.if-len-eq0.true
      | then-len-eq0-via-else-len-eq0+then-self-due w ↦
          let newest = c.self.inside.newest in
          let held = c.args.self.now.held in
          let last = subst (λ (b : BufferState RtpBody). last_number newest b.held ≡ newest) c.self.view_is c.self.invariant.last in
          behind_last c.args.due c.args.number held c.len-len.result (distance_ahead c.args.due newest) c.requires c.len-len.ensures (omega arith)
          (λ d. sym (ap (λ (n : ℕ). distance_ahead c.args.due (get_or held (n - 1) d).0) c.len-len.ensures ∙ ap (distance_ahead c.args.due) (last_at newest held d last (omega arith))))
          w.if-self-due.true
    ]

pub returns-then-len-eq0 : goal.returns-then-len-eq0
returns-then-len-eq0 g c =
    let at = belongs g c in
    record {
      absent = not_held c.args.due c.args.number c.args.self.now.held c.len-len.result at;
      in_range = at.in_range;
      put = λ packet. put_at c.args.due c.args.number packet c.args.self.now.held c.len-len.result at;
    }
