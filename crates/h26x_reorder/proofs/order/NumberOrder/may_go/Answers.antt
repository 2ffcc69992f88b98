use Rattle.std.proofs.Common.{arith, ◌≡◌, ◌∙◌, ◌+◌, ◌-◌, ℕ, Bool, false, Option, Some, ap, subst, sym, map}
use Rattle.std.specs.Prelude.{is_some, nat_le, ◌==◌, ◌||◌}
use Rattle.std.proofs.lemmas.Bool.Decides.{nat_tests}
use Rattle.h26x_core.specs.Sequence.{distance_ahead}
use Rattle.h26x_reorder.specs.Rtp.{RtpBody}
use Rattle.h26x_reorder.specs.ReorderBuffer.{BufferState, IsBufferState, IsHeldInOrder, next_packet, first_ready, first_number}
use Rattle.h26x_reorder.proofs.BufferLemmas.{few_is}
use Rattle.h26x_reorder.proofs.NewestLemmas.{told, IsTold}
use Rattle.h26x_reorder.proofs.order.NumberOrder.may_go.Given.{Over}
use Rattle.h26x_reorder.proofs.order.NumberOrder.may_go.Goals as goal

-- what the numbers of the first and the last tell
it : (g : Over) (c : goal.Else-first-due g) → IsTold c.self.inside.window c.in-Some.due c.self.inside.newest c.args.first (map g.T.Numbered.numbered c.self.inside.held)
it g c =
    let held = map g.T.Numbered.numbered c.self.inside.held in
    let order = subst (λ (due : Option ℕ). IsHeldInOrder due held) c.in-Some.is c.self.invariant.buffer.order in
    told c.self.inside.window c.in-Some.due c.self.inside.newest c.args.first held
    (subst (λ (b : BufferState RtpBody). first_number b.held ≡ Some c.args.first) (sym c.self.view_is) c.requires) c.self.invariant.last order.1

pub overflow_sub-result : goal.overflow_sub-result
overflow_sub-result g c = (it g c).rise

pub returns-else-first-due-clause-ready : goal.returns-else-first-due-clause-ready
returns-else-first-due-clause-ready g c =
    let d = c.in-Some.due in
    let first = c.args.first in
    let newest = c.self.inside.newest in
    let window = c.self.inside.window in
    let e = it g c in
    let le = e.rise in
    let other : (first == d) ≡ false = grind (arith, nat_tests, c.if-first-due.false) in
    let tests : nat_le window (distance_ahead d newest - distance_ahead d first + 1) ≡ nat_le (distance_ahead d first + window) (distance_ahead d newest + 1) = grind (arith, nat_tests) in
    tests
    ∙ ap (λ (b : Bool). b || nat_le (distance_ahead d first + window) (distance_ahead d newest + 1)) (sym other)
    ∙ sym e.ready
    ∙ ap (λ (due : Option ℕ). is_some (first_ready window due (map g.T.Numbered.numbered c.self.inside.held))) (sym c.in-Some.is)
    ∙ ap (λ (b : BufferState RtpBody). is_some (next_packet b)) c.self.view_is

pub returns-else-first-due-clause-few : goal.returns-else-first-due-clause-few
returns-else-first-due-clause-few g c = λ not. few_is c.args.self.now (subst IsBufferState c.self.view_is c.self.invariant.buffer) _ (returns-else-first-due-clause-ready g c) not
