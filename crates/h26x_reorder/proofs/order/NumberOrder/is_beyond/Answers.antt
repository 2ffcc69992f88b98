use Rattle.std.proofs.Common.{rules, ◌≡◌, true, subst, sym, map}
use Rattle.h26x_reorder.specs.ReorderBuffer.{BufferState, buffer_state, is_beyond, push_answer}
use Rattle.h26x_reorder.specs.declared.pushed.Pushed.TheVariants as pushes
use Rattle.h26x_reorder.proofs.BeyondLemmas.{beyond_held}
use Rattle.h26x_reorder.proofs.order.NumberOrder.is_beyond.Goals as goal

pub returns-then-newest-due-clause-held : goal.returns-then-newest-due-clause-held
returns-then-newest-due-clause-held g c = λ is.
    let b = buffer_state c.self.inside.window c.self.inside.due (map g.T.Numbered.numbered c.self.inside.held) in
    let number = c.args.number in
    let here : is_beyond c.args.self.now number ≡ true = search rules in
    let there : is_beyond b number ≡ true = subst (λ (s : BufferState _). is_beyond s number ≡ true) (sym c.self.view_is) here in
    subst (λ (s : BufferState _). push_answer s number ≡ pushes.Held) c.self.view_is (beyond_held b number c.self.invariant.buffer.order there)
