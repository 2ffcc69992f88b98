use Rattle.std.proofs.Common.{rules, ◌≡◌, ◌∙◌, ◌∷◌, [], ap, subst, sym, map, List, Some, ℕ}
use Rattle.std.specs.Prelude.{slice_get}
use Rattle.std.specs.Option.{option_map}
use Rattle.h26x_core.specs.Sequence.{next_sequence_number}
use Rattle.h26x_reorder.specs.Rtp.{RtpBody}
use Rattle.h26x_reorder.specs.ReorderBuffer.{BufferState, buffer_state, without_first_of, without_first, IsHeldInOrder, last_number}
use Rattle.h26x_reorder.proofs.BufferLemmas.{rest_in_order, empty_is}
use Rattle.h26x_reorder.proofs.NewestLemmas.{last_without}
use Rattle.h26x_reorder.proofs.order.NumberOrder.pop_first.Given.{Over}
use Rattle.h26x_reorder.proofs.order.NumberOrder.pop_first.Goals as goal

-- nothing is held where nothing came out
none : (g : Over) (c : goal.After-from_residual g) → c.self.inside.held ≡ []
none g c = empty_is c.self.inside.held (λ some. let bad = c.in_err-first.ensures.variant.1 some in cc)

pub returns-in_err-first-clause-packet : goal.returns-in_err-first-clause-packet
returns-in_err-first-clause-packet g c =
    let n = g.T.Numbered.numbered in
    ap (option_map n) c.from_residual.ensures
    ∙ sym (ap (λ l. slice_get (map n l) 0) (none g c))
    ∙ ap (λ (b : BufferState RtpBody). slice_get b.held 0) c.self.view_is

pub returns-in_err-first-clause-after : goal.returns-in_err-first-clause-after
returns-in_err-first-clause-after g c =
    let n = g.T.Numbered.numbered in
    let window = c.self.inside.window in
    let due = c.self.inside.due in
    ap (λ l. buffer_state window due (map n l)) (sym c.in_err-first.ensures.items ∙ none g c)
    ∙ sym (ap (λ l. without_first_of window due (map n l)) (none g c))
    ∙ ap (λ (b : BufferState RtpBody). without_first b) c.self.view_is

pub invariant_of-self-2 : goal.invariant_of-self-2
invariant_of-self-2 g c =
    let n = g.T.Numbered.numbered in
    let rest = c.pop_first.new.self in
    let items : c.self.inside.held ≡ c.in_ok-first.first ∷ rest = search rules in
    let order = subst (λ (l : List (ℕ × RtpBody)). IsHeldInOrder c.self.inside.due l) (ap (map n) items) c.self.invariant.buffer.order in
    let next = rest_in_order c.self.inside.due (n c.in_ok-first.first) (map n rest) order in
    record {
      buffer = record {
        some = c.self.invariant.buffer.some;
        half = c.self.invariant.buffer.half;
        order = subst (λ (k : ℕ). IsHeldInOrder (Some (next_sequence_number k)) (map n rest)) (sym c.sequence.ensures) next;
      };
      last = last_without c.self.inside.newest (n c.in_ok-first.first) (map n rest) (sym (ap (λ l. last_number c.self.inside.newest (map n l)) items) ∙ c.self.invariant.last);
    }
