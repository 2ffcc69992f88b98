use Rattle.std.proofs.Common.{rules, ◌≡◌, ◌∙◌, ◌++◌, ◌∷◌, [], true, ap, subst, sym, map}
use Rattle.h26x_reorder.specs.Rtp.{RtpBody}
use Rattle.h26x_reorder.specs.ReorderBuffer.{BufferState, buffer_state, are_beyond, push_answer, after_push, IsHeldInOrder, last_number}
use Rattle.h26x_reorder.specs.NumberOrder.{IsNumberOrder}
use Rattle.h26x_reorder.specs.declared.pushed.Pushed.TheVariants as pushes
use Rattle.h26x_reorder.proofs.BeyondLemmas.{ArePutLast, two_last, map_two}
use Rattle.h26x_reorder.proofs.NewestLemmas.{last_of_two}
use Rattle.h26x_reorder.proofs.order.NumberOrder.put_two.Given.{Over}
use Rattle.h26x_reorder.proofs.order.NumberOrder.put_two.Goals as goal

pub invariant_of-self : goal.invariant_of-self
invariant_of-self g c =
    let same : c.push_two.new.self ≡ c.self.inside.held = search rules in
    subst (λ l. IsNumberOrder c.self.inside.newest (buffer_state c.self.inside.window c.self.inside.due (map g.T.Numbered.numbered l))) (sym same) c.self.invariant

-- both put last
put : (g : Over) (c : goal.After-self-1 g) → ArePutLast (buffer_state c.self.inside.window c.self.inside.due (map g.T.Numbered.numbered c.self.inside.held))
    (g.T.Numbered.numbered c.args.first) (g.T.Numbered.numbered c.args.second)
put g c =
    let n = g.T.Numbered.numbered in
    let b = buffer_state c.self.inside.window c.self.inside.due (map n c.self.inside.held) in
    two_last b (n c.args.first) (n c.args.second) c.requires.first_small c.requires.second_small c.self.invariant.buffer.order
    (subst (λ (s : BufferState RtpBody). are_beyond s (n c.args.first).0 (n c.args.second).0 ≡ true) (sym c.self.view_is) c.requires.beyond)

items : (g : Over) (c : goal.After-self-1 g) → map g.T.Numbered.numbered c.push_two.new.self
    ≡ map g.T.Numbered.numbered c.self.inside.held ++ g.T.Numbered.numbered c.args.first ∷ g.T.Numbered.numbered c.args.second ∷ []
items g c = ap (map g.T.Numbered.numbered) c.in_ok-push_two.ensures.put ∙ map_two g.T.Numbered.numbered c.self.inside.held c.args.first c.args.second

pub invariant_of-self-2 : goal.invariant_of-self-2
invariant_of-self-2 g c = record {
  buffer = record {
    some = c.self.invariant.buffer.some;
    half = c.self.invariant.buffer.half;
    order = subst (IsHeldInOrder c.self.inside.due) (sym (items g c)) (put g c).order;
  };
  last = ap (last_number c.sequence-number.result) (items g c)
      ∙ last_of_two c.sequence-number.result (map g.T.Numbered.numbered c.self.inside.held) (g.T.Numbered.numbered c.args.first) (g.T.Numbered.numbered c.args.second) ∙ sym c.sequence-number.ensures;
}

pub returns-clause-after : goal.returns-clause-after
returns-clause-after g c =
    let p = g.T.Numbered.numbered c.args.first in
    let q = g.T.Numbered.numbered c.args.second in
    ap (buffer_state c.self.inside.window c.self.inside.due) (items g c)
    ∙ (put g c).is
    ∙ ap (λ (s : BufferState RtpBody). after_push (after_push s p) q) c.self.view_is

pub returns-clause-first : goal.returns-clause-first
returns-clause-first g c = subst (λ (s : BufferState RtpBody). push_answer s (g.T.Numbered.numbered c.args.first).0 ≡ pushes.Held) c.self.view_is (put g c).first

pub returns-clause-second : goal.returns-clause-second
returns-clause-second g c =
    subst (λ (s : BufferState RtpBody). push_answer (after_push s (g.T.Numbered.numbered c.args.first)) (g.T.Numbered.numbered c.args.second).0 ≡ pushes.Held) c.self.view_is (put g c).second
