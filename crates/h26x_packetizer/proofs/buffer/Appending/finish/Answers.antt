use Rattle.std.proofs.Common.{◌≡◌, ◌≤◌, length, drop, [], ap, sym, ◌∙◌, arith, IsTrue}
use Rattle.std.proofs.lemmas.List.{length-drop}
use Rattle.h26x_packetizer.specs.Buffer.{AppendedView}
use Rattle.h26x_packetizer.proofs.buffer.Appending.finish.Goals as goal

pub returns-else-is_within-clause-free : goal.returns-else-is_within-clause-free
returns-else-is_within-clause-free c = λ none.
    let here : drop c.self.inside.first c.self.inside.buffer.packets ≡ [] = ap (λ (a : AppendedView). a.after) c.self.view_is ∙ none in
    let gone = ap length here in
    let long = length-drop c.self.inside.first c.self.inside.buffer.packets in
    let few : length c.self.inside.buffer.packets ≤ c.self.inside.first = omega (arith, gone, long) in
    let yes : IsTrue c.is_within.result = c.is_within.ensures.1 (c.self.invariant.memory few) in
    sym c.if-is_within.false ∙ yes
