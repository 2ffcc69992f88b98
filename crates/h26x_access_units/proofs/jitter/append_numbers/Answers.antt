use Rattle.std.proofs.Common.{rules, ◌≡◌, ◌∙◌, ap, sym, ℕ, List, [], ◌∷◌, ◌++◌, append_assoc, arith}
use Rattle.std.proofs.lemmas.List.{append-nil}
use Rattle.std.specs.Prelude.{suc}
use Rattle.h26x_core.specs.Sequence.{next_sequence_number}
use Rattle.h26x_access_units.specs.Missing.{numbers_from}
use Rattle.h26x_access_units.proofs.jitter.append_numbers.Goals as goal

pub loop-preserved : goal.loop-preserved
loop-preserved c = λ left e.
    let rest = numbers_from (next_sequence_number c.loop.number) left in
    let items : c.push.new.self.items ≡ c.loop.numbers.items ++ c.loop.number ∷ [] = search rules in
    c.loop.invariant (suc left) (omega arith)
    ∙ sym (append_assoc c.loop.numbers.items (c.loop.number ∷ []) rest)
    ∙ ap (λ (l : List ℕ). l ++ rest) (sym items)

pub returns : goal.returns
returns c = sym (c.loop.invariant 0 (omega arith) ∙ append-nil c.loop.numbers.items)
