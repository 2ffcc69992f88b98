use Rattle.std.proofs.Common.{List, ℕ, Some, ap, sym, ◌∙◌, ◌+◌, ◌-◌, drop, length, arith}
use Rattle.std.proofs.lemmas.List.{take_all, length-drop}
use Rattle.h26x_cut.proofs.SliceLemmas.{some_behind, none_behind}
use Rattle.h26x_cut.proofs.codes.behind_code.Goals as goal

pub returns-in-Some : goal.returns-in-Some
returns-in-Some c =
    let place = c.in-Some.place in
    let bytes = c.args.bytes.now in
    let all = take_all (length bytes - (place + 3)) (drop (place + 3) bytes) (simp length-drop (omega arith)) in
    ap (λ (rest : List ℕ). Some rest) all ∙ sym (some_behind bytes place c.in-Some.ensures)

pub returns-in-None : goal.returns-in-None
returns-in-None c = sym (none_behind c.args.bytes.now c.in-None.ensures)
