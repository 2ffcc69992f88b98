use Rattle.std.proofs.Common.{rules, arith, ◌≡◌, ◌-◌, ◌++◌, ◌∙◌, sym, ap, length}
use Rattle.std.specs.List.{insert}
use Rattle.std.proofs.lemmas.List.Edits.{insert-append_right}
use Rattle.std.proofs.lemmas.Result.{on_ok_weaker}
use Rattle.h26x_reorder.proofs.parted.Parted.insert_within.Goals as goal

pub returns-else-place-len-clause-put : goal.returns-else-place-len-clause-put
returns-else-place-len-clause-put g c =
    let front = c.self.inside.front.items in
    let back = c.self.inside.back.items in
    let new = c.insert-else-place-len.new.self.items in
    let len : length front ≡ c.len-len.result = search rules in
    let same : front ++ back ≡ c.args.self.now = search rules in
    on_ok_weaker c.insert-else-place-len.result
    (λ (items : new ≡ insert back (c.args.place - c.len-len.result) c.args.value).
    ap (λ l. front ++ l) items
    ∙ sym (insert-append_right front back c.len-len.result c.args.place c.args.value len (omega arith))
    ∙ ap (λ l. insert l c.args.place c.args.value) same)
    c.insert-else-place-len.ensures.items
