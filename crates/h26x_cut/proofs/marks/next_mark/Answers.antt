use Rattle.std.proofs.Common.{◌+◌, ◌∙◌, arith}
use Rattle.std.proofs.lemmas.List.{take_rest}
use Rattle.h26x_cut.proofs.SearchLemmas.{next_is, no_mark, none_at_end}
use Rattle.h26x_cut.proofs.marks.next_mark.Goals as goal

pub returns-in_err-get : goal.returns-in_err-get
returns-in_err-get c =
    let short = c.in_err-get.ensures.lookup.0 in
    rw c.from_residual.ensures (none_at_end c.args.bytes.now c.args.place (omega (arith, short)))

pub returns-in_err-near : goal.returns-in_err-near
returns-in_err-near c =
    let behind = c.in_ok-get.ensures.lookup.0.2 ∙ take_rest c.args.bytes.now (c.args.place + 2) in
    rw c.from_residual-in_err-near.ensures (no_mark c.args.bytes.now c.args.place (rw behind at c.in_err-near.ensures))

pub returns : goal.returns
returns c =
    let behind = c.in_ok-get.ensures.lookup.0.2 ∙ take_rest c.args.bytes.now (c.args.place + 2) in
    next_is c.args.bytes.now c.args.place c.in_ok-near.near (rw behind at c.in_ok-near.ensures)
