use Rattle.std.proofs.Common.{◌-◌, refl}
use Rattle.h26x_cut.proofs.SearchLemmas.{code_by_mark, first_is, none_is}
use Rattle.h26x_cut.proofs.search.first_code.Goals as goal

pub returns-in_err-mark : goal.returns-in_err-mark
returns-in_err-mark c = rw c.from_residual.ensures (none_is c.args.bytes.now c.in_err-mark.ensures)

pub returns-then-is_behind_zeros : goal.returns-then-is_behind_zeros
returns-then-is_behind_zeros c =
    let bytes = c.args.bytes.now in
    let mark = c.in_ok-mark.mark in
    first_is bytes (mark - 2) c.in_ok-mark.ensures.3 (code_by_mark bytes 0 mark c.in_ok-mark.ensures (c.if-is_behind_zeros.ensures.0 refl))
