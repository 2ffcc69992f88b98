use Rattle.std.proofs.Common.{◌-◌, length, refl}
use Rattle.std.proofs.lemmas.List.{take_rest}
use Rattle.h26x_cut.proofs.SearchLemmas.{code_by_mark, first_by_search, first_is, none_by_search, none_is, none_joined}
use Rattle.h26x_cut.proofs.portable.first_behind.Goals as goal

pub returns-in_err-mark : goal.returns-in_err-mark
returns-in_err-mark c =
    let bytes = c.args.bytes.now in
    rw c.from_residual.ensures (none_is bytes (none_joined bytes 0 c.loop-failed.place (length bytes) c.loop-failed.invariant.passed c.in_err-mark.ensures))

pub returns-then-is_behind_zeros : goal.returns-then-is_behind_zeros
returns-then-is_behind_zeros c =
    let bytes = c.args.bytes.now in
    let mark = c.in_ok-mark.mark in
    let place = c.loop-failed.place in
    first_is bytes (mark - 2) (none_joined bytes 0 place (mark - 2) c.loop-failed.invariant.passed c.in_ok-mark.ensures.3)
    (code_by_mark bytes place mark c.in_ok-mark.ensures (c.if-is_behind_zeros.ensures.0 refl))

pub returns-in_err-rest : goal.returns-in_err-rest
returns-in_err-rest c =
    let bytes = c.args.bytes.now in
    let place = c.loop-failed.place in
    let rest = take_rest bytes place in
    let finds = rw rest at c.in_err-rest.ensures in
    rw c.from_residual-in_err-rest.ensures (none_by_search bytes place c.loop-failed.invariant.within c.loop-failed.invariant.passed finds)

pub returns : goal.returns
returns c =
    let bytes = c.args.bytes.now in
    let place = c.loop-failed.place in
    let rest = take_rest bytes place in
    let finds = rw rest at c.in_ok-rest.ensures in
    first_by_search bytes place c.in_ok-rest.rest c.loop-failed.invariant.passed finds
