use Rattle.std.proofs.Common.{◌-◌, length, refl}
use Rattle.std.proofs.lemmas.List.{take_rest}
use Rattle.h26x_cut.proofs.SearchLemmas.{code_by_mark, first_by_search, first_is, none_by_search, none_is, none_joined}
use Rattle.h26x_cut.proofs.ZeroLemmas.{no_code_without_zeros}
use Rattle.h26x_cut.proofs.behind.first_by_zeros.Goals as goal

pub returns-in_err-mark-in-Some : goal.returns-in_err-mark-in-Some
returns-in_err-mark-in-Some c =
    let bytes = c.args.bytes.now in
    let place = c.loop-tests.place in
    let zeros = c.in-Some.zeros in
    let passed = none_joined bytes 0 place zeros c.loop-tests.invariant.passed (no_code_without_zeros bytes place zeros c.in-Some.ensures.3) in
    rw c.from_residual.ensures (none_is bytes (none_joined bytes 0 zeros (length bytes) passed c.in_err-mark-in-Some.ensures))

pub returns-then-is_behind_zeros : goal.returns-then-is_behind_zeros
returns-then-is_behind_zeros c =
    let bytes = c.args.bytes.now in
    let mark = c.in_ok-mark-in-Some.mark in
    let place = c.loop-tests.place in
    let zeros = c.in-Some.zeros in
    let passed = none_joined bytes 0 place zeros c.loop-tests.invariant.passed (no_code_without_zeros bytes place zeros c.in-Some.ensures.3) in
    first_is bytes (mark - 2) (none_joined bytes 0 zeros (mark - 2) passed c.in_ok-mark-in-Some.ensures.3)
    (code_by_mark bytes zeros mark c.in_ok-mark-in-Some.ensures (c.if-is_behind_zeros.ensures.0 refl))

pub returns-in_err-rest : goal.returns-in_err-rest
returns-in_err-rest c =
    let bytes = c.args.bytes.now in
    let place = c.loop-tests.place in
    let rest = take_rest bytes place in
    let finds = rw rest at c.in_err-rest.ensures in
    rw c.from_residual-in_err-rest.ensures (none_by_search bytes place c.loop-tests.invariant.within c.loop-tests.invariant.passed finds)

pub returns : goal.returns
returns c =
    let bytes = c.args.bytes.now in
    let place = c.loop-tests.place in
    let rest = take_rest bytes place in
    let finds = rw rest at c.in_ok-rest.ensures in
    first_by_search bytes place c.in_ok-rest.rest c.loop-tests.invariant.passed finds
