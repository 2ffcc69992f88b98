use Rattle.std.proofs.Common.{◌-◌, length, refl}
use Rattle.h26x_cut.proofs.SearchLemmas.{code_by_mark, first_is, none_is, none_joined}
use Rattle.h26x_cut.proofs.behind.first_behind.Goals as goal

pub returns-in_err-mark : goal.returns-in_err-mark
returns-in_err-mark c =
    let bytes = c.args.bytes.now in
    let quiet = c.skip_quiet-quiet.result in
    let passed = none_joined bytes 0 c.loop-near.place quiet c.loop-near.invariant.passed c.skip_quiet-quiet.ensures.passed in
    rw c.from_residual.ensures (none_is bytes (none_joined bytes 0 quiet (length bytes) passed c.in_err-mark.ensures))

pub returns-then-is_behind_zeros : goal.returns-then-is_behind_zeros
returns-then-is_behind_zeros c =
    let bytes = c.args.bytes.now in
    let mark = c.in_ok-mark.mark in
    let quiet = c.skip_quiet-quiet.result in
    let passed = none_joined bytes 0 c.loop-near.place quiet c.loop-near.invariant.passed c.skip_quiet-quiet.ensures.passed in
    first_is bytes (mark - 2) (none_joined bytes 0 quiet (mark - 2) passed c.in_ok-mark.ensures.3)
    (code_by_mark bytes quiet mark c.in_ok-mark.ensures (c.if-is_behind_zeros.ensures.0 refl))
