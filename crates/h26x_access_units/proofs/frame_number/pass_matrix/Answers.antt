use Rattle.std.proofs.Common.{◌∙◌, ap, sym, cond, Bool}
use Rattle.h26x_access_units.specs.Bits.{behind_bit}
use Rattle.h26x_access_units.specs.FrameNumber.{behind_lists}
use Rattle.h26x_access_units.proofs.frame_number.pass_matrix.Goals as goal

pub returns-then-bit : goal.returns-then-bit
returns-then-bit c =
    let start = c.args.bits.now in
    let count = c.args.count in
    let is = sym c.bit.ensures.bit ∙ c.if-bit.true in
    c.pass_lists-then-bit.ensures
    ∙ ap (behind_lists count 64) (c.pass_lists.ensures ∙ ap (behind_lists 6 16) c.bit.ensures.behind)
    ∙ sym (ap (λ (b : Bool). cond b (behind_lists count 64 (behind_lists 6 16 (behind_bit start))) (behind_bit start)) is)
