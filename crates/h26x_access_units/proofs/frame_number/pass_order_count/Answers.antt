use Rattle.std.proofs.Common.{◌∙◌, ap, sym}
use Rattle.h26x_access_units.specs.Bits.{code_of, behind_bit, behind_codes}
use Rattle.h26x_access_units.specs.FrameNumber.{behind_cycle, behind_order_count_of}
use Rattle.h26x_access_units.proofs.frame_number.pass_order_count.Goals as goal

pub returns-in-1 : goal.returns-in-1
returns-in-1 c =
    let behind = (code_of c.args.bits.now).behind in
    let it = sym c.in-1.is ∙ c.code.ensures.number in
    c.pass_cycle.ensures
    ∙ ap behind_cycle (c.pass-in-1.ensures ∙ ap (behind_codes 2) (c.bit.ensures.behind ∙ ap behind_bit c.code.ensures.behind))
    ∙ ap (λ n. behind_order_count_of n behind) it
