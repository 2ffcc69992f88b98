use Rattle.std.proofs.Common.{◌∙◌, ap}
use Rattle.h26x_access_units.specs.Bits.{bits_number, behind_bits, behind_codes}
use Rattle.h26x_access_units.specs.FrameNumber.{plane_bits}
use Rattle.h26x_access_units.proofs.frame_number.frame_number.Goals as goal

pub returns-clause-number : goal.returns-clause-number
returns-clause-number c =
    let at = c.pass.ensures ∙ ap (behind_codes 3) c.of-bits.ensures in
    c.number-2.ensures.number
    ∙ ap (bits_number c.args.it.bits) (c.number.ensures.behind ∙ ap (λ n. behind_bits n c.pass.new.self) c.plane_bits.ensures ∙ ap (behind_bits (plane_bits c.args.it)) at)
