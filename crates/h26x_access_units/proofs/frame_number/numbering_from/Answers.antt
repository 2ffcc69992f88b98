use Rattle.std.proofs.Common.{◌∙◌, ap}
use Rattle.h26x_access_units.specs.Bits.{code_of, first_bit, behind_bit, behind_codes}
use Rattle.h26x_access_units.specs.FrameNumber.{behind_order_count, numbering_by}
use Rattle.h26x_access_units.proofs.frame_number.numbering_from.Goals as goal

pub returns : goal.returns
returns c =
    let start = code_of c.args.bits.now in
    let order = c.pass_order_count.ensures ∙ ap behind_order_count c.code-width.ensures.behind in
    let at = c.pass.ensures ∙ ap (λ bits. (code_of bits).behind) order in
    let gaps = c.bit-has_gaps.ensures.bit ∙ ap first_bit at in
    let frames = c.bit.ensures.bit ∙ ap first_bit (c.pass-2.ensures ∙ ap (behind_codes 2) (c.bit-has_gaps.ensures.behind ∙ ap behind_bit at)) in
    let has = c.args.has_plane in
    let ends = (code_of (behind_order_count start.behind)).behind in
    c.numbering_by.ensures
    ∙ ap (λ n. numbering_by n has c.bit-has_gaps.result c.bit.result) c.code-width.ensures.number
    ∙ ap (λ b. numbering_by start.value has b c.bit.result) gaps
    ∙ ap (λ b. numbering_by start.value has (first_bit ends) b) frames
