use Rattle.std.proofs.Common.{◌∙◌, ap, ◌==◌}
use Rattle.h26x_access_units.specs.Bits.{code_of, behind_bit, behind_codes}
use Rattle.h26x_access_units.specs.FrameNumber.{behind_matrix, behind_bit_if, long_lists}
use Rattle.h26x_access_units.proofs.frame_number.read_chroma.Goals as goal

pub returns-clause-behind : goal.returns-clause-behind
returns-clause-behind c =
    let it = code_of c.args.bits.now in
    let format = c.code-format.ensures.number in
    let plane = c.bit_if-has_plane.ensures.behind ∙ ap (λ n. behind_bit_if (n == 3) c.code-format.new.self) format ∙ ap (behind_bit_if (it.value == 3)) c.code-format.ensures.behind in
    let at = c.bit.ensures.behind ∙ ap behind_bit (c.pass.ensures ∙ ap (behind_codes 2) plane) in
    let lists = c.long_lists.ensures ∙ ap long_lists format in
    c.pass_matrix.ensures ∙ ap (λ n. behind_matrix n c.bit.new.self) lists ∙ ap (behind_matrix (long_lists it.value)) at
