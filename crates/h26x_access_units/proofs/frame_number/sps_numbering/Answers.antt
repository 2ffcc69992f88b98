use Rattle.std.proofs.Common.{◌∙◌, ap, sym, cond, Bool, false}
use Rattle.h26x_access_units.specs.Bits.{unit_bits, code_of, bits_number, behind_bits}
use Rattle.h26x_access_units.specs.FrameNumber.{numbering_from, numbering_of_profile, has_chroma_plane, behind_chroma}
use Rattle.h26x_access_units.proofs.frame_number.sps_numbering.Goals as goal

pub returns-then-tells_chroma : goal.returns-then-tells_chroma
returns-then-tells_chroma c =
    let start = unit_bits c.args.unit.now in
    let header = c.number.ensures.behind ∙ ap (behind_bits 8) c.of-bits.ensures in
    let profile = c.number-profile.ensures.number ∙ ap (bits_number 8) header in
    let level = c.number-2.ensures.behind ∙ ap (behind_bits 16) (c.number-profile.ensures.behind ∙ ap (behind_bits 8) header) in
    let at = c.code.ensures.behind ∙ ap (λ bits. (code_of bits).behind) level in
    let behind = (code_of (behind_bits 16 (behind_bits 8 (behind_bits 8 start)))).behind in
    let is = sym c.tells_chroma.ensures ∙ c.if-tells_chroma.true in
    let plane = c.read_chroma-has_plane.ensures.plane ∙ ap has_chroma_plane at in
    let chroma = c.read_chroma-has_plane.ensures.behind ∙ ap behind_chroma at in
    c.numbering_from.ensures
    ∙ ap (λ b. numbering_from b c.read_chroma-has_plane.new.bits) plane
    ∙ ap (numbering_from (has_chroma_plane behind)) chroma
    ∙ sym (ap (λ (b : Bool). cond b (numbering_from (has_chroma_plane behind) (behind_chroma behind)) (numbering_from false behind)) is)
    ∙ ap (λ n. numbering_of_profile n behind) profile

pub returns : goal.returns
returns c =
    let start = unit_bits c.args.unit.now in
    let header = c.number.ensures.behind ∙ ap (behind_bits 8) c.of-bits.ensures in
    let profile = c.number-profile.ensures.number ∙ ap (bits_number 8) header in
    let level = c.number-2.ensures.behind ∙ ap (behind_bits 16) (c.number-profile.ensures.behind ∙ ap (behind_bits 8) header) in
    let at = c.code.ensures.behind ∙ ap (λ bits. (code_of bits).behind) level in
    let behind = (code_of (behind_bits 16 (behind_bits 8 (behind_bits 8 start)))).behind in
    let is = sym c.tells_chroma.ensures ∙ c.if-tells_chroma.false in
    c.numbering_from-2.ensures
    ∙ ap (numbering_from false) at
    ∙ sym (ap (λ (b : Bool). cond b (numbering_from (has_chroma_plane behind) (behind_chroma behind)) (numbering_from false behind)) is)
    ∙ ap (λ n. numbering_of_profile n behind) profile
