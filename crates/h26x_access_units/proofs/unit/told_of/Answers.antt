use Rattle.std.proofs.Common.{rules, ◌≡◌, ◌∙◌, ap, sym, Bool, true}
use Rattle.std.specs.Option.{option_map}
use Rattle.h26x_assembler.specs.AccessUnit.{access_unit_value}
use Rattle.h26x_access_units.specs.declared.content.Content.{Content}
use Rattle.h26x_access_units.specs.Content.{slice_head, slice_content, content_of}
use Rattle.h26x_access_units.specs.Decoder.{decoder_after}
use Rattle.h26x_access_units.proofs.SliceLemmas.{decoder_on}
use Rattle.h26x_access_units.proofs.unit.told_of.Goals as goal

pub returns-in-Some-clause-decoder : goal.returns-in-Some-clause-decoder
returns-in-Some-clause-decoder c =
    let d = c.args.decoder.now in
    let v = access_unit_value c.args.unit.now in
    let head = option_map (λ unit. slice_head unit.now) c.in-Some.framed in
    let told : content_of c.args.is_avc v.extra v.bytes ≡ slice_content c.in-Some.slice head = search rules in
    c.go_on.ensures.after
    ∙ sym (decoder_on d c.args.has_sets v.extra c.args.numbers c.in-Some.slice head c.if-numbers.true c.in-Some.ensures.plain)
    ∙ sym (ap (λ (k : Content). decoder_after d c.args.has_sets true v.extra c.args.numbers k) told)
    ∙ sym (ap (λ (b : Bool). decoder_after d c.args.has_sets b v.extra c.args.numbers (content_of c.args.is_avc v.extra v.bytes)) c.if-unit.true)
