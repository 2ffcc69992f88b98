use Rattle.std.proofs.Common.{◌≡◌, ◌∙◌, ap, rules, sym}
use Rattle.std.specs.String.{string_bytes}
use Rattle.base64.specs.Engines.{standard}
use Rattle.base64.specs.GeneralPurpose.{encode_of}
use Rattle.h26x_fmtp.specs.Units.{units_text}
use Rattle.h26x_fmtp.specs.UnitsViews.{units_view}
use Rattle.h26x_fmtp.proofs.UnitsLemmas.{units_on, units_all}
use Rattle.h26x_fmtp.proofs.units.write_units.Goals as goal

pub loop-unit-init : goal.loop-unit-init
loop-unit-init c =
    let others = units_view c.in-Some.others.now in
    let first : string_bytes c.encode_string.new.output ≡ encode_of standard c.in-Some.first.now.items = search rules in
    ap (λ t. units_on t others) first ∙ units_all c.in-Some.first.now.items others ∙ ap (λ l. units_text (units_view l)) (sym c.in-Some.ensures.cases.0)
