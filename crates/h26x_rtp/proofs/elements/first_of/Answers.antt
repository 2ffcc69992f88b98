use Rattle.std.proofs.Common.{◌∷◌, ap, ◌∙◌, sym, Ok}
use Rattle.std.specs.Option.{option_map}
use Rattle.h26x_rtp.specs.Elements.{elements_in}
use Rattle.h26x_rtp.specs.ElementViews.{element_view, placed_view}
use Rattle.h26x_rtp.proofs.PlacedLemmas.{one_told, none_told, refusal_told}
use Rattle.h26x_rtp.proofs.elements.first_of.Goals as goal

pub returns-in-Ok-Some : goal.returns-in-Ok-Some
returns-in-Ok-Some c =
    let told = c.in-Ok-Some.ensures.placed ∙ ap (λ found. Ok (option_map placed_view found)) c.in-Ok-Some.field-0-is in
    one_told c.args.form c.args.bytes.now (placed_view c.in-Ok-Some.it) told
    ∙ ap (λ rest. element_view c.in-Ok-Some.it.element ∷ elements_in c.args.form rest) (sym c.split_at.ensures.back)

pub returns-in-Ok-None : goal.returns-in-Ok-None
returns-in-Ok-None c = none_told c.args.form c.args.bytes.now (c.in-Ok-None.ensures.placed ∙ ap (λ found. Ok (option_map placed_view found)) c.in-Ok-None.field-0-is)

pub returns-in-Err : goal.returns-in-Err
returns-in-Err c = refusal_told c.args.form c.args.bytes.now _ c.in-Err.ensures.placed
