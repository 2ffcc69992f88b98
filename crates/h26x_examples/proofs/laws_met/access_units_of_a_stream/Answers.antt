use Rattle.std.proofs.Common.{◌∙◌, ap, sym, subst, ◌++◌, List}
use Rattle.h26x_model.specs.Payload.Facts.{IsPayloadFormat}
use Rattle.std.specs.Prelude.{false}
use Rattle.h26x_assembler.specs.AccessUnit.{AccessUnitValue}
use Rattle.h26x_examples.proofs.laws_met.access_units_of_a_stream.Goals as goal

pub returns : goal.returns
returns c = λ codec has_donl most limit w s calls first places packets answers receives sends start none_expected each none stream apart within.
    let came = c.access_units_are_those_left.ensures most limit w (subst IsPayloadFormat (sym receives) (c.formats_meet_the_facts.ensures codec has_donl)) start packets answers each none
    s calls first false places (receives ∙ sym sends) none_expected stream apart in
    came.behind ∙ ap (λ (l : List AccessUnitValue). w.ended ++ l) (c.access_units_within_the_limit_stay.ensures limit came.given _ came.each within)
