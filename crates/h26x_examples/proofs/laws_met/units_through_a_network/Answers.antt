use Rattle.std.proofs.Common.{◌∙◌, sym, subst, arith}
use Rattle.h26x_model.specs.Payload.Facts.{IsPayloadFormat}
use Rattle.h26x_examples.proofs.laws_met.units_through_a_network.Goals as goal

pub returns : goal.returns
returns c = λ codec has_donl most w s calls first places answers receives sends network each none.
    c.units_come_through_a_network.ensures 64 most w (omega arith) (omega arith) (subst IsPayloadFormat (sym receives) (c.formats_meet_the_facts.ensures codec has_donl))
    s calls first places answers (receives ∙ sym sends) network each none
