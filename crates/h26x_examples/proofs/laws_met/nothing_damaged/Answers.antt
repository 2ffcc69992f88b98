use Rattle.std.proofs.Common.{◌∙◌, sym, subst}
use Rattle.h26x_model.specs.Payload.Facts.{IsPayloadFormat}
use Rattle.h26x_examples.proofs.laws_met.nothing_damaged.Goals as goal

pub returns : goal.returns
returns c = λ codec has_donl most w s calls first places packets answers receives sends each delivery.
    c.nothing_damaged_is_written.ensures most w (subst IsPayloadFormat (sym receives) (c.formats_meet_the_facts.ensures codec has_donl)) packets answers each
    s calls first places (receives ∙ sym sends) delivery
