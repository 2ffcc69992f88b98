use Rattle.std.proofs.Common.{sym, subst}
use Rattle.h26x_model.specs.Payload.Facts.{IsPayloadFormat}
use Rattle.h26x_transmission.proofs.laws.key_units_are_detected.Goals as goal

pub returns : goal.returns
returns c = λ codec has_donl s calls of.
    c.what_calls_send_is_in_order_and_detected.ensures.detected s calls (subst IsPayloadFormat (sym of) (c.formats_meet_the_facts.ensures codec has_donl))
