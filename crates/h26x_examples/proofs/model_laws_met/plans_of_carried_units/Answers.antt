use Rattle.std.proofs.Common.{sym, subst}
use Rattle.h26x_model.specs.Payload.Facts.{IsPayloadFormat}
use Rattle.h26x_examples.proofs.model_laws_met.plans_of_carried_units.Goals as goal

pub returns-clause-sent : goal.returns-clause-sent
returns-clause-sent c = λ codec has_donl s calls sends is are carried.
    let facts : IsPayloadFormat s.format = subst IsPayloadFormat (sym sends) (c.formats_meet_the_facts.ensures codec has_donl) in
    c.what_is_carried_can_be_sent.ensures.can_send s.format facts.reads _ (c.what_is_carried_can_be_sent.ensures.planned s calls is facts.sets facts.other are carried)

pub returns-clause-detected : goal.returns-clause-detected
returns-clause-detected c = λ codec has_donl.
    c.key_units_are_detected.ensures _ (c.formats_meet_the_facts.ensures codec has_donl).detects (c.formats_meet_the_facts.ensures codec has_donl).reads
