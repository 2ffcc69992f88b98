use Rattle.std.proofs.Common.{sym, subst}
use Rattle.h26x_model.specs.Payload.Facts.{IsPayloadFormat}
use Rattle.h26x_examples.proofs.laws_met.whole_access_units.Goals as goal

pub returns-clause-sent : goal.returns-clause-sent
returns-clause-sent c = λ codec has_donl most s avc before closed calls mask sends it.
    c.whole_access_units_are_those_sent.ensures most s avc calls (subst IsPayloadFormat (sym sends) (c.formats_meet_the_facts.ensures codec has_donl)) it before closed mask

pub returns-clause-whole : goal.returns-clause-whole
returns-clause-whole c = λ codec has_donl most s avc call mask sends.
    c.access_units_that_came_are_whole.ensures most s avc call mask (subst IsPayloadFormat (sym sends) (c.formats_meet_the_facts.ensures codec has_donl))
