use Rattle.h26x_examples.proofs.laws_met.units_sent_are_received.Goals as goal

pub returns : goal.returns
returns c = λ codec has_donl. c.what_is_sent_is_received.ensures.items _ (c.formats_meet_the_facts.ensures codec has_donl).reads
