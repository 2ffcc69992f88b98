use Rattle.h26x_examples.proofs.laws_met.numbers_in_order.Goals as goal

pub returns : goal.returns
returns c = λ codec has_donl. c.dons_in_order.ensures.dons _ (c.formats_meet_the_facts.ensures codec has_donl).reads
