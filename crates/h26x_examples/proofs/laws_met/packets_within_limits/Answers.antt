use Rattle.h26x_examples.proofs.laws_met.packets_within_limits.Goals as goal

pub returns : goal.returns
returns c = λ codec has_donl. c.packets_are_within_limits.ensures _ (c.formats_meet_the_facts.ensures codec has_donl).limits
