use Rattle.h26x_examples.proofs.laws_met.lost_packets_hurt_their_items.Goals as goal

pub returns : goal.returns
returns c = λ codec has_donl. c.loss_stays_within.ensures _ (c.formats_meet_the_facts.ensures codec has_donl).reads
