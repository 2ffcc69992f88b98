use Rattle.h26x_examples.proofs.laws_met.fragments_of_long_units.Goals as goal

pub returns-clause-within : goal.returns-clause-within
returns-clause-within c = λ codec has_donl n limit j unit long. (c.long_units_go_in_fragments.ensures _ (c.formats_meet_the_facts.ensures codec has_donl) n limit unit long).within j

pub returns-clause-full : goal.returns-clause-full
returns-clause-full c = λ codec has_donl n limit j unit long. (c.long_units_go_in_fragments.ensures _ (c.formats_meet_the_facts.ensures codec has_donl) n limit unit long).full j
