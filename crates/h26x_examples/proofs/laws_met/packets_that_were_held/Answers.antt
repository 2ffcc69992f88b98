use Rattle.h26x_examples.proofs.laws_met.packets_that_were_held.Goals as goal

pub returns-clause-exact : goal.returns-clause-exact
returns-clause-exact c = λ steps small. let all = c.those_held_are_given_out.ensures 64 steps small in all.exact

pub returns-clause-order : goal.returns-clause-order
returns-clause-order c = λ steps small. let all = c.those_held_are_given_out.ensures 64 steps small in all.order
