use Rattle.h26x_access_units.proofs.MetLemmas.{done_of_sender, done_at_fronts}
use Rattle.h26x_access_units.proofs.laws.what_is_done_is_of_the_sender.Goals as goal

pub returns-clause-sender : goal.returns-clause-sender
returns-clause-sender c = λ config state calls s sent first are came told. done_of_sender config state calls s sent first are came told

pub returns-clause-fronts : goal.returns-clause-fronts
returns-clause-fronts c = λ config state calls s sent first are came told. done_at_fronts config state calls s sent first are came told
