use Rattle.h26x_access_units.proofs.ReceptionLemmas.{as_if_it_waited}
use Rattle.h26x_access_units.proofs.laws.packets_taken_at_once_are_as_those_that_wait.Goals as goal

pub returns : goal.returns
returns c = as_if_it_waited
