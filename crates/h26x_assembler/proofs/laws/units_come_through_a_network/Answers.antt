use Rattle.h26x_assembler.proofs.NetworkLemmas.{come_through}
use Rattle.h26x_assembler.proofs.laws.units_come_through_a_network.Goals as goal

pub returns : goal.returns
returns c = λ window most w some half ok. come_through window most w some half ok c.those_that_came_are_written.ensures
