use Rattle.h26x_assembler.proofs.PastLimitLemmas.{within_same}
use Rattle.h26x_assembler.proofs.laws.access_units_within_the_limit_stay.Goals as goal

pub returns : goal.returns
returns c = within_same
