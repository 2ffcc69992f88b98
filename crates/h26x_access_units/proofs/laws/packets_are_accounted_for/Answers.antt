use Rattle.h26x_access_units.proofs.AccountLemmas.{calls_accounted}
use Rattle.h26x_access_units.proofs.laws.packets_are_accounted_for.Goals as goal

pub returns : goal.returns
returns c = λ config state. calls_accounted state config
