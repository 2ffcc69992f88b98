use Rattle.std.proofs.Common.{refl, arith}
use Rattle.h26x_access_units.proofs.whole_cases.packets_by_their_places.Goals as goal

pub returns-clause-within : goal.returns-clause-within
returns-clause-within c front = front 0 refl refl

pub returns-clause-untold : goal.returns-clause-untold
returns-clause-untold c it = let within = it.within in let number = it.number_is in omega (arith, within, number)
