use Rattle.std.proofs.Common.{arith}
use Rattle.h26x_access_units.proofs.told_cases.packets_that_come_in_time.Goals as goal

pub returns-clause-ahead : goal.returns-clause-ahead
returns-clause-ahead c = (omega arith, omega arith)

pub returns-clause-too_far : goal.returns-clause-too_far
returns-clause-too_far c it = let ahead = it.0 in omega (arith, ahead)

pub returns-clause-behind : goal.returns-clause-behind
returns-clause-behind c = (omega arith, omega arith)

pub returns-clause-too_late : goal.returns-clause-too_late
returns-clause-too_late c it = let late = it.1 in omega (arith, late)
