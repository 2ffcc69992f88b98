use Rattle.std.proofs.Common.{refl, arith, lit<, lit≤}
use Rattle.h26x_cases.proofs.CaseLemmas.{fresh_is_one}
use Rattle.h26x_cases.proofs.access_units.a_network.Goals as goal

pub returns-clause-is : goal.returns-clause-is
returns-clause-is c = record {
  sender = fresh_is_one;
  calls_are = (omega arith, tt);
  carried = (refl, tt);
  sent = (lit< tt, (lit< tt, (lit< tt, (lit< tt, tt))));
  near = ((lit< tt, (lit< tt, (lit< tt, tt))), (lit≤ tt, (lit≤ tt, (lit≤ tt, tt))));
}
