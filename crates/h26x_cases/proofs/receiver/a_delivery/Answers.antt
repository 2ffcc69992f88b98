use Rattle.std.proofs.Common.{refl, arith, lit<, lit≤}
use Rattle.h26x_cases.proofs.CaseLemmas.{fresh_is_one}
use Rattle.h26x_cases.proofs.receiver.a_delivery.Goals as goal

pub returns-clause-is : goal.returns-clause-is
returns-clause-is c = record {
  brought = record {
    sender = fresh_is_one;
    calls_are = (omega arith, tt);
    carried = (refl, tt);
    each = refl;
    sent = (lit< tt, (lit< tt, (lit< tt, tt)));
  };
  near = (tt, ((lit< tt, lit≤ tt), ((lit< tt, lit≤ tt), tt)));
}
