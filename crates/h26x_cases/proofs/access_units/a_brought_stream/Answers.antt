use Rattle.std.proofs.Common.{refl, arith, lit<, lit≤}
use Rattle.h26x_cases.proofs.CaseLemmas.{fresh_is_one}
use Rattle.h26x_cases.proofs.access_units.a_brought_stream.Goals as goal

pub returns : goal.returns
returns c = record {
  streamed = record {
    sender = fresh_is_one;
    calls_are = (omega arith, (omega arith, tt));
    carried = (refl, (refl, tt));
  };
  each = refl;
  sent = (lit< tt, (lit< tt, (lit< tt, (lit< tt, (lit< tt, tt)))));
  near = ((lit< tt, (lit< tt, (lit< tt, (lit< tt, tt)))), (lit≤ tt, (lit≤ tt, (lit≤ tt, (lit≤ tt, tt)))));
}
