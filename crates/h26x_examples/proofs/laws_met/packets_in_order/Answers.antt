use Rattle.std.proofs.Common.{refl, arith}
use Rattle.h26x_examples.proofs.laws_met.packets_in_order.Goals as goal

pub returns-clause-step : goal.returns-clause-step
returns-clause-step c = λ b p next. (c.packets_go_one_by_one.ensures.step b p next).ready

pub returns-clause-end : goal.returns-clause-end
returns-clause-end c = λ b none. (c.packets_go_one_by_one.ensures.end b none).ready

pub returns-clause-all : goal.returns-clause-all
returns-clause-all c = λ sent first places. c.numbered_packets_are_put_in_order.ensures 64 _ (omega arith) (omega arith) sent first places refl
