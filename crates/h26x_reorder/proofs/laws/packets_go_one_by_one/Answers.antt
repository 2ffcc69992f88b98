use Rattle.h26x_reorder.proofs.BufferLemmas.{step_is, end_is}
use Rattle.h26x_reorder.proofs.laws.packets_go_one_by_one.Goals as goal

pub returns-clause-step : goal.returns-clause-step
returns-clause-step c = step_is

pub returns-clause-end : goal.returns-clause-end
returns-clause-end c = end_is
