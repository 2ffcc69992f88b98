use Rattle.h26x_reorder.proofs.ReorderLemmas.{reorders}
use Rattle.h26x_reorder.proofs.laws.packets_are_put_in_order.Goals as goal

pub returns : goal.returns
returns c = reorders
