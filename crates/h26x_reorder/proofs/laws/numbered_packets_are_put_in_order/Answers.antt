use Rattle.h26x_reorder.proofs.PlaceShiftLemmas.{put_in_order_all}
use Rattle.h26x_reorder.proofs.laws.numbered_packets_are_put_in_order.Goals as goal

pub returns : goal.returns
returns c = put_in_order_all
