use Rattle.h26x_answers.proofs.OrderLemmas.{h264_order, h265_order, h266_order}
use Rattle.h26x_answers.proofs.laws.formats_say_their_order.Goals as goal

pub returns : goal.returns
returns c = record { h264 = h264_order; h265 = h265_order; h266 = h266_order }
