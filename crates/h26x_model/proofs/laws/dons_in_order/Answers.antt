use Rattle.h26x_model.proofs.NumberLemmas.{numbers_are}
use Rattle.h26x_model.proofs.PacketLemmas.{packets-append}
use Rattle.h26x_model.proofs.laws.dons_in_order.Goals as goal

pub returns : goal.returns
returns c = record { dons = numbers_are; call_by_call = packets-append }
