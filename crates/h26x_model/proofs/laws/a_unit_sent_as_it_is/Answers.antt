use Rattle.h26x_model.proofs.OneUnitLemmas.{one_unit_within, one_unit_stays, one_unit_received}
use Rattle.h26x_model.proofs.laws.a_unit_sent_as_it_is.Goals as goal

pub returns : goal.returns
returns c = record { within = one_unit_within; stays = one_unit_stays; received = one_unit_received }
