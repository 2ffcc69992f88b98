use Rattle.h26x_payload.proofs.UnitLemmas.{text_is_cut}
use Rattle.h26x_payload.proofs.laws.text_is_cut_into_its_units.Goals as goal

pub returns : goal.returns
returns c = text_is_cut
