use Rattle.h26x_cut.proofs.UnitLemmas.{units_whole}
use Rattle.h26x_cut.proofs.laws.units_are_whole.Goals as goal

pub returns : goal.returns
returns c = units_whole
