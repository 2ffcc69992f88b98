use Rattle.h26x_access_units.proofs.AccountLemmas.{calls_told_whole}
use Rattle.h26x_access_units.proofs.laws.what_is_told_whole_has_all_its_packets.Goals as goal

pub returns : goal.returns
returns c = λ config state now unit calls s are whole. calls_told_whole state config now unit calls s are whole
