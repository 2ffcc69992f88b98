use Rattle.h26x_cut.proofs.LengthLemmas as lemmas
use Rattle.h26x_cut.proofs.laws.units_behind_lengths_are_found.Goals as goal

pub returns : goal.returns
returns c = lemmas.found_again
