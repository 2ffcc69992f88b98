use Rattle.h26x_cut.proofs.TextLemmas as lemmas
use Rattle.h26x_cut.proofs.laws.text_is_cut_into_its_units.Goals as goal

pub returns : goal.returns
returns c = lemmas.units_of_text
