use Rattle.h26x_model.proofs.CodecLawLemmas.{goes_in_fragments}
use Rattle.h26x_model.proofs.laws.long_units_go_in_fragments.Goals as goal

pub returns : goal.returns
returns c = goes_in_fragments
