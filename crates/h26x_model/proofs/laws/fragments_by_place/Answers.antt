use Rattle.h26x_model.proofs.FragmentLemmas.{are_fragments, reads_fragments, are_marked}
use Rattle.h26x_model.proofs.laws.fragments_by_place.Goals as goal

pub returns : goal.returns
returns c = record { are = are_fragments; read = reads_fragments; marked = are_marked }
