use Rattle.h26x_core.proofs.PieceLemmas.{pieces_are, only_pieces}
use Rattle.h26x_core.proofs.laws.one_list_of_pieces.Goals as goal

pub returns : goal.returns
returns c = record { are = pieces_are; only = only_pieces }
