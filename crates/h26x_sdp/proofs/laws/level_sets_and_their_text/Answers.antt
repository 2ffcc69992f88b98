use Rattle.h26x_sdp.proofs.LevelSetsLemmas.{levels_written, levels_again}
use Rattle.h26x_sdp.proofs.laws.level_sets_and_their_text.Goals as goal

pub returns : goal.returns
returns c = record { read = levels_written; again = levels_again }
