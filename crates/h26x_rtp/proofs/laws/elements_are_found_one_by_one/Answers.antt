use Rattle.h26x_rtp.proofs.PlacedLemmas.{placed_first, none_placed, part_refused}
use Rattle.h26x_rtp.proofs.laws.elements_are_found_one_by_one.Goals as goal

pub returns : goal.returns
returns c = record { first = placed_first; none = none_placed; past = part_refused }
