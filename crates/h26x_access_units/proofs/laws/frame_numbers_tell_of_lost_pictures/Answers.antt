use Rattle.h26x_access_units.proofs.LostLemmas.{none_is_lost}
use Rattle.h26x_access_units.proofs.laws.frame_numbers_tell_of_lost_pictures.Goals as goal

pub returns : goal.returns
returns c = none_is_lost
