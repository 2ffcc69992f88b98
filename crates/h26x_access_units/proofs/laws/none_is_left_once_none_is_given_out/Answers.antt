use Rattle.h26x_access_units.proofs.ToldCallLemmas.{none_is_left}
use Rattle.h26x_access_units.proofs.laws.none_is_left_once_none_is_given_out.Goals as goal

pub returns : goal.returns
returns c = λ now s new it. none_is_left now s new it
