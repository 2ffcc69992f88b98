use Rattle.h26x_reorder.proofs.StepLemmas.{those_held}
use Rattle.h26x_reorder.proofs.laws.those_held_are_given_out.Goals as goal

pub returns : goal.returns
returns c = those_held
