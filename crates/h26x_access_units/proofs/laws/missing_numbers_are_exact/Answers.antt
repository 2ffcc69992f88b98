use Rattle.h26x_access_units.proofs.ExactLemmas.{exactly_missing}
use Rattle.h26x_access_units.proofs.laws.missing_numbers_are_exact.Goals as goal

pub returns : goal.returns
returns c = exactly_missing
