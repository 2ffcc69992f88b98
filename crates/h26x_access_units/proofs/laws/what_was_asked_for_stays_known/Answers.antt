use Rattle.h26x_access_units.proofs.NackOrderLemmas.{known_as_before}
use Rattle.h26x_access_units.proofs.laws.what_was_asked_for_stays_known.Goals as goal

pub returns : goal.returns
returns c = λ now from known missing. known_as_before now from 0 0 known missing
