use Rattle.h26x_access_units.proofs.UnitsSentLemmas.{one_was_sent}
use Rattle.h26x_access_units.proofs.laws.what_was_sent_is_an_access_unit.Goals as goal

pub returns : goal.returns
returns c = λ r units first unit apart it. one_was_sent r units first unit apart it
