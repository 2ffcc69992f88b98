use Rattle.std.proofs.Common.{refl}
use Rattle.h26x_access_units.specs.Reception.{reception_answer}
use Rattle.h26x_access_units.proofs.LimitLemmas.{fresh_within, pushed_within, next_within}
use Rattle.h26x_access_units.proofs.laws.what_is_held_is_within_the_limits.Goals as goal

pub returns-clause-fresh : goal.returns-clause-fresh
returns-clause-fresh c = fresh_within

pub returns-clause-push : goal.returns-clause-push
returns-clause-push c = λ now s new p pushed. pushed_within now s new p (reception_answer s p) refl pushed

pub returns-clause-next : goal.returns-clause-next
returns-clause-next c = λ now s new unit it most len is. next_within most now s new unit it is
