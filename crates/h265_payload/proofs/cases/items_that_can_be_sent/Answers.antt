use Rattle.std.proofs.Common.{refl, arith}
use Rattle.h265_payload.proofs.cases.items_that_can_be_sent.Goals as goal

pub returns-clause-together : goal.returns-clause-together
returns-clause-together c = (λ _. omega arith, refl, omega arith, (refl, (refl, tt)), refl, (refl, (refl, tt)))
