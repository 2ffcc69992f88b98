use Rattle.std.proofs.Common.{refl, inr}
use Rattle.h26x_handles.proofs.cases.datagrams_passed_over.Goals as goal

pub returns-clause-rtcp : goal.returns-clause-rtcp
returns-clause-rtcp c = λ now arrival codec r. record { pushed = inr (refl, refl); stands = refl }

pub returns-clause-short : goal.returns-clause-short
returns-clause-short c = λ now arrival codec r. record { pushed = inr (refl, refl); stands = refl }
