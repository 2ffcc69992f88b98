use Rattle.std.proofs.Common.{[], ◌∷◌, refl}
use Rattle.h26x_transmission.proofs.cases.what_may_be_repeated.Goals as goal

pub returns-clause-ends_in_zero : goal.returns-clause-ends_in_zero
returns-clause-ends_in_zero c = λ it. it.apart.0 (0x65 ∷ [], refl)
