use Rattle.std.proofs.Common.{refl}
use Rattle.h26x_lines.specs.Digits.{joined}
use Rattle.h26x_lines.proofs.cases.texts_of_digits.Goals as goal

pub returns-clause-bytes : goal.returns-clause-bytes
unfolding joined
returns-clause-bytes c = refl

pub returns-clause-none : goal.returns-clause-none
unfolding joined
returns-clause-none c = refl
