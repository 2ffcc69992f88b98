use Rattle.std.proofs.Common.{[], ◌∷◌, refl}
use Rattle.h26x_codec.proofs.cases.units_with_others_in_them.Goals as goal

pub returns-clause-code : goal.returns-clause-code
returns-clause-code c = λ it. it.text.no_code (0x41 ∷ 0xaa ∷ 0 ∷ [], 0x65 ∷ 0x88 ∷ [], refl)

pub returns-clause-short_code : goal.returns-clause-short_code
returns-clause-short_code c = λ it. it.text.no_code (0x41 ∷ [], [], refl)

pub returns-clause-zeros : goal.returns-clause-zeros
returns-clause-zeros c = λ it. it.text.no_zeros (0x41 ∷ [], 0x02 ∷ [], refl)

pub returns-clause-zero_last : goal.returns-clause-zero_last
returns-clause-zero_last c = λ it. it.text.no_zero_last (0x41 ∷ [], refl)
