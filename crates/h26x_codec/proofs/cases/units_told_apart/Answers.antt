use Rattle.std.proofs.Common.{[], ◌∷◌, true, arith, refl}
use Rattle.h26x_codec.specs.declared.codec.Codec.TheVariants as codecs
use Rattle.h26x_codec.proofs.cases.units_told_apart.Goals as goal

pub returns-clause-zeros : goal.returns-clause-zeros
returns-clause-zeros c = (0x41 ∷ 0xaa ∷ [], 0x01 ∷ [], 0, omega arith, refl, refl)

pub returns-clause-code : goal.returns-clause-code
returns-clause-code c = (0x41 ∷ [], [], 1, omega arith, refl, refl)

pub returns-clause-two : goal.returns-clause-two
returns-clause-two c = λ a b first second.
    c.plain_units_are_told_apart.ensures.read codecs.H265 true (a ∷ b ∷ []) (first, (second, tt))

pub returns-clause-ends : goal.returns-clause-ends
returns-clause-ends c = λ a place plain.
    c.plain_units_are_told_apart.ensures.ends codecs.H266 a ((0x00 ∷ 0x41 ∷ []) ∷ []) place plain

pub returns-clause-lengths : goal.returns-clause-lengths
returns-clause-lengths c = λ units fits. c.lengths_tell_units_apart.ensures units ((0x65 ∷ []) ∷ []) fits (refl, tt)
