use Rattle.std.proofs.Common.{◌∙◌, ap, sym, ◌++◌, ◌-◌, arith}
use Rattle.h26x_access_units.specs.Bits.{bits_of, payload_bytes, first_bit, behind_bit}
use Rattle.h26x_access_units.proofs.BitLemmas.{bit_at, low_next}
use Rattle.h26x_access_units.proofs.bits.Bits.bit.Goals as goal

pub returns-clause-bit : goal.returns-clause-bit
returns-clause-bit c =
    let at = c.self.inside in
    let rest = bits_of (payload_bytes at.before at.last at.rest.now) in
    let some = c.if-self-eq0.false in
    bit_at at.last (at.left - 1) ∙ ap (λ bits. first_bit (bits ++ rest)) (sym (low_next at.last at.left (omega (arith, some)))) ∙ ap first_bit c.self.view_is

pub returns-clause-behind : goal.returns-clause-behind
returns-clause-behind c =
    let at = c.self.inside in
    let rest = bits_of (payload_bytes at.before at.last at.rest.now) in
    let some = c.if-self-eq0.false in
    ap (λ bits. behind_bit (bits ++ rest)) (sym (low_next at.last at.left (omega (arith, some)))) ∙ ap behind_bit c.self.view_is
