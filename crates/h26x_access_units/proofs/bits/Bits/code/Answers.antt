use Rattle.std.proofs.Common.{◌≡◌, ◌∙◌, ap, sym, ◌^◌, ◌+◌, ◌-◌, suc, arith}
use Rattle.std.proofs.lemmas.Nat.{one_shl}
use Rattle.h26x_access_units.specs.Bits.{Code, code_from, code_of, bits_number, behind_bits}
use Rattle.h26x_access_units.proofs.BitLemmas.{code_ends, code_goes_on, code_is}
use Rattle.h26x_access_units.proofs.bits.Bits.code.Goals as goal

pub returns-then-bit-clause-number : goal.returns-then-bit-clause-number
returns-then-bit-clause-number c =
    let last = c.loop-zeros-test.true in
    let zeros = c.loop-zeros.zeros in
    let left = 31 - zeros in
    let shown = (code_ends (code_of c.args.self.now) left zeros c.loop-zeros.self (c.loop-zeros.invariant (suc left) (omega (arith, last))) (sym c.bit.ensures.bit ∙ c.if-bit.true)).0 in
    let shifted = one_shl zeros 32 last in
    ap (λ n. n - 1 + c.number.result) shifted
    ∙ ap (λ n. 2 ^ zeros - 1 + n) (c.number.ensures.number ∙ ap (bits_number zeros) c.bit.ensures.behind)
    ∙ shown

pub returns-then-bit-clause-behind : goal.returns-then-bit-clause-behind
returns-then-bit-clause-behind c =
    let last = c.loop-zeros-test.true in
    let zeros = c.loop-zeros.zeros in
    let left = 31 - zeros in
    c.number.ensures.behind ∙ ap (behind_bits zeros) c.bit.ensures.behind
    ∙ (code_ends (code_of c.args.self.now) left zeros c.loop-zeros.self (c.loop-zeros.invariant (suc left) (omega (arith, last))) (sym c.bit.ensures.bit ∙ c.if-bit.true)).1

pub loop-zeros-preserved : goal.loop-zeros-preserved
loop-zeros-preserved c = λ left e.
    ap (λ bits. code_from left (c.loop-zeros.zeros + 1) bits) c.bit.ensures.behind
    ∙ code_goes_on (code_of c.args.self.now) left c.loop-zeros.zeros c.loop-zeros.self (c.loop-zeros.invariant (suc left) (omega (arith, e))) (sym c.bit.ensures.bit ∙ c.if-bit.false)

pub returns-clause-number : goal.returns-clause-number
returns-clause-number c = let last = c.loop-zeros-test.false in let end = c.loop-zeros.auto.zeros-end in ap (λ (it : Code). it.value) (c.loop-zeros.invariant 0 (omega (arith, last, end)))

pub returns-clause-behind : goal.returns-clause-behind
returns-clause-behind c = let last = c.loop-zeros-test.false in let end = c.loop-zeros.auto.zeros-end in ap (λ (it : Code). it.behind) (c.loop-zeros.invariant 0 (omega (arith, last, end)))

pub loop-zeros-init : goal.loop-zeros-init
loop-zeros-init c = λ left e. let same : left ≡ 32 = omega (arith, e) in ap (λ n. code_from n 0 c.args.self.now) same ∙ sym (code_is c.args.self.now)
