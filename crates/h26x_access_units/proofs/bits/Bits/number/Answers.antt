use Rattle.std.proofs.Common.{rules, ◌≡◌, ◌∙◌, ap, sym, ◌<◌, ◌+◌, ◌*◌, cond, suc, arith}
use Rattle.h26x_access_units.specs.Bits.{number_from, behind_bits, first_bit}
use Rattle.h26x_access_units.proofs.BitLemmas.{number_next, number_below, number_is}
use Rattle.h26x_access_units.proofs.bits.Bits.number.Goals as goal

pub loop-preserved : goal.loop-preserved
loop-preserved c =
    let bit : c.from.result ≡ cond (first_bit c.loop.self) 1 0 = search rules in
    let small : c.from.result < 2 = search rules in (
      number_below c.loop.value c.from.result c.loop.counter c.loop.invariant.0 small,
      λ left e. let before = c.loop.invariant.1 (suc left) (omega (arith, e)) in (
        ap (λ bits. number_from (2 * c.loop.value + c.from.result) left bits) c.bit.ensures.behind ∙ sym (number_next c.loop.value c.from.result left c.loop.self bit) ∙ before.0,
        ap (behind_bits left) c.bit.ensures.behind ∙ before.1,
      ),
    )

pub returns-clause-number : goal.returns-clause-number
returns-clause-number c = let last = c.loop-test.false in let end = c.loop.auto.counter-end in (c.loop.invariant.1 0 (omega (arith, last, end))).0 ∙ sym (number_is c.args.count c.args.self.now)

pub returns-clause-behind : goal.returns-clause-behind
returns-clause-behind c = let last = c.loop-test.false in let end = c.loop.auto.counter-end in (c.loop.invariant.1 0 (omega (arith, last, end))).1
