use Rattle.std.proofs.Common.{◌≡◌, ap, arith, sym, ◌∙◌}
use Rattle.h26x_lines.proofs.TableLemmas.{all_values, next_values, no_values, values_below}
use Rattle.h26x_lines.proofs.digits.Digits.new.Goals as goal

pub loop-value-init : goal.loop-value-init
loop-value-init c = record { values = sym no_values }

pub loop-value-preserved : goal.loop-value-preserved
loop-value-preserved c = record {
  values = rw (c.loop-value.invariant.values, c.from.ensures, c.from-in-loop-value.ensures) (next_values c.loop-value.value (omega arith));
}

pub invariant_of-result : goal.invariant_of-result
invariant_of-result c =
    let last : c.loop-value.value ≡ 16 = omega arith in
    record { are_values = c.loop-value.invariant.values ∙ ap values_below last ∙ all_values }
