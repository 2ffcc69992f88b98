use Rattle.std.proofs.Common.{◌≡◌}
use Rattle.h26x_lines.proofs.TableLemmas.{values_below}
use Rattle.h26x_lines.proofs.digits.Digits.new.Given as goal

abbrev pub invariant-loop-value : goal.invariant-loop-value
invariant-loop-value l = record { values : l.values ≡ values_below l.value }
