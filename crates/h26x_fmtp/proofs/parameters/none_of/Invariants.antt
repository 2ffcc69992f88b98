use Rattle.std.proofs.Common.{◌≡◌, ◌≤◌, ◌-◌, replicate, None}
use Rattle.std.specs.Prelude.{vec_len}
use Rattle.h26x_fmtp.specs.ParametersViews.{values_view}
use Rattle.h26x_fmtp.proofs.parameters.none_of.Given as goal

abbrev pub invariant-loop-values : goal.invariant-loop-values
invariant-loop-values l = record {
  all : values_view l.values ≡ replicate (vec_len l.values) None;
  within : vec_len l.values ≤ l.rows;
}

abbrev pub decreases-loop-values : goal.decreases-loop-values
decreases-loop-values l = l.rows - vec_len l.values
