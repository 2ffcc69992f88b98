use Rattle.std.proofs.Common.{◌≡◌, ◌++◌, drop, map}
use Rattle.std.specs.Prelude.{vec_len}
use Rattle.h26x_fmtp.specs.ParametersViews.{value_view, values_view}
use Rattle.h26x_answers.specs.Directions.{usable_values}
use Rattle.h26x_answers.proofs.answer.usable.usable_values.Given as goal

abbrev pub invariant-loop-place : goal.invariant-loop-place
invariant-loop-place l = record {
  values : values_view l.values ++ usable_values l.direction l.reorders (drop l.place l.roles) (drop l.place l.usages) (map value_view (drop l.place l.it.values.items))
      ≡ usable_values l.direction l.reorders l.roles l.usages (values_view l.it.values);
  long : vec_len l.values ≡ l.place;
}
