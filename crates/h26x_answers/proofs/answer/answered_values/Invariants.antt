use Rattle.std.proofs.Common.{◌≡◌, ◌++◌, drop, map}
use Rattle.std.specs.Prelude.{vec_len}
use Rattle.h26x_answers.specs.AnswersViews.{terms_view}
use Rattle.h26x_fmtp.specs.ParametersViews.{value_view, values_view}
use Rattle.h26x_answers.specs.Answers.{answered_values}
use Rattle.h26x_answers.proofs.answer.answered_values.Given as goal

abbrev pub invariant-loop-place : goal.invariant-loop-place
invariant-loop-place l = record {
  values : values_view l.values ++ answered_values (terms_view l.terms) (drop l.place l.roles) (map value_view (drop l.place l.offered.values.items)) (map value_view (drop l.place l.own.values.items))
      ≡ answered_values (terms_view l.terms) l.roles (values_view l.offered.values) (values_view l.own.values);
  long : vec_len l.values ≡ l.place;
}
