use Rattle.std.proofs.Common.{◌≡◌, drop, map}
use Rattle.h26x_fmtp.specs.ParametersViews.{value_view}
use Rattle.h26x_fmtp.specs.TableViews.{row_view}
use Rattle.h26x_answers.specs.Answers.{are_symmetric}
use Rattle.h26x_answers.proofs.answer.are_symmetric.Given as goal

abbrev pub invariant-loop-place : goal.invariant-loop-place
invariant-loop-place l =
    are_symmetric (drop l.place l.roles) (map row_view (drop l.place l.rows)) (map value_view (drop l.place l.offered.values.items)) (map value_view (drop l.place l.own.values.items))
    ≡ are_symmetric l.roles (map row_view l.rows) (map value_view l.offered.values.items) (map value_view l.own.values.items)
