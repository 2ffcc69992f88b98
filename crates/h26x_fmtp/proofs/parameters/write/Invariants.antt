use Rattle.std.proofs.Common.{◌≡◌, ◌++◌, map, drop}
use Rattle.h26x_fmtp.specs.Reading.{given_pairs, all_of}
use Rattle.h26x_fmtp.specs.Written.{written}
use Rattle.h26x_fmtp.specs.TableViews.{row_view}
use Rattle.h26x_fmtp.specs.ParametersViews.{view, value_view, other_view, others_view}
use Rattle.h26x_fmtp.proofs.ReadingLemmas.{written_on}
use Rattle.h26x_fmtp.proofs.parameters.write.Given as goal

abbrev pub invariant-loop-place : goal.invariant-loop-place
invariant-loop-place l =
    written_on l.text.items (given_pairs (map row_view (drop l.place l.rows)) (map value_view (drop l.place l.it.values.items)) ++ others_view l.it.others)
    ≡ written (all_of (map row_view l.rows) (view l.it))

abbrev pub invariant-loop-other : goal.invariant-loop-other
invariant-loop-other l = written_on l.text.items (map other_view (drop l.other-index l.it.others.items)) ≡ written (all_of (map row_view l.rows) (view l.it))
