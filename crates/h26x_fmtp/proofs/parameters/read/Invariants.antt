use Rattle.std.proofs.Common.{◌≡◌, ◌≤◌, ◌+◌, map, length}
use Rattle.std.specs.Prelude.{vec_len}
use Rattle.h26x_fmtp.specs.Pairs.{pairs}
use Rattle.h26x_fmtp.specs.Reading.{reading, none_of}
use Rattle.h26x_fmtp.specs.TableViews.{row_view}
use Rattle.h26x_fmtp.specs.ParametersViews.{view}
use Rattle.h26x_fmtp.proofs.parameters.read.Given as goal

abbrev pub invariant-loop-pair : goal.invariant-loop-pair
invariant-loop-pair l = record {
  same : reading (map row_view l.rows) l.place (view l.it) l.pair-iterator ≡ reading (map row_view l.rows) 0 (none_of (length l.rows)) (pairs l.text);
  long : length l.rows ≡ vec_len l.it.values;
  place : l.place + length l.pair-iterator ≤ length l.text;
}
