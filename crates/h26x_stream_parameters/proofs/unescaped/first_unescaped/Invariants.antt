use Rattle.std.proofs.Common.{◌≡◌, ◌≤◌, ◌++◌, length}
use Rattle.std.specs.Prelude.{vec_len}
use Rattle.h26x_stream_parameters.specs.FromStream.{unescaped_behind, unescaped}
use Rattle.h26x_stream_parameters.proofs.unescaped.first_unescaped.Given as goal

abbrev pub invariant-loop-rest : goal.invariant-loop-rest
invariant-loop-rest l = record {
  all : l.first.items ++ unescaped_behind l.zeros l.rest ≡ unescaped l.bytes;
  within : vec_len l.first ≤ l.many;
}

abbrev pub decreases-loop-rest : goal.decreases-loop-rest
decreases-loop-rest l = length l.rest
