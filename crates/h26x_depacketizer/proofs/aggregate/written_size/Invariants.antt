use Rattle.std.proofs.Common.{◌≡◌, ◌+◌, ◌-◌, ◌≤◌, ◌^◌, min, length}
use Rattle.std.specs.List.{list_any}
use Rattle.h26x_model.specs.Receive.Outcome.{is_too_long}
use Rattle.h26x_depacketizer.specs.Run.{written_len}
use Rattle.h26x_depacketizer.proofs.aggregate.written_size.Given as goal

-- the size of the units so far, with those to come, is that of all
abbrev pub invariant-loop-unit : goal.invariant-loop-unit
invariant-loop-unit g l = record {
  whole : min (l.size + written_len (g.A.Aggregate.units l.codec l.rest)) (2 ^ 64 - 1) ≡ min (written_len (g.A.Aggregate.units l.codec l.bytes)) (2 ^ 64 - 1);
  short : list_any is_too_long (g.A.Aggregate.units l.codec l.rest) ≡ list_any is_too_long (g.A.Aggregate.units l.codec l.bytes);
  fits : l.size ≤ 2 ^ 64 - 1;
}

abbrev pub decreases-loop-unit : goal.decreases-loop-unit
decreases-loop-unit g l = length l.rest
