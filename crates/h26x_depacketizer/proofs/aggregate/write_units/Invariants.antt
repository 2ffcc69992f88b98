use Rattle.std.proofs.Common.{◌≡◌, ◌≤◌, ◌||◌, length, ℕ, List}
use Rattle.std.specs.Prelude.{nat_le}
use Rattle.std.specs.List.{list_any}
use Rattle.h26x_core.specs.ByteStream.{byte_stream}
use Rattle.h26x_depacketizer.specs.Run.{written_len}
use Rattle.h26x_depacketizer.specs.UnitSink.{with_written}
use Rattle.h26x_depacketizer.proofs.aggregate.write_units.Given as goal

-- there is room for the units to come; what was written and told of the units so far, with those to come, is that of all
abbrev pub invariant-loop-unit : goal.invariant-loop-unit
invariant-loop-unit g l = record {
  room : written_len (g.A.Aggregate.units l.codec l.rest) ≤ g.W.UnitSink.room l.out;
  written : with_written (g.W.UnitSink.sink l.out) (byte_stream l.is_avc (g.A.Aggregate.units l.codec l.rest)) ≡ with_written (g.W.UnitSink.sink l.fn.out) (byte_stream l.is_avc (g.A.Aggregate.units l.codec l.bytes));
  kept_lacks : g.W.UnitSink.lacks l.out ≡ g.W.UnitSink.lacks l.fn.out;
  counts : (l.counts || list_any (λ (unit : List ℕ). nat_le (g.A.PayloadFormat.format l.codec).header_len (length unit)) (g.A.Aggregate.units l.codec l.rest))
      ≡ list_any (λ (unit : List ℕ). nat_le (g.A.PayloadFormat.format l.codec).header_len (length unit)) (g.A.Aggregate.units l.codec l.bytes);
  key : (l.key || list_any (g.A.PayloadFormat.format l.codec).is_key (g.A.Aggregate.units l.codec l.rest)) ≡ list_any (g.A.PayloadFormat.format l.codec).is_key (g.A.Aggregate.units l.codec l.bytes);
}

abbrev pub decreases-loop-unit : goal.decreases-loop-unit
decreases-loop-unit g l = length l.rest
