use Rattle.std.proofs.Common.{◌≡◌, ◌+◌, ◌*◌, ◌≤◌, length}
use Rattle.std.specs.List.{list_any}
use Rattle.h26x_model.specs.Receive.Outcome.{is_too_long}
use Rattle.h26x_depacketizer.specs.Run.{written_len}
use Rattle.h266_payload.specs.Packet.{aggregate_units, aggregate_outcome}
use Rattle.h266_payload.proofs.JudgedLemmas.{fault_of}
use Rattle.h266_payload.proofs.aggregate.check_aggregate.Given as goal

-- no unit before here is a fault; they and their length are counted
abbrev pub invariant-loop-rest : goal.invariant-loop-rest
invariant-loop-rest l = record {
  fault : fault_of (aggregate_outcome l.rest) ≡ fault_of (aggregate_outcome l.bytes);
  units : l.count + length (aggregate_units l.rest) ≡ length (aggregate_units l.bytes);
  long : 4 * l.count + length l.rest ≤ length l.bytes;
  whole : written_len (aggregate_units l.rest) + (length l.bytes + 2 * l.count) ≡ written_len (aggregate_units l.bytes) + length l.rest;
  short : list_any is_too_long (aggregate_units l.rest) ≡ list_any is_too_long (aggregate_units l.bytes);
}

abbrev pub decreases-loop-rest : goal.decreases-loop-rest
decreases-loop-rest l = length l.rest
