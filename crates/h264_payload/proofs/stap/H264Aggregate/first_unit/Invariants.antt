use Rattle.std.proofs.Common.{◌≡◌, ◌≤◌, length}
use Rattle.h264_payload.specs.H264.{stap_units}
use Rattle.h264_payload.proofs.stap.H264Aggregate.first_unit.Given as goal

-- the units are those from the beginning on
abbrev pub invariant-loop-rest : goal.invariant-loop-rest
invariant-loop-rest l = record {
  units : stap_units l.rest ≡ stap_units l.bytes;
  less : length l.rest ≤ length l.bytes;
}

abbrev pub decreases-loop-rest : goal.decreases-loop-rest
decreases-loop-rest l = length l.rest
