use Rattle.std.proofs.Common.{◌≡◌, ◌+◌, ◌-◌, ◌≤◌, ◌^◌, min, length}
use Rattle.std.specs.List.{list_any}
use Rattle.h26x_model.specs.Receive.Outcome.{is_too_long}
use Rattle.h26x_core.specs.Pieces.{pieces_of}
use Rattle.h26x_depacketizer.specs.Run.{written_len}
use Rattle.h264_payload.specs.H264.{stap_units}
use Rattle.h264_payload.proofs.stap.check_stap.Given as goal

-- what is left in the end is the same, the units before here are not too long, and their length is counted
abbrev pub invariant-loop-rest : goal.invariant-loop-rest
invariant-loop-rest l = record {
  left : (pieces_of l.rest).left ≡ (pieces_of l.bytes).left;
  short : list_any is_too_long (stap_units l.rest) ≡ list_any is_too_long (stap_units l.bytes);
  whole : min (l.size + written_len (stap_units l.rest)) (2 ^ 64 - 1) ≡ min (written_len (stap_units l.bytes)) (2 ^ 64 - 1);
  fits : l.size ≤ 2 ^ 64 - 1;
}

abbrev pub decreases-loop-rest : goal.decreases-loop-rest
decreases-loop-rest l = length l.rest
