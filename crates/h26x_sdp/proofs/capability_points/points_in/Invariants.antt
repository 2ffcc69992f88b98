use Rattle.std.proofs.Common.{◌≡◌, ◌+◌, length, []}
use Rattle.std.specs.Prelude.{vec_len}
use Rattle.std.specs.Option.{option_map_or}
use Rattle.h26x_fmtp.specs.Units.{pieces}
use Rattle.h26x_sdp.specs.CapabilityPoints.{points_from}
use Rattle.h26x_sdp.proofs.CapabilityPointsLemmas.{behind_points}
use Rattle.h26x_sdp.proofs.capability_points.points_in.Given as goal

abbrev pub invariant-loop-rest : goal.invariant-loop-rest
invariant-loop-rest l = behind_points l.points.items (points_from (vec_len l.points) (option_map_or (λ rest. pieces rest.now) l.rest [])) ≡ points_from 0 (pieces l.text)

abbrev pub decreases-loop-rest : goal.decreases-loop-rest
decreases-loop-rest l = option_map_or (λ rest. length rest.now + 1) l.rest 0
