use Rattle.std.proofs.Common.{◌≡◌, drop, map}
use Rattle.h26x_sdp.specs.CapabilityPoints.{point_text, points_text}
use Rattle.h26x_sdp.proofs.CapabilityPointsLemmas.{texts_on}
use Rattle.h26x_sdp.proofs.capability_points.points_text.Given as goal

abbrev pub invariant-loop-point : goal.invariant-loop-point
invariant-loop-point l = texts_on 44 l.text.items (map point_text (drop l.point-index l.others)) ≡ points_text l.points
