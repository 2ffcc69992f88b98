use Rattle.std.proofs.Common.{◌≡◌, ◌-◌, ◌≤◌, ◌++◌, map, length, take, drop}
use Rattle.h26x_sdp_handles.specs.SdpValues as spec
use Rattle.h26x_sdp_handles.proofs.sdp_values.put_points.Given as goal

-- so many points stand at the front of the buffer
abbrev pub invariant-loop-place : goal.invariant-loop-place
invariant-loop-place l = record {
  within : l.place ≤ length l.points;
  fit : l.place ≤ length l.fn.to;
  put : l.to ≡ map (spec.point_told l.it l.or_default) (take l.place l.points) ++ drop l.place l.fn.to;
}

abbrev pub decreases-loop-place : goal.decreases-loop-place
decreases-loop-place l = length l.points - l.place
