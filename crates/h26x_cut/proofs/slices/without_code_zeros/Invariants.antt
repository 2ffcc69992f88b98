use Rattle.std.proofs.Common.{◌≡◌, ◌≤◌, length, take}
use Rattle.h26x_cut.specs.Cutting.{without_zeros}
use Rattle.h26x_cut.proofs.slices.without_code_zeros.Given as goal

abbrev pub invariant-loop-end : goal.invariant-loop-end
invariant-loop-end l = record {
  within : l.end ≤ length l.segment;
  same : without_zeros (take l.end l.segment) ≡ without_zeros l.segment;
}

abbrev pub decreases-loop-end : goal.decreases-loop-end
decreases-loop-end l = l.end
