use Rattle.std.proofs.Common.{◌-◌, ◌≤◌, length}
use Rattle.h26x_cut.specs.Search.{HasNoCode}
use Rattle.h26x_cut.proofs.blocks.skip_quiet.Given as goal

-- the blocks that were passed have no start code but one that begins at the last of their places
abbrev pub invariant-loop-place : goal.invariant-loop-place
invariant-loop-place l = record {
  low : l.from ≤ l.place;
  high : l.place ≤ length l.bytes;
  passed : HasNoCode l.bytes l.from (l.place - 1);
}

abbrev pub decreases-loop-place : goal.decreases-loop-place
decreases-loop-place l = length l.bytes - l.place
