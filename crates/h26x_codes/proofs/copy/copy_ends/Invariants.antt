use Rattle.std.proofs.Common.{◌≡◌, ◌-◌, ◌≤◌, ◌++◌, length, take, drop}
use Rattle.std.specs.List.{concat}
use Rattle.h26x_codes.specs.Copies.{end_offsets}
use Rattle.h26x_codes.proofs.copy.copy_ends.Given as goal

-- so many packets fit, and their ends stand at the front of the buffer for these
abbrev pub invariant-loop-count : goal.invariant-loop-count
invariant-loop-count l = record {
  packets : l.count ≤ length (drop l.first l.packets.packets);
  place : l.place ≡ length (concat (take l.count (drop l.first l.packets.packets)));
  fits : l.place ≤ l.room;
  fit : l.count ≤ length l.fn.ends;
  ends : l.ends ≡ end_offsets 0 (take l.count (drop l.first l.packets.packets)) ++ drop l.count l.fn.ends;
}

abbrev pub decreases-loop-count : goal.decreases-loop-count
decreases-loop-count l = length l.from - l.count
