use Rattle.std.proofs.Common.{◌≡◌, ◌≤◌, length, take, vec_capacity}
use Rattle.h265_packets.proofs.aggregation.clone_units.Given as goal

-- the units so far, and room for the others
abbrev pub invariant-loop-unit : goal.invariant-loop-unit
invariant-loop-unit l = record {
  same : l.clones.items ≡ take l.unit-index l.units;
  room : length l.units ≤ vec_capacity l.clones;
}
