use Rattle.std.proofs.Common.{◌≡◌, ◌-◌, ◌≤◌, length, drop}
use Rattle.h26x_cut.specs.Cutting.{units_of}
use Rattle.h26x_cut.specs.Slices.{units_behind}
use Rattle.h26x_cut.proofs.slices.next_unit.Given as goal

-- the units of the bytes that are left are those from the place on, and these bytes end the payload
abbrev pub invariant-loop-rest : goal.invariant-loop-rest
invariant-loop-rest l = record {
  units : units_behind l.rule l.rest ≡ units_of l.rule (drop l.from l.payload);
  within : length l.rest ≤ length l.payload;
  begins : l.from ≤ length l.payload - length l.rest;
  end : l.rest ≡ drop (length l.payload - length l.rest) l.payload;
}

abbrev pub decreases-loop-rest : goal.decreases-loop-rest
decreases-loop-rest l = length l.rest
