use Rattle.std.proofs.Common.{◌≡◌, ◌+◌, drop}
use Rattle.h26x_packetizer.specs.Group.{lent_units, may_share, fitting}
use Rattle.h26x_packetizer.proofs.group.fitting.Given as goal

-- those so far and those that go in what is left are all
abbrev pub invariant-loop-unit : goal.invariant-loop-unit
invariant-loop-unit g l = record {
  index : l.count ≡ l.unit-index;
  all : l.count + fitting (may_share l.packing (g.C.EveryFormat.is_slice l.codec)) (g.C.EveryFormat.each l.codec) l.left (lent_units (drop l.unit-index l.units))
      ≡ fitting (may_share l.packing (g.C.EveryFormat.is_slice l.codec)) (g.C.EveryFormat.each l.codec) l.room (lent_units l.units);
}
