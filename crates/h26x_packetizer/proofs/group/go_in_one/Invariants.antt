use Rattle.std.proofs.Common.{◌≡◌, ◌+◌, ◌-◌, drop}
use Rattle.h26x_packetizer.specs.Group.{lent_units, may_share, fitting}
use Rattle.h26x_packetizer.specs.Refusal.{units_refusal}
use Rattle.h26x_packetizer.proofs.group.go_in_one.Given as goal

-- those so far can go, and those that go in what is left are all that go
abbrev pub invariant-loop-unit : goal.invariant-loop-unit
invariant-loop-unit g l = record {
  go : units_refusal (g.C.PayloadFormat.format l.codec) l.packing l.limit l.unit-index (lent_units (drop l.unit-index l.units))
      ≡ units_refusal (g.C.PayloadFormat.format l.codec) l.packing l.limit 0 (lent_units l.units);
  fit : l.unit-index + fitting (may_share l.packing (g.C.EveryFormat.is_slice l.codec)) (g.C.EveryFormat.each l.codec) l.left (lent_units (drop l.unit-index l.units))
      ≡ fitting (may_share l.packing (g.C.EveryFormat.is_slice l.codec)) (g.C.EveryFormat.each l.codec) (l.limit - g.C.EveryFormat.start l.codec) (lent_units l.units);
}
