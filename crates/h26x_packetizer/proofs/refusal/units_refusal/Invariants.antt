use Rattle.std.proofs.Common.{◌≡◌, drop}
use Rattle.h26x_packetizer.specs.Group.{lent_units}
use Rattle.h26x_packetizer.specs.Refusal.{units_refusal}
use Rattle.h26x_packetizer.proofs.refusal.units_refusal.Given as goal

-- none so far: the first is that of the others
abbrev pub invariant-loop-unit : goal.invariant-loop-unit
invariant-loop-unit g l = record {
  place : l.place ≡ l.unit-index;
  first : units_refusal (g.C.PayloadFormat.format l.codec) l.packing l.limit l.place (lent_units (drop l.unit-index l.units))
      ≡ units_refusal (g.C.PayloadFormat.format l.codec) l.packing l.limit 0 (lent_units l.units);
}
