use Rattle.std.proofs.Common.{◌≡◌, ◌≤◌, ◌||◌, min, drop}
use Rattle.std.specs.List.{list_any}
use Rattle.h26x_packetizer.specs.Group.{lent_units}
use Rattle.h265_payload.specs.LowestHeader.{has_forbidden_bit, lowest_layer, lowest_temporal}
use Rattle.h265_payload.proofs.every.lowest_of.Given as goal

-- what the units so far have, with those to come, is what all have
abbrev pub invariant-loop-unit : goal.invariant-loop-unit
invariant-loop-unit l = record {
  forbidden : (l.lowest.forbidden || list_any has_forbidden_bit (lent_units (drop l.unit-index l.units)))
      ≡ list_any has_forbidden_bit (lent_units l.units);
  layer : min l.lowest.layer (lowest_layer (lent_units (drop l.unit-index l.units))) ≡ lowest_layer (lent_units l.units);
  temporal : min l.lowest.temporal (lowest_temporal (lent_units (drop l.unit-index l.units))) ≡ lowest_temporal (lent_units l.units);
  few : l.lowest.layer ≤ 63;
  few_temporal : l.lowest.temporal ≤ 7;
}
