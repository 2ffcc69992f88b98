use Rattle.std.proofs.Common.{◌≡◌, ◌≤◌, ◌||◌, drop}
use Rattle.std.specs.List.{list_any}
use Rattle.h26x_packetizer.specs.Group.{lent_units}
use Rattle.h266_payload.specs.H266.{has_forbidden_bit, layer_of, temporal_of}
use Rattle.h266_payload.proofs.LeastLemmas.{least_from}
use Rattle.h266_payload.proofs.every.lowest_of.Given as goal

-- what the units so far have, with those to come, is what all have
abbrev pub invariant-loop-unit : goal.invariant-loop-unit
invariant-loop-unit l = record {
  forbidden : (l.forbidden || list_any has_forbidden_bit (lent_units (drop l.unit-index l.units)))
      ≡ list_any has_forbidden_bit (lent_units l.units);
  layer : least_from layer_of l.lowest (lent_units (drop l.unit-index l.units)) ≡ least_from layer_of 63 (lent_units l.units);
  temporal : least_from temporal_of l.lowest_temporal (lent_units (drop l.unit-index l.units)) ≡ least_from temporal_of 7 (lent_units l.units);
  few : l.lowest ≤ 63;
  few_temporal : l.lowest_temporal ≤ 7;
}
