use Rattle.std.proofs.Common.{◌≡◌, ◌≤◌, ◌||◌, min, length}
use Rattle.std.specs.List.{list_any}
use Rattle.h265_payload.specs.Shown.{units_in}
use Rattle.h265_payload.specs.LowestHeader.{has_forbidden_bit, lowest_layer, lowest_temporal}
use Rattle.h265_payload.proofs.lowest_header.lowest_of.Given as goal

-- what the units so far have, with those to come, is what all have
abbrev pub invariant-loop-unit : goal.invariant-loop-unit
invariant-loop-unit l = record {
  forbidden : (l.lowest.forbidden || list_any has_forbidden_bit (units_in l.codec.has_donl l.rest))
      ≡ list_any has_forbidden_bit (units_in l.codec.has_donl l.bytes);
  layer : min l.lowest.layer (lowest_layer (units_in l.codec.has_donl l.rest)) ≡ lowest_layer (units_in l.codec.has_donl l.bytes);
  temporal : min l.lowest.temporal (lowest_temporal (units_in l.codec.has_donl l.rest)) ≡ lowest_temporal (units_in l.codec.has_donl l.bytes);
  few : l.lowest.layer ≤ 63;
  few_temporal : l.lowest.temporal ≤ 7;
}

abbrev pub decreases-loop-unit : goal.decreases-loop-unit
decreases-loop-unit l = length l.rest
