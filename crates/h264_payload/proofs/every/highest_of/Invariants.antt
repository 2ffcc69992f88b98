use Rattle.std.proofs.Common.{◌≡◌, ◌≤◌, ◌||◌, drop, max}
use Rattle.std.specs.List.{list_any}
use Rattle.h26x_model.specs.Send.Every.{has_f_bit}
use Rattle.h26x_packetizer.specs.Group.{lent_units}
use Rattle.h264_payload.specs.EveryUnit.{highest_nri}
use Rattle.h264_payload.proofs.every.highest_of.Given as goal

-- what the units so far have, with the others, is what all have
abbrev pub invariant-loop-unit : goal.invariant-loop-unit
invariant-loop-unit l = record {
  few : l.highest ≤ 3;
  highest : max l.highest (highest_nri (lent_units (drop l.unit-index l.units))) ≡ highest_nri (lent_units l.units);
  forbidden : (l.forbidden || list_any has_f_bit (lent_units (drop l.unit-index l.units))) ≡ list_any has_f_bit (lent_units l.units);
}
