use Rattle.std.proofs.Common.{◌≡◌, ◌+◌, drop}
use Rattle.h26x_packetizer.specs.Group.{lent_units}
use Rattle.h26x_codec.specs.SentUnits.{is_sent, place_among}
use Rattle.h26x_codec.proofs.every_unit.place_among.Given as goal

-- the place among those that are left, behind those before
abbrev pub invariant-loop-unit : goal.invariant-loop-unit
invariant-loop-unit l = record {
  at : l.at ≡ l.unit-index;
  place : l.unit-index + place_among (is_sent l.delimiters l.codec) (lent_units (drop l.unit-index l.units)) l.left
      ≡ place_among (is_sent l.delimiters l.codec) (lent_units l.units) l.place;
}
