use Rattle.std.proofs.Common.{◌≡◌, ◌+◌, ◌-◌, ◌<◌, ◌^◌, [], length, drop, min}
use Rattle.h26x_packetizer.specs.Group.{lent_units, behind_leads}
use Rattle.h26x_packetizer.proofs.pieces.pieces_len.Given as goal

-- the length so far and that of the others are that of all
abbrev pub invariant-loop-unit : goal.invariant-loop-unit
invariant-loop-unit l = record {
  small : l.len < 2 ^ 64;
  sum : min (l.len + length (behind_leads l.lead l.gap (lent_units (drop l.unit-index l.units)))) (2 ^ 64 - 1)
      ≡ min (length (behind_leads [] l.gap (lent_units l.units))) (2 ^ 64 - 1);
}
