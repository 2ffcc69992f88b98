use Rattle.std.proofs.Common.{◌≡◌, ◌≤◌, ◌++◌, [], length, take, drop}
use Rattle.h26x_packetizer.specs.Group.{lent_units, behind_leads}
use Rattle.h26x_packetizer.proofs.pieces.copy_pieces.Given as goal

-- what is written and the others are all
abbrev pub invariant-loop-unit : goal.invariant-loop-unit
invariant-loop-unit l = record {
  len : length l.to ≡ length (behind_leads [] l.gap (lent_units l.units));
  place : l.place ≤ length l.to;
  all : take l.place l.to ++ behind_leads l.lead l.gap (lent_units (drop l.unit-index l.units)) ≡ behind_leads [] l.gap (lent_units l.units);
}
