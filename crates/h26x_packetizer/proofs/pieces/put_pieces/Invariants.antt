use Rattle.std.proofs.Common.{◌≡◌, ◌≤◌, ◌+◌, ◌++◌, [], length, drop, vec_len, vec_capacity}
use Rattle.h26x_packetizer.specs.Group.{lent_units, behind_leads}
use Rattle.h26x_packetizer.proofs.pieces.put_pieces.Given as goal

-- what is written and the others are all, and there is room for these
abbrev pub invariant-loop-unit : goal.invariant-loop-unit
invariant-loop-unit l = record {
  room : vec_len l.bytes + length (behind_leads l.lead l.gap (lent_units (drop l.unit-index l.units))) ≤ vec_capacity l.bytes;
  all : l.bytes.items ++ behind_leads l.lead l.gap (lent_units (drop l.unit-index l.units)) ≡ l.fn.bytes.items ++ behind_leads [] l.gap (lent_units l.units);
}
