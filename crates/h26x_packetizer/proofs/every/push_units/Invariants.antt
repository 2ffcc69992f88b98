use Rattle.std.proofs.Common.{◌≡◌, ◌≤◌, ◌<◌, ◌-◌, drop, length, List, ℕ}
use Rattle.h26x_model.specs.Send.Every.{AreSendable, every_unit, with_own_aggregates}
use Rattle.h26x_packetizer.specs.Group.{lent_units, may_share, HaveHeaders}
use Rattle.h26x_packetizer.specs.Sending.{ArePushed}
use Rattle.h26x_packetizer.proofs.every.push_units.Given as goal

-- what comes behind what is made is all
abbrev pub invariant-loop-at : goal.invariant-loop-at
invariant-loop-at g l = record {
  at : l.at ≤ length l.units;
  small : l.don < 65536;
  whole : HaveHeaders (g.C.PayloadFormat.format l.codec) (lent_units (drop l.at l.units));
  sendable : AreSendable (g.C.PayloadFormat.format l.codec) l.limit (lent_units (drop l.at l.units));
  sent : (after : List (List ℕ)) (next : ℕ) →
      ArePushed (with_own_aggregates (g.C.PayloadFormat.format l.codec) (g.C.EveryFormat.aggregate l.codec)) l.don
      (every_unit (with_own_aggregates (g.C.PayloadFormat.format l.codec) (g.C.EveryFormat.aggregate l.codec)) (may_share l.packing (g.C.EveryFormat.is_slice l.codec)) l.limit (lent_units (drop l.at l.units)))
      (g.S.PacketSink.packets l.made) after next →
      ArePushed (with_own_aggregates (g.C.PayloadFormat.format l.codec) (g.C.EveryFormat.aggregate l.codec)) l.fn.don
      (every_unit (with_own_aggregates (g.C.PayloadFormat.format l.codec) (g.C.EveryFormat.aggregate l.codec)) (may_share l.packing (g.C.EveryFormat.is_slice l.codec)) l.limit (lent_units l.units))
      (g.S.PacketSink.packets l.fn.made) after next;
  before : g.S.PacketSink.before l.made ≡ g.S.PacketSink.before l.fn.made;
}

abbrev pub decreases-loop-at : goal.decreases-loop-at
decreases-loop-at g l = length l.units - l.at
