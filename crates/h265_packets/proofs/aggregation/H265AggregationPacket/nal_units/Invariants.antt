use Rattle.std.proofs.Common.{◌≡◌, ◌++◌, map, take}
use Rattle.h265_packets.specs.Payload.{first_shown}
use Rattle.h265_packets.proofs.aggregation.H265AggregationPacket.nal_units.Given as goal

-- the first unit, and the others so far
abbrev pub invariant-loop-unit : goal.invariant-loop-unit
invariant-loop-unit l = map (λ unit. unit.now) l.units.items ≡ first_shown l.self.first ++ map (λ unit. unit.nal_unit) (take l.unit-index l.self.others)
