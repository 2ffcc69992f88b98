use Rattle.std.proofs.Common.{◌≡◌, ◌-◌, ◌^◌, min, take}
use Rattle.h26x_packetizer.specs.Placement.{laid_size}
use Rattle.h26x_packetizer.proofs.placement.size_of.Given as goal

-- the bytes of the packets so far
abbrev pub invariant-loop-packet : goal.invariant-loop-packet
invariant-loop-packet l = l.bytes ≡ min (laid_size l.headroom (take l.packet-index l.packets)) (2 ^ 64 - 1)
