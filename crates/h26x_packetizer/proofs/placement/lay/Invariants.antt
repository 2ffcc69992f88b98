use Rattle.std.proofs.Common.{◌≡◌, ◌-◌, ◌≤◌, ◌++◌, length, take, drop}
use Rattle.h26x_packetizer.specs.Buffer.{packet_ends}
use Rattle.h26x_packetizer.specs.Placement.{laid_size, packets_over}
use Rattle.h26x_packetizer.proofs.placement.lay.Given as goal

-- so many packets are laid, and their ends told
abbrev pub invariant-loop-count : goal.invariant-loop-count
invariant-loop-count l = record {
  packets : l.count ≤ length l.packets;
  place : l.place ≡ laid_size l.headroom (take l.count l.packets);
  laid : l.to ≡ packets_over l.headroom (take l.count l.packets) l.fn.to;
  ends : l.ends ≡ packet_ends l.headroom 0 (take l.count l.packets) ++ drop l.count l.fn.ends;
}

abbrev pub decreases-loop-count : goal.decreases-loop-count
decreases-loop-count l = length l.packets - l.count
