use Rattle.std.proofs.Common.{◌≡◌, ◌≤◌, drop, length}
use Rattle.h26x_packetizer.specs.Buffer.{ArePacketEnds, last_end, packets_from}
use Rattle.h26x_rtp_sender.specs.InMemory.{headed_before}
use Rattle.h26x_rtp_sender.specs.Sent.{unit_view, packet_headers}
use Rattle.h26x_rtp_sender.proofs.unit.UnitHeader.put_all_in_memory.Given as goal

-- the headers that are left make of the memory what all make of it as it was
abbrev pub invariant-loop-end : goal.invariant-loop-end
invariant-loop-end l = record {
  memory : headed_before l.headroom l.start (drop l.end-index l.ends)
      (packet_headers (unit_view l.self) l.sequence (packets_from l.headroom l.start l.fn.memory (drop l.end-index l.ends))) l.memory
      ≡ headed_before l.headroom 0 l.ends
      (packet_headers (unit_view l.self) l.first (packets_from l.headroom 0 l.fn.memory l.ends)) l.fn.memory;
  size : length l.memory ≡ length l.fn.memory;
  order : ArePacketEnds l.headroom l.start (drop l.end-index l.ends);
  within : last_end l.start (drop l.end-index l.ends) ≤ length l.fn.memory;
  left : l.left ≡ length (drop l.end-index l.ends);
}
