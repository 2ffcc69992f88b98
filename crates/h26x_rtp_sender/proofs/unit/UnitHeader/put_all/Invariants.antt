use Rattle.std.proofs.Common.{◌≡◌, drop}
use Rattle.h26x_rtp_sender.specs.Sent.{unit_view, packet_headers}
use Rattle.h26x_rtp_sender.specs.Sending.{headed_from}
use Rattle.h26x_rtp_sender.proofs.unit.UnitHeader.put_all.Given as goal

-- the headers that are left make of the headrooms what all make of them, and all else is as it was
abbrev pub invariant-loop-place : goal.invariant-loop-place
invariant-loop-place l = record {
  headrooms : headed_from l.place (packet_headers (unit_view l.self) l.sequence (drop l.place l.fn.packets.packets)) l.packets.headrooms
      ≡ headed_from 0 (packet_headers (unit_view l.self) l.first l.fn.packets.packets) l.fn.packets.headrooms;
  else : l.packets ≡ record l.fn.packets { headrooms = l.packets.headrooms };
}
