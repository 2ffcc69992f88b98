use Rattle.std.proofs.Common.{◌≡◌, ◌≤◌, length}
use Rattle.h26x_examples.proofs.one_buffer.packetize_frame.Given as goal

-- the packets stay, and each has room for a header
abbrev pub invariant-loop-place : goal.invariant-loop-place
invariant-loop-place l = record {
  room : 12 ≤ l.packets.headroom;
  count : l.count ≡ length l.packets.packets;
}
