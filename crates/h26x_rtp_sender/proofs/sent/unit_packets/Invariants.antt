use Rattle.std.proofs.Common.{◌≡◌, ◌+◌, ◌++◌, ◌≤◌, map, length, deque_len, deque_capacity}
use Rattle.h26x_packetizer.specs.Buffer.{packets_from}
use Rattle.h26x_rtp_sender.specs.Sent.{unit_view, sent_view, numbered_packets}
use Rattle.h26x_rtp_sender.proofs.sent.unit_packets.Given as goal

-- those that are made, and those that are left behind them, are all; for these there is room
abbrev pub invariant-loop-payload : goal.invariant-loop-payload
invariant-loop-payload l = record {
  made : map sent_view l.made.items ++ numbered_packets (unit_view l.unit) l.sequence l.payload-iterator
      ≡ numbered_packets (unit_view l.unit) l.first (packets_from l.headroom 0 l.bytes l.ends);
  left : l.left ≡ length l.payload-iterator;
  room : deque_len l.made + length l.payload-iterator ≤ deque_capacity l.made;
}
