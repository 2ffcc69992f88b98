use Rattle.std.proofs.Common.{◌≡◌, ◌≤◌, ◌++◌, [], ◌∷◌, map, deque_len, deque_capacity}
use Rattle.h26x_rtp_sender.specs.Sent.{sent_view}
use Rattle.h26x_rtp_sender.specs.History.{history_bytes, last_within}
use Rattle.h26x_rtp_sender.proofs.history.hold.Given as goal

-- the last ones with the packet are the same
abbrev pub invariant-loop-packets : goal.invariant-loop-packets
invariant-loop-packets l = record {
  last : last_within l.bound (map sent_view l.packets.items ++ sent_view l.packet ∷ []) ≡ last_within l.bound (map sent_view l.fn.packets.items ++ sent_view l.packet ∷ []);
  bytes : l.held ≡ history_bytes (map sent_view l.packets.items);
  within : l.held ≤ l.bound;
  len : deque_len l.packets ≤ deque_len l.fn.packets;
  capacity : deque_capacity l.packets ≡ deque_capacity l.fn.packets;
}

abbrev pub decreases-loop-packets : goal.decreases-loop-packets
decreases-loop-packets l = deque_len l.packets
