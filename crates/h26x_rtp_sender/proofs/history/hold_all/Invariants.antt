use Rattle.std.proofs.Common.{◌≡◌, ◌≤◌, ◌+◌, ◌++◌, map, deque_len, deque_capacity}
use Rattle.h26x_rtp_sender.specs.Sent.{sent_view}
use Rattle.h26x_rtp_sender.specs.History.{IsHistory, last_within}
use Rattle.h26x_rtp_sender.proofs.history.hold_all.Given as goal

-- the last ones with those that are left are the same, and for these there is room
abbrev pub invariant-loop-packet : goal.invariant-loop-packet
invariant-loop-packet l = record {
  last : last_within l.bound (map sent_view l.packets.items ++ map sent_view l.rest.items) ≡ last_within l.bound (map sent_view l.fn.packets.items ++ map sent_view l.fn.made.items);
  held : IsHistory l.bound l.held (map sent_view l.packets.items);
  room : deque_len l.packets + deque_len l.rest ≤ deque_capacity l.packets;
}

abbrev pub decreases-loop-packet : goal.decreases-loop-packet
decreases-loop-packet l = deque_len l.rest
