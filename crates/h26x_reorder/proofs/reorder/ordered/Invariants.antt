use Rattle.std.proofs.Common.{◌≡◌, ◌≤◌, ◌+◌, ◌++◌, drop, length, map, vec_len, vec_capacity}
use Rattle.h26x_reorder.specs.ReorderBuffer.{reordered, reordered_from}
use Rattle.h26x_reorder.proofs.reorder.ordered.Given as goal

-- what was given out, and what is given out of the packets that are left
abbrev pub invariant-loop-packet : goal.invariant-loop-packet
invariant-loop-packet l = record {
  len : vec_len l.out + length l.order.held ≤ l.packet-index;
  room : length l.packets ≤ vec_capacity l.out;
  packets : map (λ p. p.now) l.out.items ++ reordered_from l.order (drop l.packet-index l.packets) ≡ reordered l.fn.window l.packets;
}
