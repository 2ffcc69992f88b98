use Rattle.std.proofs.Common.{◌≡◌, ◌≤◌, length, map, take, vec_len, vec_capacity}
use Rattle.h26x_reorder.specs.ReorderBuffer.{numbered_packet}
use Rattle.h26x_reorder.proofs.reorder.reorder_all.Given as goal

-- the packets so far were copied
abbrev pub invariant-loop-packet : goal.invariant-loop-packet
invariant-loop-packet l = record {
  count : vec_len l.out ≡ l.packet-index;
  room : length l.packet-items ≤ vec_capacity l.out;
  copies : map numbered_packet l.out.items ≡ take l.packet-index (map (λ p. p.now) l.packet-items);
}
