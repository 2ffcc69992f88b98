use Rattle.std.proofs.Common.{◌≡◌, ◌≤◌, ◌+◌, ◌++◌, length, map, vec_len, vec_capacity}
use Rattle.h26x_reorder.specs.ReorderBuffer.{ready_packets, without_ready}
use Rattle.h26x_reorder.proofs.reorder.pop_ready.Given as goal

-- what was appended and what may go is what could go
abbrev pub invariant-loop-packet : goal.invariant-loop-packet
invariant-loop-packet l = record {
  len : vec_len l.out + length l.order.held ≤ vec_len l.fn.out + length l.fn.order.held;
  capacity : vec_capacity l.fn.out ≤ vec_capacity l.out;
  packets : map (λ p. p.now) l.out.items ++ ready_packets l.order.window l.order.due l.order.held
      ≡ map (λ p. p.now) l.fn.out.items ++ ready_packets l.fn.order.window l.fn.order.due l.fn.order.held;
  after : without_ready l.order.window l.order.due l.order.held ≡ without_ready l.fn.order.window l.fn.order.due l.fn.order.held;
}

abbrev pub decreases-loop-packet : goal.decreases-loop-packet
decreases-loop-packet l = length l.order.held
