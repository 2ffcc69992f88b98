use Rattle.std.proofs.Common.{◌≡◌, ◌≤◌, ◌+◌, ◌++◌, length, map, vec_len, vec_capacity}
use Rattle.h26x_reorder.proofs.reorder.pop_all.Given as goal

-- what was appended and what is held are what was held
abbrev pub invariant-loop-packet : goal.invariant-loop-packet
invariant-loop-packet l = record {
  room : vec_len l.out + length l.order.held ≤ vec_capacity l.out;
  packets : map (λ p. p.now) l.out.items ++ l.order.held ≡ map (λ p. p.now) l.fn.out.items ++ l.fn.order.held;
}

abbrev pub decreases-loop-packet : goal.decreases-loop-packet
decreases-loop-packet l = length l.order.held
