use Rattle.std.proofs.Common.{◌≡◌, ◌≤◌, ◌+◌, ◌++◌, deque_len}
use Rattle.std.specs.VecDeque.{deque_capacity}
use Rattle.h26x_reorder.proofs.parted.move_before.Given as goal

-- what was moved stays behind the front, where there is room for the rest
abbrev pub invariant-loop : goal.invariant-loop
invariant-loop g l = record {
  room : deque_len l.front + l.fn.count ≤ deque_capacity l.front + l.counter;
  items : l.front.items ++ l.back.items ≡ l.fn.front.items ++ l.fn.back.items;
}
