use Rattle.std.proofs.Common.{◌≡◌, ◌+◌, length}
use Rattle.h26x_rtp.specs.Memory.{filled_from}
use Rattle.h26x_rtp.proofs.nack.copy_behind.Given as goal

abbrev pub invariant-loop-number : goal.invariant-loop-number
invariant-loop-number l = record {
  copied : filled_from l.end l.number-iterator l.to ≡ filled_from l.place l.fn.numbers l.initial.to;
  count : l.end + length l.number-iterator ≡ l.place + length l.fn.numbers;
}
