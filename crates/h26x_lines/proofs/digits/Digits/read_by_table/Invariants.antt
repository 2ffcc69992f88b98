use Rattle.std.proofs.Common.{◌≡◌, ◌*◌, ◌-◌, ltb, length, take, true}
use Rattle.h26x_lines.specs.Digits.{are_digits, bytes_of}
use Rattle.h26x_lines.proofs.digits.Digits.read_by_table.Given as goal

abbrev pub invariant-loop-at : goal.invariant-loop-at
invariant-loop-at l = record {
  seen : ltb l.all 16 ≡ are_digits (take (2 * l.at) l.text);
  bytes : are_digits (take (2 * l.at) l.text) ≡ true → take l.at l.bytes ≡ bytes_of (take (2 * l.at) l.text);
}

abbrev pub decreases-loop-at : goal.decreases-loop-at
decreases-loop-at l = length l.initial.bytes - l.at
