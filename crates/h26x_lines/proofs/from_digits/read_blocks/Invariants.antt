use Rattle.std.proofs.Common.{◌≡◌, ◌*◌, ◌%◌, ◌-◌, length, take, true}
use Rattle.h26x_lines.specs.Digits.{are_digits, are_values, bytes_of}
use Rattle.h26x_lines.proofs.from_digits.read_blocks.Given as goal

abbrev pub invariant-loop-at : goal.invariant-loop-at
invariant-loop-at l = record {
  whole : l.at % 16 ≡ 0;
  seen : are_values l.seen ≡ are_digits (take (2 * l.at) l.text);
  bytes : are_digits (take (2 * l.at) l.text) ≡ true → take l.at l.bytes ≡ bytes_of (take (2 * l.at) l.text);
}

abbrev pub decreases-loop-at : goal.decreases-loop-at
decreases-loop-at l = length l.initial.bytes - l.at
