use Rattle.std.proofs.Common.{◌≡◌, take, true}
use Rattle.h26x_fmtp.specs.Kinds.{are_digits_of}
use Rattle.h26x_fmtp.proofs.kind.are_digits.Given as goal

abbrev pub invariant-loop-byte : goal.invariant-loop-byte
invariant-loop-byte l = are_digits_of l.radix (take l.byte-index l.text) ≡ true
