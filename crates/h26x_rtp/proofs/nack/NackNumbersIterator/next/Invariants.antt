use Rattle.std.proofs.Common.{◌≡◌}
use Rattle.h26x_rtp.specs.Nack.{bit_numbers}
use Rattle.h26x_rtp.proofs.nack.NackNumbersIterator.next.Given as goal

abbrev pub invariant-loop-self : goal.invariant-loop-self
invariant-loop-self l = bit_numbers l.self-inside.left l.self-inside.number l.self-inside.bits
    ≡ bit_numbers l.initial.self-inside.left l.initial.self-inside.number l.initial.self-inside.bits

abbrev pub decreases-loop-self : goal.decreases-loop-self
decreases-loop-self l = l.self-inside.left
