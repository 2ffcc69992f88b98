use Rattle.std.proofs.Common.{◌≡◌, ℕ, ◌+◌, ◌++◌}
use Rattle.h26x_access_units.specs.Missing.{numbers_from}
use Rattle.h26x_access_units.proofs.jitter.append_numbers.Given as goal

-- what was appended, and what is to be
abbrev pub invariant-loop : goal.invariant-loop
invariant-loop l = (left : ℕ) → l.counter + left ≡ l.fn.count →
    l.fn.numbers.items ++ numbers_from l.fn.first l.fn.count ≡ l.numbers.items ++ numbers_from l.number left
