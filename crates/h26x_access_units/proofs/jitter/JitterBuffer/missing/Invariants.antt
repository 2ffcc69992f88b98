use Rattle.std.proofs.Common.{◌≡◌, ◌++◌, drop}
use Rattle.h26x_access_units.specs.Missing.{missing_before}
use Rattle.h26x_access_units.proofs.jitter.JitterBuffer.missing.Given as goal

-- what was told, and what is missing behind that
abbrev pub invariant-loop-place : goal.invariant-loop-place
invariant-loop-place l = l.initial.numbers.items ++ missing_before l.initial.from l.self-inside.buffer.held
    ≡ l.numbers.items ++ missing_before l.from (drop l.place l.self-inside.buffer.held)
