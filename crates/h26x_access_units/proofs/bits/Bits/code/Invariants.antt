use Rattle.std.proofs.Common.{◌≡◌, ℕ, ◌+◌}
use Rattle.h26x_access_units.specs.Bits.{code_from, code_of}
use Rattle.h26x_access_units.proofs.bits.Bits.code.Given as goal

-- the zeros so far, and as many as may come still
abbrev pub invariant-loop-zeros : goal.invariant-loop-zeros
invariant-loop-zeros l = (left : ℕ) → l.zeros + left ≡ 32 → code_from left l.zeros l.self ≡ code_of l.fn.self
