use Rattle.std.proofs.Common.{◌≡◌, ℕ, ◌+◌}
use Rattle.h26x_access_units.specs.Bits.{behind_codes}
use Rattle.h26x_access_units.proofs.bits.Bits.pass.Given as goal

-- what is left to pass
abbrev pub invariant-loop : goal.invariant-loop
invariant-loop l = (left : ℕ) → l.counter + left ≡ l.fn.count → behind_codes left l.self ≡ behind_codes l.fn.count l.fn.self
