use Rattle.std.proofs.Common.{◌≡◌, ℕ, ◌+◌}
use Rattle.h26x_access_units.specs.FrameNumber.{behind_lists}
use Rattle.h26x_access_units.proofs.frame_number.pass_lists.Given as goal

-- what is left to pass
abbrev pub invariant-loop : goal.invariant-loop
invariant-loop l = (left : ℕ) → l.counter + left ≡ l.fn.count → behind_lists left l.fn.size l.bits ≡ behind_lists l.fn.count l.fn.size l.fn.bits
