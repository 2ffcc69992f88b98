use Rattle.std.proofs.Common.{◌≡◌, ℕ, ◌+◌, ◌<◌}
use Rattle.h26x_access_units.specs.FrameNumber.{behind_list}
use Rattle.h26x_access_units.proofs.frame_number.pass_list.Given as goal

-- what is left to pass
abbrev pub invariant-loop : goal.invariant-loop
invariant-loop l = (l.last < 256) × ((left : ℕ) → l.counter + left ≡ l.fn.size → behind_list left l.last l.bits ≡ behind_list l.fn.size 8 l.fn.bits)
