use Rattle.std.proofs.Common.{◌≡◌, length, ℕ, List}
use Rattle.std.specs.List.{list_any}
use Rattle.h26x_depacketizer.specs.Look.{first_bytes}
use Rattle.h26x_depacketizer.proofs.look.holds_unit.Given as goal

-- it is so of none that was passed
abbrev pub invariant-loop-unit : goal.invariant-loop-unit
invariant-loop-unit g l = list_any (λ (unit : List ℕ). g.T.UnitTest.holds l.test (first_bytes unit)) (g.A.Aggregate.units l.codec l.rest)
    ≡ list_any (λ (unit : List ℕ). g.T.UnitTest.holds l.test (first_bytes unit)) (g.A.Aggregate.units l.codec l.bytes)

abbrev pub decreases-loop-unit : goal.decreases-loop-unit
decreases-loop-unit g l = length l.rest
