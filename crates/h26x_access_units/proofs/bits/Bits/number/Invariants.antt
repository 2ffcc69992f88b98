use Rattle.std.proofs.Common.{◌≡◌, ℕ, ◌+◌, ◌<◌, ◌^◌}
use Rattle.h26x_access_units.specs.Bits.{number_from, behind_bits}
use Rattle.h26x_access_units.proofs.bits.Bits.number.Given as goal

-- what was read so far, and what is left to read
abbrev pub invariant-loop : goal.invariant-loop
invariant-loop l = (l.value < 2 ^ l.counter) × ((left : ℕ) → l.counter + left ≡ l.fn.count →
    (number_from l.value left l.self ≡ number_from 0 l.fn.count l.fn.self)
    × (behind_bits left l.self ≡ behind_bits l.fn.count l.fn.self))
