-- Numbers of packets by their places.
use Rattle.std.proofs.Common.{◌≡◌, ℕ, ◌+◌, ◌%◌, ◌^◌, arith}
use Rattle.h26x_core.specs.Sequence.{next_sequence_number}

-- the number of a place, where the first has this one
abbrev pub number_at : ℕ → ℕ → ℕ
number_at first place = (first + place) % 2 ^ 16

-- the next place has the next number
pub next_number : (first place : ℕ) → next_sequence_number (number_at first place) ≡ number_at first (place + 1)
next_number first place = omega arith
