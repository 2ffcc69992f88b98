-- Sequence numbers of RTP packets, which go round at 65536 (RFC 3550, 5.1).
use Rattle.std.specs.Prelude.{ℕ, ◌+◌, ◌-◌, ◌%◌, ◌^◌, ◌==◌, nat_le, Bool, false, Option, Some, None}

-- the number after one
abbrev pub next_sequence_number : ℕ → ℕ
next_sequence_number number = (number + 1) % 2 ^ 16

-- how far a number is ahead of another
abbrev pub distance_ahead : ℕ → ℕ → ℕ
distance_ahead from number = (number + (2 ^ 16 - from)) % 2 ^ 16

-- how many packets are missing before a number where another is expected, or none yet
abbrev pub missing_count : Option ℕ → ℕ → ℕ
missing_count None number = 0
missing_count (Some expected) number = distance_ahead expected number

-- how far a number is behind the one that is expected
abbrev pub distance_behind : Option ℕ → ℕ → ℕ
distance_behind expected number = 2 ^ 16 - missing_count expected number

-- a number in the half of the circle that is behind the one expected (RFC 1982, 3.2), or as far behind
-- it as ahead (ours)
abbrev pub is_late : Option ℕ → ℕ → Bool
is_late expected number = nat_le (2 ^ 15) (missing_count expected number)

-- whether it is the one expected
abbrev pub is_expected : Option ℕ → ℕ → Bool
is_expected None number = false
is_expected (Some expected) number = number == expected
