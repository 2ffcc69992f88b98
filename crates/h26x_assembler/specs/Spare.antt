-- What is kept of memory that was given back (ours).
use Rattle.std.specs.Prelude.{ℕ, ◌*◌, ◌-◌, ◌^◌, max, min}

-- how many bytes are kept at most, where the longest access units of late, and before, had so many:
-- twice as many, or 2^20
abbrev pub kept_memory : ℕ → ℕ → ℕ
kept_memory latest earlier = max (min (max latest earlier * 2) (2 ^ 64 - 1)) 1048576
