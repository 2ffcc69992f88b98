-- The room that units may take when packets are written out (str0m's rule).
use Rattle.std.specs.Prelude.{ℕ, ◌+◌, ◌-◌, ◌*◌, ◌/◌, ◌^◌, min}

-- the bytes of the packets, four more, and four for each whole 1200 of them; a usize at most
abbrev pub size_hint : ℕ → ℕ
size_hint bytes = min (bytes + 4 * (bytes / 1200 + 1)) (2 ^ 64 - 1)
