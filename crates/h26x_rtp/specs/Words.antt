-- Numbers of two and four bytes, the high byte first (RFC 3550, 4).
use Rattle.std.specs.Prelude.{ℕ, ◌+◌, ◌*◌, List, slice_index}

-- the number of two bytes at a place
abbrev pub word_at : List ℕ → ℕ → ℕ
word_at bytes place = slice_index bytes place * 256 + slice_index bytes (place + 1)

-- the number of four bytes at a place
abbrev pub long_at : List ℕ → ℕ → ℕ
long_at bytes place = word_at bytes place * 65536 + word_at bytes (place + 2)
