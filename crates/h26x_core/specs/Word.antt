-- Header words and lengths (RFC 6184, 1.3 and 5.8; RFC 7798, 1.1.4 and 4.4; RFC 9328, 1.1.4 and
-- 4.3).
use Rattle.std.specs.Prelude.{ℕ, ◌+◌, ◌-◌, ◌/◌, ◌%◌, ◌^◌, Bool, ◌==◌, if◌then◌else◌, List, [], ◌∷◌}

-- the bits `high` down to `low` of a word; bit 0 is the lowest
abbrev pub field : ℕ → ℕ → ℕ → ℕ
field word high low = word / 2 ^ low % 2 ^ (high - low + 1)

-- whether a bit of a word is set
abbrev pub is_set : ℕ → ℕ → Bool
is_set word bit = field word bit bit == 1

-- a bit of a word in its place, where a flag is set
abbrev pub flag : Bool → ℕ → ℕ
flag set bit = if set then bit else 0

-- a word of two bytes, the high one first
abbrev pub word : ℕ → List ℕ
word n = n / 256 % 256 ∷ n % 256 ∷ []

-- a word of four bytes, the highest first
abbrev pub long_word : ℕ → List ℕ
long_word n = n / 16777216 % 256 ∷ n / 65536 % 256 ∷ n / 256 % 256 ∷ n % 256 ∷ []
