-- Patterns of the eight bits of a byte (RFC 6184, section 8.1, table 5).
use Rattle.std.specs.Prelude.{ℕ, ◌/◌, ◌%◌, ◌^◌, ◌-◌, Bool, ◌==◌, ◌&&◌, ◌||◌, List, [], ◌∷◌, slice_index}
use Rattle.std.specs.List.{list_all}

-- a bit of a number; bit 0 is the lowest
abbrev pub bit_of : ℕ → ℕ → ℕ
bit_of number bit = number / 2 ^ bit % 2

-- whether a byte is `0`, `1` or `x`
abbrev pub is_place : ℕ → Bool
is_place place = (place == 48) || (place == 49) || (place == 120)

-- whether a place takes a bit: `0` and `1` take theirs, `x` takes either
abbrev pub takes : ℕ → ℕ → Bool
takes place bit = (place == 120) || ((place == 48) && (bit == 0)) || ((place == 49) && (bit == 1))

-- whether each place of a pattern takes its bit of a byte: the first place is bit 7
abbrev pub matches : List ℕ → ℕ → Bool
matches pattern byte = list_all (λ i. takes (slice_index pattern i) (bit_of byte (7 - i))) (0 ∷ 1 ∷
    2 ∷ 3 ∷ 4 ∷ 5 ∷ 6 ∷ 7 ∷ [])
