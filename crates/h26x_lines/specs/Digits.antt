-- Bytes by two hexadecimal digits each.
use Rattle.std.specs.Prelude.{ℕ, ◌+◌, ◌*◌, ◌&&◌, Bool, true, nat_lt, List, [], ◌∷◌, map, unwrap_or}
use Rattle.std.specs.List.{range_with_len}
use Rattle.hex.specs.Hex.{hex_digit_value}

-- the value of a digit in either case, and 16 for any other byte
abbrev pub digit_value : ℕ → ℕ
digit_value c = unwrap_or (hex_digit_value c) 16

-- whether each of some values is that of a digit
abbrev pub are_values : List ℕ → Bool
are_values [] = true
are_values (value ∷ rest) = nat_lt value 16 && are_values rest

-- whether each byte of a text is a digit
abbrev pub are_digits : List ℕ → Bool
are_digits text = are_values (map digit_value text)

-- bytes of two values each, that of the high half first
unfoldable pub joined : List ℕ → List ℕ
joined [] = []
joined (value ∷ []) = []
joined (high ∷ low ∷ rest) = (16 * high + low) ∷ joined rest

-- the bytes of a text of two digits each
abbrev pub bytes_of : List ℕ → List ℕ
bytes_of text = joined (map digit_value text)

-- what each byte is as a digit: its value, and 240 (0xf0) where it is none
unfoldable pub digit_table : List ℕ
digit_table = map (λ c. unwrap_or (hex_digit_value c) 240) (range_with_len 0 256)
