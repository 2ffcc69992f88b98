-- Lists of values that numbers name.
use Rattle.std.specs.Prelude.{ℕ, List, Option, ◌==◌, find}
use Rattle.std.specs.List.{position_or_len}

-- the first value of a list with a number
abbrev pub with_number : {A : Type 0} → (A → ℕ) → List A → ℕ → Option A
with_number number_of values number = find (λ it. number_of it == number) values

-- the first place in a list of a value with the number of this one
abbrev pub place_of : {A : Type 0} → (A → ℕ) → List A → A → ℕ
place_of number_of values value = position_or_len (λ it. number_of it == number_of value) values
