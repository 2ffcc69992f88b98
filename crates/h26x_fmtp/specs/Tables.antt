-- Tables of parameters.
use Rattle.std.specs.Prelude.{ℕ, ◌+◌, ◌==◌, ◌&&◌, Bool, true, false, if◌then◌else◌, List, [], ◌∷◌, slice_index_or, Option, Some, None}
use Rattle.std.specs.Char.{to_ascii_lowercase}
use Rattle.h26x_fmtp.specs.declared.kind.Kind.{Kind}
use Rattle.h26x_fmtp.specs.declared.kind.Kind.TheVariants.{Text}

-- a parameter of a format
pub record ParameterRow : Type 0 where
  pub name : List ℕ
  pub kind : Kind
  pub default : Option (List ℕ)

-- whether two names are one, without regard to case
abbrev pub same_name : List ℕ → List ℕ → Bool
same_name [] [] = true
same_name [] (b ∷ bs) = false
same_name (a ∷ xs) [] = false
same_name (a ∷ xs) (b ∷ ys) = (to_ascii_lowercase a == to_ascii_lowercase b) && same_name xs ys

-- the place of the first row with a name, counted from a number on, and its kind
abbrev pub row_from : ℕ → List ParameterRow → List ℕ → Option (ℕ × Kind)
row_from place [] name = None
row_from place (row ∷ rows) name =
    if same_name row.name name then Some (place, row.kind) else row_from (place + 1) rows name

abbrev pub row_of : List ParameterRow → List ℕ → Option (ℕ × Kind)
row_of rows name = row_from 0 rows name

-- the row at a place of a table
abbrev pub row_at : List ParameterRow → ℕ → ParameterRow
row_at rows place = slice_index_or rows place (record { name = []; kind = Text; default = None })
