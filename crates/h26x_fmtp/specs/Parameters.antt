-- Which parameters a table gives back.
use Rattle.std.specs.Prelude.{◌≡◌, ℕ, ◌+◌, Bool, true, false, not, ◌&&◌, ◌||◌, ◌==◌, List, [], ◌∷◌, Option, Some, None, Ok}
use Rattle.std.specs.List.{list_all, AllByRecursion}
use Rattle.std.specs.Option.{option_and_then}
use Rattle.std.specs.Char.{is_ascii_whitespace}
use Rattle.h26x_fmtp.specs.declared.error.Fault.{Fault}
use Rattle.h26x_fmtp.specs.Pairs.{Pair, is_equals}
use Rattle.h26x_fmtp.specs.Written.{written, with_pair, is_one_part, IsTrimmed, IsWritable}
use Rattle.h26x_fmtp.specs.Kinds.{fault_in}
use Rattle.h26x_fmtp.specs.Tables.{ParameterRow, row_of}
use Rattle.h26x_fmtp.specs.Reading.{FormatParameters, read_of, all_of}

-- a text with a row's value behind it, if it's given
abbrev pub with_given : List ℕ → ParameterRow → Option (List ℕ) → List ℕ
with_given text row None = text
with_given text row (Some value) = with_pair text (record { name = row.name; value = value })

-- `;`, `{` and `}`
abbrev pub is_mark : ℕ → Bool
is_mark byte = (byte == 59 || byte == 123) || byte == 125

-- whether a byte may stand in a row's name
abbrev pub is_plain : ℕ → Bool
is_plain byte = (not (is_ascii_whitespace byte) && not (is_mark byte)) && not (is_equals byte)

-- what is wrong with a row's default, if anything is
abbrev pub default_fault : ParameterRow → Option Fault
default_fault row = option_and_then (fault_in row.kind) row.default

-- rows of a table, the first of them at a place: each is found by its name, which is plain, and its
-- default is a value of its kind
abbrev pub AreRows : List ParameterRow → ℕ → List ParameterRow → Type 0
AreRows all place [] = Unit {0}
AreRows all place (row ∷ rest) = (row_of all row.name ≡ Some (place, row.kind))
    × (list_all is_plain row.name ≡ true) × (default_fault row ≡ None)
    × AreRows all (place + 1) rest

abbrev pub IsTable : List ParameterRow → Type 0
IsTable rows = AreRows rows 0 rows

-- what may stand as a value of a kind
pub record IsValue (row : ParameterRow) (value : List ℕ) : Type 0 where
  pub fits : fault_in row.kind value ≡ None
  pub trimmed : IsTrimmed value
  pub one_part : is_one_part false value ≡ true

abbrev pub IsValueIfGiven : ParameterRow → Option (List ℕ) → Type 0
IsValueIfGiven row None = Unit {0}
IsValueIfGiven row (Some value) = IsValue row value

-- each row's value is one of its kind, if it's given
abbrev pub AreValues : List ParameterRow → List (Option (List ℕ)) → Type 0
AreValues [] [] = Unit {0}
AreValues [] (value ∷ values) = ⊥
AreValues (row ∷ rows) [] = ⊥
AreValues (row ∷ rows) (value ∷ values) = IsValueIfGiven row value × AreValues rows values

-- a parameter that the table doesn't have
pub record IsOther (rows : List ParameterRow) (pair : Pair) : Type 0 where
  pub unknown : row_of rows pair.name ≡ None
  pub writable : IsWritable pair

-- parameters of a table
pub record AreParameters (rows : List ParameterRow) (parameters : FormatParameters) : Type 0 where
  pub values : AreValues rows parameters.values
  pub others : AllByRecursion (IsOther rows) parameters.others

-- what is written of parameters is read as the same
abbrev pub IsReadAgain : List ParameterRow → FormatParameters → Type 0
IsReadAgain rows it = read_of rows (written (all_of rows it)) ≡ Ok it

-- what holds of whatever a table reads of a text
abbrev pub OfEachRead : (List ParameterRow → FormatParameters → Type 0) → Type 0
OfEachRead Holds = (rows : List ParameterRow) (text : List ℕ) (it : FormatParameters) →
    IsTable rows → read_of rows text ≡ Ok it → Holds rows it
