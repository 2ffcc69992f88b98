-- Parameters by a table of what each of them is (RFC 6184, section 8.1; RFC 7798, section 7.1; RFC
-- 9328, section 7.2).
use Rattle.std.specs.Prelude.{ℕ, ◌+◌, ◌^◌, nat_lt, if◌then◌else◌, List, [], ◌∷◌, ◌++◌, length, replicate, slice_set, slice_index_or, Option, Some, None, is_some, Result, Ok, Err}
use Rattle.std.specs.Option.{option_and_then, option_or}
use Rattle.h26x_fmtp.specs.declared.kind.Kind.{Kind}
use Rattle.h26x_fmtp.specs.declared.error.Fault.{Fault}
use Rattle.h26x_fmtp.specs.declared.error.Fault.TheVariants.{Twice}
use Rattle.h26x_fmtp.specs.declared.error.ParametersError.{ParametersError}
use Rattle.h26x_fmtp.specs.declared.error.ParametersError.TheVariants.{OpenBrace, Refused}
use Rattle.h26x_fmtp.specs.Pairs.{Pair, pairs, closes}
use Rattle.h26x_fmtp.specs.Kinds.{fault_in, number_of}
use Rattle.h26x_fmtp.specs.Tables.{ParameterRow, row_of, row_at}

-- the value of each row of a table, where it is given, and the parameters that the table doesn't have
pub record FormatParameters : Type 0 where
  pub values : List (Option (List ℕ))
  pub others : List Pair

-- of a table of so many rows, none
abbrev pub none_of : ℕ → FormatParameters
none_of rows = record { values = replicate rows None; others = [] }

-- the value of a row, if it's given
abbrev pub value_at : List (Option (List ℕ)) → ℕ → Option (List ℕ)
value_at values row = slice_index_or values row None

-- parameters with one more
abbrev pub with_one : ℕ → List ℕ → FormatParameters → FormatParameters
with_one row value it = record it { values = slice_set it.values row (Some value) }

-- the number of a row, if its value is given and its kind is a number's
abbrev pub number_at : List ParameterRow → FormatParameters → ℕ → Option ℕ
number_at rows it row = option_and_then (number_of (row_at rows row).kind) (value_at it.values row)

-- the value of a row, or where it's absent its default
abbrev pub value_or_default : List ParameterRow → FormatParameters → ℕ → Option (List ℕ)
value_or_default rows it row = option_or (value_at it.values row) (row_at rows row).default

abbrev pub number_or_default : List ParameterRow → FormatParameters → ℕ → Option ℕ
number_or_default rows it row =
    option_and_then (number_of (row_at rows row).kind) (value_or_default rows it row)

-- a number, where it is of 32 bits
abbrev pub number_of_32_bits : Option ℕ → Option ℕ
number_of_32_bits None = None
number_of_32_bits (Some number) = if nat_lt number (2 ^ 32) then Some number else None

-- a value that is given, where nothing is wrong with it
abbrev pub with_value : ℕ → FormatParameters → ℕ → List ℕ → Option Fault →
    Result FormatParameters ParametersError
with_value place so_far row value (Some fault) = Err (Refused place fault)
with_value place so_far row value None =
    Ok (record so_far { values = slice_set so_far.values row (Some value) })

-- a parameter more, of a row or of none: not of a row that is given already
abbrev pub with_row : ℕ → FormatParameters → Pair → Option (ℕ × Kind) →
    Result FormatParameters ParametersError
with_row place so_far pair None = Ok (record so_far { others = so_far.others ++ pair ∷ [] })
with_row place so_far pair (Some (row, kind)) =
    if is_some (value_at so_far.values row) then Err (Refused place Twice)
    else with_value place so_far row pair.value (fault_in kind pair.value)

-- the parameters with the one at a place
abbrev pub with_parameter : List ParameterRow → ℕ → FormatParameters → Pair →
    Result FormatParameters ParametersError
with_parameter rows place so_far pair = with_row place so_far pair (row_of rows pair.name)

-- the second step, where the first gives parameters
abbrev pub and_then : Result FormatParameters ParametersError →
    (FormatParameters → Result FormatParameters ParametersError) →
    Result FormatParameters ParametersError
and_then (Ok parameters) more = more parameters
and_then (Err error) more = Err error

-- the parameters with each of a list, the first of them at a place; the first fault is the answer
unfoldable pub reading : List ParameterRow → ℕ → FormatParameters → List Pair →
    Result FormatParameters ParametersError
reading rows place so_far [] = Ok so_far
reading rows place so_far (pair ∷ rest) =
    and_then (with_parameter rows place so_far pair) (λ next. reading rows (place + 1) next rest)

-- the parameters of a text
abbrev pub read_of : List ParameterRow → List ℕ → Result FormatParameters ParametersError
read_of rows text =
    if closes text then reading rows 0 (none_of (length rows)) (pairs text) else Err OpenBrace

-- the parameters that are given, in the table's order
abbrev pub given_pairs : List ParameterRow → List (Option (List ℕ)) → List Pair
given_pairs [] values = []
given_pairs (row ∷ rows) [] = []
given_pairs (row ∷ rows) (None ∷ values) = given_pairs rows values
given_pairs (row ∷ rows) (Some value ∷ values) =
    record { name = row.name; value = value } ∷ given_pairs rows values

-- all parameters: those of the table, and the others behind them
abbrev pub all_of : List ParameterRow → FormatParameters → List Pair
all_of rows parameters = given_pairs rows parameters.values ++ parameters.others
