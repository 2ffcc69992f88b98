-- NAL units in base64 (RFC 6184, section 8.1; RFC 7798, section 7.1; RFC 9328, section 7.2).
use Rattle.std.specs.Prelude.{ℕ, ◌+◌, ◌<◌, ◌==◌, Bool, List, [], ◌∷◌, length, map, Option, Result, Ok, Err}
use Rattle.std.specs.List.{slice_split, join_with_byte, AllByRecursion}
use Rattle.std.specs.Option.{option_map, option_and_then}
use Rattle.base64.specs.Engines.{standard}
use Rattle.base64.specs.GeneralPurpose.{encode_of, decode_of, IsBytes}
use Rattle.base64.specs.declared.decode.DecodeError.{DecodeError}
use Rattle.h26x_fmtp.specs.declared.error.UnitsError.{UnitsError}
use Rattle.h26x_fmtp.specs.declared.error.UnitsError.TheVariants.{NotBase64, Empty}
use Rattle.h26x_fmtp.specs.Kinds.{unit_types}
use Rattle.h26x_fmtp.specs.UnitTypes.{of_types}
use Rattle.h26x_fmtp.specs.Tables.{ParameterRow, row_at}
use Rattle.h26x_fmtp.specs.Reading.{FormatParameters, value_at}

abbrev pub is_mark_of : ℕ → ℕ → Bool
is_mark_of mark byte = byte == mark

-- a text cut at each byte of a value
abbrev pub pieces_at : ℕ → List ℕ → List (List ℕ)
pieces_at mark text = slice_split (is_mark_of mark) text

-- at each comma
abbrev pub pieces : List ℕ → List (List ℕ)
pieces text = pieces_at 44 text

-- units as they are written
abbrev pub units_text : List (List ℕ) → List ℕ
units_text units = join_with_byte 44 (map (encode_of standard) units)

-- a unit has a byte
abbrev pub unit_unless_empty : ℕ → Result (List ℕ) DecodeError → Result (List ℕ) UnitsError
unit_unless_empty place (Err error) = Err (NotBase64 place)
unit_unless_empty place (Ok []) = Err (Empty place)
unit_unless_empty place (Ok (byte ∷ rest)) = Ok (byte ∷ rest)

-- the unit of a text at a place
abbrev pub unit_in : ℕ → List ℕ → Result (List ℕ) UnitsError
unit_in place text = unit_unless_empty place (decode_of standard text)

-- a unit before others; the first fault is the answer
abbrev pub unit_before : Result (List ℕ) UnitsError → Result (List (List ℕ)) UnitsError →
    Result (List (List ℕ)) UnitsError
unit_before (Err error) units = Err error
unit_before (Ok unit) (Err error) = Err error
unit_before (Ok unit) (Ok units) = Ok (unit ∷ units)

-- the units of texts, the first of them at a place
abbrev pub units_from : ℕ → List (List ℕ) → Result (List (List ℕ)) UnitsError
units_from place [] = Ok []
units_from place (text ∷ rest) = unit_before (unit_in place text) (units_from (place + 1) rest)

-- the units of a text
abbrev pub sprop_units : List ℕ → Result (List (List ℕ)) UnitsError
sprop_units text = units_from 0 (pieces text)

-- the units of a row's value, if it's given and its kind is units: where each is of a type that the
-- parameter is for, and holds no start code
abbrev pub sprop_units_at : List ParameterRow → FormatParameters → ℕ →
    Option (Result (List (List ℕ)) UnitsError)
sprop_units_at rows it row =
    option_and_then (λ types.
    option_map (λ text. of_types types (sprop_units text)) (value_at it.values row))
    (unit_types (row_at rows row).kind)

-- what may stand as units: some, each of some bytes
pub record AreSpropUnits (units : List (List ℕ)) : Type 0 where
  pub some : 0 < length units
  pub whole : AllByRecursion (λ unit. (0 < length unit) × IsBytes unit) units
