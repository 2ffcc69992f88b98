-- Parameter sets of levels in `sprop-level-parameter-sets` (RFC 6184, section 8.1).
use Rattle.std.specs.Prelude.{◌≡◌, ℕ, ◌+◌, ◌<◌, List, [], ◌∷◌, ◌++◌, length, None, Result, Ok, Err}
use Rattle.std.specs.List.{join_with_byte, AllByRecursion}
use Rattle.base64.specs.GeneralPurpose.{IsBytes}
use Rattle.hex.specs.Hex.{encode_lower, decode_sized}
use Rattle.hex.specs.declared.error.FromHexError.{FromHexError}
use Rattle.h26x_fmtp.specs.declared.error.UnitsError.{UnitsError}
use Rattle.h26x_sdp.specs.declared.error.LevelSetsError.{LevelSetsError}
use Rattle.h26x_sdp.specs.declared.error.LevelSetsError.TheVariants.{NotHexadecimal, NoSets, Sets}
use Rattle.h26x_fmtp.specs.Units.{pieces_at, units_text, sprop_units, AreSpropUnits}
use Rattle.h26x_fmtp.specs.UnitTypes.{of_types, fault_from, h264_sets}

-- the three bytes of a profile and a level, and its parameter sets
pub record LevelSets : Type 0 where
  pub profile_level_id : List ℕ
  pub sets : List (List ℕ)

-- the two parts of a level at a place; the first fault is the answer
abbrev pub level_of_parts : ℕ → Result (List ℕ) FromHexError → Result (List (List ℕ)) UnitsError →
    Result LevelSets LevelSetsError
level_of_parts place (Err error) sets = Err (NotHexadecimal place)
level_of_parts place (Ok id) (Err error) = Err (Sets place error)
level_of_parts place (Ok id) (Ok sets) = Ok (record { profile_level_id = id; sets = sets })

-- six digits, and units that are sets
abbrev pub level_in : ℕ → List ℕ → List ℕ → Result LevelSets LevelSetsError
level_in place id sets =
    level_of_parts place (decode_sized id 3) (of_types h264_sets (sprop_units sets))

-- a level before others; the first fault is the answer
abbrev pub level_before : Result LevelSets LevelSetsError → Result (List LevelSets) LevelSetsError →
    Result (List LevelSets) LevelSetsError
level_before (Err error) levels = Err error
level_before (Ok level) (Err error) = Err error
level_before (Ok level) (Ok levels) = Ok (level ∷ levels)

-- the levels of texts, two of each, the first of them at a place
abbrev pub levels_from : ℕ → List (List ℕ) → Result (List LevelSets) LevelSetsError
levels_from place [] = Ok []
levels_from place (id ∷ []) = Err (NoSets place)
levels_from place (id ∷ sets ∷ rest) =
    level_before (level_in place id sets) (levels_from (place + 1) rest)

-- the levels of a text, which has `:` between all of them
abbrev pub level_sets_in : List ℕ → Result (List LevelSets) LevelSetsError
level_sets_in text = levels_from 0 (pieces_at 58 text)

-- the texts of levels, two of each
abbrev pub level_texts : List LevelSets → List (List ℕ)
level_texts [] = []
level_texts (level ∷ rest) =
    encode_lower level.profile_level_id ∷ units_text level.sets ∷ level_texts rest

-- a level as it is written
abbrev pub level_text : LevelSets → List ℕ
level_text level = encode_lower level.profile_level_id ++ 58 ∷ units_text level.sets

-- levels as they are written
abbrev pub level_sets_text : List LevelSets → List ℕ
level_sets_text levels = join_with_byte 58 (level_texts levels)

-- what may stand as a level
pub record IsLevel (level : LevelSets) : Type 0 where
  pub long : length level.profile_level_id ≡ 3
  pub bytes : IsBytes level.profile_level_id
  pub units : AreSpropUnits level.sets
  pub types : fault_from h264_sets 0 level.sets ≡ None

pub record AreLevelSets (levels : List LevelSets) : Type 0 where
  pub some : 0 < length levels
  pub whole : AllByRecursion IsLevel levels
