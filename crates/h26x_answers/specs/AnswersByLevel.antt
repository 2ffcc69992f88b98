-- Answers to offers whose level is a number (RFC 7798, section 7.2.2; RFC 9328, section 7.3.2).
use Rattle.std.specs.Prelude.{ℕ, min, max, nat_lt, nat_le, Bool, false, not, ◌&&◌, ◌||◌, if◌then◌else◌, List, Option, Some, None}
use Rattle.std.specs.Option.{option_map}
use Rattle.h26x_answers.specs.declared.answer.by_level.Levels.{Levels}
use Rattle.h26x_answers.specs.declared.answer.by_level.LevelParameters.{LevelParameters}
use Rattle.h26x_fmtp.specs.Tables.{ParameterRow}
use Rattle.h26x_fmtp.specs.Reading.{FormatParameters, value_at, number_at, value_or_default, number_or_default}
use Rattle.h26x_answers.specs.Answers.{Terms, holds}

-- the rows of the level, of the highest level that is received, and of packets that bear decoding order
-- numbers: how far these differ, and the units and bytes that are to be held
pub record LevelRows : Type 0 where
  pub level : ℕ
  pub highest : ℕ
  pub difference : ℕ
  pub units : ℕ
  pub need : ℕ
  pub room : ℕ

-- those rows, of parameters that have a place
abbrev pub level_rows : {P : Type 0} → (P → ℕ) → LevelParameters P → LevelRows
level_rows place by = record {
  level = place by.level;
  highest = place by.highest;
  difference = place by.difference;
  units = place by.units;
  need = place by.need;
  room = place by.room;
}

abbrev pub levels_by : ℕ → Option ℕ → Levels
levels_by level None = record { level = level; highest = level }
levels_by level (Some received) = record { level = level; highest = max level received }

abbrev pub levels_of : List ParameterRow → LevelRows → FormatParameters → Option Levels
levels_of rows by it = option_map (λ level. levels_by level (number_at rows it by.highest))
    (number_or_default rows it by.level)

-- the value that says the highest level
abbrev pub highest_value : List ParameterRow → LevelRows → FormatParameters → Levels →
    Option (List ℕ)
highest_value rows by it levels =
    if nat_lt levels.level levels.highest then value_at it.values by.highest
    else value_or_default rows it by.level

-- the level of the answer: the lower of both
abbrev pub lower_level : LevelRows → FormatParameters → FormatParameters → Levels → Levels →
    Option (List ℕ)
lower_level by offered own a b =
    if nat_lt b.level a.level then value_at own.values by.level
    else value_at offered.values by.level

-- the highest level of the answer: the lower of both, where it's above the answer's level
abbrev pub lower_highest : List ParameterRow → LevelRows → FormatParameters → FormatParameters →
    Levels → Levels → Option (List ℕ)
lower_highest rows by offered own a b =
    if nat_lt (min a.level b.level) (min a.highest b.highest) then
    (if nat_lt b.highest a.highest then highest_value rows by own b
    else highest_value rows by offered a) else None

abbrev pub is_positive : Option ℕ → Bool
is_positive None = false
is_positive (Some number) = nat_lt 0 number

-- whether what one sends is what another can put in order: where packets bear decoding order numbers it
-- tells its buffer, and the other has one as large
abbrev pub can_hold : List ParameterRow → LevelRows → FormatParameters → FormatParameters → Bool
can_hold rows by sender receiver = not (is_positive (number_or_default rows sender by.difference))
    || (is_positive (number_or_default rows sender by.units)
    && (is_positive (number_or_default rows sender by.need)
    && holds (number_or_default rows sender by.need) (number_or_default rows receiver by.room)))

abbrev pub keeps_levels : Option Levels → Option Levels → Bool
keeps_levels None b = false
keeps_levels (Some a) None = false
keeps_levels (Some a) (Some b) = nat_le a.level b.level

-- whether our level isn't below the offered one, so that an answer may keep that
abbrev pub keeps_level : List ParameterRow → LevelRows → FormatParameters → FormatParameters → Bool
keeps_level rows by offered own = keeps_levels (levels_of rows by offered) (levels_of rows by own)

-- parameter sets of our own are of the answer's level, where that is ours
abbrev pub terms_of_levels : List ParameterRow → LevelRows → FormatParameters → FormatParameters →
    Levels → Levels → Terms
terms_of_levels rows by offered own a b = record {
  level = lower_level by offered own a b;
  highest = lower_highest rows by offered own a b;
  asymmetric = false;
  reorders = false;
  sets = nat_le b.level a.level;
  level_sets = false;
}

abbrev pub terms_if_known : List ParameterRow → LevelRows → FormatParameters → FormatParameters →
    Option Levels → Option Levels → Option Terms
terms_if_known rows by offered own None b = None
terms_if_known rows by offered own (Some a) None = None
terms_if_known rows by offered own (Some a) (Some b) =
    if can_hold rows by offered own && can_hold rows by own offered then
    Some (terms_of_levels rows by offered own a b) else None

abbrev pub terms_by_level : List ParameterRow → LevelRows → FormatParameters → FormatParameters →
    Option Terms
terms_by_level rows by offered own = terms_if_known rows by offered own (levels_of rows by offered)
    (levels_of rows by own)
