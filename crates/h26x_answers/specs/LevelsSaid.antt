-- Which levels a format says that an end sends and receives (RFC 7798, section 7.1; RFC 9328, section
-- 7.2), and what it says of packets that bear decoding order numbers. Nothing here is said by how an
-- answer is made.
use Rattle.std.specs.Prelude.{◌≡◌, ◌⊎◌, ℕ, ◌≤◌, ◌<◌, List, Some}
use Rattle.h26x_fmtp.specs.Tables.{ParameterRow}
use Rattle.h26x_fmtp.specs.Reading.{FormatParameters, number_at, number_or_default}

-- a level isn't above that of a row
pub record IsWithin (rows : List ParameterRow) (it : FormatParameters) (row level : ℕ) : Type 0 where
  pub most : ℕ
  pub said : number_or_default rows it row ≡ Some most
  pub within : level ≤ most

-- nor above that of a row, where that is given
pub record IsWithinGiven (rows : List ParameterRow) (it : FormatParameters) (row level : ℕ) :
    Type 0 where
  pub most : ℕ
  pub given : number_at rows it row ≡ Some most
  pub within : level ≤ most

-- the levels that an end receives: up to the higher of its level and of the highest one, where that is
-- given
abbrev pub IsReceived : List ParameterRow → FormatParameters → ℕ → ℕ → ℕ → Type 0
IsReceived rows it level_row highest_row level = IsWithin rows it level_row level
    ⊎ IsWithinGiven rows it highest_row level

-- the number of a row is there, and positive
pub record IsPositive (rows : List ParameterRow) (it : FormatParameters) (row : ℕ) : Type 0 where
  pub number : ℕ
  pub said : number_or_default rows it row ≡ Some number
  pub positive : 0 < number

-- a receiver's buffer holds what a sender's stream needs
pub record Fits (rows : List ParameterRow) (sender receiver : FormatParameters)
    (need_row room_row : ℕ) : Type 0 where
  pub need : ℕ
  pub room : ℕ
  pub needed : number_or_default rows sender need_row ≡ Some need
  pub given : number_or_default rows receiver room_row ≡ Some room
  pub fits : need ≤ room
