-- What RFC 7798, section 7.2.2, and RFC 9328, section 7.3.2, allow as the answer to an offered format,
-- for unicast, and what an end may send.
use Rattle.std.specs.Prelude.{◌≡◌, ◌⊎◌, ℕ, ◌<◌, ◌≤◌, Bool, true, false, length, slice_index_or, Some, None}
use Rattle.h26x_answers.specs.declared.answer.Role.{Role}
use Rattle.h26x_answers.specs.declared.answer.Role.TheVariants as role
use Rattle.h26x_answers.specs.declared.answer.by_level.Levels.{Levels}
use Rattle.h26x_fmtp.specs.Reading.{FormatParameters, value_at}
use Rattle.h26x_answers.specs.Answers.{Rules}
use Rattle.h26x_answers.specs.AnswersByLevel.{LevelRows, levels_of, can_hold}

abbrev pub is_configuration : Role → Bool
is_configuration role.Configuration = true
is_configuration role.Compared = true
is_configuration role.Level = false
is_configuration role.HighestLevel = false
is_configuration role.Asymmetry = false
is_configuration role.Reordering = false
is_configuration role.Sets = false
is_configuration role.LevelSets = false
is_configuration role.Own = false
is_configuration role.OperationPoint = false

abbrev pub is_choice : Role → Bool
is_choice role.Configuration = false
is_choice role.Compared = false
is_choice role.Level = false
is_choice role.HighestLevel = false
is_choice role.Asymmetry = false
is_choice role.Reordering = false
is_choice role.Sets = false
is_choice role.LevelSets = false
is_choice role.Own = false
is_choice role.OperationPoint = true

abbrev pub role_at : Rules → ℕ → Role
role_at rules row = slice_index_or rules.roles row role.Own

-- the configuration of one is that of the other, word for word
abbrev pub IsSameConfiguration : Rules → FormatParameters → FormatParameters → Type 0
IsSameConfiguration rules a b = (row : ℕ) → row < length rules.rows →
    is_configuration (role_at rules row) ≡ true → value_at a.values row ≡ value_at b.values row

-- an allowed answer: its configuration is the offer's; neither its level nor the highest level that is
-- received is above the offer's, and the latter is said only where it's above the former; it chooses no
-- operation point; each end has the buffer that the other asks for
pub record IsAnswerByLevel (rules : Rules) (by : LevelRows) (offered answer : FormatParameters) :
    Type 0 where
  pub theirs : Levels
  pub ours : Levels
  pub offer_says : levels_of rules.rows by offered ≡ Some theirs
  pub answer_says : levels_of rules.rows by answer ≡ Some ours
  pub configuration : IsSameConfiguration rules answer offered
  pub level : ours.level ≤ theirs.level
  pub highest : ours.highest ≤ theirs.highest
  pub above : (value_at answer.values by.highest ≡ None) ⊎ (ours.level < ours.highest)
  pub no_choice : (row : ℕ) → row < length rules.rows → is_choice (role_at rules row) ≡ true →
      value_at answer.values row ≡ None
  pub forth : can_hold rules.rows by offered answer ≡ true
  pub back : can_hold rules.rows by answer offered ≡ true

-- what holds of each allowed answer
abbrev pub OfEachAllowed : ((rules : Rules) (by : LevelRows) (offered answer : FormatParameters) →
    IsAnswerByLevel rules by offered answer → Type 0) → Type 0
OfEachAllowed Holds = (rules : Rules) (by : LevelRows) (offered answer : FormatParameters)
    (it : IsAnswerByLevel rules by offered answer) → Holds rules by offered answer it

-- what one end sends, at a level, is what the other said that it receives: its configuration, no level
-- above its highest, and a buffer that it has
pub record MaySendByLevel (rules : Rules) (by : LevelRows) (sender receiver : FormatParameters)
    (level : ℕ) (received : Levels) : Type 0 where
  pub configuration : IsSameConfiguration rules sender receiver
  pub within : level ≤ received.highest
  pub buffer : can_hold rules.rows by sender receiver ≡ true
