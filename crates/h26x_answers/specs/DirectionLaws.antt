-- What directions are to answers: what isn't usable changes nothing and isn't answered.
use Rattle.std.specs.Prelude.{◌≡◌, ℕ, ◌<◌, Bool, true, false, length, List, slice_index_or, Some, None}
use Rattle.std.specs.List.{AllByRecursion}
use Rattle.h26x_answers.specs.declared.direction.Direction.{Direction}
use Rattle.h26x_answers.specs.declared.direction.Direction.TheVariants.{SendRecv}
use Rattle.h26x_answers.specs.declared.direction.Usage.{Usage}
use Rattle.h26x_answers.specs.declared.direction.Usage.TheVariants.{Always}
use Rattle.h26x_answers.specs.declared.answer.AnswerConfig.{AnswerConfig}
use Rattle.h26x_fmtp.specs.Parameters.{AreParameters}
use Rattle.h26x_fmtp.specs.Reading.{FormatParameters, value_at}
use Rattle.h26x_answers.specs.Directions.{opposite, is_usable}
use Rattle.h26x_answers.specs.Answers.{Rules, heard, answer_by, answer_in, answer_of}

abbrev pub usage_at : Rules → ℕ → Usage
usage_at rules row = slice_index_or rules.usages row Always

-- a row is usable in a direction of who writes it
abbrev pub IsUsableIn : Rules → Direction → ℕ → Type 0
IsUsableIn rules direction row = is_usable direction (usage_at rules row) ≡ true

-- two formats say the same where a row is usable
pub record SaySame (rules : Rules) (direction : Direction) (a b : FormatParameters) : Type 0 where
  pub rows : (row : ℕ) → row < length rules.rows → IsUsableIn rules direction row →
      value_at a.values row ≡ value_at b.values row
  pub others : a.others ≡ b.others

-- offers that say the same where a row is usable have the same answer
abbrev pub IsByUsable : Rules → Type 0
IsByUsable rules = (config : AnswerConfig) (offered other : FormatParameters)
    (ours : List FormatParameters) → AreParameters rules.rows offered →
    AreParameters rules.rows other → SaySame rules (opposite config.direction) offered other →
    answer_of rules config offered ours ≡ answer_of rules config other ours

-- an answer in a direction, and the answer to what both ends are heard to say: where a row is usable it
-- is the same, and elsewhere nothing stands
pub record IsDirected (rules : Rules) (direction : Direction)
    (offered own answer : FormatParameters) : Type 0 where
  pub whole : FormatParameters
  pub is : answer_by rules (heard rules (opposite direction) offered) (heard rules direction own)
      ≡ Some whole
  pub same : SaySame rules direction answer whole
  pub nothing_else : (row : ℕ) → row < length rules.rows →
      is_usable direction (usage_at rules row) ≡ false → value_at answer.values row ≡ None

-- what holds of each answer in a direction
abbrev pub OfEachAnswerIn : Rules →
    (Direction → FormatParameters → FormatParameters → FormatParameters → Type 0) → Type 0
OfEachAnswerIn rules Holds = (direction : Direction) (offered own answer : FormatParameters) →
    AreParameters rules.rows offered → AreParameters rules.rows own →
    answer_in rules direction offered own ≡ Some answer → Holds direction offered own answer

-- what holds of each answer that two formats have holds of what is heard of both ends, and of the
-- answer to that
abbrev pub OfEachDirected : Rules →
    (FormatParameters → FormatParameters → FormatParameters → Type 0) → Type 0
OfEachDirected rules Holds = OfEachAnswerIn rules (λ direction offered own answer.
    (it : IsDirected rules direction offered own answer)
    × Holds (heard rules (opposite direction) offered) (heard rules direction own) it.whole)

-- both ways all that both ends say is heard and answered
abbrev pub IsWholeBothWays : Rules → Type 0
IsWholeBothWays rules = (offered own : FormatParameters) →
    answer_in rules SendRecv offered own ≡ answer_by rules offered own
