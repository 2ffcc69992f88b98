-- An answer that is answered once more.
use Rattle.std.specs.Prelude.{◌≡◌, ℕ, ◌<◌, Bool, false, length, Some}
use Rattle.h26x_fmtp.specs.Reading.{FormatParameters, value_at}
use Rattle.h26x_answers.specs.Answers.{Rules, answer_by}
use Rattle.h26x_answers.specs.AnswerLaws.{OfEachAnswer}

-- an answer that an end answers with itself, but for rows that depend on what the other end said
pub record IsAnsweredAgain (rules : Rules) (depends : ℕ → Bool) (own answer : FormatParameters) :
    Type 0 where
  pub twice : FormatParameters
  pub is : answer_by rules answer own ≡ Some twice
  pub same : (row : ℕ) → row < length rules.rows → depends row ≡ false →
      value_at twice.values row ≡ value_at answer.values row
  pub others : twice.others ≡ answer.others

-- each answer is answered so, where what we send allows it
abbrev pub AreAnsweredAgain : Rules → (ℕ → Bool) →
    (FormatParameters → FormatParameters → Type 0) → Type 0
AreAnsweredAgain rules depends Allows = OfEachAnswer rules (λ offered own answer.
    Allows own answer → IsAnsweredAgain rules depends own answer)
