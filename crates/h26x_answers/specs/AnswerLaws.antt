-- Which answers an offer has.
use Rattle.std.specs.Prelude.{◌≡◌, ◌⊎◌, ◌↔◌, List, Some, None, true, false, is_some}
use Rattle.std.specs.List.{Contains, AllByRecursion}
use Rattle.h26x_fmtp.specs.Reading.{FormatParameters}
use Rattle.h26x_answers.specs.declared.answer.AnswerConfig.{AnswerConfig}
use Rattle.h26x_answers.specs.Directions.{opposite}
use Rattle.h26x_answers.specs.Answers.{MediaFormat, Rules, heard, answer_by, answer_in, offer_answer}
use Rattle.h26x_fmtp.specs.Parameters.{AreParameters}

-- a format's units are sent in the order in which they're decoded, or the answerer takes any
abbrev pub IsOrderTaken : Rules → AnswerConfig → FormatParameters → Type 0
IsOrderTaken rules config it = (config.any_order ≡ true) ⊎ (rules.reorders it ≡ false)

-- an offered format as it's heard in its direction, the opposite of the answer's
abbrev pub heard_offer : Rules → AnswerConfig → FormatParameters → FormatParameters
heard_offer rules config it = heard rules (opposite config.direction) it

-- an offered format and one of ours that have a configuration in common, by what that is of a codec,
-- in their directions
pub record HaveCommon (rules : Rules) (config : AnswerConfig)
    (IsCommon : FormatParameters → FormatParameters → Type 0)
    (offer : List MediaFormat) (ours : List FormatParameters)
    (format : MediaFormat) (own : FormatParameters) : Type 0 where
  pub offered : Contains offer format
  pub taken : Contains ours own
  -- its profile and level are those of a table, and ours breaks no rule of its RFC
  pub known : rules.known (heard_offer rules config format.parameters) ≡ true
  pub unbroken : rules.fault own ≡ None
  -- and their units are sent in an order that the answerer takes
  pub their_order : IsOrderTaken rules config (heard_offer rules config format.parameters)
  pub our_order : IsOrderTaken rules config own
  pub common : IsCommon (heard_offer rules config format.parameters)
      (heard rules config.direction own)

-- an answer is made of such a pair, and keeps the payload type
pub record ComesFrom (rules : Rules) (config : AnswerConfig)
    (IsCommon : FormatParameters → FormatParameters → Type 0)
    (offer : List MediaFormat) (ours : List FormatParameters) (answer : MediaFormat) : Type 0 where
  pub format : MediaFormat
  pub own : FormatParameters
  pub have : HaveCommon rules config IsCommon offer ours format own
  pub keeps : answer.payload_type ≡ format.payload_type
  pub is : answer_in rules config.direction format.parameters own ≡ Some answer.parameters

-- all formats of an offer, and all of ours, are parameters of a codec
pub record AreFormats (rules : Rules) (offer : List MediaFormat) (ours : List FormatParameters) :
    Type 0 where
  pub theirs : AllByRecursion (λ it. AreParameters rules.rows it.parameters) offer
  pub own : AllByRecursion (AreParameters rules.rows) ours

-- an offer that has a configuration in common with one of ours has an answer
abbrev pub IsCommonAnswered : Rules → (FormatParameters → FormatParameters → Type 0) → Type 0
IsCommonAnswered rules IsCommon = (config : AnswerConfig) (offer : List MediaFormat)
    (ours : List FormatParameters) → AreFormats rules offer ours →
    (format : MediaFormat) (own : FormatParameters) →
    HaveCommon rules config IsCommon offer ours format own →
    is_some (offer_answer rules config offer ours) ≡ true

-- an offer has no answer but of such a configuration
abbrev pub IsAnswerCommon : Rules → (FormatParameters → FormatParameters → Type 0) → Type 0
IsAnswerCommon rules IsCommon = (config : AnswerConfig) (offer : List MediaFormat)
    (ours : List FormatParameters) → AreFormats rules offer ours → (answer : MediaFormat) →
    offer_answer rules config offer ours ≡ Some answer →
    ComesFrom rules config IsCommon offer ours answer

-- what holds of each answer by rules to parameters of their table, of ours
abbrev pub OfEachAnswer : Rules →
    (FormatParameters → FormatParameters → FormatParameters → Type 0) → Type 0
OfEachAnswer rules Holds =
    (offered own answer : FormatParameters) → AreParameters rules.rows offered →
    AreParameters rules.rows own → answer_by rules offered own ≡ Some answer →
    Holds offered own answer

-- the rule that says whether units may be sent in another order than decoded says it of each format
abbrev pub SaysOrder : Rules → (FormatParameters → Type 0) → Type 0
SaysOrder rules Reorders = (it : FormatParameters) → ((rules.reorders it ≡ true) ↔ Reorders it)
