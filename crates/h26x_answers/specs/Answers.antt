-- Answers to offers of formats (RFC 3264, section 6; RFC 6184, section 8.2.2; RFC 7798, section 7.2.2;
-- RFC 9328, section 7.3.2).
use Rattle.std.specs.Prelude.{ℕ, ◌==◌, nat_le, Bool, true, false, not, ◌&&◌, ◌||◌, if◌then◌else◌, List, [], ◌∷◌, Option, Some, None}
use Rattle.std.specs.Option.{option_map, option_or}
use Rattle.h26x_fmtp.specs.declared.kind.Kind.{Kind}
use Rattle.h26x_fmtp.specs.declared.kind.Kind.TheVariants.{Number, HexadecimalNumber, Hexadecimal, TxMode, Units, Text}
use Rattle.h26x_answers.specs.declared.answer.Role.{Role}
use Rattle.h26x_answers.specs.declared.answer.AnswerConfig.{AnswerConfig}
use Rattle.h26x_answers.specs.declared.answer.AnswerRules.{AnswerRules}
use Rattle.h26x_answers.specs.declared.direction.Direction.{Direction}
use Rattle.h26x_answers.specs.declared.direction.Direction.TheVariants.{SendRecv}
use Rattle.h26x_answers.specs.declared.direction.Usage.{Usage}
use Rattle.h26x_answers.specs.Directions.{opposite, usable_values}
use Rattle.h26x_answers.specs.declared.fault.FormatFault.{FormatFault}
use Rattle.h26x_answers.specs.declared.fault.FormatFault.TheVariants.{OutOfOrder}
use Rattle.h26x_answers.specs.declared.answer.Role.TheVariants as role
use Rattle.std.specs.Cmp.Lexicographic.{pointwise}
use Rattle.std.specs.Prelude.{nat_eq}
use Rattle.h26x_fmtp.specs.Kinds.{number_of}
use Rattle.h26x_fmtp.specs.Tables.{ParameterRow, same_name}
use Rattle.h26x_fmtp.specs.Reading.{FormatParameters}

-- a payload type and the parameters of its format
pub record MediaFormat : Type 0 where
  pub payload_type : ℕ
  pub parameters : FormatParameters

-- what two formats of one configuration agree on
pub record Terms : Type 0 where
  -- the value of the level's parameter in the answer
  pub level : Option (List ℕ)
  -- the value of the highest level's, where it depends on both ends
  pub highest : Option (List ℕ)
  -- whether each direction has a level of its own
  pub asymmetric : Bool
  -- whether units are sent in another order than decoded
  pub reorders : Bool
  -- whether our own parameter sets belong to the answer's level, and are looked at
  pub sets : Bool
  -- the same of those of other levels
  pub level_sets : Bool

-- two numbers, where both are there
abbrev pub same_number : Option ℕ → Option ℕ → Bool
same_number (Some a) (Some b) = a == b
same_number (Some a) None = false
same_number None b = false

-- whether a buffer holds what is needed, where both are told
abbrev pub holds : Option ℕ → Option ℕ → Bool
holds (Some need) (Some room) = nat_le need room
holds (Some need) None = false
holds None room = false

-- whether two values of a kind are one: numbers by what they say, hexadecimal digits and modes in
-- either case
abbrev pub same_value : Kind → List ℕ → List ℕ → Bool
same_value (Number least most) a b = same_number (number_of (Number least most) a)
    (number_of (Number least most) b)
same_value (HexadecimalNumber most) a b = same_number (number_of (HexadecimalNumber most) a)
    (number_of (HexadecimalNumber most) b)
same_value (Hexadecimal bytes) a b = same_name a b
same_value TxMode a b = same_name a b
same_value (Units types) a b = pointwise nat_eq a b
same_value Text a b = pointwise nat_eq a b

-- the same of values that may be absent, or of the defaults in their place
abbrev pub same_if_given : Kind → Option (List ℕ) → Option (List ℕ) → Bool
same_if_given kind None None = true
same_if_given kind None (Some b) = false
same_if_given kind (Some a) None = false
same_if_given kind (Some a) (Some b) = same_value kind a b

-- whether a row is symmetric only if its two values are one
abbrev pub is_symmetric_at : Role → ParameterRow → Option (List ℕ) → Option (List ℕ) → Bool
is_symmetric_at role.Configuration row offered own = same_if_given row.kind
    (option_or offered row.default) (option_or own row.default)
is_symmetric_at role.Compared row offered own = true
is_symmetric_at role.Level row offered own = true
is_symmetric_at role.HighestLevel row offered own = true
is_symmetric_at role.Asymmetry row offered own = true
is_symmetric_at role.Reordering row offered own = true
is_symmetric_at role.Sets row offered own = true
is_symmetric_at role.LevelSets row offered own = true
is_symmetric_at role.Own row offered own = true
is_symmetric_at role.OperationPoint row offered own = true

-- whether the configuration of two formats is one
abbrev pub are_symmetric : List Role → List ParameterRow → List (Option (List ℕ)) →
    List (Option (List ℕ)) → Bool
are_symmetric [] rows offered own = true
are_symmetric (role ∷ roles) [] offered own = true
are_symmetric (role ∷ roles) (row ∷ rows) [] own = true
are_symmetric (role ∷ roles) (row ∷ rows) (o ∷ offered) [] = true
are_symmetric (role ∷ roles) (row ∷ rows) (o ∷ offered) (u ∷ own) = is_symmetric_at role row o u
    && are_symmetric roles rows offered own

-- a value, where it belongs into the answer
abbrev pub only_if : Bool → Option (List ℕ) → Option (List ℕ)
only_if belongs value = if belongs then value else None

-- the value of a parameter in the answer, of the offer's and our own
abbrev pub answered_value : Role → Terms → Option (List ℕ) → Option (List ℕ) → Option (List ℕ)
answered_value role.Configuration terms offered own = offered
answered_value role.Compared terms offered own = offered
answered_value role.Level terms offered own = terms.level
answered_value role.HighestLevel terms offered own = terms.highest
answered_value role.Asymmetry terms offered own = only_if terms.asymmetric own
answered_value role.Reordering terms offered own = only_if terms.reorders own
answered_value role.Sets terms offered own = only_if terms.sets own
answered_value role.LevelSets terms offered own = only_if terms.level_sets own
answered_value role.Own terms offered own = own
answered_value role.OperationPoint terms offered own = None

abbrev pub answered_values : Terms → List Role → List (Option (List ℕ)) →
    List (Option (List ℕ)) → List (Option (List ℕ))
answered_values terms [] offered own = []
answered_values terms (role ∷ roles) [] own = []
answered_values terms (role ∷ roles) (o ∷ offered) [] = []
answered_values terms (role ∷ roles) (o ∷ offered) (u ∷ own) = answered_value role terms o u
    ∷ answered_values terms roles offered own

-- what a codec's answers go by
pub record Rules : Type 0 where
  pub rows : List ParameterRow
  pub roles : List Role
  pub terms : FormatParameters → FormatParameters → Option Terms
  -- whether a format's profile and level are those of a table
  pub known : FormatParameters → Bool
  -- the first rule of its RFC that a format of one's own breaks
  pub fault : FormatParameters → Option FormatFault
  -- whether a format's units may be sent in another order than decoded
  pub reorders : FormatParameters → Bool
  -- in which directions each parameter is usable
  pub usages : List Usage

-- those of the RFC, or of WebRTC's peers
abbrev pub rules_of : AnswerRules → List ParameterRow → List Role →
    (AnswerRules → FormatParameters → FormatParameters → Option Terms) →
    (AnswerRules → FormatParameters → Bool) →
    (AnswerRules → FormatParameters → Option FormatFault) → (FormatParameters → Bool) →
    List Usage → Rules
rules_of by rows roles terms known fault reorders usages = record {
  rows = rows;
  roles = roles;
  terms = terms by;
  known = known by;
  fault = fault by;
  reorders = reorders;
  usages = usages;
}

-- the same where media go: in multicast the level isn't changed, so that its terms are others
abbrev pub in_cast : AnswerConfig → (FormatParameters → FormatParameters → Option Terms) → Rules →
    Rules
in_cast config multicast rules =
    record rules { terms = if config.multicast then multicast else rules.terms }

abbrev pub rules_in : AnswerConfig → List ParameterRow → List Role →
    (AnswerRules → FormatParameters → FormatParameters → Option Terms) →
    (AnswerRules → FormatParameters → FormatParameters → Option Terms) →
    (AnswerRules → FormatParameters → Bool) →
    (AnswerRules → FormatParameters → Option FormatFault) → (FormatParameters → Bool) →
    List Usage → Rules
rules_in config rows roles terms multicast known fault reorders usages =
    in_cast config (multicast config.rules)
    (rules_of config.rules rows roles terms known fault reorders usages)

-- the parameters of the answer, on terms: of those that the table doesn't have our own alone
abbrev pub answered : Rules → FormatParameters → FormatParameters → Terms → FormatParameters
answered rules offered own terms = record {
  values = answered_values terms rules.roles offered.values own.values;
  others = own.others;
}

-- the terms of two formats, if they are of one configuration
abbrev pub common_terms : Rules → FormatParameters → FormatParameters → Option Terms
common_terms rules offered own =
    if are_symmetric rules.roles rules.rows offered.values own.values then rules.terms offered own
    else None

-- the answer to an offered format by one of ours
abbrev pub answer_by : Rules → FormatParameters → FormatParameters → Option FormatParameters
answer_by rules offered own = option_map (answered rules offered own)
    (common_terms rules offered own)

-- the same of an offered format that is known, by one of ours that breaks no rule of its RFC
abbrev pub unless_broken : Option FormatFault → Option FormatParameters → Option FormatParameters
unless_broken None answer = answer
unless_broken (Some fault) answer = None

-- whether the answerer takes the order in which a format's units may be sent
abbrev pub takes_order : Rules → AnswerConfig → FormatParameters → Bool
takes_order rules config it = config.any_order || not (rules.reorders it)

-- the first rule that a format of one's own breaks: of its RFC, or that the answerer takes its order
abbrev pub own_fault : Rules → AnswerConfig → FormatParameters → Option FormatFault
own_fault rules config own = option_or (rules.fault own)
    (if takes_order rules config own then None else Some OutOfOrder)

-- the answer to an offered format that is known, of an order that the answerer takes
abbrev pub known_answer : Rules → AnswerConfig → FormatParameters → FormatParameters →
    Option FormatParameters
known_answer rules config offered own =
    if rules.known offered && takes_order rules config offered then answer_by rules offered own
    else None

-- what is usable of a format in a direction of who writes it, where its units are sent in another order
-- than decoded or aren't
abbrev pub usable_where : List Role → List Usage → Direction → Bool → FormatParameters →
    FormatParameters
usable_where roles usages direction reorders it = record {
  values = usable_values direction reorders roles usages it.values;
  others = it.others;
}

-- both ways all of it is
abbrev pub usable : Rules → Direction → FormatParameters → FormatParameters
usable rules SendRecv it = it
usable rules direction it = usable_where rules.roles rules.usages direction false it

-- a format as it's heard in one direction: where it's of interleaved mode, an end that sends no units
-- sends none out of order
abbrev pub heard_where : List Role → List Usage → (FormatParameters → Bool) → Direction →
    FormatParameters → FormatParameters
heard_where roles usages reorders direction it = usable_where roles usages direction
    (reorders (usable_where roles usages direction false it)) it

abbrev pub heard : Rules → Direction → FormatParameters → FormatParameters
heard rules SendRecv it = it
heard rules direction it = heard_where rules.roles rules.usages rules.reorders direction it

-- the answer in a direction: what is usable of that to what is heard of an offered format, by what is
-- heard of ours
abbrev pub answer_in : Rules → Direction → FormatParameters → FormatParameters →
    Option FormatParameters
answer_in rules direction offered own = option_map (usable rules direction)
    (answer_by rules (heard rules (opposite direction) offered) (heard rules direction own))

-- the same of an offered format that is known, of an order that the answerer takes
abbrev pub heard_answer : Rules → AnswerConfig → FormatParameters → FormatParameters →
    Option FormatParameters
heard_answer rules config offered own = known_answer rules config
    (heard rules (opposite config.direction) offered) (heard rules config.direction own)

abbrev pub directed_answer : Rules → AnswerConfig → FormatParameters → FormatParameters →
    Option FormatParameters
directed_answer rules config offered own =
    option_map (usable rules config.direction) (heard_answer rules config offered own)

abbrev pub allowed_answer : Rules → AnswerConfig → FormatParameters → FormatParameters →
    Option FormatParameters
allowed_answer rules config offered own =
    unless_broken (own_fault rules config own) (directed_answer rules config offered own)

-- the answer by the first of ours that gives one
abbrev pub answer_of : Rules → AnswerConfig → FormatParameters → List FormatParameters →
    Option FormatParameters
answer_of rules config offered [] = None
answer_of rules config offered (own ∷ ours) = option_or (allowed_answer rules config offered own)
    (answer_of rules config offered ours)

-- the same of a payload type, which it keeps
abbrev pub format_answer : Rules → AnswerConfig → MediaFormat → List FormatParameters →
    Option MediaFormat
format_answer rules config format ours = option_map (λ it. record format { parameters = it })
    (answer_of rules config format.parameters ours)

-- the answer to the first offered format that has one
abbrev pub offer_answer : Rules → AnswerConfig → List MediaFormat → List FormatParameters →
    Option MediaFormat
offer_answer rules config [] ours = None
offer_answer rules config (format ∷ rest) ours = option_or (format_answer rules config format ours)
    (offer_answer rules config rest ours)
