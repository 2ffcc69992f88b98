-- What formats of H.265 say that each end can send and receive, for unicast, and which answers there
-- are, by the RFC (RFC 7798, sections 7.1 and 7.2.2) and by WebRTC's peers. Nothing here is said by how
-- an answer is made.
use Rattle.std.specs.Prelude.{◌≡◌, ◌⊎◌, ℕ, ◌+◌, ◌-◌, ◌*◌, ◌^◌, List, [], ◌∷◌, map, Option, Some, None, Ok}
use Rattle.std.specs.Char.{to_ascii_lowercase}
use Rattle.std.specs.List.{AllByRecursion}
use Rattle.std.specs.Option.{option_map}
use Rattle.hex.specs.Hex.{decode_sized}
use Rattle.h26x_answers.specs.declared.answer.AnswerRules.{AnswerRules}
use Rattle.h26x_answers.specs.declared.answer.AnswerRules.TheVariants.{Rfc, Webrtc}
use Rattle.h26x_sdp.specs.declared.h265.H265Parameter.{H265Parameter}
use Rattle.h26x_sdp.specs.declared.h265.H265Parameter.TheVariants as p
use Rattle.h26x_fmtp.specs.Reading.{FormatParameters, value_at, value_or_default, number_or_default}
use Rattle.h26x_sdp.specs.H265Rows.{rows, row_place}
use Rattle.h26x_answers.specs.LevelsSaid.{IsWithin, IsReceived, IsPositive, Fits}

-- a configuration: what a stream is by what both ends have to agree on (section 7.2.2)
pub record Configuration : Type 0 where
  pub profile_space : ℕ
  pub profile : ℕ
  pub tier : ℕ
  pub level : ℕ
  -- twelve digits, in lower case
  pub constraints : List ℕ
  -- the flags of compatible profiles, of which the first is the highest bit
  pub compatible : ℕ
  -- in lower case
  pub mode : List ℕ

abbrev pub number : FormatParameters → H265Parameter → Option ℕ
number it parameter = number_or_default rows it (row_place parameter)

abbrev pub text : FormatParameters → H265Parameter → Option (List ℕ)
text it parameter = value_or_default rows it (row_place parameter)

-- the flags of compatible profiles, where they are given
pub record GivesFlags (it : FormatParameters) (flags : ℕ) : Type 0 where
  pub digits : List ℕ
  pub first : ℕ
  pub second : ℕ
  pub third : ℕ
  pub fourth : ℕ
  pub given : value_at it.values (row_place p.ProfileCompatibilityIndicator) ≡ Some digits
  pub bytes : decode_sized digits 4 ≡ Ok (first ∷ second ∷ third ∷ fourth ∷ [])
  pub is : flags ≡ ((first * 256 + second) * 256 + third) * 256 + fourth

-- where they are absent that of the profile is set alone: the first flag is of profile 0
pub record LeavesFlags (it : FormatParameters) (profile flags : ℕ) : Type 0 where
  pub absent : value_at it.values (row_place p.ProfileCompatibilityIndicator) ≡ None
  pub is : flags ≡ 2 ^ (31 - profile)

-- what says more of a profile than its number
pub record IsConstrained (it : FormatParameters) (configuration : Configuration) : Type 0 where
  pub constraints : option_map (map to_ascii_lowercase) (text it p.InteropConstraints)
      ≡ Some configuration.constraints
  pub compatible : GivesFlags it configuration.compatible
      ⊎ LeavesFlags it configuration.profile configuration.compatible

-- it is configuration (section 7.2.2); WebRTC's peers look at none of it
abbrev pub IsAsConstrained : AnswerRules → FormatParameters → Configuration → Type 0
IsAsConstrained Rfc it configuration = IsConstrained it configuration
IsAsConstrained Webrtc it configuration = Unit {0}

-- a configuration is one of an end's, whatever the level
pub record IsOfEnd (by : AnswerRules) (it : FormatParameters) (configuration : Configuration) :
    Type 0 where
  pub profile_space : number it p.ProfileSpace ≡ Some configuration.profile_space
  pub profile : number it p.ProfileId ≡ Some configuration.profile
  pub tier : number it p.TierFlag ≡ Some configuration.tier
  pub constrained : IsAsConstrained by it configuration
  pub mode : option_map (map to_ascii_lowercase) (text it p.TxMode) ≡ Some configuration.mode

-- what an end says that it sends and receives, and what it says that it can receive
pub record Says (by : AnswerRules) (it : FormatParameters) (configuration : Configuration) :
    Type 0 where
  pub one : IsOfEnd by it configuration
  pub level : IsWithin rows it (row_place p.LevelId) configuration.level

pub record Receives (by : AnswerRules) (it : FormatParameters) (configuration : Configuration) :
    Type 0 where
  pub one : IsOfEnd by it configuration
  pub level : IsReceived rows it (row_place p.LevelId) (row_place p.MaxRecvLevelId)
      configuration.level

-- units may be sent in another order than decoded: packets bear decoding order numbers (section 7.1,
-- sprop-max-don-diff)
abbrev pub Reorders : FormatParameters → Type 0
Reorders it = IsPositive rows it (row_place p.SpropMaxDonDiff)

-- what one end sends another can put in order (section 7.1, sprop-max-don-diff): where its packets bear
-- decoding order numbers, how many units and bytes are to be held is told, and the other has the room
abbrev pub IsPutInOrder : FormatParameters → FormatParameters → Type 0
IsPutInOrder sender receiver = Reorders sender →
    IsPositive rows sender (row_place p.SpropDepackBufNalus)
    × IsPositive rows sender (row_place p.SpropDepackBufBytes)
    × Fits rows sender receiver (row_place p.SpropDepackBufBytes) (row_place p.DepackBufCap)

-- two ends have a configuration in common: one that both say, and each can put in order what the other
-- sends
pub record IsCommon (by : AnswerRules) (offered own : FormatParameters) : Type 0 where
  pub configuration : Configuration
  pub theirs : Says by offered configuration
  pub ours : Says by own configuration
  pub forth : IsPutInOrder offered own
  pub back : IsPutInOrder own offered

abbrev pub SameValue : FormatParameters → FormatParameters → H265Parameter → Type 0
SameValue a b parameter =
    value_at a.values (row_place parameter) ≡ value_at b.values (row_place parameter)

-- what an end says of itself as a receiver
abbrev pub capabilities : List H265Parameter
capabilities =
    p.MaxLsr ∷ p.MaxLps ∷ p.MaxCpb ∷ p.MaxDpb ∷ p.MaxBr ∷ p.MaxTr ∷ p.MaxTc ∷ p.MaxFps ∷
    p.DepackBufCap ∷ p.DecParallelCap ∷ p.IncludeDph ∷ []

-- what an end says of the stream that it sends
abbrev pub stream_properties : List H265Parameter
stream_properties =
    p.SpropSubLayerId ∷ p.SpropVps ∷ p.SpropSps ∷ p.SpropPps ∷ p.SpropSei ∷ p.SpropMaxDonDiff ∷
    p.SpropDepackBufNalus ∷ p.SpropDepackBufBytes ∷ p.SpropSegmentationId ∷
    p.SpropSpatialSegmentationIdc ∷ []

-- a value of the answer is absent or our own
abbrev pub IsNoneOrOurs : FormatParameters → FormatParameters → H265Parameter → Type 0
IsNoneOrOurs own answer parameter = (value_at answer.values (row_place parameter) ≡ None)
    ⊎ SameValue answer own parameter

-- an answer by what was offered and by what we can do: it says just what both say, and receives just
-- what both receive; it chooses no operation point; what it says of our stream and of us as a receiver
-- is our own
pub record IsOurAnswer (by : AnswerRules) (offered own answer : FormatParameters) : Type 0 where
  pub ours : (it : Configuration) → Says by answer it → Says by own it
  pub theirs : (it : Configuration) → Says by answer it → Says by offered it
  pub greatest : (it : Configuration) → Says by offered it → Says by own it → Says by answer it
  pub received : (it : Configuration) → Receives by answer it →
      Receives by offered it × Receives by own it
  pub greatest_received : (it : Configuration) → Receives by offered it → Receives by own it →
      Receives by answer it
  pub no_choice : value_at answer.values (row_place p.RecvSubLayerId) ≡ None
  pub capable : AllByRecursion (SameValue answer own) capabilities
  pub stream : AllByRecursion (IsNoneOrOurs own answer) stream_properties
