-- What formats of H.264 say that each end can send and receive, for unicast, and which answers there
-- are, by the RFC (RFC 6184, sections 8.1 and 8.2.2) and by WebRTC's peers. Nothing here is said by how
-- an answer is made.
use Rattle.std.specs.Prelude.{◌≡◌, ◌⊎◌, ℕ, ◌≤◌, List, [], ◌∷◌, Some, None}
use Rattle.std.specs.List.{AllByRecursion}
use Rattle.h26x_profile.specs.H264.{idc_of, profile_of}
use Rattle.h26x_profile.specs.declared.h264.H264Profile.{H264Profile}
use Rattle.h26x_profile.specs.declared.h264.H264ProfileIdc.{H264ProfileIdc}
use Rattle.h26x_profile.specs.declared.h264.H264Profile.TheVariants as profiles
use Rattle.h26x_answers.specs.declared.answer.AnswerRules.{AnswerRules}
use Rattle.h26x_answers.specs.declared.answer.AnswerRules.TheVariants.{Rfc, Webrtc}
use Rattle.h26x_sdp.specs.declared.h264.H264Parameter.{H264Parameter}
use Rattle.h26x_sdp.specs.declared.h264.H264Parameter.TheVariants as p
use Rattle.h26x_answers.specs.declared.answer.h264.ProfileLevelId.{ProfileLevelId}
use Rattle.h26x_fmtp.specs.Reading.{FormatParameters, value_at}
use Rattle.h26x_sdp.specs.H264Rows.{row_place}
use Rattle.h26x_answers.specs.AnswersH264.{number, id_of, profile_flags, level_rank, recv_rank}
use Rattle.h26x_answers.specs.AllowedH264.{IsSameProfile}

-- a configuration: what a stream is by what both ends have to agree on (section 8.2.2), its profile and
-- level and its packetization mode
pub record Configuration : Type 0 where
  pub id : ProfileLevelId
  pub mode : ℕ

-- three bytes name a sub-profile (section 8.1, table 5)
pub record IsOfSubProfile (it : ProfileLevelId) (profile : H264Profile) : Type 0 where
  pub idc : H264ProfileIdc
  pub number : idc_of it.profile_idc ≡ Some idc
  pub named : profile_of idc (profile_flags it) ≡ Some profile

-- two name one
pub record IsOneSubProfile (a b : ProfileLevelId) : Type 0 where
  pub profile : H264Profile
  pub first : IsOfSubProfile a profile
  pub second : IsOfSubProfile b profile

-- one profile (section 8.1): the same bytes but for those of the level, or those of one sub-profile
abbrev pub AreOfOneProfile : ProfileLevelId → ProfileLevelId → Type 0
AreOfOneProfile a b = IsSameProfile a b ⊎ IsOneSubProfile a b

-- one profile is the constrained one of another: each stream of it obeys the other's constraints too
-- (Rec. ITU-T H.264, A.2.1.1 of Constrained Baseline, A.2.4.2 of Constrained High)
abbrev pub IsConstrainedOf : H264Profile → H264Profile → Type 0
IsConstrainedOf narrow wide =
    ((narrow ≡ profiles.ConstrainedBaseline) × (wide ≡ profiles.Baseline))
    ⊎ ((narrow ≡ profiles.ConstrainedHigh) × (wide ≡ profiles.High))

-- the same of three bytes
pub record IsConstrained (a b : ProfileLevelId) : Type 0 where
  pub narrow : H264Profile
  pub wide : H264Profile
  pub first : IsOfSubProfile a narrow
  pub second : IsOfSubProfile b wide
  pub constrained : IsConstrainedOf narrow wide

-- streams of a profile are those of an end's: of one profile, and by WebRTC's rules of the constrained
-- one too
abbrev pub IsOfProfile : AnswerRules → ProfileLevelId → ProfileLevelId → Type 0
IsOfProfile Rfc a b = AreOfOneProfile a b
IsOfProfile Webrtc a b = AreOfOneProfile a b ⊎ IsConstrained a b

-- what an end says that it sends and receives (section 8.1): its profile, no level above its own, and
-- its packetization mode
pub record Says (by : AnswerRules) (it : FormatParameters) (configuration : Configuration) :
    Type 0 where
  pub id : ProfileLevelId
  pub said : id_of by it ≡ Some id
  pub profile : IsOfProfile by configuration.id id
  pub mode : number it p.PacketizationMode ≡ Some configuration.mode
  pub level : level_rank configuration.id ≤ level_rank id

-- a level is within max-recv-level, where that is given
pub record IsWithinGiven (it : FormatParameters) (rank : ℕ) : Type 0 where
  pub text : List ℕ
  pub given : value_at it.values (row_place p.MaxRecvLevel) ≡ Some text
  pub within : rank ≤ recv_rank text

-- what an end says that it can receive (section 8.1, max-recv-level): the same up to the higher of its
-- level and of max-recv-level
pub record Receives (by : AnswerRules) (it : FormatParameters) (configuration : Configuration) :
    Type 0 where
  pub id : ProfileLevelId
  pub said : id_of by it ≡ Some id
  pub profile : IsOfProfile by configuration.id id
  pub mode : number it p.PacketizationMode ≡ Some configuration.mode
  pub level : (level_rank configuration.id ≤ level_rank id)
      ⊎ IsWithinGiven it (level_rank configuration.id)

-- units may be sent in another order than decoded: in interleaved mode (section 6.4)
abbrev pub Reorders : FormatParameters → Type 0
Reorders it = number it p.PacketizationMode ≡ Some 2

-- what one end sends in interleaved mode another can put in order (section 8.1): the depth and the
-- buffer that its stream needs are told, and the other has one as large
pub record IsPutInOrder (sender receiver : FormatParameters) : Type 0 where
  pub depth : List ℕ
  pub need : ℕ
  pub room : ℕ
  pub deep : value_at sender.values (row_place p.SpropInterleavingDepth) ≡ Some depth
  pub needed : number sender p.SpropDeintBufReq ≡ Some need
  pub given : number receiver p.DeintBufCap ≡ Some room
  pub fits : need ≤ room

-- two ends have a configuration in common (section 8.2.2): one that both say, of the profile that is
-- offered, and in interleaved mode each can put in order what the other sends
pub record IsCommon (by : AnswerRules) (offered own : FormatParameters) : Type 0 where
  pub configuration : Configuration
  pub theirs : Says by offered configuration
  pub ours : Says by own configuration
  pub whole : AreOfOneProfile configuration.id theirs.id
  pub forth : configuration.mode ≡ 2 → IsPutInOrder offered own
  pub back : configuration.mode ≡ 2 → IsPutInOrder own offered

-- an end lets each direction have a level of its own (section 8.1, level-asymmetry-allowed)
abbrev pub AllowsAsymmetry : FormatParameters → Type 0
AllowsAsymmetry it = number it p.LevelAsymmetryAllowed ≡ Some 1

abbrev pub SameValue : FormatParameters → FormatParameters → H264Parameter → Type 0
SameValue a b parameter =
    value_at a.values (row_place parameter) ≡ value_at b.values (row_place parameter)

-- what an end says of itself as a receiver, and what it wants of the other's parameter sets
abbrev pub capabilities : List H264Parameter
capabilities =
    p.MaxRecvLevel ∷ p.MaxMbps ∷ p.MaxSmbps ∷ p.MaxFs ∷ p.MaxCpb ∷ p.MaxDpb ∷ p.MaxBr ∷
    p.RedundantPicCap ∷ p.UseLevelSrcParameterSets ∷ p.InBandParameterSets ∷ p.DeintBufCap ∷
    p.MaxRcmdNaluSize ∷ p.SarUnderstood ∷ p.SarSupported ∷ []

-- what an end says of the stream that it sends
abbrev pub stream_properties : List H264Parameter
stream_properties =
    p.SpropParameterSets ∷ p.SpropLevelParameterSets ∷ p.SpropInterleavingDepth ∷
    p.SpropDeintBufReq ∷ p.SpropInitBufTime ∷ p.SpropMaxDonDiff ∷ []

-- a value of the answer is absent or our own
abbrev pub IsNoneOrOurs : FormatParameters → FormatParameters → H264Parameter → Type 0
IsNoneOrOurs own answer parameter = (value_at answer.values (row_place parameter) ≡ None)
    ⊎ SameValue answer own parameter

-- a configuration is of the offered profile; by the RFC each of ours is, where there is an answer
pub record IsOfOffered (offered : FormatParameters) (configuration : Configuration) : Type 0 where
  pub id : ProfileLevelId
  pub said : id_of Webrtc offered ≡ Some id
  pub profile : IsOfProfile Webrtc configuration.id id

abbrev pub IsOfOfferedProfile : AnswerRules → FormatParameters → Configuration → Type 0
IsOfOfferedProfile Rfc offered configuration = Unit {0}
IsOfOfferedProfile Webrtc offered configuration = IsOfOffered offered configuration

-- an answer by what was offered and by what we can do (section 8.2.2). It says nothing but what we say,
-- nor, unless both ends allow a level for each direction, what the offer doesn't; of what both say
-- nothing is left out, and where both ends allow it nothing of ours that is of the offered profile. It
-- takes no more than we receive, and allows a level for each direction only where both ends do. What it
-- says of our stream and of us as a receiver is our own; parameter sets of another profile than the
-- offered one, which the answer says, it doesn't tell (section 8.1, profile-level-id)
pub record IsOurAnswer (by : AnswerRules) (offered own answer : FormatParameters) : Type 0 where
  pub ours : (it : Configuration) → Says by answer it → Says by own it
  pub theirs : (AllowsAsymmetry offered → AllowsAsymmetry own → ⊥) → (it : Configuration) →
      Says by answer it → Says by offered it
  pub greatest : (it : Configuration) → Says by offered it → Says by own it → Says by answer it
  pub own_level : AllowsAsymmetry offered → AllowsAsymmetry own → (it : Configuration) →
      IsOfOfferedProfile by offered it → Says by own it → Says by answer it
  pub received : (it : Configuration) → Receives by answer it → Receives by own it
  pub asymmetry : AllowsAsymmetry answer → AllowsAsymmetry offered × AllowsAsymmetry own
  pub capable : AllByRecursion (SameValue answer own) capabilities
  pub stream : AllByRecursion (IsNoneOrOurs own answer) stream_properties
  pub sets : (a b : ProfileLevelId) → id_of by offered ≡ Some a → id_of by own ≡ Some b →
      (AreOfOneProfile a b → ⊥) →
      (value_at answer.values (row_place p.SpropParameterSets) ≡ None)
      × (value_at answer.values (row_place p.SpropLevelParameterSets) ≡ None)
