-- What formats of H.266 say that each end can send and receive, for unicast, and which answers there
-- are (RFC 9328, sections 7.2 and 7.3.2). Nothing here is said by how an answer is made.
use Rattle.std.specs.Prelude.{◌≡◌, ◌⊎◌, ℕ, ◌≤◌, ◌<◌, List, [], ◌∷◌, Option, Some, None}
use Rattle.std.specs.List.{AllByRecursion}
use Rattle.h26x_sdp.specs.declared.h266.H266Parameter.{H266Parameter}
use Rattle.h26x_sdp.specs.declared.h266.H266Parameter.TheVariants as p
use Rattle.h26x_fmtp.specs.Reading.{FormatParameters, value_at, value_or_default, number_or_default}
use Rattle.h26x_sdp.specs.H266Rows.{rows, row_place}
use Rattle.h26x_answers.specs.LevelsSaid.{IsWithin, IsReceived, IsPositive, Fits}

-- a configuration: what a stream is by what both ends have to agree on (section 7.3.2.1)
pub record Configuration : Type 0 where
  pub profile : ℕ
  pub tier : ℕ
  pub sub_profile : Option (List ℕ)
  pub constraints : List ℕ
  pub level : ℕ

abbrev pub number : FormatParameters → H266Parameter → Option ℕ
number it parameter = number_or_default rows it (row_place parameter)

-- a configuration is one of an end's, whatever the level
pub record IsOfEnd (it : FormatParameters) (configuration : Configuration) : Type 0 where
  pub profile : number it p.ProfileId ≡ Some configuration.profile
  pub tier : number it p.TierFlag ≡ Some configuration.tier
  pub sub_profile : value_at it.values (row_place p.SubProfileId) ≡ configuration.sub_profile
  pub constraints : value_or_default rows it (row_place p.InteropConstraints)
      ≡ Some configuration.constraints

-- what an end says that it sends and receives, and what it says that it can receive
pub record Says (it : FormatParameters) (configuration : Configuration) : Type 0 where
  pub one : IsOfEnd it configuration
  pub level : IsWithin rows it (row_place p.LevelId) configuration.level

pub record Receives (it : FormatParameters) (configuration : Configuration) : Type 0 where
  pub one : IsOfEnd it configuration
  pub level : IsReceived rows it (row_place p.LevelId) (row_place p.MaxRecvLevelId)
      configuration.level

-- units may be sent in another order than decoded: packets bear decoding order numbers (section 7.2,
-- sprop-max-don-diff)
abbrev pub Reorders : FormatParameters → Type 0
Reorders it = IsPositive rows it (row_place p.SpropMaxDonDiff)

-- what one end sends another can put in order (section 7.2, sprop-max-don-diff): where its packets bear
-- decoding order numbers, how many bytes are to be held is told, and the other has the room
abbrev pub IsPutInOrder : FormatParameters → FormatParameters → Type 0
IsPutInOrder sender receiver = Reorders sender →
    IsPositive rows sender (row_place p.SpropDepackBufBytes)
    × Fits rows sender receiver (row_place p.SpropDepackBufBytes) (row_place p.DepackBufCap)

-- a profile with layers: Multilayer Main 10, Multilayer Main 10 4:4:4, and their still pictures
abbrev pub IsLayered : ℕ → Type 0
IsLayered profile = ((profile ≡ 17) ⊎ (profile ≡ 49)) ⊎ ((profile ≡ 81) ⊎ (profile ≡ 113))

-- of such a profile the VPS is configuration too (section 7.3.2.2): ours, of which an answer at our
-- level tells, is the offered one, and where the answer's level is lower there is none
pub record HaveOneVps (offered own : FormatParameters) : Type 0 where
  pub theirs : ℕ
  pub ours : ℕ
  pub offered_level : number offered p.LevelId ≡ Some theirs
  pub own_level : number own p.LevelId ≡ Some ours
  pub told : ours ≤ theirs → value_at offered.values (row_place p.SpropVps)
      ≡ value_at own.values (row_place p.SpropVps)
  pub untold : theirs < ours → value_at offered.values (row_place p.SpropVps) ≡ None

-- two ends have a configuration in common: one that both say, and each can put in order what the other
-- sends
pub record IsCommon (offered own : FormatParameters) : Type 0 where
  pub configuration : Configuration
  pub theirs : Says offered configuration
  pub ours : Says own configuration
  pub forth : IsPutInOrder offered own
  pub back : IsPutInOrder own offered
  pub layers : IsLayered configuration.profile → HaveOneVps offered own

abbrev pub SameValue : FormatParameters → FormatParameters → H266Parameter → Type 0
SameValue a b parameter =
    value_at a.values (row_place parameter) ≡ value_at b.values (row_place parameter)

-- what an end says of itself as a receiver
abbrev pub capabilities : List H266Parameter
capabilities = p.MaxLsr ∷ p.MaxFps ∷ p.DepackBufCap ∷ []

-- what an end says of the stream that it sends
abbrev pub stream_properties : List H266Parameter
stream_properties =
    p.SpropSublayerId ∷ p.SpropOlsId ∷ p.SpropDci ∷ p.SpropVps ∷ p.SpropSps ∷ p.SpropPps ∷
    p.SpropSei ∷ p.SpropMaxDonDiff ∷ p.SpropDepackBufBytes ∷ []

-- a value of the answer is absent or our own
abbrev pub IsNoneOrOurs : FormatParameters → FormatParameters → H266Parameter → Type 0
IsNoneOrOurs own answer parameter = (value_at answer.values (row_place parameter) ≡ None)
    ⊎ SameValue answer own parameter

-- an answer by what was offered and by what we can do: it says just what both say, and receives just
-- what both receive; it chooses no operation point; what it says of our stream and of us as a receiver
-- is our own, and of a profile with layers its VPS is the offered one
pub record IsOurAnswer (offered own answer : FormatParameters) : Type 0 where
  pub ours : (it : Configuration) → Says answer it → Says own it
  pub theirs : (it : Configuration) → Says answer it → Says offered it
  pub greatest : (it : Configuration) → Says offered it → Says own it → Says answer it
  pub received : (it : Configuration) → Receives answer it → Receives offered it × Receives own it
  pub greatest_received : (it : Configuration) → Receives offered it → Receives own it →
      Receives answer it
  pub no_sublayer : value_at answer.values (row_place p.RecvSublayerId) ≡ None
  pub no_layer_set : value_at answer.values (row_place p.RecvOlsId) ≡ None
  pub capable : AllByRecursion (SameValue answer own) capabilities
  pub stream : AllByRecursion (IsNoneOrOurs own answer) stream_properties
  pub one_vps : (it : Configuration) → Says answer it → IsLayered it.profile →
      SameValue answer offered p.SpropVps
