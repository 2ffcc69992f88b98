-- What RFC 6184, section 8.2.2, allows as the answer to an offered format of H.264, for unicast, and
-- what an end may send.
use Rattle.std.specs.Prelude.{◌≡◌, ◌⊎◌, ◌==◌, ◌||◌, ℕ, ◌≤◌, min, Bool, true, false, if◌then◌else◌, Some, None}
use Rattle.h26x_sdp.specs.declared.h264.H264Parameter.{H264Parameter}
use Rattle.h26x_sdp.specs.declared.h264.H264Parameter.TheVariants as p
use Rattle.h26x_answers.specs.declared.answer.AnswerRules.{AnswerRules}
use Rattle.h26x_answers.specs.declared.answer.h264.ProfileLevelId.{ProfileLevelId}
use Rattle.h26x_fmtp.specs.Reading.{FormatParameters, value_at}
use Rattle.h26x_sdp.specs.H264Rows.{row_place}
use Rattle.h26x_answers.specs.AnswersH264.{number, is_on, id_of, profile_flags, level_rank, highest_rank, is_interleaved, can_deinterleave, both_asymmetric}

-- a parameter is absent
abbrev pub IsAbsent : FormatParameters → H264Parameter → Type 0
IsAbsent it parameter = value_at it.values (row_place parameter) ≡ None

-- one profile: the bytes are the same but for those of the level
pub record IsSameProfile (a b : ProfileLevelId) : Type 0 where
  pub idc : a.profile_idc ≡ b.profile_idc
  pub flags : profile_flags a ≡ profile_flags b

-- an allowed answer: profile and packetization mode are the offer's; the level isn't above the offer's
-- but where both ends allow asymmetry; parameter sets are of one kind, and none where the offer wants
-- them in band; what is of interleaved packets stands in mode 2 alone, in which each end has the buffer
-- that the other asks for
pub record IsH264Answer (by : AnswerRules) (offered answer : FormatParameters) : Type 0 where
  pub theirs : ProfileLevelId
  pub ours : ProfileLevelId
  pub offer_says : id_of by offered ≡ Some theirs
  pub answer_says : id_of by answer ≡ Some ours
  pub profile : IsSameProfile ours theirs
  pub mode : number answer p.PacketizationMode ≡ number offered p.PacketizationMode
  pub level : both_asymmetric offered answer ≡ false → level_rank ours ≤ level_rank theirs
  pub one_kind : IsAbsent answer p.SpropParameterSets ⊎ IsAbsent answer p.SpropLevelParameterSets
  pub in_band : is_on offered p.InBandParameterSets ≡ true →
      IsAbsent answer p.SpropParameterSets × IsAbsent answer p.SpropLevelParameterSets
  pub in_order : is_interleaved answer ≡ false → IsAbsent answer p.SpropInterleavingDepth
      × IsAbsent answer p.SpropDeintBufReq × IsAbsent answer p.SpropInitBufTime
      × IsAbsent answer p.SpropMaxDonDiff
  pub interleaved : is_interleaved answer ≡ true → (can_deinterleave offered answer ≡ true)
      × (can_deinterleave answer offered ≡ true)

-- the level to use from one end to the other, as `level_rank`: the highest that the receiver takes,
-- where both ends allow asymmetry, and else the lower of both
abbrev pub rank_to_use : FormatParameters → FormatParameters → ProfileLevelId → ProfileLevelId → ℕ
rank_to_use sender receiver s r =
    if both_asymmetric sender receiver then highest_rank receiver r
    else min (level_rank s) (level_rank r)

-- what one end sends is what the other said that it receives: its profile, its packetization mode, a
-- level that isn't above its highest, and a buffer that it has
pub record MaySend (sender receiver : FormatParameters) (s r : ProfileLevelId) : Type 0 where
  pub profile : IsSameProfile s r
  pub mode : number sender p.PacketizationMode ≡ number receiver p.PacketizationMode
  pub level : rank_to_use sender receiver s r ≤ highest_rank receiver r
  pub buffer : is_interleaved sender ≡ true → can_deinterleave sender receiver ≡ true

-- where an answer is of interleaved packets, we could put in order what we send
abbrev pub CanDeinterleaveOwn : FormatParameters → FormatParameters → Type 0
CanDeinterleaveOwn own answer = is_interleaved answer ≡ true → can_deinterleave own own ≡ true

-- the rows of parameter sets, which depend on what the other end says of them
abbrev pub is_sets_row : ℕ → Bool
is_sets_row row = (row == row_place p.SpropParameterSets)
    || (row == row_place p.SpropLevelParameterSets)
