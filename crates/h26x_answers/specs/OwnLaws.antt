-- What a format of one's own says where it breaks no rule of its RFC. Nothing here is said by how a
-- broken rule is found.
use Rattle.std.specs.Prelude.{◌≡◌, ◌⊎◌, ℕ, ◌*◌, ◌<◌, ◌≤◌, List, Some, None}
use Rattle.h26x_answers.specs.declared.answer.AnswerRules.{AnswerRules}
use Rattle.h26x_answers.specs.declared.answer.h264.ProfileLevelId.{ProfileLevelId}
use Rattle.h26x_answers.specs.declared.answer.own_h264.LevelLimits.{LevelLimits}
use Rattle.h26x_answers.specs.declared.answer.own_h265.TieredLimits.{TieredLimits}
use Rattle.h26x_sdp.specs.declared.h264.H264Parameter.TheVariants as h264_parameter
use Rattle.h26x_sdp.specs.declared.h265.H265Parameter.TheVariants as h265_parameter
use Rattle.h26x_sdp.specs.declared.h266.H266Parameter.TheVariants as h266_parameter
use Rattle.h26x_fmtp.specs.Tables.{ParameterRow}
use Rattle.h26x_fmtp.specs.Reading.{FormatParameters, value_at, number_at}
use Rattle.h26x_sdp.specs.H264Rows as h264_rows
use Rattle.h26x_sdp.specs.H265Rows as h265_rows
use Rattle.h26x_sdp.specs.H266Rows as h266_rows
use Rattle.h26x_answers.specs.AnswersH264 as h264
use Rattle.h26x_answers.specs.OwnH265 as h265
use Rattle.h26x_answers.specs.OwnH266 as h266

-- a limit that is given is at least what a level asks for
abbrev pub IsNotBelow : List ParameterRow → FormatParameters → ℕ → ℕ → Type 0
IsNotBelow rows it row least =
    (number : ℕ) → number_at rows it row ≡ Some number → least ≤ number

-- and of H.265 and H.266 no more than 16 times that
abbrev pub IsInRange : List ParameterRow → FormatParameters → ℕ → ℕ → Type 0
IsInRange rows it row least = (number : ℕ) → number_at rows it row ≡ Some number →
    (least ≤ number) × (number ≤ 16 * least)

-- limits of H.264 at a level (RFC 6184, section 8.1, max-mbps, max-fs, max-cpb, max-dpb and max-br)
pub record KeepsH264Limits (it : FormatParameters) (level : LevelLimits) : Type 0 where
  pub mbps : IsNotBelow h264_rows.rows it (h264_rows.row_place h264_parameter.MaxMbps) level.mbps
  pub fs : IsNotBelow h264_rows.rows it (h264_rows.row_place h264_parameter.MaxFs) level.fs
  pub cpb : IsNotBelow h264_rows.rows it (h264_rows.row_place h264_parameter.MaxCpb) level.cpb
  pub dpb : IsNotBelow h264_rows.rows it (h264_rows.row_place h264_parameter.MaxDpb) level.dpb
  pub br : IsNotBelow h264_rows.rows it (h264_rows.row_place h264_parameter.MaxBr) level.br

-- the same of H.265 in a tier (RFC 7798, section 7.1, max-lsr to max-tc)
pub record KeepsH265Limits (it : FormatParameters) (level : TieredLimits) : Type 0 where
  pub lsr : IsInRange h265_rows.rows it (h265_rows.row_place h265_parameter.MaxLsr) level.lsr
  pub lps : IsInRange h265_rows.rows it (h265_rows.row_place h265_parameter.MaxLps) level.lps
  pub cpb : IsInRange h265_rows.rows it (h265_rows.row_place h265_parameter.MaxCpb)
      (h265.of_tier it level).0
  pub dpb : IsNotBelow h265_rows.rows it (h265_rows.row_place h265_parameter.MaxDpb) 6
  pub br : IsInRange h265_rows.rows it (h265_rows.row_place h265_parameter.MaxBr)
      (h265.of_tier it level).1
  pub tr : IsInRange h265_rows.rows it (h265_rows.row_place h265_parameter.MaxTr) level.tiles.0
  pub tc : IsInRange h265_rows.rows it (h265_rows.row_place h265_parameter.MaxTc) level.tiles.1

-- a format of H.264 (RFC 6184, section 8.1): the highest level that is received is one of the
-- standard's and above the level, where it's given; limits are those of it; aspect ratios are supported
-- as far as they're understood, or all; and who discards sets that are told uses none of levels
pub record MaySayH264 (by : AnswerRules) (it : FormatParameters) : Type 0 where
  pub id : ProfileLevelId
  pub said : h264.id_of by it ≡ Some id
  pub rank : ℕ
  pub level : LevelLimits
  pub highest : h264.limits_of rank ≡ Some level
  pub above : (text : List ℕ) →
      value_at it.values (h264_rows.row_place h264_parameter.MaxRecvLevel) ≡ Some text →
      (h264.level_rank id < rank) × (rank ≡ h264.recv_rank text)
  pub unsaid : value_at it.values (h264_rows.row_place h264_parameter.MaxRecvLevel) ≡ None →
      rank ≡ h264.level_rank id
  pub limits : KeepsH264Limits it level
  pub ratios : (understood supported : ℕ) →
      h264.number it h264_parameter.SarUnderstood ≡ Some understood →
      h264.number it h264_parameter.SarSupported ≡ Some supported →
      (supported ≡ 255) ⊎ (supported ≤ understood)
  pub in_band : h264.number it h264_parameter.InBandParameterSets ≡ Some 1 →
      h264.number it h264_parameter.UseLevelSrcParameterSets ≡ Some 1 → ⊥

-- a format of H.265 (RFC 7798, section 7.1), in the same words
pub record MaySayH265 (it : FormatParameters) : Type 0 where
  pub least : ℕ
  pub said : h265.number it h265_parameter.LevelId ≡ Some least
  pub most : ℕ
  pub level : TieredLimits
  pub highest : h265.limits_of most ≡ Some level
  pub above : (number : ℕ) →
      number_at h265_rows.rows it (h265_rows.row_place h265_parameter.MaxRecvLevelId)
      ≡ Some number → (least < most) × (most ≡ number)
  pub unsaid : number_at h265_rows.rows it (h265_rows.row_place h265_parameter.MaxRecvLevelId)
      ≡ None → most ≡ least
  pub limits : KeepsH265Limits it level

-- a format of H.266 (RFC 9328, section 7.2): max-lsr by the highest level, where that has a most
abbrev pub MaySayH266 : FormatParameters → Type 0
MaySayH266 it = (level rate : ℕ) → h266.highest_level it ≡ Some level →
    h266.luma_rate_of level ≡ Some rate →
    IsInRange h266_rows.rows it (h266_rows.row_place h266_parameter.MaxLsr) rate
