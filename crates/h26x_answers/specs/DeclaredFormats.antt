-- Formats that a description declares and doesn't offer (RFC 6184, section 8.2.3; RFC 7798, section
-- 7.2.3; RFC 9328, section 7.3.3): what they say is of their stream, which an end receives as it is.
use Rattle.std.specs.Prelude.{◌≡◌, ℕ, nat_le, Bool, true, false, not, ◌&&◌, ◌||◌, List, [], ◌∷◌, Option, Some, None, is_some}
use Rattle.h26x_answers.specs.declared.answer.AnswerConfig.{AnswerConfig}
use Rattle.h26x_answers.specs.declared.answer.AnswerRules.{AnswerRules}
use Rattle.h26x_answers.specs.declared.answer.h264.ProfileLevelId.{ProfileLevelId}
use Rattle.h26x_answers.specs.declared.answer.by_level.Levels.{Levels}
use Rattle.h26x_fmtp.specs.Tables.{ParameterRow}
use Rattle.h26x_fmtp.specs.Parameters.{AreParameters}
use Rattle.h26x_fmtp.specs.Reading.{FormatParameters}
use Rattle.h26x_answers.specs.Answers.{Rules, are_symmetric, takes_order, own_fault}
use Rattle.h26x_answers.specs.AnswersByLevel.{LevelRows, levels_of, can_hold}
use Rattle.h26x_answers.specs.AnswersH264 as h264
use Rattle.h26x_answers.specs.ConfigurationsH264 as h264_said
use Rattle.h26x_answers.specs.ConfigurationsH265 as h265_said
use Rattle.h26x_answers.specs.ConfigurationsH266 as h266_said
use Rattle.h26x_sdp.specs.H265Rows as h265_rows
use Rattle.h26x_sdp.specs.H266Rows as h266_rows
use Rattle.h26x_answers.specs.AnswersH265 as h265
use Rattle.h26x_answers.specs.AnswersH266 as h266

-- a format of ours that breaks no rule receives a declared one, by what a codec takes of one
-- configuration
abbrev pub is_accepted : Rules → (FormatParameters → FormatParameters → Bool) → AnswerConfig →
    FormatParameters → FormatParameters → Bool
is_accepted rules takes config declared own =
    ((rules.known declared && takes_order rules config declared)
    && not (is_some (own_fault rules config own)))
    && (are_symmetric rules.roles rules.rows declared.values own.values && takes declared own)

-- one of ours does
abbrev pub accepts_declared : Rules → (FormatParameters → FormatParameters → Bool) → AnswerConfig →
    FormatParameters → List FormatParameters → Bool
accepts_declared rules takes config declared [] = false
accepts_declared rules takes config declared (own ∷ ours) =
    is_accepted rules takes config declared own || accepts_declared rules takes config declared ours

abbrev pub takes_ids : AnswerRules → FormatParameters → FormatParameters →
    Option ProfileLevelId → Option ProfileLevelId → Bool
takes_ids by declared own None b = false
takes_ids by declared own (Some a) None = false
takes_ids by declared own (Some a) (Some b) = h264.takes_profile by a b
    && (nat_le (h264.level_rank a) (h264.highest_rank own b)
    && (not (h264.is_interleaved declared) || h264.can_deinterleave declared own))

-- of H.264 its profile, a level that isn't above the highest that we receive, and in interleaved mode
-- its units in our buffer
abbrev pub h264_takes : AnswerRules → FormatParameters → FormatParameters → Bool
h264_takes by declared own =
    takes_ids by declared own (h264.id_of by declared) (h264.id_of by own)

abbrev pub takes_levels : List ParameterRow → LevelRows → FormatParameters → FormatParameters →
    Option Levels → Option Levels → Bool
takes_levels rows by declared own None b = false
takes_levels rows by declared own (Some a) None = false
takes_levels rows by declared own (Some a) (Some b) = nat_le a.level b.highest
    && can_hold rows by declared own

-- the same of a level that is a number
abbrev pub takes_level : List ParameterRow → LevelRows → FormatParameters → FormatParameters → Bool
takes_level rows by declared own = takes_levels rows by declared own (levels_of rows by declared)
    (levels_of rows by own)

abbrev pub h265_takes : AnswerRules → FormatParameters → FormatParameters → Bool
h265_takes by declared own = h265.agree by declared own
    && takes_level h265_rows.rows h265.by declared own

abbrev pub h266_takes : FormatParameters → FormatParameters → Bool
h266_takes declared own = takes_level h266_rows.rows h266.by declared own

-- what a declared format says one of ours receives
abbrev pub OfEachAccepted : Rules → (FormatParameters → FormatParameters → Bool) →
    (FormatParameters → FormatParameters → Type 0) → Type 0
OfEachAccepted rules takes Holds = (config : AnswerConfig) (declared own : FormatParameters) →
    AreParameters rules.rows declared → AreParameters rules.rows own →
    is_accepted rules takes config declared own ≡ true → Holds declared own

-- of H.264 each configuration that a declared format says is one that ours says that it receives, and
-- in interleaved mode ours can put in order what it sends (RFC 6184, section 8.2.3)
pub record IsReceivedH264 (by : AnswerRules) (declared own : FormatParameters) : Type 0 where
  pub configuration : (it : h264_said.Configuration) → h264_said.Says by declared it →
      h264_said.Receives by own it
  pub order : h264_said.Reorders declared → h264_said.IsPutInOrder declared own

-- the same of H.265 (RFC 7798, section 7.2.3), whose packets may bear decoding order numbers
pub record IsReceivedH265 (by : AnswerRules) (declared own : FormatParameters) : Type 0 where
  pub configuration : (it : h265_said.Configuration) → h265_said.Says by declared it →
      h265_said.Receives by own it
  pub order : h265_said.IsPutInOrder declared own

-- and of H.266 (RFC 9328, section 7.3.3)
pub record IsReceivedH266 (declared own : FormatParameters) : Type 0 where
  pub configuration : (it : h266_said.Configuration) → h266_said.Says declared it →
      h266_said.Receives own it
  pub order : h266_said.IsPutInOrder declared own
