-- What an offer and its answer agree on, as an end of them sees it (RFC 6184, sections 8.1 and 8.2.2;
-- RFC 7798, section 7.2.2; RFC 9328, section 7.3.2).
use Rattle.std.specs.Prelude.{◌≡◌, ℕ, ◌≤◌, ◌==◌, min, Bool, not, ◌&&◌, if◌then◌else◌, List, Option, Some, None, is_some}
use Rattle.std.specs.Option.{option_map}
use Rattle.h26x_answers.specs.declared.answer.AnswerRules.{AnswerRules}
use Rattle.h26x_answers.specs.declared.answer.h264.ProfileLevelId.{ProfileLevelId}
use Rattle.h26x_answers.specs.declared.agreed.AgreedSets.{AgreedSets}
use Rattle.h26x_answers.specs.declared.agreed.AgreedSets.TheVariants.{InBand, Told, ToldOfLevel}
use Rattle.h26x_answers.specs.declared.agreed.AgreedStream.{AgreedStream}
use Rattle.h26x_answers.specs.declared.agreed.Agreed.{Agreed}
use Rattle.h26x_answers.specs.declared.direction.Direction.{Direction}
use Rattle.h26x_answers.specs.declared.direction.Direction.TheVariants.{SendRecv, SendOnly, RecvOnly}
use Rattle.h26x_sdp.specs.declared.h264.H264Parameter.TheVariants as h264
use Rattle.h26x_sdp.specs.declared.h265.H265Parameter.TheVariants as h265
use Rattle.h26x_sdp.specs.declared.h266.H266Parameter.TheVariants as h266
use Rattle.h26x_fmtp.specs.Tables.{ParameterRow}
use Rattle.h26x_fmtp.specs.Reading.{FormatParameters, value_at}
use Rattle.h26x_sdp.specs.H265Rows as h265_rows
use Rattle.h26x_sdp.specs.H266Rows as h266_rows
use Rattle.h26x_answers.specs.AnswersH264.{number, is_on, is_given, id_of, level_rank, highest_rank}
use Rattle.h26x_answers.specs.Directions.{opposite}
use Rattle.h26x_answers.specs.AllowedH264.{rank_to_use}
use Rattle.h26x_answers.specs.AnswersByLevel.{LevelRows, levels_of}
use Rattle.h26x_answers.specs.AnswersH265 as h265_answers
use Rattle.h26x_answers.specs.AnswersH266 as h266_answers

-- what an end sends and receives, by the stream from one end to the other
abbrev pub agreed : (FormatParameters → FormatParameters → Option AgreedStream) → Direction →
    FormatParameters → FormatParameters → Agreed
agreed stream SendRecv own other =
    record { sends = stream own other; receives = stream other own }
agreed stream SendOnly own other = record { sends = stream own other; receives = None }
agreed stream RecvOnly own other = record { sends = None; receives = stream other own }

-- the level to use from one end to the other, as `level_rank`: in one direction no level is its own
abbrev pub level_to_use : Direction → FormatParameters → FormatParameters → ProfileLevelId →
    ProfileLevelId → ℕ
level_to_use SendRecv sender receiver s r = rank_to_use sender receiver s r
level_to_use SendOnly sender receiver s r = min (level_rank s) (level_rank r)
level_to_use RecvOnly sender receiver s r = min (level_rank s) (level_rank r)

-- where parameter sets are (section 8.1): in the stream where the receiver asks for it; at the sender's
-- level in its format, and at another where the receiver uses those of other levels
abbrev pub sets_to_use : FormatParameters → FormatParameters → ℕ → ℕ → AgreedSets
sets_to_use sender receiver level own =
    if is_on receiver h264.InBandParameterSets then InBand
    else (if (level == own) && is_given sender h264.SpropParameterSets then Told
    else (if not (level == own) && (is_on receiver h264.UseLevelSrcParameterSets
    && is_given sender h264.SpropLevelParameterSets) then ToldOfLevel else InBand))

abbrev pub stream_at : FormatParameters → FormatParameters → ℕ → ProfileLevelId → AgreedStream
stream_at sender receiver level s = record {
  level = level;
  mode = number sender h264.PacketizationMode;
  sets = sets_to_use sender receiver level (level_rank s);
}

abbrev pub stream_of_ids : Direction → FormatParameters → FormatParameters →
    Option ProfileLevelId → Option ProfileLevelId → Option AgreedStream
stream_of_ids direction sender receiver None r = None
stream_of_ids direction sender receiver (Some s) None = None
stream_of_ids direction sender receiver (Some s) (Some r) =
    Some (stream_at sender receiver (level_to_use direction sender receiver s r) s)

abbrev pub h264_stream : AnswerRules → Direction → FormatParameters → FormatParameters →
    Option AgreedStream
h264_stream by direction sender receiver =
    stream_of_ids direction sender receiver (id_of by sender) (id_of by receiver)

-- the highest level that the receiver takes
abbrev pub stream_by_level : List ParameterRow → LevelRows → FormatParameters → Bool →
    Option AgreedStream
stream_by_level rows by receiver told = option_map (λ levels. record {
  level = levels.highest;
  mode = None;
  sets = if told then Told else InBand;
}) (levels_of rows by receiver)

-- of H.265 the three kinds of parameter sets are told, of H.266 the two that each stream has
abbrev pub h265_stream : FormatParameters → FormatParameters → Option AgreedStream
h265_stream sender receiver = stream_by_level h265_rows.rows h265_answers.by receiver
    (is_some (value_at sender.values (h265_rows.row_place h265.SpropVps))
    && (is_some (value_at sender.values (h265_rows.row_place h265.SpropSps))
    && is_some (value_at sender.values (h265_rows.row_place h265.SpropPps))))

abbrev pub h266_stream : FormatParameters → FormatParameters → Option AgreedStream
h266_stream sender receiver = stream_by_level h266_rows.rows h266_answers.by receiver
    (is_some (value_at sender.values (h266_rows.row_place h266.SpropSps))
    && is_some (value_at sender.values (h266_rows.row_place h266.SpropPps)))

-- what one end sends the other receives
abbrev pub IsSeenByBoth : (Direction → FormatParameters → FormatParameters → Option AgreedStream) →
    Type 0
IsSeenByBoth stream = (direction : Direction) (own other : FormatParameters) →
    (agreed (stream direction) direction own other).sends
    ≡ (agreed (stream (opposite direction)) (opposite direction) other own).receives

-- a stream of H.264 is of a level that its receiver says that it receives
pub record IsWithinReceived (by : AnswerRules) (receiver : FormatParameters)
    (stream : AgreedStream) : Type 0 where
  pub id : ProfileLevelId
  pub said : id_of by receiver ≡ Some id
  pub level : stream.level ≤ highest_rank receiver id

abbrev pub AreWithinReceived : AnswerRules → Type 0
AreWithinReceived by = (direction : Direction) (sender receiver : FormatParameters)
    (stream : AgreedStream) → h264_stream by direction sender receiver ≡ Some stream →
    IsWithinReceived by receiver stream
