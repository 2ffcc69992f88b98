-- What two formats agree on and which declared ones are received, as the calls on them answer.
use Rattle.std.specs.Prelude.{ℕ, Bool, true, false, [], ◌∷◌, Option, Some, None}
use Rattle.h26x_answers.specs.declared.answer.AnswerConfig.{AnswerConfig}
use Rattle.h26x_answers.specs.declared.agreed.AgreedSets.{AgreedSets}
use Rattle.h26x_answers.specs.declared.agreed.AgreedSets.TheVariants.{InBand, Told, ToldOfLevel}
use Rattle.h26x_answers.specs.declared.agreed.AgreedStream.{AgreedStream}
use Rattle.h26x_answers.specs.declared.agreed.Agreed.{Agreed}
use Rattle.h26x_answers.specs.Agreed.{agreed, h264_stream, h265_stream, h266_stream}
use Rattle.h26x_answers.specs.AnswersH264 as h264_answers
use Rattle.h26x_answers.specs.AnswersH265 as h265_answers
use Rattle.h26x_answers.specs.AnswersH266 as h266_answers
use Rattle.h26x_answers.specs.DeclaredFormats.{accepts_declared, h264_takes, h265_takes, h266_takes}
use Rattle.h26x_sdp_handles.specs.declared.sdp.SdpEndpoint.{SdpEndpoint}
use Rattle.h26x_sdp_handles.specs.declared.sdp.SdpEndpoint.TheVariants as s
use Rattle.h26x_sdp_handles.specs.declared.streams.StreamNumbers.{StreamNumbers}

abbrev pub sets_number : AgreedSets → ℕ
sets_number InBand = 0
sets_number Told = 1
sets_number ToldOfLevel = 2

-- a packetization mode, which is 0 where there is none, and whether there is one
abbrev pub mode_or_zero : Option ℕ → ℕ
mode_or_zero None = 0
mode_or_zero (Some mode) = mode

abbrev pub mode_is_there : Option ℕ → Bool
mode_is_there None = false
mode_is_there (Some mode) = true

-- a stream in numbers; where there is none all of it is 0
abbrev pub stream_numbers : Option AgreedStream → StreamNumbers
stream_numbers None = record { level = 0; mode = 0; sets = 0; is_there = false; has_mode = false }
stream_numbers (Some it) = record {
  level = it.level;
  mode = mode_or_zero it.mode;
  sets = sets_number it.sets;
  is_there = true;
  has_mode = mode_is_there it.mode;
}

-- what the end that wrote the first sends and receives; nothing of two codecs
abbrev pub sdp_agreed : AnswerConfig → SdpEndpoint → SdpEndpoint → Option Agreed
sdp_agreed config (s.H264 own) (s.H264 other) =
    Some (agreed (h264_stream config.rules config.direction) config.direction own other)
sdp_agreed config (s.H265 own) (s.H265 other) =
    Some (agreed h265_stream config.direction own other)
sdp_agreed config (s.H266 own) (s.H266 other) =
    Some (agreed h266_stream config.direction own other)
sdp_agreed config own other = None

-- whether a format of ours receives a declared one; not of another codec
abbrev pub sdp_accepts : AnswerConfig → SdpEndpoint → SdpEndpoint → Bool
sdp_accepts config (s.H264 declared) (s.H264 own) = accepts_declared
    (h264_answers.rules config.rules) (h264_takes config.rules) config declared (own ∷ [])
sdp_accepts config (s.H265 declared) (s.H265 own) = accepts_declared
    (h265_answers.rules config.rules) (h265_takes config.rules) config declared (own ∷ [])
sdp_accepts config (s.H266 declared) (s.H266 own) =
    accepts_declared h266_answers.rules h266_takes config declared (own ∷ [])
sdp_accepts config declared own = false
