-- A depacketizer of a codec that is chosen when it is made, which shows no packet.
use Rattle.std.specs.Prelude.{ℕ, Bool, List, Option}
use Rattle.h26x_core.specs.declared.extra.CodecExtra.{CodecExtra}
use Rattle.h26x_core.specs.H264AccessUnit.{may_begin_h264}
use Rattle.h26x_model.specs.Receive.DepacketizerState.{DepacketizerState, Depacketization, depacketization}
use Rattle.h26x_codec.specs.Codec.{codec_format, may_begin_h265, may_begin_h266, is_last_h265, is_last_h266}
use Rattle.h26x_codec.specs.declared.codec.Codec.{Codec}
use Rattle.h26x_codec.specs.declared.codec.Codec.TheVariants as c
use Rattle.h26x_depacketizer.specs.OpenText.{OpenTextView, text_depacketization, met_depacketization}

-- its codec, whether packets bear decoding order numbers, whether it writes lengths, and the data of
-- its open run
pub record AnyPayloadView : Type 0 where
  pub codec : Codec
  pub has_donl : Bool
  pub is_avc : Bool
  pub run : Option (List ℕ)

-- the same as a depacketizer of a format
abbrev pub any_payload_state : AnyPayloadView → DepacketizerState
any_payload_state it = record {
  format = codec_format it.codec it.has_donl;
  is_avc = it.is_avc;
  run = it.run;
}

-- the same, what was written so far, and what is told
abbrev pub any_payload_depacketization : AnyPayloadView → List ℕ → CodecExtra → Depacketization
any_payload_depacketization it out extra = depacketization (any_payload_state it) out extra

-- the same at work on a text, with the run that is open there
abbrev pub any_payload_in_text : AnyPayloadView → OpenTextView → CodecExtra → Depacketization
any_payload_in_text it text extra = text_depacketization (any_payload_state it) text extra

-- the same as a packet meets it
abbrev pub any_payload_met : Bool → AnyPayloadView → OpenTextView → CodecExtra → Depacketization
any_payload_met is_next it text extra =
    met_depacketization is_next (any_payload_state it) text extra

-- whether a codec's packet may be the first of an access unit
abbrev pub codec_begins : Codec → List ℕ → Bool
codec_begins c.H264 packet = may_begin_h264 packet
codec_begins c.H265 packet = may_begin_h265 packet
codec_begins c.H266 packet = may_begin_h266 packet

-- whether it is the last of one
abbrev pub codec_ends : Codec → Bool → List ℕ → Bool
codec_ends c.H264 marker packet = marker
codec_ends c.H265 marker packet = is_last_h265 marker packet
codec_ends c.H266 marker packet = is_last_h266 marker packet
