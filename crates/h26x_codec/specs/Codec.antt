-- What is of each codec: its format, its rule of start codes, new endpoints.
use Rattle.std.specs.Prelude.{ℕ, Bool, false, List, None}
use Rattle.h26x_model.specs.Payload.Format.{Format}
use Rattle.h26x_model.specs.Payload.TwoBytes.{is_two_byte_fragment}
use Rattle.h26x_model.specs.Send.Calls.{packet_limit, default_max_packet_size}
use Rattle.h26x_model.specs.Send.WaitingSets.{no_waiting_sets}
use Rattle.h26x_model.specs.Send.PacketizerState.{PacketizerState}
use Rattle.h26x_model.specs.Receive.Outcome.{is_startless}
use Rattle.h26x_model.specs.Receive.DepacketizerState.{DepacketizerState}
use Rattle.h26x_depacketizer.specs.AccessUnit.{may_begin, is_last}
use Rattle.h26x_depacketizer.specs.DepacketizerView.{DepacketizerView}
use Rattle.h26x_depacketizer.specs.declared.shows.Nothing.{Nothing}
use Rattle.h264_payload.specs.H264.{h264}
use Rattle.h264_payload.specs.declared.codec.H264.{H264}
use Rattle.h265_packets.specs.declared.payload.H265Payload.{H265Payload}
use Rattle.h265_payload.specs.H265.{h265, h265_header}
use Rattle.h265_payload.specs.Sending.{h265_headed}
use Rattle.h265_payload.specs.declared.codec.H265.{H265}
use Rattle.h266_payload.specs.H266.{h266, h266_header}
use Rattle.h266_payload.specs.declared.codec.H266.{H266}
use Rattle.h266_payload.specs.Setting as h266_setting
use Rattle.h26x_codec.specs.declared.codec.Codec.{Codec}
use Rattle.h26x_codec.specs.declared.codec.Codec.TheVariants as c
use Rattle.h26x_cut.specs.declared.ZeroRule.{ZeroRule}
use Rattle.h26x_cut.specs.declared.ZeroRule.TheVariants.{All, AtMostThree}

-- how many zeros before 01 a start code of a codec has
abbrev pub zero_rule : Codec → ZeroRule
zero_rule c.H264 = All
zero_rule c.H265 = All
zero_rule c.H266 = AtMostThree

-- the payload format of a codec, with decoding order numbers or without; H.264 has none
abbrev pub codec_format : Codec → Bool → Format
codec_format c.H264 has_donl = h264
codec_format c.H265 has_donl = h265 has_donl
codec_format c.H266 has_donl = h266 has_donl

-- the same with the header of parameter sets themselves, where they share a packet, or with that of the
-- unit behind them (RFC 7798, 4.4.2); H.266 has the first in any case
abbrev pub codec_headed_format : Codec → Bool → Bool → Format
codec_headed_format c.H264 has_donl lowest_header = h264
codec_headed_format c.H265 has_donl lowest_header = h265_headed has_donl lowest_header
codec_headed_format c.H266 has_donl lowest_header = h266 has_donl

-- that without numbers
abbrev pub default_format : Codec → Format
default_format codec = codec_format codec false

-- a packetizer without numbers for which nothing waits
abbrev pub fresh_packetizer_state : Format → PacketizerState
fresh_packetizer_state f = record {
  format = f;
  waiting = no_waiting_sets;
  next_don = 0;
  max_packet_size = default_max_packet_size;
}

-- how long a packet may be at an mtu, in bytes
abbrev pub limit_at : PacketizerState → ℕ → ℕ
limit_at s mtu = packet_limit s.format s.max_packet_size mtu

-- a depacketizer of each codec: that of H.265 shows packets
abbrev pub H264View : Type 0
H264View = DepacketizerView H264 Nothing

abbrev pub H265View : Type 0
H265View = DepacketizerView H265 H265Payload

abbrev pub H266View : Type 0
H266View = DepacketizerView H266 Nothing

-- whether a packet is a fragment without a start to one of H.264 that has no run open (RFC 6184, 5.8)
abbrev pub is_startless_h264 : H264View → List ℕ → Bool
is_startless_h264 it packet = is_startless it.run (h264.read packet)

-- so to one of H.266 (RFC 9328, 4.3.3)
abbrev pub is_startless_h266 : H266View → List ℕ → Bool
is_startless_h266 it packet = is_startless it.run ((h266_setting.setting_format it.codec).read packet)

-- whether a packet of H.265 may be the first of an access unit (RFC 7798, 4.4.3; str0m's rule)
abbrev pub may_begin_h265 : List ℕ → Bool
may_begin_h265 packet = may_begin (is_two_byte_fragment h265_header packet) packet

-- whether it is the last of one
abbrev pub is_last_h265 : Bool → List ℕ → Bool
is_last_h265 marker packet = is_last (is_two_byte_fragment h265_header packet) marker packet

-- whether a packet of H.266 may be the first of an access unit (RFC 9328, 4.3.3; str0m's rule)
abbrev pub may_begin_h266 : List ℕ → Bool
may_begin_h266 packet = may_begin (is_two_byte_fragment h266_header packet) packet

-- whether it is the last of one
abbrev pub is_last_h266 : Bool → List ℕ → Bool
is_last_h266 marker packet = is_last (is_two_byte_fragment h266_header packet) marker packet

-- a depacketizer without numbers that writes start codes and has no run open
abbrev pub fresh_depacketizer_state : Format → DepacketizerState
fresh_depacketizer_state f = record { format = f; is_avc = false; run = None }
