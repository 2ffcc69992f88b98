-- A depacketizer of one of the codecs.
use Rattle.std.specs.Prelude.{ℕ, nat_eq, Bool, false, ◌&&◌, List, Option, Some, None}
use Rattle.std.specs.Bool.{beq}
use Rattle.std.specs.Option.{option_eq}
use Rattle.std.specs.Cmp.Lexicographic.{pointwise}
use Rattle.h26x_core.specs.declared.extra.CodecExtra.{CodecExtra}
use Rattle.h26x_model.specs.Receive.DepacketizerState.{DepacketizerState, Depacketization, depacketization, depacketizer_meaning}
use Rattle.h26x_depacketizer.specs.DepacketizerView.{depacketizer_state}
use Rattle.h264_payload.specs.H264.{h264}
use Rattle.h265_packets.specs.Equality.{payload_eq}
use Rattle.h265_packets.specs.Payload.{empty_single}
use Rattle.h265_packets.specs.declared.payload.H265Payload.{H265Payload}
use Rattle.h265_packets.specs.declared.payload.H265Payload.TheVariants as p
use Rattle.h265_payload.specs.Setting as h265_setting
use Rattle.h265_payload.specs.Shown.{shown}
use Rattle.h266_payload.specs.Setting as h266_setting
use Rattle.h26x_codec.specs.declared.codec.Codec.{Codec}
use Rattle.h26x_codec.specs.declared.codec.Codec.TheVariants as c
use Rattle.h26x_codec.specs.declared.any_depacketizer.AnyDepacketizer.{AnyDepacketizer}
use Rattle.h26x_codec.specs.declared.any_depacketizer.AnyDepacketizer.TheVariants as a

-- what it is to the definitions
abbrev pub any_depacketizer_state : AnyDepacketizer → DepacketizerState
any_depacketizer_state (a.H264 it) = depacketizer_state h264 it
any_depacketizer_state (a.H265 it) = depacketizer_state (h265_setting.setting_format it.codec) it
any_depacketizer_state (a.H266 it) = depacketizer_state (h266_setting.setting_format it.codec) it

-- the same, what was written so far, and what is told
abbrev pub any_depacketization : AnyDepacketizer → List ℕ → CodecExtra → Depacketization
any_depacketization it out extra = depacketization (any_depacketizer_state it) out extra

-- the same with another run
abbrev pub any_depacketizer_with_run : Option (List ℕ) → AnyDepacketizer → AnyDepacketizer
any_depacketizer_with_run run (a.H264 it) = a.H264 (record it { run = run })
any_depacketizer_with_run run (a.H265 it) = a.H265 (record it { run = run })
any_depacketizer_with_run run (a.H266 it) = a.H266 (record it { run = run })

-- what later answers depend on
abbrev pub any_depacketizer_meaning : AnyDepacketizer → List (List ℕ)
any_depacketizer_meaning it = depacketizer_meaning (any_depacketizer_state it)

-- its codec
abbrev pub any_depacketizer_codec : AnyDepacketizer → Codec
any_depacketizer_codec (a.H264 it) = c.H264
any_depacketizer_codec (a.H265 it) = c.H265
any_depacketizer_codec (a.H266 it) = c.H266

-- whether it writes units behind lengths
abbrev pub any_depacketizer_avc : AnyDepacketizer → Bool
any_depacketizer_avc (a.H264 it) = it.is_avc
any_depacketizer_avc (a.H265 it) = it.is_avc
any_depacketizer_avc (a.H266 it) = it.is_avc

-- the same writing units behind lengths or behind start codes
abbrev pub any_depacketizer_with_avc : Bool → AnyDepacketizer → AnyDepacketizer
any_depacketizer_with_avc is_avc (a.H264 it) = a.H264 (record it { is_avc = is_avc })
any_depacketizer_with_avc is_avc (a.H265 it) = a.H265 (record it { is_avc = is_avc })
any_depacketizer_with_avc is_avc (a.H266 it) = a.H266 (record it { is_avc = is_avc })

-- the same reading numbers or not; that of H.264 reads none
abbrev pub any_depacketizer_with_donl : Bool → AnyDepacketizer → AnyDepacketizer
any_depacketizer_with_donl has_donl (a.H264 it) = a.H264 it
any_depacketizer_with_donl has_donl (a.H265 it) =
    a.H265 (record it { codec = h265_setting.setting has_donl })
any_depacketizer_with_donl has_donl (a.H266 it) =
    a.H266 (record it { codec = h266_setting.setting has_donl })

-- a new one, which reads numbers where its codec has them
abbrev pub fresh_any_depacketizer : Codec → Bool → AnyDepacketizer
fresh_any_depacketizer c.H264 has_donl = a.H264
    (record { codec = record {}; is_avc = false; run = None; payload = record {} })
fresh_any_depacketizer c.H265 has_donl = a.H265 (record {
  codec = h265_setting.setting has_donl;
  is_avc = false;
  run = None;
  payload = p.H265SingleNALUnitPacket empty_single;
})
fresh_any_depacketizer c.H266 has_donl = a.H266 (record {
  codec = h266_setting.setting has_donl;
  is_avc = false;
  run = None;
  payload = record {};
})

-- what it shows: that of H.265 the packet accepted last
abbrev pub any_depacketizer_shown : AnyDepacketizer → Option H265Payload
any_depacketizer_shown (a.H264 it) = None
any_depacketizer_shown (a.H265 it) = Some it.payload
any_depacketizer_shown (a.H266 it) = None

-- the same showing a packet, where its codec shows packets
abbrev pub any_depacketizer_showing : List ℕ → AnyDepacketizer → AnyDepacketizer
any_depacketizer_showing packet (a.H264 it) = a.H264 it
any_depacketizer_showing packet (a.H265 it) = a.H265
    (record it { payload = shown it.codec.has_donl packet })
any_depacketizer_showing packet (a.H266 it) = a.H266 it

-- whether two are of one codec, and equal
abbrev pub are_same_depacketizers : AnyDepacketizer → AnyDepacketizer → Bool
are_same_depacketizers (a.H264 x) (a.H264 y) =
    beq x.is_avc y.is_avc && option_eq (pointwise nat_eq) x.run y.run
are_same_depacketizers (a.H265 x) (a.H265 y) =
    beq x.codec.has_donl y.codec.has_donl && (beq x.is_avc y.is_avc
    && (option_eq (pointwise nat_eq) x.run y.run && payload_eq x.payload y.payload))
are_same_depacketizers (a.H266 x) (a.H266 y) =
    beq x.codec.has_donl y.codec.has_donl && (beq x.is_avc y.is_avc
    && option_eq (pointwise nat_eq) x.run y.run)
are_same_depacketizers x y = false
