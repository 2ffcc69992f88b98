-- What packetizers and depacketizers of the codecs are. Of one in a box nothing is known but the
-- laws of its trait.
use Rattle.std.specs.Prelude.{◌≡◌, ℕ, ◌==◌, true, if◌then◌else◌, List, Option, Some, None}
use Rattle.std.specs.Option.{option_map, option_map_or}
use Rattle.h26x_core.specs.declared.extra.CodecExtra.{CodecExtra}
use Rattle.h26x_model.specs.Send.PacketizerState.{PacketizerState}
use Rattle.h26x_model.specs.Receive.DepacketizerState.{DepacketizerState, Depacketization, depacketization}
use Rattle.h26x_model.specs.Where.{Where, WhereBoth}
use Rattle.h26x_packetizer.specs.PacketizerView.{packetizer_state}
use Rattle.h26x_depacketizer.specs.DepacketizerView.{depacketizer_state}
use Rattle.h264_payload.specs.H264.{h264}
use Rattle.h265_payload.specs.Setting as h265_setting
use Rattle.h265_packets.specs.Payload.{empty_single}
use Rattle.h265_packets.specs.declared.payload.H265Payload.{H265Payload}
use Rattle.h265_packets.specs.declared.payload.H265Payload.TheVariants as shows
use Rattle.h266_payload.specs.Setting as h266_setting
use Rattle.h26x_codec.specs.Codec.{H264View, H265View, H266View}
use Rattle.h26x_codec.specs.declared.codec.Codec.{Codec}
use Rattle.h26x_codec.specs.declared.codec.Codec.TheVariants as c
use Rattle.h26x_transmission.specs.declared.packetizer.CodecPacketizer.{CodecPacketizer}
use Rattle.h26x_transmission.specs.declared.packetizer.CodecPacketizer.TheVariants as p
use Rattle.h26x_transmission.specs.declared.depacketizer.CodecDepacketizer.{CodecDepacketizer}
use Rattle.h26x_transmission.specs.declared.depacketizer.CodecDepacketizer.TheVariants as d

-- the packetizer of a codec
abbrev pub codec_packetizer_state : {X : Type 0} {P : X → Type 0} → CodecPacketizer X P →
    Option PacketizerState
codec_packetizer_state (p.H264 it) = Some (packetizer_state h264 it)
codec_packetizer_state (p.H265 it) = Some (packetizer_state (h265_setting.sending_format it.codec) it)
codec_packetizer_state (p.H266 it) = Some (packetizer_state (h266_setting.setting_format it.codec) it)
codec_packetizer_state (p.Boxed it) = None

-- what holds of the state of a packetizer; of one in a box nothing is said
abbrev pub OfPacketizer : {X : Type 0} {P : X → Type 0} → CodecPacketizer X P →
    (PacketizerState → Type 0) → Type 0
OfPacketizer it holds = Where (codec_packetizer_state it) holds

-- the codec of a packetizer
abbrev pub packetizer_codec : {X : Type 0} {P : X → Type 0} → CodecPacketizer X P → Option Codec
packetizer_codec (p.H264 it) = Some c.H264
packetizer_codec (p.H265 it) = Some c.H265
packetizer_codec (p.H266 it) = Some c.H266
packetizer_codec (p.Boxed it) = None

-- a packetizer with decoding order numbers, which begin at 0; H.264 has none
abbrev pub with_donl : {X : Type 0} {P : X → Type 0} → CodecPacketizer X P → CodecPacketizer X P
with_donl (p.H264 it) = p.H264 it
with_donl (p.H265 it) = p.H265
    (record it { codec = h265_setting.sending_with_donl true it.codec; next_don = 0 })
with_donl (p.H266 it) = p.H266 (record it { codec = h266_setting.setting true; next_don = 0 })
with_donl (p.Boxed it) = p.Boxed it

-- a packetizer set up for the greatest distance of decoding order that is told, 0 where none is
abbrev pub with_max_don_diff : {X : Type 0} {P : X → Type 0} → Option ℕ → CodecPacketizer X P →
    CodecPacketizer X P
with_max_don_diff told it = if option_map_or (λ n. n) told 0 == 0 then it else with_donl it

-- a packetizer with this largest packet size; that of H.264 has none
abbrev pub with_max_packet_size : {X : Type 0} {P : X → Type 0} → ℕ → CodecPacketizer X P →
    CodecPacketizer X P
with_max_packet_size n (p.H264 it) = p.H264 it
with_max_packet_size n (p.H265 it) = p.H265 (record it { max_packet_size = n })
with_max_packet_size n (p.H266 it) = p.H266 (record it { max_packet_size = n })
with_max_packet_size n (p.Boxed it) = p.Boxed it

-- the depacketizer of a codec
abbrev pub codec_depacketizer_state : {X : Type 0} {P : X → Type 0} → CodecDepacketizer X P →
    Option DepacketizerState
codec_depacketizer_state (d.H264 it) = Some (depacketizer_state h264 it)
codec_depacketizer_state (d.H265 it) = Some (depacketizer_state
    (h265_setting.setting_format it.codec) it)
codec_depacketizer_state (d.H266 it) = Some (depacketizer_state
    (h266_setting.setting_format it.codec) it)
codec_depacketizer_state (d.Boxed it) = None

-- what holds of the state of a depacketizer; of one in a box nothing is said
abbrev pub OfDepacketizer : {X : Type 0} {P : X → Type 0} → CodecDepacketizer X P →
    (DepacketizerState → Type 0) → Type 0
OfDepacketizer it holds = Where (codec_depacketizer_state it) holds

-- what holds of the states of a packetizer and a depacketizer
abbrev pub OfBoth : {X : Type 0} {P : X → Type 0} {Y : Type 0} {Q : Y → Type 0} →
    CodecPacketizer X P → CodecDepacketizer Y Q → (PacketizerState → DepacketizerState → Type 0) →
    Type 0
OfBoth p d holds = WhereBoth (codec_packetizer_state p) (codec_depacketizer_state d) holds

-- what holds of a depacketizer of H.264
abbrev pub OfH264 : {X : Type 0} {P : X → Type 0} → CodecDepacketizer X P →
    (H264View → Type 0) → Type 0
OfH264 depacketizer holds = (it : H264View) → depacketizer ≡ d.H264 it → holds it

-- of one of H.265
abbrev pub OfH265 : {X : Type 0} {P : X → Type 0} → CodecDepacketizer X P →
    (H265View → Type 0) → Type 0
OfH265 depacketizer holds = (it : H265View) → depacketizer ≡ d.H265 it → holds it

-- of one of H.266
abbrev pub OfH266 : {X : Type 0} {P : X → Type 0} → CodecDepacketizer X P →
    (H266View → Type 0) → Type 0
OfH266 depacketizer holds = (it : H266View) → depacketizer ≡ d.H266 it → holds it

-- the codec of a depacketizer
abbrev pub depacketizer_codec : {X : Type 0} {P : X → Type 0} → CodecDepacketizer X P → Option Codec
depacketizer_codec (d.H264 it) = Some c.H264
depacketizer_codec (d.H265 it) = Some c.H265
depacketizer_codec (d.H266 it) = Some c.H266
depacketizer_codec (d.Boxed it) = None

-- a depacketizer without its open run
abbrev pub without_run : {X : Type 0} {P : X → Type 0} → CodecDepacketizer X P →
    CodecDepacketizer X P
without_run (d.H264 it) = d.H264 (record it { run = None })
without_run (d.H265 it) = d.H265 (record it { run = None })
without_run (d.H266 it) = d.H266 (record it { run = None })
without_run (d.Boxed it) = d.Boxed it

-- what a depacketizer of H.265 shows
abbrev pub shown_payload : {X : Type 0} {P : X → Type 0} → CodecDepacketizer X P → Option H265Payload
shown_payload (d.H265 it) = Some it.payload
shown_payload it = None

-- what a new one shows: of H.265 the empty single packet
abbrev pub payload_at_first : Codec → Option H265Payload
payload_at_first c.H264 = None
payload_at_first c.H265 = Some (shows.H265SingleNALUnitPacket empty_single)
payload_at_first c.H266 = None

-- the depacketizer of a codec, what was written so far, and what is told
abbrev pub codec_depacketization : {X : Type 0} {P : X → Type 0} → CodecDepacketizer X P → List ℕ →
    CodecExtra →
    Option Depacketization
codec_depacketization it out extra = option_map (λ r. depacketization r out extra)
    (codec_depacketizer_state it)

-- what holds of a depacketizer at work; of one in a box nothing is said
abbrev pub OfDepacketization : {X : Type 0} {P : X → Type 0} → CodecDepacketizer X P → List ℕ →
    CodecExtra → (Depacketization → Type 0) → Type 0
OfDepacketization it out extra holds = Where (codec_depacketization it out extra) holds
