-- What lines set on a packetizer and a depacketizer.
use Rattle.std.specs.Prelude.{ℕ, nat_le, Bool, true, false, Option, Some}
use Rattle.h265_payload.specs.Setting as h265_setting
use Rattle.h266_payload.specs.Setting as h266_setting
use Rattle.h26x_codec.specs.declared.codec.Codec.{Codec}
use Rattle.h26x_codec.specs.declared.codec.Codec.TheVariants as c
use Rattle.h26x_transmission.specs.declared.packetizer.CodecPacketizer.{CodecPacketizer}
use Rattle.h26x_transmission.specs.declared.packetizer.CodecPacketizer.TheVariants as p
use Rattle.h26x_transmission.specs.declared.depacketizer.CodecDepacketizer.{CodecDepacketizer}
use Rattle.h26x_transmission.specs.declared.depacketizer.CodecDepacketizer.TheVariants as d

-- whether a line sets decoding order numbers: both are of one codec, H.265 or H.266
abbrev pub may_set_numbers : Option Codec → Option Codec → Bool
may_set_numbers (Some c.H265) (Some c.H265) = true
may_set_numbers (Some c.H266) (Some c.H266) = true
may_set_numbers one other = false

-- a packetizer with numbers, which begin at 0, or without; that of H.264 stays
abbrev pub packetizer_with_numbers : {X : Type 0} {P : X → Type 0} → Bool → CodecPacketizer X P →
    CodecPacketizer X P
packetizer_with_numbers is_on (p.H264 it) = p.H264 it
packetizer_with_numbers is_on (p.H265 it) = p.H265
    (record it { codec = h265_setting.sending_with_donl is_on it.codec; next_don = 0 })
packetizer_with_numbers is_on (p.H266 it) = p.H266
    (record it { codec = h266_setting.setting is_on; next_don = 0 })
packetizer_with_numbers is_on (p.Boxed it) = p.Boxed it

-- a depacketizer that reads numbers, or none; that of H.264 stays
abbrev pub depacketizer_with_numbers : {X : Type 0} {P : X → Type 0} → Bool →
    CodecDepacketizer X P → CodecDepacketizer X P
depacketizer_with_numbers is_on (d.H264 it) = d.H264 it
depacketizer_with_numbers is_on (d.H265 it) = d.H265 (record it { codec = h265_setting.setting is_on })
depacketizer_with_numbers is_on (d.H266 it) = d.H266 (record it { codec = h266_setting.setting is_on })
depacketizer_with_numbers is_on (d.Boxed it) = d.Boxed it

-- whether a line sets lengths or start codes: of H.264
abbrev pub may_set_avc : Option Codec → Bool
may_set_avc (Some c.H264) = true
may_set_avc codec = false

-- a depacketizer of H.264 that writes lengths, or start codes; every other stays
abbrev pub depacketizer_with_avc : {X : Type 0} {P : X → Type 0} → Bool → CodecDepacketizer X P →
    CodecDepacketizer X P
depacketizer_with_avc is_on (d.H264 it) = d.H264 (record it { is_avc = is_on })
depacketizer_with_avc is_on (d.H265 it) = d.H265 it
depacketizer_with_avc is_on (d.H266 it) = d.H266 it
depacketizer_with_avc is_on (d.Boxed it) = d.Boxed it

-- whether a line sets the largest packet size: of H.265 and H.266, 4 or more
abbrev pub may_set_size : Option Codec → ℕ → Bool
may_set_size (Some c.H265) n = nat_le 4 n
may_set_size (Some c.H266) n = nat_le 4 n
may_set_size codec n = false
