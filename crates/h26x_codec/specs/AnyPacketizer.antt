-- A packetizer of one of the codecs.
use Rattle.std.specs.Prelude.{◌≡◌, ℕ, Bool, List, Option}
use Rattle.h26x_model.specs.Send.PacketizerState.{PacketizerState}
use Rattle.h26x_model.specs.Payload.Format.{Format}
use Rattle.h26x_model.specs.Send.Calls.{packet_limit}
use Rattle.h26x_model.specs.Send.Every.{with_own_aggregates}
use Rattle.h26x_packetizer.specs.EveryView.{state_every_packets}
use Rattle.h26x_packetizer.specs.Group.{may_share}
use Rattle.h26x_packetizer.specs.Refusal.{units_refusal}
use Rattle.h26x_packetizer.specs.declared.packing.Packing.{Packing}
use Rattle.h26x_packetizer.specs.declared.refusal.RefusedUnit.{RefusedUnit}
use Rattle.h264_payload.specs.EveryUnit.{h264_every}
use Rattle.h264_payload.specs.EveryUnit as h264_unit
use Rattle.h265_payload.specs.EveryUnit as h265_unit
use Rattle.h266_payload.specs.EveryUnit as h266_unit
use Rattle.h26x_packetizer.specs.PacketizerView.{packetizer_state}
use Rattle.h26x_packetizer.specs.Placement.{if_placed}
use Rattle.h26x_packetizer.specs.declared.placement.Placement.{Placement}
use Rattle.h264_payload.specs.H264.{h264}
use Rattle.h265_payload.specs.Setting as h265_setting
use Rattle.h266_payload.specs.Setting as h266_setting
use Rattle.h26x_codec.specs.declared.codec.Codec.{Codec}
use Rattle.h26x_codec.specs.declared.codec.Codec.TheVariants as c
use Rattle.h26x_codec.specs.declared.any_packetizer.AnyPacketizer.{AnyPacketizer}
use Rattle.h26x_codec.specs.declared.any_packetizer.AnyPacketizer.TheVariants as s

-- what it is to the definitions
abbrev pub any_packetizer_state : AnyPacketizer → PacketizerState
any_packetizer_state (s.H264 it) = packetizer_state h264 it
any_packetizer_state (s.H265 it) = packetizer_state (h265_setting.sending_format it.codec) it
any_packetizer_state (s.H266 it) = packetizer_state (h266_setting.setting_format it.codec) it

-- its codec
abbrev pub any_packetizer_codec : AnyPacketizer → Codec
any_packetizer_codec (s.H264 it) = c.H264
any_packetizer_codec (s.H265 it) = c.H265
any_packetizer_codec (s.H266 it) = c.H266

-- the same with decoding order numbers, from 0, or without; that of H.264 has none
abbrev pub any_packetizer_with_donl : Bool → AnyPacketizer → AnyPacketizer
any_packetizer_with_donl has_donl (s.H264 it) = s.H264 it
any_packetizer_with_donl has_donl (s.H265 it) =
    s.H265 (record it { codec = h265_setting.sending_with_donl has_donl it.codec; next_don = 0 })
any_packetizer_with_donl has_donl (s.H266 it) =
    s.H266 (record it { codec = h266_setting.setting has_donl; next_don = 0 })

-- the same with the header of the sets themselves, where they share a packet, or with that of the unit
-- behind them; that of H.266 has it in any case, and that of H.264 has neither layers nor temporal ids
abbrev pub any_packetizer_with_lowest_header : Bool → AnyPacketizer → AnyPacketizer
any_packetizer_with_lowest_header lowest_header (s.H264 it) = s.H264 it
any_packetizer_with_lowest_header lowest_header (s.H265 it) =
    s.H265 (record it { codec = h265_setting.sending_with_lowest_header lowest_header it.codec })
any_packetizer_with_lowest_header lowest_header (s.H266 it) = s.H266 it

-- the same with this largest packet size; that of H.264 has none
abbrev pub any_packetizer_with_max_packet_size : ℕ → AnyPacketizer → AnyPacketizer
any_packetizer_with_max_packet_size n (s.H264 it) = s.H264 it
any_packetizer_with_max_packet_size n (s.H265 it) = s.H265 (record it { max_packet_size = n })
any_packetizer_with_max_packet_size n (s.H266 it) = s.H266 (record it { max_packet_size = n })

-- it is behind packets where they were placed in memory, and else as it was
abbrev pub IsBehindPlaced : Placement → (PacketizerState → PacketizerState) → AnyPacketizer →
    AnyPacketizer → Type 0
IsBehindPlaced made after old new = any_packetizer_state new
    ≡ if_placed made (after (any_packetizer_state old)) (any_packetizer_state old)

-- its format where every unit goes
abbrev pub any_every_format : AnyPacketizer → Format
any_every_format (s.H264 it) = h264_every
any_every_format (s.H265 it) = with_own_aggregates (h265_setting.sending_format it.codec)
    (h265_setting.sending_aggregate it.codec)
any_every_format (s.H266 it) = with_own_aggregates (h266_setting.setting_format it.codec)
    (h266_setting.setting_aggregate it.codec)

-- whether a unit is a slice to it
abbrev pub any_is_slice : AnyPacketizer → List ℕ → Bool
any_is_slice (s.H264 it) = h264_unit.is_slice
any_is_slice (s.H265 it) = h265_unit.is_slice
any_is_slice (s.H266 it) = h266_unit.is_slice

-- the packets of units, none of which is left out
abbrev pub any_every_packets : Packing → AnyPacketizer → ℕ → List (List ℕ) → List (List ℕ)
any_every_packets packing it mtu units = state_every_packets (any_every_format it)
    (may_share packing (any_is_slice it)) (any_packetizer_state it) mtu units

-- the first of the units that can't go
abbrev pub any_units_refusal : Packing → AnyPacketizer → ℕ → List (List ℕ) → Option RefusedUnit
any_units_refusal packing it mtu units = units_refusal (any_packetizer_state it).format packing
    (packet_limit (any_packetizer_state it).format (any_packetizer_state it).max_packet_size mtu)
    0 units
