-- The settings of a packetizer and of a depacketizer, for the contracts of other crates.
use Rattle.std.specs.Prelude.{ℕ, Bool, List}
use Rattle.h26x_model.specs.Payload.Format.{Format}
use Rattle.h265_payload.specs.H265.{h265}
use Rattle.h265_payload.specs.EveryUnit.{own_aggregate}
use Rattle.h265_payload.specs.Sending.{h265_headed}
use Rattle.h265_payload.specs.declared.codec.H265.{H265}
use Rattle.h265_payload.specs.declared.codec.H265Sending.{H265Sending}

-- a depacketizer's setting with decoding order numbers or without
abbrev pub setting : Bool → H265
setting has_donl = record { has_donl = has_donl }

-- the format of packets with this setting
abbrev pub setting_format : H265 → Format
setting_format codec = h265 codec.has_donl

-- a packetizer's setting with decoding order numbers or without
abbrev pub sending_with_donl : Bool → H265Sending → H265Sending
sending_with_donl has_donl it = record it { codec = setting has_donl }

-- with the header of the sets themselves, where they share a packet, or without
abbrev pub sending_with_lowest_header : Bool → H265Sending → H265Sending
sending_with_lowest_header lowest_header it = record it { lowest_header = lowest_header }

-- the format of packets with this setting
abbrev pub sending_format : H265Sending → Format
sending_format it = h265_headed it.codec.has_donl it.lowest_header

-- an aggregate of units with this setting
abbrev pub sending_aggregate : H265Sending → ℕ → List (List ℕ) → List ℕ
sending_aggregate it = own_aggregate it.codec.has_donl
