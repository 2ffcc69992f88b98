-- What packetizers of the codecs send where every unit goes. One in a box can't be asked: its trait
-- has no such call.
use Rattle.std.specs.Prelude.{ℕ, List, Option, Some, None}
use Rattle.std.specs.Option.{option_map, option_flatten}
use Rattle.h26x_packetizer.specs.declared.packing.Packing.{Packing}
use Rattle.h26x_packetizer.specs.declared.refusal.RefusedUnit.{RefusedUnit}
use Rattle.h26x_packetizer.specs.EveryView.{after_units}
use Rattle.h26x_model.specs.Send.PacketizerState.{PacketizerState}
use Rattle.h26x_codec.specs.AnyPacketizer.{any_every_packets, any_units_refusal}
use Rattle.h26x_codec.specs.declared.any_packetizer.AnyPacketizer.{AnyPacketizer}
use Rattle.h26x_codec.specs.declared.any_packetizer.AnyPacketizer.TheVariants as s
use Rattle.h26x_transmission.specs.CodecStates.{codec_packetizer_state}
use Rattle.h26x_transmission.specs.declared.packetizer.CodecPacketizer.{CodecPacketizer}
use Rattle.h26x_transmission.specs.declared.packetizer.CodecPacketizer.TheVariants as p

-- the packetizer of a codec, not in a box
abbrev pub unboxed : {X : Type 0} {P : X → Type 0} → CodecPacketizer X P → Option AnyPacketizer
unboxed (p.H264 it) = Some (s.H264 it)
unboxed (p.H265 it) = Some (s.H265 it)
unboxed (p.H266 it) = Some (s.H266 it)
unboxed (p.Boxed it) = None

-- the packets of units, none of which is left out
abbrev pub codec_every_packets : {X : Type 0} {P : X → Type 0} → Packing → CodecPacketizer X P →
    ℕ → List (List ℕ) → Option (List (List ℕ))
codec_every_packets packing it mtu units =
    option_map (λ any. any_every_packets packing any mtu units) (unboxed it)

-- the first of the units that can't go
abbrev pub codec_units_refusal : {X : Type 0} {P : X → Type 0} → Packing → CodecPacketizer X P →
    ℕ → List (List ℕ) → Option RefusedUnit
codec_units_refusal packing it mtu units =
    option_flatten (option_map (λ any. any_units_refusal packing any mtu units) (unboxed it))

-- the packetizer of a codec behind these units
abbrev pub codec_after_units : {X : Type 0} {P : X → Type 0} → CodecPacketizer X P →
    List (List ℕ) → Option PacketizerState
codec_after_units it units = option_map (λ s. after_units s units) (codec_packetizer_state it)

-- both are there and so related, or neither is
abbrev pub AreBoth : {A B : Type 0} → (A → B → Type 0) → Option A → Option B → Type 0
AreBoth R (Some a) (Some b) = R a b
AreBoth R (Some a) None = ⊥
AreBoth R None (Some b) = ⊥
AreBoth R None None = Unit {0}
