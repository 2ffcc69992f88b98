-- A unit that is sent as it is.
use Rattle.std.proofs.Common.{◌≡◌, ℕ, ◌<◌, ◌≤◌, Bool, true, false, cond, List, [], ◌∷◌, length, map, refl, arith}
use Rattle.std.specs.Prelude.{◌||◌, nat_lt, IsTrue}
use Rattle.std.specs.List.{AllByRecursion, flat_map}
use Rattle.h26x_model.specs.Payload.Facts.{FitsLimits, ReadsWhatItWrites, CanSend}
use Rattle.h26x_model.specs.Payload.Format.{Format}
use Rattle.h26x_model.specs.Payload.Reading.{Reading}
use Rattle.h26x_model.specs.Receive.Received.{units_after}
use Rattle.h26x_model.specs.Send.Calls.{packet_limit}
use Rattle.h26x_model.specs.Send.Limit.{AreWithinLimit}
use Rattle.h26x_model.specs.Send.Packets.{item_packets, plan_packets}
use Rattle.h26x_model.specs.Send.PacketizerState.{PacketizerState, IsPacketizerState, don_after, one_unit_items, one_unit_packets, after_one_unit}
use Rattle.h26x_model.specs.Send.Plan.{Alone, is_dropped, item_units, unit_items}
use Rattle.h26x_model.proofs.LimitLemmas.{all_both, alone_within}
use Rattle.h26x_model.proofs.SentLemmas.{all_received}

-- whether none of it is sent before its size is looked at
abbrev is_not_sent : PacketizerState → ℕ → List ℕ → Bool
is_not_sent s mtu unit = nat_lt mtu s.format.least_mtu || nat_lt (length unit) s.format.header_len

-- the packets of a unit alone are within the limit
alone_packets_within : (f : Format) → FitsLimits f → (n limit : ℕ) (unit : List ℕ) → AreWithinLimit limit (plan_packets f n (unit_items f limit unit))
alone_packets_within f ok n limit unit =
    elim (is_dropped f limit unit) as (λ b. is_dropped f limit unit ≡ b → AreWithinLimit limit (plan_packets f n (cond b [] (Alone limit unit ∷ [])))) [
      | true ↦ λ h. tt
      | false ↦ λ h. all_both (λ packet. length packet ≤ limit) (item_packets f n (Alone limit unit)) [] (alone_within f ok limit unit h n) tt
    ] refl

-- so are those of a unit as it is
pub one_unit_within : (s : PacketizerState) (mtu : ℕ) (unit : List ℕ) → FitsLimits s.format → AreWithinLimit (packet_limit s.format s.max_packet_size mtu) (one_unit_packets s mtu unit)
one_unit_within s mtu unit ok =
    let limit = packet_limit s.format s.max_packet_size mtu in
    elim (is_not_sent s mtu unit) as (λ b. AreWithinLimit limit (plan_packets s.format s.next_don (cond b [] (unit_items s.format limit unit)))) [
      | true ↦ tt
      | false ↦ alone_packets_within s.format ok s.next_don limit unit
    ]

-- a next number of two bytes
don_small : (has_donl : Bool) (n count : ℕ) → n < 65536 → don_after has_donl n count < 65536
don_small true n count h = omega arith
don_small false n count h = h

-- a packetizer stays one
pub one_unit_stays : (s : PacketizerState) (mtu : ℕ) (unit : List ℕ) → IsPacketizerState s → IsPacketizerState (after_one_unit s mtu unit)
one_unit_stays s mtu unit is = record {
  sets = is.sets;
  small = don_small s.format.has_donl s.next_don (length (flat_map item_units (one_unit_items s mtu unit))) is.small;
  size = is.size;
}

-- what can be carried can be sent
alone_sent : (f : Format) (limit : ℕ) (unit : List ℕ) → IsTrue (f.carries unit) → AllByRecursion (CanSend f) (unit_items f limit unit)
alone_sent f limit unit carried =
    elim (is_dropped f limit unit) as (λ b. is_dropped f limit unit ≡ b → AllByRecursion (CanSend f) (cond b [] (Alone limit unit ∷ []))) [
      | true ↦ λ h. tt
      | false ↦ λ h. ((carried, h), tt)
    ] refl

one_unit_sent : (s : PacketizerState) (mtu : ℕ) (unit : List ℕ) → IsTrue (s.format.carries unit) → AllByRecursion (CanSend s.format) (one_unit_items s mtu unit)
one_unit_sent s mtu unit carried =
    let limit = packet_limit s.format s.max_packet_size mtu in
    elim (is_not_sent s mtu unit) as (λ b. AllByRecursion (CanSend s.format) (cond b [] (unit_items s.format limit unit))) [
      | true ↦ tt
      | false ↦ alone_sent s.format limit unit carried
    ]

-- and is received, whatever came before
pub one_unit_received : (s : PacketizerState) (mtu : ℕ) (unit : List ℕ) (earlier : List Reading) → ReadsWhatItWrites s.format → IsTrue (s.format.carries unit) →
    units_after earlier (map s.format.read (one_unit_packets s mtu unit)) ≡ flat_map item_units (one_unit_items s mtu unit)
one_unit_received s mtu unit earlier reads carried = all_received s.format reads s.next_don (one_unit_items s mtu unit) earlier (one_unit_sent s mtu unit carried)
