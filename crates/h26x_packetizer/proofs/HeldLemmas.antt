-- What a packetizer keeps. The laws that this stands on come as arguments.
use Rattle.std.proofs.Common.{◌≡◌, ℕ, Bool, true, List, [], ◌∷◌, map, sym, ap, ◌∙◌, refl}
use Rattle.h26x_model.specs.Payload.Format.{Format}
use Rattle.h26x_model.specs.Send.Group.{Entry}
use Rattle.h26x_core.specs.Kind.{Kind, is_vps, is_sps, is_pps}
use Rattle.h26x_model.specs.Send.Packets.{plan_packets}
use Rattle.h26x_model.specs.Send.WaitingSets.{WaitingSets, IsOneSet, NoSet, OneSet, AreWaitingSets}
use Rattle.h26x_model.specs.Send.PacketizerState.{PacketizerState, after_entries, next_call, payload_entries, next_packets, payload_has_no_effect}
use Rattle.h26x_model.specs.Carry.Laws.{PacketizerGoesOn}
use Rattle.h26x_packetizer.specs.PacketizerView.{PacketizerView, IsPacketizer, packetizer_state, view_after}

-- what is held after units is held
pub held_more : (s : PacketizerState) (entries : List Entry) → PacketizerGoesOn s → IsPacketizer s.format s → IsPacketizer s.format (after_entries s entries)
held_more s entries law held = record { is = law.stays entries; none = λ no. rw no (held.none no) }

-- nothing changes by a call without effect, and no packet is made
pub held_same : {C : Type 0} (f : Format) (h : PacketizerView C) (mtu : ℕ) (payload : List ℕ) → PacketizerGoesOn (packetizer_state f h) → payload_has_no_effect (packetizer_state f h) mtu payload ≡ true →
    (next_packets (packetizer_state f h) mtu payload ≡ []) × (view_after f h (payload_entries (packetizer_state f h) mtu payload) ≡ h)
held_same f h mtu payload law none =
    let (no_items, same) = law.no_effect (next_call (packetizer_state f h) mtu payload) none in (
      ap (plan_packets f h.next_don) no_items,
      ap (λ (s : PacketizerState). record { codec = h.codec; waiting = s.waiting; next_don = s.next_don; max_packet_size = h.max_packet_size }) same,
    )

-- where there are no packets none was made
pub none_made : {P : Type 0} (items : P → List ℕ) (made : List P) → map items made ≡ [] → made ≡ []
none_made items [] is = refl
none_made items (packet ∷ made) is = absurd cc

-- a set of one format is one of every other with the same kinds
same_set : (is_it : Kind → Bool) (f other : Format) {sets : List (List ℕ)} → ((unit : List ℕ) → f.kind unit ≡ other.kind unit) → IsOneSet is_it f sets → IsOneSet is_it other sets
same_set is_it f other same NoSet = NoSet
same_set is_it f other same (OneSet unit is) = OneSet unit (ap is_it (sym (same unit)) ∙ is)

-- so are the sets that wait
pub same_sets : (f other : Format) (w : WaitingSets) → ((unit : List ℕ) → f.kind unit ≡ other.kind unit) → AreWaitingSets f w → AreWaitingSets other w
same_sets f other w same sets = record { vps = same_set is_vps f other same sets.vps; sps = same_set is_sps f other same sets.sps; pps = same_set is_pps f other same sets.pps }
