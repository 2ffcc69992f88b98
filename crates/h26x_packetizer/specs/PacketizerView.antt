-- What a packetizer keeps from call to call.
use Rattle.std.specs.Prelude.{◌≡◌, ℕ, false, List, Option}
use Rattle.h26x_model.specs.Payload.Format.{Format}
use Rattle.h26x_model.specs.Send.Group.{Entry}
use Rattle.h26x_model.specs.Send.Calls.{default_max_packet_size, packet_limit}
use Rattle.h26x_model.specs.Send.Plan.{Item}
use Rattle.h26x_model.specs.Send.WaitingSets.{WaitingSets, no_waiting_sets, waiting_after, entries_with_limit}
use Rattle.h26x_model.specs.Send.PacketizerState.{PacketizerState, IsPacketizerState, IsSentAsPlanned, state_plan, after_entries, next_call, payload_entries, next_packets, one_unit_packets, after_one_unit}
use Rattle.h26x_packetizer.specs.declared.packetizer.Brought.{Brought}
use Rattle.h26x_packetizer.specs.declared.update.Update.{Update}
use Rattle.h26x_packetizer.specs.Sending.{waiting_sets, waiting_with_brought, waiting_with_update}

-- its setting, the sets that wait, the next unit's number, and its largest packet size
pub record PacketizerView (C : Type 0) : Type 0 where
  pub codec : C
  pub waiting : WaitingSets
  pub next_don : ℕ
  pub max_packet_size : ℕ

-- what is held where these sets wait
abbrev pub packetizer_view : {C : Type 0} → C → Option (List ℕ) → Option (List ℕ) →
    Option (List ℕ) → ℕ → ℕ →
    PacketizerView C
packetizer_view codec vps sps pps next_don max_packet_size = record {
  codec = codec;
  waiting = waiting_sets vps sps pps;
  next_don = next_don;
  max_packet_size = max_packet_size;
}

-- the same as a packetizer of a format
abbrev pub packetizer_state : {C : Type 0} → Format → PacketizerView C → PacketizerState
packetizer_state f h = record {
  format = f;
  waiting = h.waiting;
  next_don =
      h.next_don;
  max_packet_size = h.max_packet_size;
}

-- the same by its setting, where each setting has a format
abbrev pub packetizer_of : {C : Type 0} → (C → Format) → PacketizerView C → PacketizerState
packetizer_of format h = packetizer_state (format h.codec) h

-- a new packetizer with this setting
abbrev pub fresh_packetizer : {C : Type 0} → C → PacketizerView C
fresh_packetizer codec = record {
  codec = codec;
  waiting = no_waiting_sets;
  next_don = 0;
  max_packet_size = default_max_packet_size;
}

-- it is a packetizer, and where packets bear no decoding order numbers its next one is 0
pub record IsPacketizer (f : Format) (s : PacketizerState) : Type 0 where
  pub is : IsPacketizerState s
  pub none : f.has_donl ≡ false → s.next_don ≡ 0

-- what is held is a packetizer
abbrev pub IsPacketizerView : {C : Type 0} → (C → Format) → PacketizerView C → Type 0
IsPacketizerView format h = IsPacketizer (format h.codec) (packetizer_of format h)

-- the limit of its calls at an mtu
abbrev pub limit_of : {C : Type 0} → (C → Format) → PacketizerView C → ℕ → ℕ
limit_of format h mtu = packet_limit (format h.codec) h.max_packet_size mtu

-- what is held after units
abbrev pub view_after : {C : Type 0} → Format → PacketizerView C → List Entry → PacketizerView C
view_after f h entries = record {
  codec = h.codec;
  waiting = (after_entries (packetizer_state f h) entries).waiting;
  next_don = (after_entries (packetizer_state f h) entries).next_don;
  max_packet_size = h.max_packet_size;
}

-- what is held after a call of it
abbrev pub view_after_call : {C : Type 0} → (C → Format) → PacketizerView C → ℕ → List ℕ →
    PacketizerView C
view_after_call format h mtu payload = view_after (format h.codec) h
    (payload_entries (packetizer_of format h) mtu payload)

-- a call of it that makes these packets, and leaves that one, does what is planned of whole lists
abbrev pub SendsAsPlanned : {C : Type 0} → (C → Format) → PacketizerView C → ℕ → List ℕ →
    List (List ℕ) → PacketizerView C → Type 0
SendsAsPlanned format h mtu payload packets new = IsSentAsPlanned (packetizer_of format h)
    (next_call (packetizer_of format h) mtu payload) packets (packetizer_of format new)

-- so does each call of it
abbrev pub IsViewSentAsPlanned : {C : Type 0} → (C → Format) → PacketizerView C → ℕ → List ℕ →
    Type 0
IsViewSentAsPlanned format h mtu payload = SendsAsPlanned format h mtu payload
    (next_packets (packetizer_of format h) mtu payload) (view_after_call format h mtu payload)

-- the packets of one unit as it is
abbrev pub unit_packets : {C : Type 0} → (C → Format) → PacketizerView C → ℕ → List ℕ →
    List (List ℕ)
unit_packets format h mtu unit = one_unit_packets (packetizer_of format h) mtu unit

-- what is held after it: the sets that wait stay
abbrev pub view_after_unit : {C : Type 0} → (C → Format) → PacketizerView C → ℕ → List ℕ →
    PacketizerView C
view_after_unit format h mtu unit = record h {
  next_don = (after_one_unit (packetizer_of format h) mtu unit).next_don;
}

-- the sets that wait, where a payload has brought so much
abbrev pub held_sets : {C : Type 0} → PacketizerView C → Brought → WaitingSets
held_sets h brought = waiting_with_brought h.waiting brought

-- what is sent of a payload at a limit
abbrev pub payload_plan : {C : Type 0} → (C → Format) → PacketizerView C → ℕ → List ℕ → List Item
payload_plan format h limit payload = state_plan (packetizer_of format h)
    (entries_with_limit limit ((format h.codec).units payload))

-- the sets that wait after it
abbrev pub waiting_after_payload : {C : Type 0} → (C → Format) → PacketizerView C → ℕ → List ℕ →
    WaitingSets
waiting_after_payload format h limit payload = waiting_after (format h.codec) h.waiting
    (entries_with_limit limit ((format h.codec).units payload))

-- what is held once a call is carried out
abbrev pub view_with_update : {C : Type 0} → PacketizerView C → Update → PacketizerView C
view_with_update h u = record h {
  waiting = waiting_with_update h.waiting u;
  next_don = u.next_don;
}
