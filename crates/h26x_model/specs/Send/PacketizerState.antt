-- A packetizer of any codec: what it sends of entries, and what it is afterwards.
use Rattle.std.specs.Prelude.{◌≡◌, ℕ, ◌+◌, ◌%◌, ◌<◌, ◌≤◌, nat_lt, Bool, true, false, ◌||◌, if◌then◌else◌, List, [], ◌∷◌, ◌++◌, length}
use Rattle.std.specs.List.{flat_map, list_all}
use Rattle.h26x_core.specs.Word.{word}
use Rattle.h26x_core.specs.Kind.{Kind, Skipped}
use Rattle.h26x_model.specs.Payload.Format.{Format}
use Rattle.h26x_model.specs.Send.Group.{Entry, split, latest_sets}
use Rattle.h26x_model.specs.Send.Calls.{Call, packet_limit, call_limit, call_entries, all_entries}
use Rattle.h26x_model.specs.Send.Plan.{Item, item_units, unit_items, plan, units_sent}
use Rattle.h26x_model.specs.Send.WaitingSets.{WaitingSets, AreWaitingSets, sets_waiting, entries_with_limit, plan_with_waiting, waiting_after}
use Rattle.h26x_model.specs.Send.Packets.{plan_packets}
use Rattle.h26x_model.specs.Send.Limit.{AreWithinLimit}

-- a packetizer: its format, the sets that wait, the next unit's decoding order number, and its
-- largest packet size
pub record PacketizerState : Type 0 where
  pub format : Format
  pub waiting : WaitingSets
  pub next_don : ℕ
  pub max_packet_size : ℕ

-- what holds of each: at most one set of a kind waits, and the next decoding order number and the
-- largest size are numbers of two bytes
pub record IsPacketizerState (s : PacketizerState) : Type 0 where
  pub sets : AreWaitingSets s.format s.waiting
  pub small : s.next_don < 65536
  pub size : s.max_packet_size ≤ 65535

-- what it sends of entries
abbrev pub state_plan : PacketizerState → List Entry → List Item
state_plan s entries = plan_with_waiting s.format s.waiting entries

-- the units of that
abbrev pub state_units : PacketizerState → List Entry → List (List ℕ)
state_units s entries = flat_map item_units (state_plan s entries)

-- the packets of that, with decoding order numbers from its next one on
abbrev pub state_packets : PacketizerState → List Entry → List (List ℕ)
state_packets s entries = plan_packets s.format s.next_don (state_plan s entries)

-- the packets of one call
abbrev pub call_packets : PacketizerState → Call → List (List ℕ)
call_packets s call = state_packets s (call_entries s.format call)

-- the plan of calls, one after the other
abbrev pub calls_plan : PacketizerState → List Call → List Item
calls_plan s calls = state_plan s (all_entries s.format calls)

-- the units that they send
abbrev pub calls_units : PacketizerState → List Call → List (List ℕ)
calls_units s calls = state_units s (all_entries s.format calls)

-- their packets
abbrev pub calls_packets : PacketizerState → List Call → List (List ℕ)
calls_packets s calls = state_packets s (all_entries s.format calls)

-- the next decoding order number after so many units: it goes round, and stands still where packets
-- bear none
abbrev pub don_after : Bool → ℕ → ℕ → ℕ
don_after has_donl n count = if has_donl then (n + count) % 65536 else n

-- the packetizer after entries
abbrev pub after_entries : PacketizerState → List Entry → PacketizerState
after_entries s entries = record {
  format = s.format;
  waiting = waiting_after s.format s.waiting entries;
  next_don = don_after s.format.has_donl s.next_don (length (state_units s entries));
  max_packet_size = s.max_packet_size;
}

-- the packetizer after calls
abbrev pub after_calls : PacketizerState → List Call → PacketizerState
after_calls s calls = after_entries s (all_entries s.format calls)

-- calls have the same plan, and leave the packetizer the same
abbrev pub HaveSameEffect : PacketizerState → List Call → List Call → Type 0
HaveSameEffect s calls others = (calls_plan s calls ≡ calls_plan s others)
    × (after_calls s calls ≡ after_calls s others)

-- whether units of this kind are not sent, and none waits for them
abbrev pub is_skipped : Kind → Bool
is_skipped Skipped = true
is_skipped kind = false

-- no unit but skipped ones
abbrev pub are_skipped : Format → List (List ℕ) → Bool
are_skipped f units = list_all (λ unit. is_skipped (f.kind unit)) units

-- a call without effect: its mtu is under the least, or its payload has no unit but skipped ones
abbrev pub has_no_effect : Format → Call → Bool
has_no_effect f call = nat_lt call.mtu f.least_mtu || are_skipped f (f.units call.payload)

-- the next call of a packetizer, of this payload at an mtu
abbrev pub next_call : PacketizerState → ℕ → List ℕ → Call
next_call s mtu payload = record { mtu = mtu; max_packet_size = s.max_packet_size; payload = payload }

-- the units of the payload, at the limit of that call
abbrev pub payload_entries : PacketizerState → ℕ → List ℕ → List Entry
payload_entries s mtu payload = call_entries s.format (next_call s mtu payload)

-- its packets
abbrev pub next_packets : PacketizerState → ℕ → List ℕ → List (List ℕ)
next_packets s mtu payload = state_packets s (payload_entries s mtu payload)

-- the packetizer after it
abbrev pub after_payload : PacketizerState → ℕ → List ℕ → PacketizerState
after_payload s mtu payload = after_entries s (payload_entries s mtu payload)

-- whether it has no effect
abbrev pub payload_has_no_effect : PacketizerState → ℕ → List ℕ → Bool
payload_has_no_effect s mtu payload = has_no_effect s.format (next_call s mtu payload)

-- the sets that wait, and behind them the units of a call, all at its limit
abbrev pub waiting_and_call_entries : PacketizerState → Call → List Entry
waiting_and_call_entries s call = entries_with_limit (call_limit s.format call)
    (sets_waiting s.waiting) ++ call_entries s.format call

-- What a call does, in the words of whole lists: its packets are those of the plan of the sets that
-- waited and the call's units, numbered on, none longer than its limit; afterwards the latest sets
-- of the rest wait, numbers go on behind the units sent, and the settings stay.
pub record IsSentAsPlanned (s : PacketizerState) (call : Call) (packets : List (List ℕ))
    (new : PacketizerState) : Type 0 where
  pub packets_are : packets ≡ plan_packets s.format s.next_don
      (plan s.format (waiting_and_call_entries s call))
  pub within : AreWithinLimit (call_limit s.format call) packets
  pub waits : sets_waiting new.waiting ≡ latest_sets s.format
      (split s.format (waiting_and_call_entries s call)).rest
  pub next_don : new.next_don ≡ don_after s.format.has_donl s.next_don
      (length (units_sent s.format (waiting_and_call_entries s call)))
  pub format : new.format ≡ s.format
  pub max_packet_size : new.max_packet_size ≡ s.max_packet_size

-- one list for each call: the packets that it makes where it comes, none longer than its limit
abbrev pub AreOfCalls : PacketizerState → List Call → List (List (List ℕ)) → Type 0
AreOfCalls s [] [] = Unit {0}
AreOfCalls s (call ∷ calls) (packets ∷ lists) =
    (packets ≡ state_packets s (call_entries s.format call))
    × AreWithinLimit (call_limit s.format call) packets
    × AreOfCalls (after_entries s (call_entries s.format call)) calls lists
AreOfCalls s calls lists = ⊥

-- packets that are such lists, joined
pub record AreWithinLimits (s : PacketizerState) (calls : List Call) (packets : List (List ℕ)) :
    Type 0 where
  pub lists : List (List (List ℕ))
  pub of_calls : AreOfCalls s calls lists
  pub joined : flat_map (λ list. list) lists ≡ packets

-- What is sent of one unit as it is, whatever its kind (ours): itself or its fragments. Nothing is
-- where it is dropped, where its header isn't whole, and under the least mtu.
abbrev pub one_unit_items : PacketizerState → ℕ → List ℕ → List Item
one_unit_items s mtu unit =
    if nat_lt mtu s.format.least_mtu || nat_lt (length unit) s.format.header_len then []
    else unit_items s.format (packet_limit s.format s.max_packet_size mtu) unit

-- the unit, if it is sent
abbrev pub one_unit_units : PacketizerState → ℕ → List ℕ → List (List ℕ)
one_unit_units s mtu unit = flat_map item_units (one_unit_items s mtu unit)

-- its packets, with decoding order numbers from the packetizer's next one on
abbrev pub one_unit_packets : PacketizerState → ℕ → List ℕ → List (List ℕ)
one_unit_packets s mtu unit = plan_packets s.format s.next_don (one_unit_items s mtu unit)

-- the packetizer after it: the sets that wait stay
abbrev pub after_one_unit : PacketizerState → ℕ → List ℕ → PacketizerState
after_one_unit s mtu unit = record s {
  next_don = don_after s.format.has_donl s.next_don
      (length (one_unit_units s mtu unit));
}

-- what later answers depend on: the sets that wait, the next decoding order number where packets
-- bear them, and the largest packet size where it limits calls
abbrev pub packetizer_meaning : PacketizerState → List (List ℕ)
packetizer_meaning s =
    (flat_map (λ set. set) s.waiting.vps ∷ flat_map (λ set. set) s.waiting.sps ∷
    flat_map (λ set. set) s.waiting.pps
    ∷ (if s.format.has_donl then word s.next_don else []) ∷ []) ++ (if s.format.has_max_packet_size
    then word s.max_packet_size ∷ [] else [])

-- the same state, as far as the format has it
pub record IsSamePacketizerState (a b : PacketizerState) : Type 0 where
  pub waiting : a.waiting ≡ b.waiting
  pub next_don : a.format.has_donl ≡ true → a.next_don ≡ b.next_don
  pub max_packet_size : a.format.has_max_packet_size ≡ true → a.max_packet_size ≡ b.max_packet_size
