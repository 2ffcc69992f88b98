-- What calls of a packetizer bring (str0m's rule).
use Rattle.std.specs.Prelude.{ℕ, ◌≤◌, min, nat_lt, if◌then◌else◌, List, [], ◌∷◌, map}
use Rattle.std.specs.List.{flat_map, AllByRecursion}
use Rattle.h26x_model.specs.Payload.Format.{Format}
use Rattle.h26x_model.specs.Send.Group.{Entry}
use Rattle.h26x_model.specs.Send.Plan.{plan, units_sent}
use Rattle.h26x_model.specs.Send.Packets.{plan_packets}

-- a call of a packetizer, and the packetizer's largest packet size as it is made
pub record Call : Type 0 where
  pub mtu : ℕ
  pub max_packet_size : ℕ
  pub payload : List ℕ

-- largest packet sizes are numbers of two bytes
abbrev pub AreCalls : List Call → Type 0
AreCalls calls = AllByRecursion (λ call. call.max_packet_size ≤ 65535) calls

-- the largest packet size at first
abbrev pub default_max_packet_size : ℕ
default_max_packet_size = 1200

-- a call at this size
abbrev pub fresh_call : ℕ → List ℕ → Call
fresh_call mtu payload = record {
  mtu = mtu;
  max_packet_size = default_max_packet_size;
  payload =
      payload;
}

-- the limit at a largest packet size and an mtu
abbrev pub packet_limit : Format → ℕ → ℕ → ℕ
packet_limit f max_packet_size mtu = if f.has_max_packet_size then min mtu max_packet_size else mtu

-- the limit of a call
abbrev pub call_limit : Format → Call → ℕ
call_limit f call = packet_limit f call.max_packet_size call.mtu

-- the units of a call's payload at its limit; a call under the least mtu brings nothing
abbrev pub call_entries : Format → Call → List Entry
call_entries f call =
    if nat_lt call.mtu f.least_mtu then []
    else map (λ unit. record { unit = unit; limit = call_limit f call }) (f.units call.payload)

-- the units of all calls, in order
abbrev pub all_entries : Format → List Call → List Entry
all_entries f calls = flat_map (call_entries f) calls

-- the packets of calls, with decoding order numbers from n on
abbrev pub all_packets : Format → ℕ → List Call → List (List ℕ)
all_packets f n calls = plan_packets f n (plan f (all_entries f calls))

-- the units that calls send
abbrev pub sent_by : Format → List Call → List (List ℕ)
sent_by f calls = units_sent f (all_entries f calls)

-- the packets of one payload
abbrev pub payload_packets : Format → ℕ → List ℕ → List (List ℕ)
payload_packets f mtu payload = all_packets f 0 (fresh_call mtu payload ∷ [])
