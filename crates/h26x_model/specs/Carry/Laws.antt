-- The laws of the two endpoints, each as one record: what whole transmissions need of them.
use Rattle.std.specs.Prelude.{◌≡◌, ℕ, ◌≤◌, true, Bool, List, [], ◌∷◌, ◌++◌, length, map, None, ◌⊎◌}
use Rattle.std.specs.List.{flat_map, AllByRecursion}
use Rattle.h26x_core.specs.declared.error.PacketError.{PacketError}
use Rattle.h26x_core.specs.declared.error.PacketError.TheVariants.{AvcUnitTooLong, OutOfMemory}
use Rattle.h26x_core.specs.declared.extra.CodecExtra.TheVariants as extras
use Rattle.h26x_model.specs.Payload.Reading.{IsRead}
use Rattle.h26x_model.specs.Send.Group.{Entry}
use Rattle.h26x_model.specs.Send.Calls.{Call, AreCalls, call_entries, all_entries, all_packets, sent_by}
use Rattle.h26x_model.specs.Payload.Don.{DonsInOrder}
use Rattle.h26x_model.specs.Receive.Received.{received}
use Rattle.h26x_model.specs.Carry.Detection.{AreDetected}
use Rattle.h26x_model.specs.Payload.Extra.{extra_after, first_extra}
use Rattle.h26x_model.specs.Payload.Facts.{AreCarried, IsPayloadFormat}
use Rattle.h26x_model.specs.Payload.Format.{Format}
use Rattle.h26x_core.specs.ByteStream.{annex_b}
use Rattle.h26x_model.specs.Send.Again.{NothingDropped}
use Rattle.h26x_model.specs.Carry.Loss.{keep, AreMasks, AreAllUnitsLeft, packets_left}
use Rattle.h26x_model.specs.Send.PacketizerState.{PacketizerState, IsPacketizerState, state_plan, state_units, state_packets, call_packets, calls_plan, calls_units, calls_packets, after_entries, has_no_effect, IsSentAsPlanned, AreWithinLimits}
use Rattle.h26x_model.specs.Receive.DepacketizerState.{Depacketization, units_brought, after_packets, IsRefusalCause, HaveAvcLengths}

-- A packetizer goes on from entries to entries, a call without effect changes nothing, and what a
-- call does is what is planned of whole lists.
pub record PacketizerGoesOn (s : PacketizerState) : Type 0 where
  pub sent : (a b : List Entry) → state_units s (a ++ b) ≡ state_units s a
      ++ state_units (after_entries s a) b
  pub packets : (a b : List Entry) → state_packets s (a ++ b) ≡ state_packets s a
      ++ state_packets (after_entries s a) b
  pub later : (a b : List Entry) → after_entries s (a ++ b) ≡ after_entries (after_entries s a) b
  pub stays : (a : List Entry) → IsPacketizerState (after_entries s a)
  pub none : after_entries s [] ≡ s
  pub no_effect : (call : Call) → has_no_effect s.format call ≡ true →
      (state_plan s (call_entries s.format call) ≡ [])
      × (after_entries s (call_entries s.format call) ≡ s)
  pub planned : (call : Call) → IsSentAsPlanned s call (call_packets s call)
      (after_entries s (call_entries s.format call))
  pub within : (calls : List Call) → AreWithinLimits s calls
      (calls_packets s calls)

-- A depacketizer goes on from packets to packets; where no run was open they bring what is received
-- of them.
pub record DepacketizerGoesOn (w : Depacketization) : Type 0 where
  pub none : after_packets w [] ≡ w
  pub more : (a b : List (List ℕ)) → after_packets (after_packets w a) b ≡ after_packets w (a ++ b)
  pub brings : w.state.run ≡ None → (packets : List (List ℕ)) →
      units_brought w.state packets ≡ received (map w.state.format.read packets)

-- Where the units that calls send can be carried, all of them are received whatever run was open;
-- their numbers are in order; key units are detected; where nothing was told before, what is told of
-- them is whether a key unit is among them; a packet is refused for want of memory or, in AVC form,
-- for a unit too long for a length of four bytes; and where there is none such, for want of memory
-- alone.
pub record CarriesWhole (s : PacketizerState) (w : Depacketization) (calls : List Call) : Type 0 where
  pub received : units_brought w.state (calls_packets s calls) ≡ calls_units s calls
  pub dons : DonsInOrder s.format s.next_don (calls_plan s calls)
  pub detected : AreDetected s.format s.next_don (calls_plan s calls)
  pub told : extra_after s.format extras.None (calls_units s calls)
      ≡ first_extra s.format (calls_units s calls)
  pub read : AllByRecursion (λ packet. IsRead (s.format.read packet)) (calls_packets s calls)
  pub refused : (w.state.is_avc ≡ true → HaveAvcLengths (calls_units s calls)) →
      (taken left : List (List ℕ)) (error : PacketError) → calls_packets s calls ≡ taken ++ left →
      IsRefusalCause (after_packets w taken) left error → error ≡ OutOfMemory
  pub causes : (taken left : List (List ℕ)) (error : PacketError) →
      calls_packets s calls ≡ taken ++ left →
      IsRefusalCause (after_packets w taken) left error →
      (error ≡ OutOfMemory) ⊎ ((w.state.is_avc ≡ true) × (error ≡ AvcUnitTooLong))

-- What some of the packets of a plan bring, in order: item by item what is left of it. The mask
-- keeps those packets; it is one mask for each item, joined.
pub record LosesLittle (s : PacketizerState) (w : Depacketization) (calls : List Call)
    (mask : List Bool) : Type 0 where
  pub masks : List (List Bool)
  pub written : List (List (List ℕ))
  pub of_items : AreMasks s.format s.next_don (calls_plan s calls) masks
  pub same : packets_left s.format s.next_don (calls_plan s calls) masks
      ≡ keep mask (calls_packets s calls)
  pub joined : flat_map (λ mask. mask) masks ≡ mask
  pub left : AreAllUnitsLeft s.format s.next_don (calls_plan s calls) masks written
  pub brings : units_brought w.state (keep mask (calls_packets s calls))
      ≡ flat_map (λ units. units) written

-- packets can carry each unit that calls send
abbrev pub AreCallsCarried : PacketizerState → List Call → Type 0
AreCallsCarried s calls = AreCarried s.format (calls_units s calls)

-- what holds where packets carry what calls send, from a packetizer to a depacketizer of its format
abbrev pub IfCarried : PacketizerState → Depacketization → List Call → Type 0 → Type 0
IfCarried s w calls holds = IsPayloadFormat s.format → IsPacketizerState s → AreCalls calls →
    w.state.format ≡ s.format → AreCallsCarried s calls → holds

-- a mask says of each packet of calls whether it came
abbrev pub IsMaskOf : List Bool → PacketizerState → List Call → Type 0
IsMaskOf mask s calls = length mask ≡ length (calls_packets s calls)

-- calls like one, of these payloads
abbrev pub calls_like : Call → List (List ℕ) → List Call
calls_like call payloads = map (λ payload. record call { payload = payload }) payloads

-- The packets of payloads by calls like one, and the packets of the text of what was sent: where
-- nothing was dropped for its size and the text is cut into these units, they are the same.
abbrev pub SendsAgain : Format → Type 0
SendsAgain f = (call : Call) (payloads : List (List ℕ)) → f.least_mtu ≤ call.mtu →
    NothingDropped f (all_entries f (calls_like call payloads)) →
    f.units (annex_b (sent_by f (calls_like call payloads))) ≡ sent_by f (calls_like call payloads) →
    all_packets f 0 (record call { payload = annex_b (sent_by f (calls_like call payloads)) } ∷ [])
    ≡ all_packets f 0 (calls_like call payloads)
