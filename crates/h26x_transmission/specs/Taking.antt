-- What a depacketizer does with packets, any whatever, refused ones passed over.
use Rattle.std.specs.Prelude.{◌≡◌, ℕ, Bool, List, length, map}
use Rattle.std.specs.List.{flat_map}
use Rattle.h26x_core.specs.declared.extra.CodecExtra.{CodecExtra}
use Rattle.h26x_model.specs.Send.Calls.{Call, AreCalls, all_entries}
use Rattle.h26x_model.specs.Payload.Facts.{AreCarried}
use Rattle.h26x_model.specs.Carry.Loss.{keep}
use Rattle.h26x_model.specs.Receive.Run.{AreReceived}
use Rattle.h26x_model.specs.Send.PacketizerState.{PacketizerState, IsPacketizerState, state_units, state_packets}
use Rattle.h26x_model.specs.Receive.DepacketizerState.{Depacketization, AreWritten}
use Rattle.h26x_model.specs.Carry.Laws.{LosesLittle}

-- What is received of these packets, by their places, is written and told, and nothing else: so a
-- fragmented unit exactly at an end whose latest start has no earlier end since.
abbrev pub AreReceivedAs : Depacketization → List (List ℕ) → List ℕ → CodecExtra → Type 0
AreReceivedAs w packets out told =
    (units : List (List ℕ)) × AreReceived (map w.state.format.read packets) units
    × AreWritten w units out told

-- Calls of a packetizer whose units sent can be carried, and which of all their packets a mask keeps.
pub record AreSomePackets (s : PacketizerState) (calls : List Call) (mask : List Bool)
    (packets : List (List ℕ)) :
    Type 0 where
  pub sender : IsPacketizerState s
  pub calls_are : AreCalls calls
  pub carried : AreCarried s.format (state_units s (all_entries s.format calls))
  pub long : length mask ≡ length (state_packets s (all_entries s.format calls))
  pub some : packets ≡ keep mask (state_packets s (all_entries s.format calls))

-- What is left of what calls send is written and told, item by item, and nothing else.
abbrev pub AreLeftWritten : PacketizerState → Depacketization → List Call → List Bool → List ℕ →
    CodecExtra → Type 0
AreLeftWritten s w calls mask out told = (it : LosesLittle s w calls mask)
    × AreWritten w (flat_map (λ units. units) it.written) out told

-- Of which calls whatever the accepted packets are some, in order: a lost packet hurts no item but
-- its own.
abbrev pub LossIsWithin : Depacketization → List (List ℕ) → List ℕ → CodecExtra → Type 0
LossIsWithin w accepted out told =
    (s : PacketizerState) (calls : List Call) (mask : List Bool) → w.state.format ≡ s.format →
    AreSomePackets s calls mask accepted → AreLeftWritten s w calls mask out told
