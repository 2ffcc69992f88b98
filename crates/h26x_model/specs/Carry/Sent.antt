-- What is received of what is sent, each in one word.
use Rattle.std.specs.Prelude.{◌≡◌, ℕ, ◌+◌, ◌≤◌, Bool, List, length, map, Option, IsTrue}
use Rattle.std.specs.List.{flat_map, AllByRecursion}
use Rattle.h26x_model.specs.Payload.Format.{Format}
use Rattle.h26x_model.specs.Payload.Reading.{Reading, IsRead}
use Rattle.h26x_model.specs.Payload.Facts.{IsPayloadFormat, ReadsWhatItWrites, CanSend, IsPlanned}
use Rattle.h26x_model.specs.Send.Calls.{Call, AreCalls}
use Rattle.h26x_model.specs.Send.Plan.{Item, item_units}
use Rattle.h26x_model.specs.Send.Packets.{plan_packets}
use Rattle.h26x_model.specs.Send.PacketizerState.{PacketizerState, IsPacketizerState, one_unit_units, one_unit_packets}
use Rattle.h26x_model.specs.Receive.Received.{run_after, units_after}
use Rattle.h26x_model.specs.Receive.RunLimit.{run_len}
use Rattle.h26x_model.specs.Receive.DepacketizerState.{Depacketization}
use Rattle.h26x_model.specs.Carry.Laws.{AreCallsCarried, IfCarried, IsMaskOf}

-- each item is one that is planned of units that packets can carry
abbrev pub ArePlanned : Format → List Item → Type 0
ArePlanned f items = AllByRecursion (IsPlanned f) items

-- the packets of each item can be read back
abbrev pub CanSendAll : Format → List Item → Type 0
CanSendAll f items = AllByRecursion (CanSend f) items

-- the units of what can be sent are received, whatever came before
abbrev pub ReceivesWhatIsSent : Format → Type 0
ReceivesWhatIsSent f = (n : ℕ) (items : List Item) (earlier : List Reading) → CanSendAll f items →
    units_after earlier (map f.read (plan_packets f n items)) ≡ flat_map item_units items

-- none of its packets is refused for what it is
abbrev pub ReadsWhatIsSent : Format → Type 0
ReadsWhatIsSent f = (n : ℕ) (items : List Item) → CanSendAll f items →
    AllByRecursion (λ packet. IsRead (f.read packet)) (plan_packets f n items)

-- one unit as it is is received where packets can carry it, whatever came before
abbrev pub OneUnitIsReceived : PacketizerState → ℕ → List ℕ → List Reading → Type 0
OneUnitIsReceived s mtu unit earlier = ReadsWhatItWrites s.format →
    IsTrue (s.format.carries unit) →
    units_after earlier (map s.format.read (one_unit_packets s mtu unit))
    ≡ one_unit_units s mtu unit

-- what holds where packets can carry what calls send
abbrev pub IfSendable : PacketizerState → List Call → Type 0 → Type 0
IfSendable s calls holds = IsPayloadFormat s.format → IsPacketizerState s → AreCalls calls →
    AreCallsCarried s calls → holds

-- what holds whichever of the packets came that carry what calls send
abbrev pub IfSomeCame : PacketizerState → Depacketization → List Call → (List Bool → Type 0) →
    Type 0
IfSomeCame s w calls P = IfCarried s w calls ((mask : List Bool) → IsMaskOf mask s calls → P mask)

-- a packet adds no more to a run than its own length
abbrev pub RunsGrowByPackets : Format → Type 0
RunsGrowByPackets f = (run : Option (List ℕ)) (packet : List ℕ) →
    run_len (run_after run (f.read packet)) ≤ run_len run + length packet
