-- What a transmission does: calls of a packetizer, and their packets through a depacketizer.
use Rattle.std.specs.Prelude.{◌≡◌, ℕ, Bool, true, false, List, [], ◌∷◌, ◌++◌, length, map, Option, Some, Result, Ok, Err, IfOk, IfErr, Vec, ◌⊎◌, slice_get}
use Rattle.std.specs.Global.{Global}
use Rattle.std.specs.List.{AllByRecursion}
use Rattle.h26x_core.specs.declared.extra.CodecExtra.{CodecExtra}
use Rattle.h26x_core.specs.declared.error.PacketError.{PacketError}
use Rattle.h26x_core.specs.declared.error.PacketError.TheVariants.{OutOfMemory}
use Rattle.h26x_model.specs.Payload.Reading.{IsRead}
use Rattle.h26x_model.specs.Payload.Format.{Format}
use Rattle.h26x_model.specs.Send.Group.{Entry}
use Rattle.h26x_model.specs.Payload.Don.{DonsInOrder}
use Rattle.h26x_model.specs.Send.Calls.{Call, AreCalls, call_entries, all_entries, all_packets, sent_by}
use Rattle.h26x_model.specs.Carry.Detection.{AreDetected}
use Rattle.h26x_model.specs.Carry.Laws.{AreCallsCarried}
use Rattle.h26x_model.specs.Carry.Loss.{keep}
use Rattle.h26x_core.specs.ByteStream.{byte_stream}
use Rattle.h26x_model.specs.Payload.Extra.{first_extra}
use Rattle.h26x_model.specs.Payload.Facts.{AreCarried}
use Rattle.h26x_model.specs.Send.Rival.{TakesFewestFragments}
use Rattle.h26x_model.specs.Send.WaitingSets.{no_waiting_sets}
use Rattle.h26x_model.specs.Send.PacketizerState.{PacketizerState, IsPacketizerState, state_units, state_packets, call_packets, calls_plan, after_entries, has_no_effect, AreWithinLimits, next_call}
use Rattle.h26x_model.specs.Receive.DepacketizerState.{DepacketizerState, depacketization, HaveAvcLengths, Depacketization, after_packets, IsRefusalCause, AreWritten}
use Rattle.h26x_transmission.specs.declared.carried.Carried.{Carried}
use Rattle.h26x_transmission.specs.declared.packetizer.CodecPacketizer.{CodecPacketizer}
use Rattle.h26x_transmission.specs.CodecStates.{OfPacketizer}

-- calls of a packetizer: an mtu and a payload each
abbrev pub next_calls : PacketizerState → List (ℕ × Vec ℕ Global) → List Call
next_calls s calls = map (λ c. next_call s c.0 c.1.items) calls

-- Where a packetizer was given calls, and none of their packets was refused: what holds of it before
-- them, of the calls that were made, and of their packets.
abbrev pub OfCarried : {X : Type 0} {P : X → Type 0} → CodecPacketizer X P →
    List (ℕ × Vec ℕ Global) → Result Carried PacketError →
    (PacketizerState → List Call → List (List ℕ) → Type 0) → Type 0
OfCarried p calls result holds = OfPacketizer p (λ s. IfOk result (λ carried.
    holds s (keep carried.made (next_calls s calls)) carried.packets))

-- the decoding order numbers of what calls send are in order (RFC 7798, 4.6; RFC 9328, 4.4)
abbrev pub HaveDonsInOrder : PacketizerState → List Call → Type 0
HaveDonsInOrder s calls = DonsInOrder s.format s.next_don (calls_plan s calls)

-- of what calls send the packet or the first fragment of each key unit is detected, and no other
-- packet but aggregates that bear numbers
abbrev pub HaveKeyUnitsDetected : PacketizerState → List Call → Type 0
HaveKeyUnitsDetected s calls = AreDetected s.format s.next_don (calls_plan s calls)

-- so it is of whatever calls whose units packets can carry
abbrev pub DetectsKeyUnits : Format → Type 0
DetectsKeyUnits f = (s : PacketizerState) (calls : List Call) → s.format ≡ f →
    IsPacketizerState s → AreCalls calls → AreCallsCarried s calls → HaveKeyUnitsDetected s calls

-- what the calls that were made bring
abbrev pub made_entries : Format → List Bool → List Call → List Entry
made_entries f made calls = all_entries f (keep made calls)

-- the units that they send
abbrev pub made_units : PacketizerState → List Bool → List Call → List (List ℕ)
made_units s made calls = state_units s (made_entries s.format made calls)

-- packets can carry these
abbrev pub AreMadeCarried : PacketizerState → List Bool → List Call → Type 0
AreMadeCarried s made calls = AreCarried s.format (made_units s made calls)

-- what calls that were made send is written, where packets can carry it
abbrev pub IsMadeText : PacketizerState → Depacketization → List Bool → List Call → List ℕ →
    CodecExtra → Type 0
IsMadeText s w made calls out told = AreMadeCarried s made calls →
    AreWritten w (made_units s made calls) out told

-- of the first calls, each without effect was made
abbrev pub AreMade : Format → List Bool → List Call → Type 0
AreMade f [] calls = Unit {0}
AreMade f (m ∷ made) [] = ⊥
AreMade f (m ∷ made) (call ∷ calls) = (has_no_effect f call ≡ true → m ≡ true)
    × AreMade f made calls

-- What a packetizer has done with the first calls: the packets are those of what it planned of the
-- sets that waited and the made calls' units, numbered on; and it stands after these calls.
pub record AreSent (s : PacketizerState) (calls : List Call) (made : List Bool)
    (packets : List (List ℕ)) (new : Option PacketizerState) : Type 0 where
  pub marks : AreMade s.format made calls
  pub packets_are : packets ≡ state_packets s (made_entries s.format made calls)
  pub stands : new ≡ Some (after_entries s (made_entries s.format made calls))

-- What it does with one call, whose packets come behind others: it is made, or it is not and leaves
-- everything; where the answer is a refusal it was made, and one of its packets wasn't taken.
abbrev pub IsSentCall : PacketizerState → Call → Result Bool PacketError → List (List ℕ) →
    List (List ℕ) → Option PacketizerState → Type 0
IsSentCall s call (Ok true) packets new sender =
    (new ≡ packets ++ call_packets s call)
    × (sender ≡ Some (after_entries s (call_entries s.format call)))
IsSentCall s call (Ok false) packets new sender =
    (has_no_effect s.format call ≡ false) × (new ≡ packets) × (sender ≡ Some s)
IsSentCall s call (Err error) packets new sender =
    sender ≡ Some (after_entries s (call_entries s.format call))

-- packets that a depacketizer took, behind others
abbrev pub AreTaken : Depacketization → List (List ℕ) → List (List ℕ) → Option Depacketization → Type 0
AreTaken w packets new work =
    (more : List (List ℕ)) × (new ≡ packets ++ more) × (work ≡ Some (after_packets w more))

-- A delivery that stopped: a front of the packets was taken, none of which is refused for what it
-- is, and some are left; memory lacks, or the first of these is refused.
pub record IsLeftOver (w : Depacketization) (packets : List (List ℕ)) (error : PacketError)
    (new : Option Depacketization) : Type 0 where
  pub taken : List (List ℕ)
  pub left : List (List ℕ)
  pub front : packets ≡ taken ++ left
  pub work : new ≡ Some (after_packets w taken)
  pub read : AllByRecursion (λ packet. IsRead (w.state.format.read packet)) taken
  pub unfinished : left ≡ [] → ⊥
  pub cause : IsRefusalCause (after_packets w taken) left error

-- a transmission for whose marks there was no room: nothing was done
abbrev pub IsUnbegun : PacketizerState → Depacketization → PacketError → Option PacketizerState →
    Option Depacketization → Type 0
IsUnbegun s w error sender work =
    (error ≡ OutOfMemory) × (sender ≡ Some s) × (work ≡ Some w)

-- A transmission that stopped in a call, which was made as those before it that these marks name.
-- All packets of these were taken, and of its own some are left.
pub record IsStoppedIn (s : PacketizerState) (w : Depacketization) (calls : List Call)
    (error : PacketError)
    (sender : Option PacketizerState) (work : Option Depacketization) : Type 0 where
  pub made : List Bool
  pub call : Call
  pub marks : AreMade s.format made calls
  pub place : slice_get calls (length made) ≡ Some call
  pub stands : sender ≡ Some (after_entries s (made_entries s.format (made ++ true ∷ []) calls))
  pub over : IsLeftOver (after_packets w (state_packets s (made_entries s.format made calls)))
      (state_packets (after_entries s (made_entries s.format made calls)) (call_entries s.format call))
      error work

-- a transmission that a refusal ended: nothing was done, or it stopped in a call
abbrev pub IsBroken : PacketizerState → Depacketization → List Call → PacketError →
    Option PacketizerState → Option Depacketization → Type 0
IsBroken s w calls error sender work = IsUnbegun s w error sender work
    ⊎ IsStoppedIn s w calls error sender work

-- so of one that may have been refused
abbrev pub IsBrokenIfErr : {A : Type 0} → PacketizerState → Depacketization → List Call →
    Result A PacketError → Option PacketizerState → Option Depacketization → Type 0
IsBrokenIfErr s w calls result sender work =
    IfErr result (λ error. IsBroken s w calls error sender work)

-- where the units that were sent can be carried, and in AVC form none is too long, memory lacked
abbrev pub LacksMemory : (s : PacketizerState) (w : Depacketization) (calls : List Call)
    (error : PacketError) →
    List Bool → Type 0
LacksMemory s w calls error made =
    AreMadeCarried s made calls →
    (w.state.is_avc ≡ true → HaveAvcLengths (made_units s made calls)) → error ≡ OutOfMemory

-- what a transmission has done that ended in a refusal
abbrev pub IsStopped : PacketizerState → Depacketization → List Call → PacketError →
    Option PacketizerState → Option Depacketization →
    Type 0
IsStopped s w calls error sender work =
    IsUnbegun s w error sender work
    ⊎ ((it : IsStoppedIn s w calls error sender work)
    × (w.state.format ≡ s.format → LacksMemory s w calls error (it.made ++ true ∷ [])))

-- so of one that may have been refused
abbrev pub IsStoppedIfErr : {A : Type 0} → PacketizerState → DepacketizerState → List ℕ →
    CodecExtra → List Call → Result A PacketError → Option PacketizerState →
    Option Depacketization → Type 0
IsStoppedIfErr s r out extra calls result sender work =
    IfErr result (λ error. IsStopped s (depacketization r out extra) calls error sender work)

-- nothing waits for a packetizer, and its next decoding order number is 0
abbrev pub IsFresh : PacketizerState → Type 0
IsFresh s = (s.waiting ≡ no_waiting_sets) × (s.next_don ≡ 0)

-- What is claimed of the calls made through a fresh pair. No packet passes its call's limit; each
-- unit that is fragmented takes the fewest fragments that any rival could; and where packets can
-- carry each unit sent, exactly the units sent are written, in order, and what is told is whether a
-- key unit is among them.
pub record AreCarriedWhole (s : PacketizerState) (w : Depacketization) (calls : List Call)
    (packets : List (List ℕ)) (out : List ℕ) (told : CodecExtra) : Type 0 where
  pub packets_are : packets ≡ all_packets s.format 0 calls
  pub within : AreWithinLimits s calls packets
  pub fewest : TakesFewestFragments s.format
  pub written : AreCarried s.format (sent_by s.format calls) →
      out ≡ w.out ++ byte_stream w.state.is_avc (sent_by s.format calls)
  pub tells : AreCarried s.format (sent_by s.format calls) →
      told ≡ first_extra s.format (sent_by s.format calls)
