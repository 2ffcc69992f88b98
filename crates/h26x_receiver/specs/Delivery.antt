-- What a network brings of the packets that calls send: some are lost, some come twice, some late
-- (ours).
use Rattle.std.specs.Prelude.{◌≡◌, ℕ, ◌+◌, ◌%◌, ◌^◌, ◌<◌, ◌≤◌, ◌==◌, Bool, true, if◌then◌else◌, List, [], ◌∷◌, length, map, Option, Some, None, Result, Ok, Err, IsOk, ◌⊎◌, Vec, slice_index_or}
use Rattle.std.specs.Global.{Global}
use Rattle.std.specs.List.{AllByRecursion, list_any, range_with_len}
use Rattle.h26x_core.specs.declared.extra.CodecExtra.{CodecExtra}
use Rattle.h26x_core.specs.declared.error.PacketError.{PacketError}
use Rattle.h26x_core.specs.declared.error.PacketError.TheVariants.{AvcUnitTooLong, OutOfMemory}
use Rattle.h26x_model.specs.Send.Calls.{Call, AreCalls, all_entries}
use Rattle.h26x_model.specs.Payload.Facts.{AreCarried, IsPayloadFormat}
use Rattle.h26x_model.specs.Send.PacketizerState.{PacketizerState, IsPacketizerState, state_units, state_packets}
use Rattle.h26x_model.specs.Receive.DepacketizerState.{Depacketization, readings_units, AreWritten}
use Rattle.h26x_model.specs.Carry.Loss.{keep}
use Rattle.h26x_model.specs.Carry.Gaps.{whole_units}
use Rattle.h26x_model.specs.Carry.AnySender.{units_came}
use Rattle.h26x_receiver.specs.declared.received.Received.{Received}
use Rattle.h26x_receiver.specs.Sequenced.{is_taken, with_expected, after_answers, HaveSequencedAnswers}

-- packets with their sequence numbers, as lists of bytes
abbrev pub sequenced_packets : List (ℕ × Vec ℕ Global) → List (ℕ × List ℕ)
sequenced_packets packets = map (λ p. (p.0, p.1.items)) packets

-- a packet of those sent, by its place, with its sequence number: they are numbered on from one
abbrev pub packet_of_place : List (List ℕ) → ℕ → ℕ → ℕ × List ℕ
packet_of_place sent first place = ((first + place) % 2 ^ 16, slice_index_or sent place [])

-- Packets that a network brings of those that calls send, whatever calls of whatever packetizer, in
-- whatever order: each is one of these, with the number of its place. Packets can carry the units.
pub record AreBrought (s : PacketizerState) (calls : List Call) (first : ℕ) (places : List ℕ)
    (packets : List (ℕ × List ℕ)) : Type 0 where
  pub sender : IsPacketizerState s
  pub calls_are : AreCalls calls
  pub carried : AreCarried s.format (state_units s (all_entries s.format calls))
  pub each : packets ≡ map (packet_of_place (state_packets s (all_entries s.format calls)) first)
      places
  pub sent : AllByRecursion
      (λ place. place < length (state_packets s (all_entries s.format calls))) places

-- the places of the packets that were taken
abbrev pub taken_places : List ℕ → List (Result Received PacketError) → List ℕ
taken_places (place ∷ places) (answer ∷ answers) =
    if is_taken answer then place ∷ taken_places places answers else taken_places places answers
taken_places places answers = []

-- a place less than half of the numbers' circle from the one that is expected
abbrev pub IsNearPlace : Option ℕ → ℕ → Type 0
IsNearPlace None place = Unit {0}
IsNearPlace (Some expected) place = (place < expected + 2 ^ 15) × (expected ≤ place + 2 ^ 15)

-- so is each place from the one behind the place that was taken last
abbrev pub AreNearPlaces : Option ℕ → List ℕ → List (Result Received PacketError) → Type 0
AreNearPlaces expected (place ∷ places) (answer ∷ answers) =
    IsNearPlace expected place
    × AreNearPlaces (if is_taken answer then Some (place + 1) else expected) places answers
AreNearPlaces expected places answers = Unit {0}

-- A delivery: packets that a network brings, where a gap or a delay is shorter than half of the
-- numbers' circle.
pub record IsDelivery (s : PacketizerState) (calls : List Call) (first : ℕ) (places : List ℕ)
    (packets : List (ℕ × List ℕ)) (answers : List (Result Received PacketError)) : Type 0 where
  pub brought : AreBrought s calls first places packets
  pub near : AreNearPlaces None places answers

-- which packets, of so many, stand at these places
abbrev pub mask_of_places : List ℕ → ℕ → List Bool
mask_of_places places count = map (λ place. list_any (λ it. it == place) places)
    (range_with_len 0 count)

-- which of the packets that calls send were taken
abbrev pub taken_mask : PacketizerState → List Call → List ℕ →
    List (Result Received PacketError) → List Bool
taken_mask s calls places answers = mask_of_places (taken_places places answers)
    (length (state_packets s (all_entries s.format calls)))

-- Of whatever calls the packets were brought: what is written and told are the units of the items of
-- which each packet was taken, and that a run may hold, in order, and nothing else.
abbrev pub WholeUnitsAreWritten : ℕ → Depacketization → List (ℕ × List ℕ) →
    List (Result Received PacketError) → List ℕ → CodecExtra → Type 0
WholeUnitsAreWritten most w packets answers out told =
    (s : PacketizerState) (calls : List Call) (first : ℕ) (places : List ℕ) →
    w.state.format ≡ s.format → IsDelivery s calls first places packets answers →
    AreWritten w (whole_units most s calls (taken_mask s calls places answers)) out told

-- A delivery of packets of any sender, whatever they are: each is one of those sent, with the number of
-- its place; a gap or a delay is shorter than half of the numbers' circle.
pub record IsAnyDelivery (sent : List (List ℕ)) (first : ℕ) (places : List ℕ)
    (packets : List (ℕ × List ℕ)) (answers : List (Result Received PacketError)) : Type 0 where
  pub each : packets ≡ map (packet_of_place sent first) places
  pub within : AllByRecursion (λ place. place < length sent) places
  pub near : AreNearPlaces None places answers

-- of the units that packets would bring where all of them came, those of which each packet was taken
abbrev pub units_taken : ℕ → Depacketization → List (List ℕ) → List ℕ →
    List (Result Received PacketError) → List (List ℕ)
units_taken most w sent places answers = keep
    (units_came most None true (mask_of_places (taken_places places answers) (length sent))
    (map w.state.format.read sent)) (readings_units None (map w.state.format.read sent))

-- Whoever sent the packets, and whatever they are: what is written and told is that part of what all
-- of them would bring of which each packet was taken, and that a run may hold.
abbrev pub WhatWasTakenIsWritten : ℕ → Depacketization → List (ℕ × List ℕ) →
    List (Result Received PacketError) → List ℕ → CodecExtra → Type 0
WhatWasTakenIsWritten most w packets answers out told = (sent : List (List ℕ)) (first : ℕ)
    (places : List ℕ) → IsAnyDelivery sent first places packets answers →
    AreWritten w (units_taken most w sent places answers) out told

-- a place at the one expected or less than half of the circle ahead of it
abbrev pub IsNextPlace : Option ℕ → ℕ → Type 0
IsNextPlace None place = Unit {0}
IsNextPlace (Some expected) place = (expected ≤ place) × (place < expected + 2 ^ 15)

-- places in order, with gaps shorter than half of the circle
abbrev pub AreNextPlaces : Option ℕ → List ℕ → Type 0
AreNextPlaces expected [] = Unit {0}
AreNextPlaces expected (place ∷ places) = IsNextPlace expected place
    × AreNextPlaces (Some (place + 1)) places

-- A delivery in order: some packets may be missing, in gaps shorter than half of the circle, and none
-- comes twice.
pub record IsOrderedDelivery (s : PacketizerState) (calls : List Call) (first : ℕ)
    (places : List ℕ) (packets : List (ℕ × List ℕ)) : Type 0 where
  pub brought : AreBrought s calls first places packets
  pub order : AreNextPlaces None places

-- no packet was refused
abbrev pub NoneIsRefused : List (Result Received PacketError) → Type 0
NoneIsRefused answers = AllByRecursion (λ answer. IsOk answer) answers

-- Of whatever calls the packets came in order: what is written and told are the units of the items
-- of which each packet came, and that a run may hold, in order, and nothing else.
abbrev pub ThoseThatCameAreWritten : ℕ → Depacketization → List (ℕ × List ℕ) → List ℕ →
    CodecExtra → Type 0
ThoseThatCameAreWritten most w packets out told =
    (s : PacketizerState) (calls : List Call) (first : ℕ) (places : List ℕ) →
    w.state.format ≡ s.format → IsOrderedDelivery s calls first places packets →
    AreWritten w (whole_units most s calls (mask_of_places places
    (length (state_packets s (all_entries s.format calls))))) out told

-- what stands after packets with their answers, where any number may be the first
abbrev pub after_first_answers : ℕ → Depacketization → List (ℕ × List ℕ) →
    List (Result Received PacketError) → Depacketization
after_first_answers most w packets answers =
    (after_answers most (with_expected w None) packets answers).at_work

-- Of what a network brings of calls the units of the items are written of which each packet was taken.
abbrev pub WritesNothingDamaged : ℕ → Depacketization → Type 0
WritesNothingDamaged most w = IsPayloadFormat w.state.format → (packets : List (ℕ × List ℕ))
    (answers : List (Result Received PacketError)) →
    HaveSequencedAnswers most (with_expected w None) packets answers →
    WholeUnitsAreWritten most w packets answers (after_first_answers most w packets answers).out
    (after_first_answers most w packets answers).extra

-- Of those that come in order, where none is refused, those of which each packet came.
abbrev pub WritesThoseOfCalls : ℕ → Depacketization → Type 0
WritesThoseOfCalls most w = IsPayloadFormat w.state.format → (packets : List (ℕ × List ℕ))
    (answers : List (Result Received PacketError)) →
    HaveSequencedAnswers most (with_expected w None) packets answers → NoneIsRefused answers →
    ThoseThatCameAreWritten most w packets (after_first_answers most w packets answers).out
    (after_first_answers most w packets answers).extra

-- Of any sender's packets that part of what all would bring of which each packet was taken.
abbrev pub WritesThoseTaken : ℕ → Depacketization → Type 0
WritesThoseTaken most w = IsPayloadFormat w.state.format → (packets : List (ℕ × List ℕ))
    (answers : List (Result Received PacketError)) →
    HaveSequencedAnswers most (with_expected w None) packets answers →
    WhatWasTakenIsWritten most w packets answers (after_first_answers most w packets answers).out
    (after_first_answers most w packets answers).extra

-- a refusal for want of memory or, in AVC form, for a unit too long for a length of four bytes
abbrev pub IsWantOrTooLong : Bool → Result Received PacketError → Type 0
IsWantOrTooLong avc (Ok answer) = Unit {0}
IsWantOrTooLong avc (Err error) = (error ≡ OutOfMemory)
    ⊎ ((avc ≡ true) × (error ≡ AvcUnitTooLong))

-- Of whatever calls the packets were brought, none is refused for what it is.
abbrev pub NoneIsRefusedForWhatItIs : Depacketization → List (ℕ × List ℕ) →
    List (Result Received PacketError) → Type 0
NoneIsRefusedForWhatItIs w packets answers =
    (s : PacketizerState) (calls : List Call) (first : ℕ) (places : List ℕ) →
    w.state.format ≡ s.format → AreBrought s calls first places packets →
    AllByRecursion (IsWantOrTooLong w.state.is_avc) answers
