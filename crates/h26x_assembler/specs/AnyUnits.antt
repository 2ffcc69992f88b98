-- Access units of any sender, whatever their packets are, and what is given out of these where packets
-- are missing (ours).
use Rattle.std.specs.Prelude.{◌≡◌, ℕ, ◌+◌, ◌%◌, ◌^◌, ◌<◌, Bool, true, false, ◌&&◌, ◌||◌, if◌then◌else◌, List, [], ◌∷◌, ◌++◌, length, map, take, drop, Option, None, Result}
use Rattle.std.specs.Option.{option_map}
use Rattle.std.specs.List.{AllByRecursion, list_any, list_all}
use Rattle.h26x_core.specs.declared.extra.CodecExtra.TheVariants as extras
use Rattle.h26x_core.specs.declared.error.PacketError.{PacketError}
use Rattle.h26x_core.specs.ByteStream.{byte_stream}
use Rattle.h26x_model.specs.Payload.Format.{Format}
use Rattle.h26x_model.specs.Payload.Extra.{extra_after}
use Rattle.h26x_model.specs.Payload.Facts.{IsPayloadFormat}
use Rattle.h26x_model.specs.Receive.Received.{run_after, reading_units}
use Rattle.h26x_model.specs.Receive.DepacketizerState.{readings_units}
use Rattle.h26x_model.specs.Carry.Loss.{keep}
use Rattle.h26x_model.specs.Carry.AnySender.{units_came}
use Rattle.h26x_receiver.specs.declared.received.Received.{Received}
use Rattle.h26x_receiver.specs.Delivery.{AreNearPlaces, taken_places, mask_of_places}
use Rattle.h26x_reorder.specs.Reordering.{in_order, IsReordered}
use Rattle.h26x_reorder.specs.Rtp.{RtpBody}
use Rattle.h26x_assembler.specs.AccessUnit.{AccessUnitValue, Assembly, IsNoneOpen, is_closed_at, is_run_closed, gives_up_run, after_all_rtp, after_finishing, HaveAssemblyAnswers}
use Rattle.h26x_reorder.specs.ReorderBuffer.{reordered}
use Rattle.h26x_assembler.specs.StampedCalls.{unit_bodies, body_of_place, are_runs_within, last_came, closed_after, open_after, IsOtherStamp, AreUnitsGiven, first_place}

-- whether some unit is among these
abbrev pub is_some_unit : List (List ℕ) → Bool
is_some_unit [] = false
is_some_unit (unit ∷ units) = true

-- whether no byte stands of a packet, where this run is open: it brings no unit, and leaves no run
abbrev pub is_unused : Format → Option (List ℕ) → List ℕ → Bool
is_unused f run packet = if is_some_unit (reading_units run (f.read packet)) then false
    else is_run_closed (run_after run (f.read packet))

-- whether bytes stand of each of packets, none gives up a run, and no run is open behind them
abbrev pub are_used : Format → Option (List ℕ) → List (List ℕ) → Bool
are_used f run [] = is_run_closed run
are_used f run (packet ∷ packets) =
    if gives_up_run run (f.read packet) || is_unused f run packet then false
    else are_used f (run_after run (f.read packet)) packets

-- the packets of an access unit, whatever they are, and their timestamp: the last bears the marker
pub record SentPackets : Type 0 where
  pub timestamp : ℕ
  pub packets : List (List ℕ)

-- those of access units, one after the other
abbrev pub any_bodies : List SentPackets → List RtpBody
any_bodies [] = []
any_bodies (sent ∷ others) = unit_bodies sent.timestamp sent.packets ++ any_bodies others

-- of the units that packets would bring where all of them came, those of which each packet came, as a
-- mask says, and that a run may hold
abbrev pub units_that_came : ℕ → Format → List (List ℕ) → List Bool → List (List ℕ)
units_that_came most f packets mask = keep
    (units_came most None true mask (map f.read packets)) (readings_units None (map f.read packets))

-- Of one access unit, what a mask of its packets leaves: nothing where none of them came, and else the
-- text of those units. It is known to be whole where each packet came, and the one before them, bytes
-- stand of each, no run is longer than the limit or given up, and none is open at the end.
abbrev pub any_unit_left : ℕ → Format → Bool → Bool → SentPackets → List Bool →
    List AccessUnitValue
any_unit_left most f avc before sent mask =
    if list_any (λ came. came) mask then (record {
      timestamp = sent.timestamp;
      bytes = byte_stream avc (units_that_came most f sent.packets mask);
      extra = extra_after f extras.None (units_that_came most f sent.packets mask);
      is_whole = before && (list_all (λ came. came) mask
          && (are_runs_within f most None sent.packets && are_used f None sent.packets));
    }) ∷ [] else []

-- of several, one after the other
abbrev pub any_units_left : ℕ → Format → Bool → Bool → Option ℕ → List SentPackets → List Bool →
    List AccessUnitValue
any_units_left most f avc before closed [] mask = []
any_units_left most f avc before closed (sent ∷ others) mask =
    any_unit_left most f avc (if is_closed_at closed sent.timestamp then false else before) sent
    (take (length sent.packets) mask)
    ++ any_units_left most f avc (last_came before (take (length sent.packets) mask))
    (closed_after closed sent.timestamp (take (length sent.packets) mask)) others
    (drop (length sent.packets) mask)

-- those that follow each other have other timestamps, or the last packet of the earlier one comes
abbrev pub AreSentApart : Option ℕ → List SentPackets → List Bool → Type 0
AreSentApart stamp [] mask = Unit {0}
AreSentApart stamp (sent ∷ others) mask =
    (list_any (λ came. came) (take (length sent.packets) mask) ≡ true →
    IsOtherStamp stamp sent.timestamp)
    × AreSentApart (open_after stamp sent.timestamp (take (length sent.packets) mask)) others
    (drop (length sent.packets) mask)

-- The packets that a network brings of those of any sender: any of them may be lost, come twice, or
-- before others that were sent earlier, but less than a window apart.
pub record IsAnyStream (window : ℕ) (sent : List SentPackets) (first : ℕ) (places : List ℕ)
    (packets : List (ℕ × RtpBody)) : Type 0 where
  pub each : packets ≡ map (body_of_place (any_bodies sent) first) places
  pub within : AllByRecursion (λ place. place < length (any_bodies sent)) places
  pub near : IsReordered window places

-- which of them were taken
abbrev pub any_mask : List SentPackets → List ℕ → List (Result Received PacketError) → List Bool
any_mask sent places answers = mask_of_places (taken_places (in_order places) answers)
    (length (any_bodies sent))

-- Whoever sent the packets, and whatever they are: these access units are those that the packets that
-- were taken leave, in order. Each of these is less than half of the numbers' circle behind the one
-- before, and access units of one timestamp are told apart.
abbrev pub AreAnyUnitsBrought : ℕ → ℕ → ℕ → Assembly → List (ℕ × RtpBody) →
    List (Result Received PacketError) → List AccessUnitValue → Type 0
AreAnyUnitsBrought window most limit w packets answers units = (sent : List SentPackets)
    (first : ℕ) (known : Bool) (places : List ℕ) →
    w.expected ≡ option_map (λ place. (first + place) % 2 ^ 16) (first_place known) →
    IsAnyStream window sent first places packets →
    AreNearPlaces (first_place known) (in_order places) answers →
    AreSentApart None sent (any_mask sent places answers) →
    AreUnitsGiven limit w.ended units (any_units_left most w.state.format w.state.is_avc known
    w.closed sent (any_mask sent places answers))

-- what an assembler gives out of them behind a buffer
abbrev pub GivesOutAnyBrought : ℕ → ℕ → ℕ → Assembly → Type 0
GivesOutAnyBrought window most limit w = IsPayloadFormat w.state.format →
    IsNoneOpen w.unit w.is_gap → (packets : List (ℕ × RtpBody))
    (answers : List (Result Received PacketError)) →
    HaveAssemblyAnswers most limit w (reordered window packets) answers →
    AreAnyUnitsBrought window most limit w packets answers
    (after_finishing (after_all_rtp most limit w (reordered window packets) answers)).ended
