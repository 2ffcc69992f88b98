-- Calls that each send an access unit, with its timestamp (RFC 6184, 5.1; RFC 7798, 4.1; RFC 9328,
-- 4.1), and what is left of these where packets are missing (ours).
use Rattle.std.specs.Prelude.{◌≡◌, ℕ, ◌+◌, ◌%◌, ◌^◌, ◌<◌, ◌≤◌, nat_lt, Bool, true, false, ◌&&◌, if◌then◌else◌, List, [], ◌∷◌, ◌++◌, length, map, take, drop, Option, Some, None, Result, slice_index_or, ◌⊎◌}
use Rattle.std.specs.Option.{option_map}
use Rattle.std.specs.List.{AllByRecursion, Contains, list_any, list_all}
use Rattle.h26x_core.specs.declared.extra.CodecExtra.TheVariants as extras
use Rattle.h26x_core.specs.declared.error.PacketError.{PacketError}
use Rattle.h26x_core.specs.ByteStream.{byte_stream}
use Rattle.h26x_model.specs.Payload.Format.{Format}
use Rattle.h26x_model.specs.Payload.Extra.{extra_after}
use Rattle.h26x_model.specs.Payload.Facts.{AreCarried, IsPayloadFormat}
use Rattle.h26x_model.specs.Send.Calls.{Call, AreCalls, all_entries}
use Rattle.h26x_model.specs.Send.PacketizerState.{PacketizerState, IsPacketizerState, state_units, state_packets, after_entries}
use Rattle.h26x_model.specs.Receive.Received.{run_after}
use Rattle.h26x_model.specs.Receive.RunLimit.{run_len}
use Rattle.h26x_model.specs.Carry.Gaps.{whole_units}
use Rattle.h26x_receiver.specs.declared.received.Received.{Received}
use Rattle.h26x_receiver.specs.Delivery.{AreNextPlaces, AreNearPlaces, taken_places, mask_of_places, NoneIsRefused, IsWantOrTooLong}
use Rattle.h26x_reorder.specs.Reordering.{in_order, IsReordered}
use Rattle.h26x_reorder.specs.Rtp.{RtpBody, rtp_body}
use Rattle.h26x_assembler.specs.AccessUnit.{AccessUnitValue, Assembly, IsNoneOpen, is_closed_at, after_all_rtp, after_finishing, HaveAssemblyAnswers}
use Rattle.h26x_reorder.specs.ReorderBuffer.{reordered}

-- a call, and the timestamp of the access unit that it sends
pub record StampedCall : Type 0 where
  pub call : Call
  pub timestamp : ℕ

-- these two
abbrev pub stamped_call : ℕ → Call → StampedCall
stamped_call timestamp call = record { call = call; timestamp = timestamp }

-- the calls alone
abbrev pub calls_of : List StampedCall → List Call
calls_of calls = map (λ c. c.call) calls

-- the packets of one call
abbrev pub access_unit_packets : PacketizerState → Call → List (List ℕ)
access_unit_packets s call = state_packets s (all_entries s.format (call ∷ []))

-- the packetizer after it
abbrev pub after_call : PacketizerState → Call → PacketizerState
after_call s call = after_entries s (all_entries s.format (call ∷ []))

-- whether a list has no entry
abbrev pub has_none : List (List ℕ) → Bool
has_none [] = true
has_none (packet ∷ packets) = false

-- packets of one access unit: the last bears the marker
abbrev pub unit_bodies : ℕ → List (List ℕ) → List RtpBody
unit_bodies timestamp [] = []
unit_bodies timestamp (packet ∷ packets) = rtp_body timestamp (has_none packets) packet
    ∷ unit_bodies timestamp packets

-- the packets of calls, one access unit after the other
abbrev pub sent_bodies : PacketizerState → List StampedCall → List RtpBody
sent_bodies s [] = []
sent_bodies s (c ∷ calls) = unit_bodies c.timestamp (access_unit_packets s c.call)
    ++ sent_bodies (after_call s c.call) calls

-- a packet of those sent, by its place, with its sequence number: they are numbered on from one
abbrev pub body_of_place : List RtpBody → ℕ → ℕ → ℕ × RtpBody
body_of_place sent first place = (
  (first + place) % 2 ^ 16,
  slice_index_or sent place (rtp_body 0 false []),
)

-- whether no run that packets leave, one after the other, holds more bytes than this
abbrev pub are_runs_within : Format → ℕ → Option (List ℕ) → List (List ℕ) → Bool
are_runs_within f most run [] = true
are_runs_within f most run (packet ∷ packets) =
    if nat_lt most (run_len (run_after run (f.read packet))) then false
    else are_runs_within f most (run_after run (f.read packet)) packets

-- Of one call, what a mask of its packets leaves: nothing where none of them came, and else the text
-- of its whole items. It is known to be whole where each came, and the packet before them, and no run
-- is longer than the limit.
abbrev pub unit_left : ℕ → PacketizerState → Bool → Bool → StampedCall → List Bool →
    List AccessUnitValue
unit_left most s avc before c mask =
    if list_any (λ came. came) mask then (record {
      timestamp = c.timestamp;
      bytes = byte_stream avc (whole_units most s (c.call ∷ []) mask);
      extra = extra_after s.format extras.None (whole_units most s (c.call ∷ []) mask);
      is_whole = before && (list_all (λ came. came) mask
          && are_runs_within s.format most None (access_unit_packets s c.call));
    }) ∷ [] else []

-- whether the last packet came, of a mask; where there is none, whether the one before came
abbrev pub last_came : Bool → List Bool → Bool
last_came before [] = before
last_came before (came ∷ mask) = last_came came mask

-- the timestamp of an access unit whose last packet came, behind packets of which a mask says which
-- came: that of theirs, or where none of them came the one before
abbrev pub closed_after : Option ℕ → ℕ → List Bool → Option ℕ
closed_after before timestamp mask =
    if list_any (λ came. came) mask
    then (if last_came false mask then Some timestamp else None) else before

-- that of one whose last packet did not come
abbrev pub open_after : Option ℕ → ℕ → List Bool → Option ℕ
open_after before timestamp mask =
    if list_any (λ came. came) mask
    then (if last_came false mask then None else Some timestamp) else before

-- Of calls, one after the other. Where the last packet of an access unit came, the next one of its
-- timestamp goes on with it, and isn't known to be whole: such a timestamp is given, if one is.
abbrev pub units_left : ℕ → PacketizerState → Bool → Bool → Option ℕ → List StampedCall →
    List Bool → List AccessUnitValue
units_left most s avc before closed [] mask = []
units_left most s avc before closed (c ∷ calls) mask =
    unit_left most s avc (if is_closed_at closed c.timestamp then false else before) c
    (take (length (access_unit_packets s c.call)) mask)
    ++ units_left most (after_call s c.call) avc
    (last_came before (take (length (access_unit_packets s c.call)) mask))
    (closed_after closed c.timestamp (take (length (access_unit_packets s c.call)) mask)) calls
    (drop (length (access_unit_packets s c.call)) mask)

-- a timestamp other than that of an access unit that is open, if one is
abbrev pub IsOtherStamp : Option ℕ → ℕ → Type 0
IsOtherStamp None timestamp = Unit {0}
IsOtherStamp (Some stamp) timestamp = stamp ≡ timestamp → ⊥

-- Access units of which packets come, one behind the other, have other timestamps, or the last packet
-- of the earlier one comes; the timestamp of one that is open is given, if one is.
abbrev pub AreApart : Option ℕ → PacketizerState → List StampedCall → List Bool → Type 0
AreApart stamp s [] mask = Unit {0}
AreApart stamp s (c ∷ calls) mask =
    (list_any (λ came. came) (take (length (access_unit_packets s c.call)) mask) ≡ true →
    IsOtherStamp stamp c.timestamp)
    × AreApart (open_after stamp c.timestamp (take (length (access_unit_packets s c.call)) mask))
    (after_call s c.call) calls (drop (length (access_unit_packets s c.call)) mask)

-- no access unit holds more bytes than this
abbrev pub AreUnitsWithin : ℕ → List AccessUnitValue → Type 0
AreUnitsWithin limit units = AllByRecursion (λ unit. length unit.bytes ≤ limit) units

-- An access unit as it is given out, by what would be without a limit: that, or where it holds more
-- than the limit perhaps one whose text was given up, and which is told not to be whole.
abbrev pub IsGivenOut : ℕ → AccessUnitValue → AccessUnitValue → Type 0
IsGivenOut limit given left = (given ≡ left)
    ⊎ ((limit < length left.bytes) × (given.timestamp ≡ left.timestamp)
    × (given.is_whole ≡ false))

-- so of each of several, in order
abbrev pub AreGivenOut : ℕ → List AccessUnitValue → List AccessUnitValue → Type 0
AreGivenOut limit [] [] = Unit {0}
AreGivenOut limit (given ∷ others) (left ∷ units) = IsGivenOut limit given left
    × AreGivenOut limit others units
AreGivenOut limit given units = ⊥

-- Behind those that ended before, these are given out of what would be without a limit.
pub record AreUnitsGiven (limit : ℕ) (before units left : List AccessUnitValue) : Type 0 where
  pub given : List AccessUnitValue
  pub behind : units ≡ before ++ given
  pub each : AreGivenOut limit given left

-- Calls whose units packets can carry.
pub record AreStreamed (s : PacketizerState) (calls : List StampedCall) : Type 0 where
  pub sender : IsPacketizerState s
  pub calls_are : AreCalls (calls_of calls)
  pub carried : AreCarried s.format (state_units s (all_entries s.format (calls_of calls)))

-- an access unit as it was sent: the text of the units that a call sends
abbrev pub sent_unit : PacketizerState → Bool → StampedCall → AccessUnitValue
sent_unit s avc c = record {
  timestamp = c.timestamp;
  bytes = byte_stream avc (state_units s (all_entries s.format (c.call ∷ [])));
  extra = extra_after s.format extras.None (state_units s (all_entries s.format (c.call ∷ [])));
  is_whole = true;
}

-- of calls, one after the other
abbrev pub sent_units : PacketizerState → Bool → List StampedCall → List AccessUnitValue
sent_units s avc [] = []
sent_units s avc (c ∷ calls) = sent_unit s avc c ∷ sent_units (after_call s c.call) avc calls

-- how many bytes packets have
abbrev pub packets_len : List (List ℕ) → ℕ
packets_len [] = 0
packets_len (packet ∷ packets) = length packet + packets_len packets

-- Of a call each packet of which came, and the packet before them, where its packets together are no
-- longer than the limit on a run: the access unit that is left is the one that was sent.
abbrev pub IsLeftWhole : ℕ → PacketizerState → Bool → StampedCall → List Bool → Type 0
IsLeftWhole most s avc c mask = length mask ≡ length (access_unit_packets s c.call) →
    list_any (λ came. came) mask ≡ true → list_all (λ came. came) mask ≡ true →
    packets_len (access_unit_packets s c.call) ≤ most →
    unit_left most s avc true c mask ≡ sent_unit s avc c ∷ []

-- an access unit that is one of these if it is told to be whole
abbrev pub IsSentIfWhole : List AccessUnitValue → AccessUnitValue → Type 0
IsSentIfWhole sent unit = unit.is_whole ≡ true → Contains sent unit

-- What packets leave of calls is one of those sent, where it is told to be whole: a mask says which
-- packets came.
abbrev pub WholeOnesAreSent : ℕ → PacketizerState → Bool → List StampedCall → Type 0
WholeOnesAreSent most s avc calls = (before : Bool) (closed : Option ℕ) (mask : List Bool) →
    length mask ≡ length (sent_bodies s calls) →
    AllByRecursion (IsSentIfWhole (sent_units s avc calls))
    (units_left most s avc before closed calls mask)

-- the place that is expected at first, where the number of the first packet sent is known
abbrev pub first_place : Bool → Option ℕ
first_place known = if known then Some 0 else None

-- A stream: packets at these places of those that calls send, in order. Some may be missing, in gaps
-- shorter than half of the numbers' circle.
pub record IsStream (s : PacketizerState) (calls : List StampedCall) (first : ℕ) (known : Bool)
    (places : List ℕ) (packets : List (ℕ × RtpBody)) : Type 0 where
  pub streamed : AreStreamed s calls
  pub each : packets ≡ map (body_of_place (sent_bodies s calls) first) places
  pub sent : AllByRecursion (λ place. place < length (sent_bodies s calls)) places
  pub order : AreNextPlaces (first_place known) places

-- Of whatever calls the packets are a stream, these access units are those that the packets leave of
-- the calls, in order, where those of one timestamp are told apart.
abbrev pub AreAccessUnitsLeft : ℕ → ℕ → Assembly → List (ℕ × RtpBody) →
    List AccessUnitValue → Type 0
AreAccessUnitsLeft most limit w packets units = (s : PacketizerState) (calls : List StampedCall)
    (first : ℕ) (known : Bool) (places : List ℕ) → w.state.format ≡ s.format →
    w.expected ≡ option_map (λ place. (first + place) % 2 ^ 16) (first_place known) →
    IsStream s calls first known places packets →
    AreApart None s calls (mask_of_places places (length (sent_bodies s calls))) →
    AreUnitsGiven limit w.ended units (units_left most s w.state.is_avc known w.closed calls
    (mask_of_places places (length (sent_bodies s calls))))

-- What an assembler gives out of packets in order, where none is refused, is what they leave of
-- calls.
abbrev pub GivesOutThoseLeft : ℕ → ℕ → Assembly → Type 0
GivesOutThoseLeft most limit w = IsPayloadFormat w.state.format → IsNoneOpen w.unit w.is_gap →
    (packets : List (ℕ × RtpBody)) (answers : List (Result Received PacketError)) →
    HaveAssemblyAnswers most limit w packets answers → NoneIsRefused answers →
    AreAccessUnitsLeft most limit w packets
    (after_finishing (after_all_rtp most limit w packets answers)).ended

-- The packets that a network brings of those that calls send, in the order in which they come: any of
-- them may be lost, come twice, or before others that were sent earlier, but less than a window
-- apart.
pub record IsBroughtStream (window : ℕ) (s : PacketizerState) (calls : List StampedCall)
    (first : ℕ) (known : Bool) (places : List ℕ) (packets : List (ℕ × RtpBody)) : Type 0 where
  pub streamed : AreStreamed s calls
  pub each : packets ≡ map (body_of_place (sent_bodies s calls) first) places
  pub sent : AllByRecursion (λ place. place < length (sent_bodies s calls)) places
  pub near : IsReordered window places

-- which of the packets that calls send were taken, where a buffer put in order those that came
abbrev pub brought_mask : PacketizerState → List StampedCall → List ℕ →
    List (Result Received PacketError) → List Bool
brought_mask s calls places answers = mask_of_places (taken_places (in_order places) answers)
    (length (sent_bodies s calls))

-- Of whatever calls a network brought the packets, these access units are those that the packets
-- that were taken leave of the calls, in order: each of these is less than half of the numbers' circle
-- behind the one before. Those of one timestamp are told apart.
abbrev pub AreAccessUnitsBrought : ℕ → ℕ → ℕ → Assembly → List (ℕ × RtpBody) →
    List (Result Received PacketError) → List AccessUnitValue → Type 0
AreAccessUnitsBrought window most limit w packets answers units = (s : PacketizerState)
    (calls : List StampedCall) (first : ℕ) (known : Bool) (places : List ℕ) →
    w.state.format ≡ s.format →
    w.expected ≡ option_map (λ place. (first + place) % 2 ^ 16) (first_place known) →
    IsBroughtStream window s calls first known places packets →
    AreNearPlaces (first_place known) (in_order places) answers →
    AreApart None s calls (brought_mask s calls places answers) →
    AreUnitsGiven limit w.ended units (units_left most s w.state.is_avc known w.closed calls
    (brought_mask s calls places answers))

-- What an assembler gives out of packets that a network brings, behind a buffer, is what those that
-- were taken leave of calls.
abbrev pub GivesOutThoseBrought : ℕ → ℕ → ℕ → Assembly → Type 0
GivesOutThoseBrought window most limit w = IsPayloadFormat w.state.format →
    IsNoneOpen w.unit w.is_gap → (packets : List (ℕ × RtpBody))
    (answers : List (Result Received PacketError)) →
    HaveAssemblyAnswers most limit w (reordered window packets) answers →
    AreAccessUnitsBrought window most limit w packets answers
    (after_finishing (after_all_rtp most limit w (reordered window packets) answers)).ended

-- Of whatever calls a network brought the packets, none that a buffer gives out is refused for what it
-- is.
abbrev pub NoneBroughtIsRefused : ℕ → Assembly → List (ℕ × RtpBody) →
    List (Result Received PacketError) → Type 0
NoneBroughtIsRefused window w packets answers = (s : PacketizerState) (calls : List StampedCall)
    (first : ℕ) (known : Bool) (places : List ℕ) → w.state.format ≡ s.format →
    IsBroughtStream window s calls first known places packets →
    AllByRecursion (IsWantOrTooLong w.state.is_avc) answers
