-- Access units all of whose packets a receiver takes (RFC 3550, 5.1; RFC 6184, 5.1; RFC 7798, 4.1; RFC
-- 9328, 4.1; ours).
use Rattle.std.specs.Prelude.{◌≡◌, ℕ, zero, suc, ◌+◌, ◌≤◌, ◌<◌, ◌^◌, nat_lt, Bool, true, false, ◌&&◌, if◌then◌else◌, List, [], ◌∷◌, ◌++◌, length, Option, Some, None, Result, Ok, Err, MatchBool, ◌⊎◌}
use Rattle.std.specs.List.{Contains}
use Rattle.std.proofs.Common.{inl, inr}
use Rattle.h26x_core.specs.declared.error.PacketError.{PacketError}
use Rattle.h26x_model.specs.Receive.DepacketizerState.{DepacketizerState, Depacketization, after_packets}
use Rattle.h26x_model.specs.Receive.RunLimit.{run_len}
use Rattle.h26x_receiver.specs.declared.received.Received.{Received}
use Rattle.h26x_reorder.specs.Rtp.{RtpBody}
use Rattle.h26x_assembler.specs.AccessUnit.{is_run_closed, is_unit_broken}
use Rattle.h26x_assembler.specs.StampedCalls.{IsOtherStamp}
use Rattle.h26x_access_units.specs.declared.config.AccessUnitConfig.{AccessUnitConfig}
use Rattle.h26x_access_units.specs.declared.decoder.DecoderState.{DecoderState}
use Rattle.h26x_access_units.specs.Content.{content_of}
use Rattle.h26x_access_units.specs.Decoder.{fresh_decoder, is_front}
use Rattle.h26x_access_units.specs.JitterBuffer.{may_tell_first}
use Rattle.h26x_access_units.specs.Numbers.{bears_nothing}
use Rattle.h26x_access_units.specs.ReceivedAccessUnit.{ReceivedAccessUnitValue}
use Rattle.h26x_access_units.specs.Reception.{Reception, has_no_unit, is_one_taken, is_taken_at_once, after_reception, without_bare, IsDueTaken, IsDrained, none, bare, more, behind, IsDrainedInPart}
use Rattle.h26x_access_units.specs.Account.{ReceiverCall, PushCall, BackCall, NextCall, LackCall, FinishCall, RestartCall, SettingsCall, BeginCall, IsCall, AreReceiverCalls, no_call, one_call}
use Rattle.h26x_access_units.specs.WholeSent.{bears_slice, nothing_written, sent_at, sent_number, sent_payloads, IsSentAt, IsUnitFront, IsFrontNumber, IsWrittenOf}

-- What a receiver does by its calls: it takes a packet; it passes over one that is refused, late or
-- empty; the access unit that is open ends before a packet that begins another one; it ends with the
-- stream; the number of the first packet is told; or all is dropped.
pub data Deed : Type 0 where
  TookPacket : (packet : ℕ × RtpBody) → Deed
  PassedPacket : (packet : ℕ × RtpBody) → Deed
  EndedBefore : (packet : ℕ × RtpBody) → Deed
  EndedStream : Deed
  ToldFirst : (number : ℕ) → Deed
  DroppedAll : Deed

-- what it does with a packet that is due, by its answer
abbrev pub packet_deed : ℕ × RtpBody → Result Received PacketError → Deed
packet_deed p (Ok answer) = if is_one_taken p answer then TookPacket p else PassedPacket p
packet_deed p (Err error) = PassedPacket p

-- so with those that are due, one after the other, the last one first
abbrev pub drained_deeds : {now : ℕ} {s new : Reception} → IsDrained now s new → List Deed
drained_deeds none = []
drained_deeds (bare before) = drained_deeds before
drained_deeds (more before empty it) = packet_deed it.packet it.answer ∷ drained_deeds before
drained_deeds (behind before empty it) = EndedBefore it.packet ∷ drained_deeds before

-- where the stream ends, by this or since it has begun anew, once none is left that ended
abbrev pub stream_deeds : Reception → Bool → List Deed
stream_deeds s ends = if has_no_unit s.assembler.ended && ends then EndedStream ∷ [] else []

-- with a packet that comes, where it is taken at once
abbrev pub push_deeds : (now : ℕ) (s new : Reception) (at_once : Bool) →
    MatchBool at_once (IsDueTaken now s new) (new ≡ s) → List Deed
push_deeds now s new true it = packet_deed it.packet it.answer ∷ []
push_deeds now s new false same = []

-- where memory lacked for the next access unit
abbrev pub lack_deeds : (now : ℕ) (s new : Reception) → IsDrainedInPart now s new → List Deed
lack_deeds now s new (inl same) = []
lack_deeds now s new (inr taken) = drained_deeds taken
    ++ stream_deeds (without_bare s) (without_bare s).is_anew

-- by one call, the last one first
abbrev pub call_deeds : (call : ReceiverCall) (s new : Reception) → IsCall call s new → List Deed
call_deeds (PushCall now p answer) s new it =
    push_deeds now (after_reception now s p answer) new (is_taken_at_once s p) it.3
call_deeds (BackCall p reason) s new it = []
call_deeds (NextCall now unit) s new it = stream_deeds it.drained it.drained.waiting.is_over
    ++ (drained_deeds it.taken ++ stream_deeds (without_bare s) (without_bare s).is_anew)
call_deeds (LackCall now) s new it = lack_deeds now s new it
call_deeds FinishCall s new it = []
call_deeds RestartCall s new it = DroppedAll ∷ []
call_deeds (SettingsCall config) s new it = []
call_deeds (BeginCall number) s new it =
    if may_tell_first s.waiting then ToldFirst number ∷ [] else []

-- by all calls, the last one first
abbrev pub all_deeds : {s new : Reception} {calls : List ReceiverCall} → AreReceiverCalls s calls new →
    List Deed
all_deeds no_call = []
all_deeds (one_call {call = call} {t = t} {new = new} others it) =
    call_deeds call t new it ++ all_deeds others

-- whether nothing was done since a stream began
abbrev pub is_stream_new : List Deed → Bool
is_stream_new [] = true
is_stream_new (EndedStream ∷ before) = true
is_stream_new (DroppedAll ∷ before) = true
is_stream_new (deed ∷ before) = false

-- whether each number since all was dropped was told of a stream that begins
abbrev pub are_told_first : List Deed → Bool
are_told_first [] = true
are_told_first (DroppedAll ∷ before) = true
are_told_first (ToldFirst number ∷ before) = is_stream_new before && are_told_first before
are_told_first (deed ∷ before) = are_told_first before

-- whether no packet was taken since the receiver was made, or since all was dropped
abbrev pub took_none : List Deed → Bool
took_none [] = true
took_none (DroppedAll ∷ before) = true
took_none (TookPacket p ∷ before) = false
took_none (deed ∷ before) = took_none before

-- the timestamp of the access unit that may be open: that of the packet taken last, where none ended
-- behind it
abbrev pub open_stamp : List Deed → Option ℕ
open_stamp [] = None
open_stamp (TookPacket p ∷ before) = Some p.1.timestamp
open_stamp (PassedPacket p ∷ before) = open_stamp before
open_stamp (ToldFirst number ∷ before) = open_stamp before
open_stamp (deed ∷ before) = None

-- A packet of a place comes in time where a place is due: fewer places ahead of that than half of the
-- numbers, or half of them at most behind it (RFC 3550, 5.1).
abbrev pub IsInTime : Option ℕ → ℕ → Type 0
IsInTime None place = Unit {0}
IsInTime (Some due) place = (place < due + 2 ^ 15) × (due ≤ place + 2 ^ 15)

-- the place that is due behind a packet that was taken: behind the furthest
abbrev pub due_taken : Option ℕ → ℕ → ℕ
due_taken None place = place + 1
due_taken (Some due) place = if nat_lt place due then due else place + 1

-- so behind one that was passed over, where one was taken before
abbrev pub due_passed : Option ℕ → ℕ → Option ℕ
due_passed None place = None
due_passed (Some due) place = Some (due_taken (Some due) place)

-- What was done since all was dropped is of a sender: each packet is one that was sent, and came in
-- time; and a number is told only of a stream that begins, of which so much is known, and of the place
-- that is due then. The place is the one behind the furthest packet since one was taken, in this
-- stream.
pub data AreOfSenderBy (Told : ℕ → Option ℕ → Type 0) (sent : List RtpBody) (first : ℕ) :
    Option ℕ → List Deed → Type 0 where
  none_done : AreOfSenderBy Told sent first None []
  took_packet : {due : Option ℕ} {before : List Deed} (p : ℕ × RtpBody)
      (at : IsSentAt sent first p) → IsInTime due at.place →
      AreOfSenderBy Told sent first due before →
      AreOfSenderBy Told sent first (Some (due_taken due at.place)) (TookPacket p ∷ before)
  passed_packet : {due : Option ℕ} {before : List Deed} (p : ℕ × RtpBody)
      (at : IsSentAt sent first p) → IsInTime due at.place →
      AreOfSenderBy Told sent first due before →
      AreOfSenderBy Told sent first (due_passed due at.place) (PassedPacket p ∷ before)
  ended_before_packet : {due : Option ℕ} {before : List Deed} (p : ℕ × RtpBody)
      (at : IsSentAt sent first p) → IsInTime due at.place →
      AreOfSenderBy Told sent first due before →
      AreOfSenderBy Told sent first None (EndedBefore p ∷ before)
  ended_its_stream : {due : Option ℕ} {before : List Deed} →
      AreOfSenderBy Told sent first due before →
      AreOfSenderBy Told sent first None (EndedStream ∷ before)
  told_its_first : {due : Option ℕ} {before : List Deed} (number : ℕ) → Told number due →
      is_stream_new before ≡ true →
      AreOfSenderBy Told sent first None before →
      AreOfSenderBy Told sent first due (ToldFirst number ∷ before)
  dropped_before : (before : List Deed) → AreOfSenderBy Told sent first None (DroppedAll ∷ before)

-- so it is where any number may be told: no place is due then
abbrev pub AreOfSender : List RtpBody → ℕ → Option ℕ → List Deed → Type 0
AreOfSender sent first due deeds = AreOfSenderBy (λ number place. place ≡ None) sent first due deeds

-- a number is that of a place at which an access unit begins, and that is due
pub record IsFrontDue (sent : List RtpBody) (first number : ℕ) (due : Option ℕ) : Type 0 where
  pub front : IsFrontNumber sent first number
  pub due_is : due ≡ Some front.place

-- so it is where each number that is told is that of such a place
abbrev pub AreOfSenderAtFronts : List RtpBody → ℕ → Option ℕ → List Deed → Type 0
AreOfSenderAtFronts sent first due deeds =
    AreOfSenderBy (IsFrontDue sent first) sent first due deeds

-- a packet was taken, that of this place
abbrev pub took_place : List RtpBody → ℕ → ℕ → Deed
took_place sent first place = TookPacket (sent_number first place, sent_at sent place)

-- so many from a place on, one right behind the other, and nothing else between
abbrev pub took_places : List RtpBody → ℕ → ℕ → ℕ → List Deed
took_places sent first place zero = []
took_places sent first place (suc count) = took_place sent first (place + count)
    ∷ took_places sent first place count

-- what a depacketizer has written of so many packets from a place on, with no open run at first
abbrev pub sent_text : DepacketizerState → List RtpBody → ℕ → ℕ → Depacketization
sent_text r sent place count = after_packets (nothing_written r) (sent_payloads sent place count)

-- the settings that were set, the last ones first
abbrev pub settings_set : List ReceiverCall → List AccessUnitConfig
settings_set [] = []
settings_set (SettingsCall config ∷ before) = config ∷ settings_set before
settings_set (call ∷ before) = settings_set before

-- the access units that were given out, the last one first
abbrev pub units_given : List ReceiverCall → List ReceivedAccessUnitValue
units_given [] = []
units_given (NextCall now (Some unit) ∷ before) = unit ∷ units_given before
units_given (call ∷ before) = units_given before

-- So many packets from a place on are an access unit of a sender: all of a timestamp, side by side.
pub record IsUnitSent (sent : List RtpBody) (place count : ℕ) : Type 0 where
  pub some : 0 < count
  pub within : place + count ≤ length sent
  pub stamps : (k : ℕ) → k < count →
      (sent_at sent (place + k)).timestamp ≡ (sent_at sent place).timestamp
  pub front : IsUnitFront sent place
  pub back : place + count < length sent →
      (sent_at sent (place + count)).timestamp ≡ (sent_at sent place).timestamp → ⊥

-- What was done before the first packet of an access unit was taken, by which it is known to be the
-- first: the packet at the place before was taken right before it; or its number was told; or its first
-- unit, by what is written of it, stands at a front whatever came before, where none is open of its
-- timestamp; or at the front of the first access unit, where none was taken before.
pub data IsBegunSo (r : DepacketizerState) (sent : List RtpBody) (first place : ℕ)
    (w : Depacketization) : List Deed → Type 0 where
  behind_packet : (k : ℕ) (before : List Deed) → place ≡ k + 1 →
      IsBegunSo r sent first place w (took_place sent first k ∷ before)
  as_first_told : (before : List Deed) →
      IsBegunSo r sent first place w (ToldFirst (sent_number first place) ∷ before)
  by_front : (before : List Deed) → IsOtherStamp (open_stamp before) (sent_at sent place).timestamp →
      ((d : DecoderState) → is_front d w.extra (content_of r.is_avc w.extra w.out).first ≡ true) →
      IsBegunSo r sent first place w before
  by_first_front : (before : List Deed) → took_none before ≡ true →
      is_front fresh_decoder w.extra (content_of r.is_avc w.extra w.out).first ≡ true →
      IsBegunSo r sent first place w before

-- What was done behind the last one, by which the access unit ends: nothing, where that bears the
-- marker, and one of them something of a slice; or the packet at the place behind it was taken.
pub data IsEndedSo (r : DepacketizerState) (sent : List RtpBody) (first place count : ℕ)
    (later : List Deed) : Type 0 where
  by_own_marker : (last k : ℕ) → count ≡ last + 1 →
      (sent_at sent (place + last)).marker ≡ true → k < count →
      bears_slice r.format (sent_at sent (place + k)).payload ≡ true →
      IsEndedSo r sent first place count later
  by_next : (since : List Deed) → later ≡ since ++ took_place sent first (place + count) ∷ [] →
      place + count < length sent → IsEndedSo r sent first place count later

-- All packets of an access unit were taken, one right behind the other, from its beginning to its end;
-- and all was not dropped since.
pub record WereAllTaken (r : DepacketizerState) (sent : List RtpBody) (first place count : ℕ)
    (deeds : List Deed) : Type 0 where
  pub later : List Deed
  pub before : List Deed
  pub split : deeds ≡ later ++ (took_places sent first place count ++ before)
  pub begun : IsBegunSo r sent first place (sent_text r sent place count) before
  pub ended : IsEndedSo r sent first place count later
  pub stays : Contains later DroppedAll → ⊥

-- So many packets of a sender were taken from a place on, one right behind the other, all was not
-- dropped since, and an access unit is among them that has ended: packets behind it too were taken, or
-- it ended by what was done since, or by itself. Where it is the first of them it is known to be by
-- what was done before.
pub record WereTakenWithoutLoss (r : DepacketizerState) (sent : List RtpBody)
    (first place count : ℕ) (deeds : List Deed) : Type 0 where
  pub start : ℕ
  pub taken : ℕ
  pub later : List Deed
  pub before : List Deed
  pub deeds_are : deeds ≡ later ++ (took_places sent first start taken ++ before)
  pub few : start + taken ≤ length sent
  pub behind : start ≤ place
  pub within : place + count ≤ start + taken
  pub begun : place ≡ start → IsBegunSo r sent first place (sent_text r sent place count) before
  pub ended : (place + count < start + taken) ⊎ IsEndedSo r sent first place count later
  pub stays : Contains later DroppedAll → ⊥

-- A depacketizer can write an access unit: what it writes has a byte, no packet gives up the run that
-- is open or brings no byte, and none is open at the end; behind each packet run and text are within
-- the limits of all settings.
pub record CanBeWritten (r : DepacketizerState) (sent : List RtpBody) (place count : ℕ)
    (settings : List AccessUnitConfig) : Type 0 where
  pub some : bears_nothing (sent_text r sent place count).out ≡ false
  pub units : (k : ℕ) → k < count → is_unit_broken (sent_text r sent place k)
      (sent_text r sent place (k + 1)) (sent_at sent (place + k)).payload ≡ false
  pub closed : is_run_closed (sent_text r sent place count).state.run ≡ true
  pub within : (config : AccessUnitConfig) → Contains settings config → (k : ℕ) → k ≤ count →
      (run_len (sent_text r sent place k).state.run ≤ config.run_limit)
      × (length (sent_text r sent place k).out ≤ config.unit_limit)

-- By these calls the access unit was given out, and told whole: byte for byte what a depacketizer
-- writes of all its packets.
pub record WasToldWhole (r : DepacketizerState) (sent : List RtpBody) (first place count : ℕ)
    (calls : List ReceiverCall) : Type 0 where
  pub unit : ReceivedAccessUnitValue
  pub given : Contains (units_given calls) unit
  pub is_whole : unit.is_whole ≡ true
  pub timestamp : unit.timestamp ≡ (sent_at sent place).timestamp
  pub first_is : unit.first ≡ sent_number first place
  pub written : IsWrittenOf r (sent_payloads sent place count) unit
