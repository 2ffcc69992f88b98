-- Access units that are told to be whole, by the packets that they are made of (RFC 3550, 5.1; RFC
-- 6184, 5.1; RFC 7798, 4.1; RFC 9328, 4.1; ours).
use Rattle.std.specs.Prelude.{◌≡◌, ℕ, ◌+◌, ◌%◌, ◌<◌, ◌≤◌, ◌^◌, Bool, true, false, ◌||◌, ◌⊎◌, List, [], ◌∷◌, ◌++◌, length, map, take, drop, slice_index_or, Option, Some, None}
use Rattle.std.specs.List.{Contains}
use Rattle.h26x_core.specs.Sequence.{next_sequence_number, distance_ahead}
use Rattle.h26x_core.specs.declared.extra.CodecExtra.{CodecExtra}
use Rattle.h26x_core.specs.declared.extra.CodecExtra.TheVariants as extras
use Rattle.h26x_model.specs.Payload.Format.{Format}
use Rattle.h26x_model.specs.Payload.Reading.{Reading, Refused}
use Rattle.h26x_model.specs.Receive.DepacketizerState.{DepacketizerState, Depacketization, depacketization, after_packets}
use Rattle.h26x_model.specs.Receive.RunLimit.{state_with_run}
use Rattle.h26x_reorder.specs.Rtp.{RtpBody, rtp_body}
use Rattle.h26x_assembler.specs.AccessUnit.{is_run_closed}
use Rattle.h26x_assembler.specs.StampedCalls.{IsOtherStamp}
use Rattle.h26x_access_units.specs.declared.decoder.DecoderState.{DecoderState}
use Rattle.h26x_access_units.specs.Numbers.{bears_nothing}
use Rattle.h26x_access_units.specs.Framing.{begins_behind_slice, shown_by, bears_no_unit}
use Rattle.h26x_access_units.specs.Content.{content_of}
use Rattle.h26x_access_units.specs.Decoder.{is_front}
use Rattle.h26x_access_units.specs.ReceivedAccessUnit.{ReceivedAccessUnitValue}
use Rattle.h26x_access_units.specs.Reception.{Reception}
use Rattle.h26x_access_units.specs.Account.{ReceiverCall, BeginCall, RestartCall, Account, IsEachAccounted, AreHandedInOrder, kept_packets}

-- the numbers that were told to be those of a first packet
abbrev pub told_numbers : List ReceiverCall → List ℕ
told_numbers [] = []
told_numbers (BeginCall number ∷ before) = number ∷ told_numbers before
told_numbers (call ∷ before) = told_numbers before

-- the calls since the last `restart`
abbrev pub since_restart : List ReceiverCall → List ReceiverCall
since_restart [] = []
since_restart (RestartCall ∷ before) = []
since_restart (call ∷ before) = call ∷ since_restart before

-- whether a packet that reads so is refused, and bears nothing that is to be written
abbrev pub reads_no_unit : CodecExtra → List ℕ → Reading → Bool
reads_no_unit extra packet (Refused error) = bears_no_unit extra error packet
reads_no_unit extra packet reading = false

-- whether a packet of a format bears nothing that is to be written: it has no payload, or is refused so
abbrev pub has_no_text : Format → List ℕ → Bool
has_no_text f packet = bears_nothing packet || reads_no_unit (f.extra false) packet (f.read packet)

-- whether the first unit that a packet begins is one that begins an access unit behind a slice
abbrev pub begins_unit : Format → List ℕ → Bool
begins_unit f packet = begins_behind_slice (shown_by f packet).first

-- whether a packet bears something of a slice
abbrev pub bears_slice : Format → List ℕ → Bool
bears_slice f packet = (shown_by f packet).has_slice

-- Among these packets, the last one first, is one with something of a slice, of this timestamp; each
-- behind it has a number ahead of the one before, by half of the circle at most (RFC 3550, 5.1). The
-- number is the one behind them all.
pub data IsSliceBefore (f : Format) (timestamp : ℕ) : ℕ → List (ℕ × RtpBody) → Type 0 where
  slice_last : (p : ℕ × RtpBody) (before : List (ℕ × RtpBody)) → p.1.timestamp ≡ timestamp →
      bears_slice f p.1.payload ≡ true →
      IsSliceBefore f timestamp (next_sequence_number p.0) (p ∷ before)
  slice_earlier : {due : ℕ} {before : List (ℕ × RtpBody)} (p : ℕ × RtpBody) →
      IsSliceBefore f timestamp due before → distance_ahead due p.0 < 2 ^ 15 →
      IsSliceBefore f timestamp (next_sequence_number p.0) (p ∷ before)

-- A packet that was kept has the number behind these, and begins an access unit by its first unit,
-- behind a slice of the one with this timestamp (H.264, 7.4.1.2.3 and 7.4.1.2.4; H.265, 7.4.2.4.4;
-- H.266, 7.4.2.4.3).
pub record IsNextBegun (kept : List (ℕ × RtpBody)) (f : Format) (timestamp due : ℕ)
    (before : List (ℕ × RtpBody)) : Type 0 where
  pub next : ℕ × RtpBody
  pub is_kept : Contains kept next
  pub number : next.0 ≡ due
  pub begins : begins_unit f next.1.payload ≡ true
  pub slice : IsSliceBefore f timestamp due before

-- whether the last of packets bears the marker, or nothing that is to be written
abbrev pub is_last_marked : Format → List (ℕ × RtpBody) → Bool
is_last_marked f [] = false
is_last_marked f (p ∷ before) = p.1.marker || has_no_text f p.1.payload

-- what a depacketizer of this kind works on that has no open run and has written nothing
abbrev pub nothing_written : DepacketizerState → Depacketization
nothing_written r = depacketization (state_with_run r None) [] extras.None

-- The packets of an access unit, the last one first, each with the number right behind the one before;
-- others that bear nothing may stand among them and behind them. Those that bear something have its
-- timestamp; they begin with this one and end with that one. The number behind them all, and what a
-- depacketizer writes that takes them one after the other, with no open run at first.
pub data ArePacketsOf (r : DepacketizerState) (timestamp : ℕ) (first : ℕ × RtpBody) :
    ℕ × RtpBody → ℕ → List (ℕ × RtpBody) → Depacketization → Type 0 where
  first_one : first.1.timestamp ≡ timestamp → has_no_text r.format first.1.payload ≡ false →
      ArePacketsOf r timestamp first first (next_sequence_number first.0) (first ∷ [])
      (after_packets (nothing_written r) (first.1.payload ∷ []))
  next_one : {last : ℕ × RtpBody} {own : List (ℕ × RtpBody)} {w : Depacketization}
      (p : ℕ × RtpBody) → ArePacketsOf r timestamp first last p.0 own w →
      p.1.timestamp ≡ timestamp → has_no_text r.format p.1.payload ≡ false →
      ArePacketsOf r timestamp first p (next_sequence_number p.0) (p ∷ own)
      (after_packets w (p.1.payload ∷ []))
  bare_one : {last : ℕ × RtpBody} {own : List (ℕ × RtpBody)} {w : Depacketization}
      (p : ℕ × RtpBody) → ArePacketsOf r timestamp first last p.0 own w →
      has_no_text r.format p.1.payload ≡ true →
      ArePacketsOf r timestamp first last (next_sequence_number p.0) (p ∷ own) w

-- The number is right behind the last of these packets, the last one first, that bears something, and
-- that has this timestamp; others that bear nothing may stand between. Or it was told to be the first.
pub data IsRightBehind (told : List ℕ) (f : Format) : ℕ → Option ℕ → List (ℕ × RtpBody) → Type 0
  where
    behind_one : (p : ℕ × RtpBody) (before : List (ℕ × RtpBody)) →
        has_no_text f p.1.payload ≡ false →
        IsRightBehind told f (next_sequence_number p.0) (Some p.1.timestamp) (p ∷ before)
    behind_bare : {stamp : Option ℕ} {before : List (ℕ × RtpBody)} (p : ℕ × RtpBody) →
        IsRightBehind told f p.0 stamp before → has_no_text f p.1.payload ≡ true →
        IsRightBehind told f (next_sequence_number p.0) stamp (p ∷ before)
    as_told : (number : ℕ) (before : List (ℕ × RtpBody)) → Contains told number →
        IsRightBehind told f number None before

-- another access unit of this timestamp ended with these packets: by a marker, or by a packet that was
-- kept and begins another one
abbrev pub IsClosedBefore : List (ℕ × RtpBody) → Format → ℕ → ℕ → List (ℕ × RtpBody) → Type 0
IsClosedBefore kept f timestamp due before = (is_last_marked f before ≡ true)
    ⊎ IsNextBegun kept f timestamp due before

-- An access unit begins with a packet right behind these: another one ended before it, of another
-- timestamp, or of its own, where it begins by its units; or its number was told to be the first.
pub record IsBegunInOrder (told : List ℕ) (kept : List (ℕ × RtpBody)) (f : Format) (timestamp : ℕ)
    (first : ℕ × RtpBody) (before : List (ℕ × RtpBody)) : Type 0 where
  pub stamp : Option ℕ
  pub right_behind : IsRightBehind told f first.0 stamp before
  pub other : IsOtherStamp stamp timestamp ⊎ ((begins_unit f first.1.payload ≡ true)
      × IsClosedBefore kept f timestamp first.0 before)

-- its first unit stands at the front of an access unit, by what is known of a decoder
pub record IsBegunByContent (is_avc : Bool) (unit : ReceivedAccessUnitValue) : Type 0 where
  pub decoder : DecoderState
  pub front : is_front decoder unit.extra (content_of is_avc unit.extra unit.bytes).first ≡ true

-- How an access unit of packets ended, the last one first, with those before it: the last one has its
-- timestamp and bears the marker; or one that was kept has the number right behind them, and another
-- timestamp, or it begins another access unit behind a slice.
pub data IsUnitEnded (kept : List (ℕ × RtpBody)) (f : Format) (timestamp : ℕ) :
    ℕ → List (ℕ × RtpBody) → List (ℕ × RtpBody) → Type 0 where
  by_marker : (due : ℕ) (p : ℕ × RtpBody) (own before : List (ℕ × RtpBody)) →
      p.1.marker ≡ true → p.1.timestamp ≡ timestamp →
      IsUnitEnded kept f timestamp due (p ∷ own) before
  by_timestamp : (q : ℕ × RtpBody) (own before : List (ℕ × RtpBody)) → Contains kept q →
      (q.1.timestamp ≡ timestamp → ⊥) → IsUnitEnded kept f timestamp q.0 own before
  by_content : (due : ℕ) (own before : List (ℕ × RtpBody)) →
      IsNextBegun kept f timestamp due (own ++ before) →
      IsUnitEnded kept f timestamp due own before

-- Of packets that were handed on, the last one first, an access unit has those between where it began
-- and where it ended, and each: its bytes are all that a depacketizer writes of them.
pub record IsOfWholePackets (told : List ℕ) (kept handed : List (ℕ × RtpBody))
    (r : DepacketizerState) (unit : ReceivedAccessUnitValue) : Type 0 where
  pub later : List (ℕ × RtpBody)
  pub own : List (ℕ × RtpBody)
  pub before : List (ℕ × RtpBody)
  pub first : ℕ × RtpBody
  pub last : ℕ × RtpBody
  pub due : ℕ
  pub written : Depacketization
  pub place : handed ≡ later ++ (own ++ before)
  pub packets : ArePacketsOf r unit.timestamp first last due own written
  pub bytes : written.out ≡ unit.bytes
  pub extra : written.extra ≡ unit.extra
  pub closed : is_run_closed written.state.run ≡ true
  pub first_is : first.0 ≡ unit.first
  pub last_is : last.0 ≡ unit.last
  pub begun : IsBegunInOrder told kept r.format unit.timestamp first before
      ⊎ IsBegunByContent r.is_avc unit
  pub ended : IsUnitEnded kept r.format unit.timestamp due own before

-- so of one that a receiver gave out by these calls, by what became of their packets
pub record IsToldWhole (state : DepacketizerState) (calls : List ReceiverCall) (s : Reception)
    (unit : ReceivedAccessUnitValue) : Type 0 where
  pub account : Account
  pub each : IsEachAccounted calls s account
  pub order : AreHandedInOrder calls s account
  pub whole : IsOfWholePackets (told_numbers calls) (kept_packets calls)
      (account.handed ++ account.earlier) state unit

-- the packet at a place of those that a sender sent
abbrev pub sent_at : List RtpBody → ℕ → RtpBody
sent_at sent place = slice_index_or sent place (rtp_body 0 false [])

-- the sequence number of a place: they are numbered on from a first one
abbrev pub sent_number : ℕ → ℕ → ℕ
sent_number first place = (first + place) % 2 ^ 16

-- the payloads of so many packets from a place on
abbrev pub sent_payloads : List RtpBody → ℕ → ℕ → List (List ℕ)
sent_payloads sent place count = map (λ p. p.payload) (take count (drop place sent))

-- a packet is one of those sent, at a place
pub record IsSentAt (sent : List RtpBody) (first : ℕ) (p : ℕ × RtpBody) : Type 0 where
  pub place : ℕ
  pub within : place < length sent
  pub number : p.0 ≡ sent_number first place
  pub body : p.1 ≡ sent_at sent place

-- an access unit begins at a place: the packet before it, if there is one, has another timestamp
abbrev pub IsUnitFront : List RtpBody → ℕ → Type 0
IsUnitFront sent place = (before : ℕ) → place ≡ before + 1 →
    (sent_at sent before).timestamp ≡ (sent_at sent place).timestamp → ⊥

-- a number is that of a place at which an access unit begins
pub record IsFrontNumber (sent : List RtpBody) (first number : ℕ) : Type 0 where
  pub place : ℕ
  pub within : place < length sent
  pub number_is : number ≡ sent_number first place
  pub front : IsUnitFront sent place

-- from no place on within an access unit packets of it are taken for the front of one
abbrev pub IsFrontNowhere : DepacketizerState → List RtpBody → Type 0
IsFrontNowhere r sent = (place count : ℕ) (decoder : DecoderState) → place + count ≤ length sent →
    (IsUnitFront sent place → ⊥) → ((k : ℕ) → k < count →
    (sent_at sent (place + k)).timestamp ≡ (sent_at sent place).timestamp) →
    is_front decoder (after_packets (nothing_written r) (sent_payloads sent place count)).extra
    (content_of r.is_avc (after_packets (nothing_written r) (sent_payloads sent place count)).extra
    (after_packets (nothing_written r) (sent_payloads sent place count)).out).first ≡ false

-- What a sender sends whose access units are told apart, however much it is: each packet bears
-- something. The packets of an access unit have its timestamp, and neighbours another one; only its
-- last bears the marker. None of them begins another one behind a slice of it, and what is taken for
-- the front of an access unit stands only there.
pub record IsSender (r : DepacketizerState) (sent : List RtpBody) : Type 0 where
  pub texts : (place : ℕ) → place < length sent →
      has_no_text r.format (sent_at sent place).payload ≡ false
  pub marked : (place : ℕ) → (sent_at sent place).marker ≡ true → place + 1 < length sent →
      (sent_at sent (place + 1)).timestamp ≡ (sent_at sent place).timestamp → ⊥
  pub begins : (earlier place : ℕ) → earlier < place → place < length sent →
      (sent_at sent earlier).timestamp ≡ (sent_at sent place).timestamp →
      bears_slice r.format (sent_at sent earlier).payload ≡ true →
      begins_unit r.format (sent_at sent place).payload ≡ false
  pub fronts : IsFrontNowhere r sent

-- all that came to a receiver is of that sender, by the numbers from a first one on, of which are used
-- half at most
pub record CameFromSender (told : List ℕ) (kept : List (ℕ × RtpBody)) (r : DepacketizerState)
    (sent : List RtpBody) (first : ℕ) : Type 0 where
  pub sender : IsSender r sent
  pub few : length sent ≤ 2 ^ 15
  pub packets : (p : ℕ × RtpBody) → Contains kept p → IsSentAt sent first p
  pub fronts : (number : ℕ) → Contains told number → IsFrontNumber sent first number

-- the bytes of an access unit are what a depacketizer writes that takes these packets one after the
-- other, and so is what is told of its codec
pub record IsWrittenOf (r : DepacketizerState) (packets : List (List ℕ))
    (unit : ReceivedAccessUnitValue) : Type 0 where
  pub bytes : (after_packets (nothing_written r) packets).out ≡ unit.bytes
  pub extra : (after_packets (nothing_written r) packets).extra ≡ unit.extra

-- An access unit is one that was sent: from a place on so many packets, all that have its timestamp one
-- behind the other, and its bytes are of all of them.
pub record WasSent (r : DepacketizerState) (sent : List RtpBody) (first : ℕ)
    (unit : ReceivedAccessUnitValue) : Type 0 where
  pub place : ℕ
  pub count : ℕ
  pub some : 0 < count
  pub within : place + count ≤ length sent
  pub first_is : unit.first ≡ sent_number first place
  pub stamps : (k : ℕ) → k < count → (sent_at sent (place + k)).timestamp ≡ unit.timestamp
  pub front : IsUnitFront sent place
  pub back : place + count < length sent →
      (sent_at sent (place + count)).timestamp ≡ unit.timestamp → ⊥
  pub written : IsWrittenOf r (sent_payloads sent place count) unit
