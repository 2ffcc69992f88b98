-- What becomes of the packets that are given to a receiver, by the whole list of calls (RFC 3550,
-- 5.1, A.1; ours).
use Rattle.std.specs.Prelude.{◌≡◌, ℕ, ◌+◌, ◌≤◌, ◌<◌, ◌^◌, Bool, true, false, if◌then◌else◌, List, [], ◌∷◌, ◌++◌, length, Option, Some, None, Result, Err, IsPermutation}
use Rattle.std.specs.List.{list_any}
use Rattle.h26x_core.specs.declared.error.PacketError.{PacketError}
use Rattle.h26x_core.specs.declared.error.PacketError.TheVariants.{OutOfMemory}
use Rattle.h26x_model.specs.Receive.DepacketizerState.{DepacketizerState}
use Rattle.h26x_receiver.specs.declared.received.Received.{Received}
use Rattle.h26x_assembler.specs.AccessUnit.{AccessUnitValue, Assembly, none_open, open_assembly, after_ending, after_finishing}
use Rattle.h26x_core.specs.Sequence.{next_sequence_number, distance_ahead}
use Rattle.h26x_reorder.specs.Rtp.{RtpBody}
use Rattle.h26x_reorder.specs.ReorderBuffer.{IsHeldInOrder}
use Rattle.h26x_access_units.specs.declared.config.AccessUnitConfig.{AccessUnitConfig}
use Rattle.h26x_access_units.specs.declared.counts.Counts.{Counts}
use Rattle.h26x_access_units.specs.declared.framing.Framing.{Framing}
use Rattle.h26x_access_units.specs.declared.pushed.Pushed.{Pushed}
use Rattle.h26x_access_units.specs.declared.pushed.Pushed.TheVariants as pushes
use Rattle.h26x_access_units.specs.declared.pushed.NotPushedReason.{NotPushedReason}
use Rattle.h26x_access_units.specs.declared.pushed.NotPushedReason.TheVariants as reasons
use Rattle.h26x_access_units.specs.Numbers.{bears_nothing}
use Rattle.h26x_access_units.specs.Pushed.{is_kept, IsNotPushedReason}
use Rattle.h26x_access_units.specs.ReceivedAccessUnit.{ReceivedAccessUnitValue}
use Rattle.h26x_access_units.specs.Reception.{Reception, IsAnswerTo, begun_for, believed, assembly_after, marker_forgotten, is_behind_missing, ends_before, reception_answer, refused_reception, ended_reception, restarted, with_settings, begun_reception, IsPushed, IsNext, IsDrainedInPart}

-- a call of a receiver, with its tick and what it answered: `push`; `push_held` whose packet came
-- back; `next`; `next` for which memory lacked; `finish`; `restart`; `set_config`; `begin_at`
pub data ReceiverCall : Type 0 where
  PushCall : (now : ℕ) (packet : ℕ × RtpBody) (answer : Pushed) → ReceiverCall
  BackCall : (packet : ℕ × RtpBody) (reason : NotPushedReason) → ReceiverCall
  NextCall : (now : ℕ) (unit : Option ReceivedAccessUnitValue) → ReceiverCall
  LackCall : (now : ℕ) → ReceiverCall
  FinishCall : ReceiverCall
  RestartCall : ReceiverCall
  SettingsCall : (config : AccessUnitConfig) → ReceiverCall
  BeginCall : (number : ℕ) → ReceiverCall

-- what a call makes of a receiver
abbrev pub IsCall : ReceiverCall → Reception → Reception → Type 0
IsCall (PushCall now p answer) s new = (p.0 < 2 ^ 16) × (length p.1.payload < 2 ^ 64)
    × (answer ≡ reception_answer s p) × IsPushed now s p answer new
IsCall (BackCall p reason) s new = IsNotPushedReason (reception_answer s p) reason
    × (new ≡ refused_reception s reason)
IsCall (NextCall now unit) s new = IsNext now s new unit
IsCall (LackCall now) s new = IsDrainedInPart now s new
IsCall FinishCall s new = new ≡ ended_reception s
IsCall RestartCall s new = new ≡ restarted s
IsCall (SettingsCall config) s new = new ≡ with_settings config s
IsCall (BeginCall number) s new = (number < 2 ^ 16) × (new ≡ begun_reception number s)

-- what calls make of it, any whatever, the last one first
pub data AreReceiverCalls (s : Reception) : List ReceiverCall → Reception → Type 0 where
  no_call : AreReceiverCalls s [] s
  one_call : {call : ReceiverCall} {before : List ReceiverCall} {t new : Reception} →
      AreReceiverCalls s before t → IsCall call t new → AreReceiverCalls s (call ∷ before) new

-- the packets that were pushed and not told Late, Twice or Full, the last one first
abbrev pub kept_packets : List ReceiverCall → List (ℕ × RtpBody)
kept_packets [] = []
kept_packets (PushCall now p answer ∷ before) =
    if is_kept answer then p ∷ kept_packets before else kept_packets before
kept_packets (call ∷ before) = kept_packets before

-- those of them that were told to wait alone
abbrev pub stray_packets : List ReceiverCall → List (ℕ × RtpBody)
stray_packets [] = []
stray_packets (PushCall now p pushes.Stray ∷ before) = p ∷ stray_packets before
stray_packets (call ∷ before) = stray_packets before

-- whether by a call all that waits is dropped: the stream begins anew, or by `restart`
abbrev pub drops_all : ReceiverCall → Bool
drops_all (PushCall now p pushes.Anew) = true
drops_all RestartCall = true
drops_all call = false

-- whether packets that were kept may be dropped by a call or since: one waits alone, and it or
-- those that wait may be left for the others, or `restart` drops all
abbrev pub may_drop : ReceiverCall → Bool
may_drop (PushCall now p pushes.Stray) = true
may_drop RestartCall = true
may_drop call = false

-- whether a stream ends by a call: its numbers begin anew
abbrev pub ends_stream : ReceiverCall → Bool
ends_stream (PushCall now p pushes.Anew) = true
ends_stream FinishCall = true
ends_stream RestartCall = true
ends_stream call = false

-- whether a call tells that a packet is late
abbrev pub tells_late : ReceiverCall → Bool
tells_late (PushCall now p (pushes.Late n)) = true
tells_late (BackCall p (reasons.Late n)) = true
tells_late call = false

-- that it came twice
abbrev pub tells_twice : ReceiverCall → Bool
tells_twice (PushCall now p pushes.Twice) = true
tells_twice (BackCall p reasons.Twice) = true
tells_twice call = false

-- that it waits alone
abbrev pub tells_stray : ReceiverCall → Bool
tells_stray (PushCall now p pushes.Stray) = true
tells_stray call = false

-- that the stream begins anew with it
abbrev pub tells_anew : ReceiverCall → Bool
tells_anew (PushCall now p pushes.Anew) = true
tells_anew call = false

-- how many calls pass a test
abbrev pub call_count : (ReceiverCall → Bool) → List ReceiverCall → ℕ
call_count test [] = 0
call_count test (call ∷ before) =
    if test call then call_count test before + 1 else call_count test before

-- What became of the packets that were kept, the last one first: those of the stream that were
-- handed to the assembler of access units, those of so many streams before, and those that were
-- dropped.
pub record Account : Type 0 where
  pub handed : List (ℕ × RtpBody)
  pub earlier : List (ℕ × RtpBody)
  pub streams : ℕ
  pub dropped : List (ℕ × RtpBody)

-- none was kept
abbrev pub no_account : Account
no_account = record { handed = []; earlier = []; streams = 0; dropped = [] }

-- the packet that waits alone, if one does
abbrev pub packet_alone : Option (ℕ × RtpBody) → List (ℕ × RtpBody)
packet_alone None = []
packet_alone (Some stray) = stray ∷ []

-- Those dropped, the packet that waits alone, and others that joined those that wait were told to
-- wait alone, each once.
pub record AreDroppedStrays (told dropped : List (ℕ × RtpBody)) (stray : Option (ℕ × RtpBody)) : Type 0
  where
    pub joined : List (ℕ × RtpBody)
    pub each_once : IsPermutation told (joined ++ (dropped ++ packet_alone stray))

-- Each packet that was kept was handed on, waits, or was dropped, and none twice; none is dropped
-- where no call drops one, and where none drops all those dropped are strays.
pub record IsEachAccounted (calls : List ReceiverCall) (s : Reception) (a : Account) : Type 0 where
  pub exact : IsPermutation (kept_packets calls) ((a.dropped ++ packet_alone s.stray)
      ++ ((a.handed ++ a.earlier) ++ s.waiting.buffer.held))
  pub none_dropped : list_any may_drop calls ≡ false → a.dropped ++ packet_alone s.stray ≡ []
  pub strays : list_any drops_all calls ≡ false →
      AreDroppedStrays (stray_packets calls) a.dropped s.stray

-- packets, the last one first, each with a number ahead of the one before, by half of the circle at
-- most (RFC 3550, 5.1)
abbrev pub AreInTurnBack : List (ℕ × RtpBody) → Type 0
AreInTurnBack [] = Unit {0}
AreInTurnBack (p ∷ []) = Unit {0}
AreInTurnBack (p ∷ q ∷ before) = (distance_ahead (next_sequence_number q.0) p.0 < 2 ^ 15)
    × AreInTurnBack (q ∷ before)

-- so it is of so many streams, one after the other
pub data AreStreams : ℕ → List (ℕ × RtpBody) → Type 0 where
  no_stream : AreStreams 0 []
  one_stream : (n : ℕ) (stream before : List (ℕ × RtpBody)) → AreStreams n before →
      AreInTurnBack stream → AreStreams (n + 1) (stream ++ before)

-- the number that is due is the one behind the last packet that was handed on
abbrev pub IsDueBehind : Option ℕ → List (ℕ × RtpBody) → Type 0
IsDueBehind due [] = Unit {0}
IsDueBehind due (p ∷ before) = due ≡ Some (next_sequence_number p.0)

-- Packets are handed on in the order of their numbers, in as many streams as end; those that wait
-- are in order too, and ahead of the last.
pub record AreHandedInOrder (calls : List ReceiverCall) (s : Reception) (a : Account) : Type 0 where
  pub turn : AreInTurnBack a.handed
  pub before : AreStreams a.streams a.earlier
  pub few : a.streams ≤ call_count ends_stream calls
  pub due : IsDueBehind s.waiting.buffer.due a.handed
  pub waits : IsHeldInOrder s.waiting.buffer.due s.waiting.buffer.held

-- What an assembler of access units is that took these packets, the last one first: it is new,
-- with this depacketizer; a packet was answered so, with its marker where that is believed; the
-- access unit that is open ended before a packet that begins another, or with its stream; the
-- number of the first packet was told; or all was dropped that had not been given out.
pub data IsAssemblerOf (state : DepacketizerState) : List (ℕ × RtpBody) → Assembly → Type 0 where
  new_assembler : IsAssemblerOf state [] (open_assembly state None none_open [])
  one_taken : (most limit : ℕ) (framing : Framing) (p : ℕ × RtpBody)
      (answer : Result Received PacketError) (before : List (ℕ × RtpBody)) (a : Assembly) →
      IsAssemblerOf state before a → IsAnswerTo most (begun_for a p) (believed framing p) answer →
      (answer ≡ Err OutOfMemory → ⊥) → IsAssemblerOf state (p ∷ before)
      (marker_forgotten (assembly_after most limit (begun_for a p) (believed framing p) answer))
  unit_ended : (framing : Framing) (p : ℕ × RtpBody) (before : List (ℕ × RtpBody))
      (a : Assembly) → IsAssemblerOf state before a → ends_before a framing p ≡ true →
      IsAssemblerOf state before (if is_behind_missing a p.0 then after_finishing a else after_ending a)
  stream_ended : (before : List (ℕ × RtpBody)) (a : Assembly) → IsAssemblerOf state before a →
      IsAssemblerOf state before (after_finishing a)
  number_told : (number : ℕ) (before : List (ℕ × RtpBody)) (a : Assembly) →
      IsAssemblerOf state before a → IsAssemblerOf state before (record a { expected = Some number })
  rest_dropped : (given rest : List AccessUnitValue) (before : List (ℕ × RtpBody))
      (a : Assembly) → IsAssemblerOf state before a → a.ended ≡ given ++ rest →
      IsAssemblerOf state before (open_assembly a.state None none_open given)

-- the access units that `next` gave out, by their timestamps and bytes, in that order
abbrev pub texts_given : List ReceiverCall → List (ℕ × List ℕ)
texts_given [] = []
texts_given (NextCall now (Some unit) ∷ before) =
    texts_given before ++ (unit.timestamp, unit.bytes) ∷ []
texts_given (call ∷ before) = texts_given before

-- those that have bytes
abbrev pub texts_of : List AccessUnitValue → List (ℕ × List ℕ)
texts_of [] = []
texts_of (unit ∷ units) = if bears_nothing unit.bytes then texts_of units
    else (unit.timestamp, unit.bytes) ∷ texts_of units

-- Of the access units that an assembler brings of the packets that were handed on to it, these are
-- gone, and those that ended since are left; and what `next` gave out are those gone that have
-- bytes, each once, in that order.
pub record AreGivenAssembled (state : DepacketizerState) (calls : List ReceiverCall) (s : Reception)
    (a : Account) : Type 0 where
  pub gone : List AccessUnitValue
  pub made : IsAssemblerOf state (a.handed ++ a.earlier)
      (record s.assembler { ended = gone ++ s.assembler.ended })
  pub texts : texts_given calls ≡ texts_of gone

-- The counts are exact: of packets told late, that came twice or waited alone, of streams that
-- began anew, and of access units given out; and each packet that was handed on is counted once,
-- as one that was taken, skipped or refused, or that bears no unit: none is late then.
pub record AreCountsExact (calls : List ReceiverCall) (c : Counts) (a : Account) : Type 0 where
  pub late : c.late ≡ call_count tells_late calls
  pub twice : c.twice ≡ call_count tells_twice calls
  pub stray : c.stray ≡ call_count tells_stray calls
  pub anew : c.anew ≡ call_count tells_anew calls
  pub units : c.units ≡ length (texts_given calls)
  pub handed : c.taken + c.skipped + c.refused + c.no_unit ≡ length (a.handed ++ a.earlier)

-- all of this; the counts where fewer calls were made than they go to
pub record IsAccounted (state : DepacketizerState) (calls : List ReceiverCall) (s : Reception) : Type
    0 where
  pub account : Account
  pub each : IsEachAccounted calls s account
  pub order : AreHandedInOrder calls s account
  pub given : AreGivenAssembled state calls s account
  pub counts : length calls < 2 ^ 64 → AreCountsExact calls s.counts account
