-- What a receiver of packets that come in any order does (RFC 3550, 5.1; ours).
use Rattle.std.specs.Prelude.{◌≡◌, ℕ, ◌-◌, ◌^◌, ◌==◌, Bool, true, false, ◌&&◌, not, if◌then◌else◌, List, [], ◌∷◌, length, Option, Some, None, Result, Ok, Err, MatchBool, IfOk, ◌⊎◌, is_some, ◌||◌}
use Rattle.h26x_core.specs.declared.error.PacketError.{PacketError}
use Rattle.h26x_core.specs.declared.error.PacketError.TheVariants.{OutOfMemory}
use Rattle.h26x_model.specs.Receive.DepacketizerState.{DepacketizerState}
use Rattle.h26x_receiver.specs.declared.received.Received.{Received}
use Rattle.h26x_core.specs.Sequence.{next_sequence_number, missing_count, is_late, is_expected}
use Rattle.h26x_receiver.specs.Sequenced.{skip_answer, is_taken}
use Rattle.h26x_reorder.specs.Rtp.{RtpBody, rtp_body}
use Rattle.h26x_reorder.specs.ReorderBuffer.{goes_straight}
use Rattle.h26x_assembler.specs.AccessUnit.{AccessUnitValue, OpenUnits, open_units_of, Assembly, none_open, open_assembly, is_unit_at, IsAssemblyAnswer, is_text_given_up, after_rtp, after_unit_skip, after_pass_over, after_ending, after_finishing}
use Rattle.h26x_access_units.specs.declared.config.AccessUnitConfig.{AccessUnitConfig}
use Rattle.h26x_access_units.specs.declared.counts.Counts.{Counts}
use Rattle.h26x_access_units.specs.declared.decoder.DecoderState.{DecoderState}
use Rattle.h26x_access_units.specs.Decoder.{fresh_decoder}
use Rattle.h26x_access_units.specs.declared.framing.Framing.{Framing}
use Rattle.h26x_access_units.specs.declared.framing.Shown.{Shown}
use Rattle.h26x_access_units.specs.Framing.{shown_by, fresh_framing, ends_by_content, framing_with, believes, framing_marked, bears_no_unit}
use Rattle.h26x_access_units.specs.declared.numbers.NumbersSoFar.{NumbersSoFar}
use Rattle.h26x_access_units.specs.declared.passed.PassedNumbers.{PassedNumbers}
use Rattle.h26x_access_units.specs.Passed.{none_passed, is_passed, is_taken_before, passed_with}
use Rattle.h26x_access_units.specs.declared.way.Way.{Way}
use Rattle.h26x_access_units.specs.declared.way.Way.TheVariants as ways
use Rattle.h26x_access_units.specs.declared.pushed.Pushed.{Pushed}
use Rattle.h26x_access_units.specs.declared.pushed.Pushed.TheVariants as pushes
use Rattle.h26x_access_units.specs.Counts.{no_counts, counted_push, counted_dropped, counted_due, counted_no_unit, counted_framing, counted_unit, counted_reason}
use Rattle.h26x_access_units.specs.JitterBuffer.{JitterState, may_tell_first, begun_jitter, longest_wait, awaited, is_far, is_ahead, is_near, is_full, jitter_answer, after_jitter, with_packet, with_stray, with_config, due_packet, without_due, fresh_jitter, with_held_limit}
use Rattle.h26x_access_units.specs.Numbers.{fresh_numbers, missing_told, is_timestamp, after_gap, after_missing, begun_numbers_at, bears_nothing, numbers_after, numbers_closed, numbers_still, numbers_carrying, after_last, first_ended, without_first_ended}
use Rattle.h26x_access_units.specs.ReceivedAccessUnit.{ReceivedAccessUnitValue, received_unit, decoder_with, whole_with, received_unit_value}
use Rattle.std.specs.Option.{option_map, unwrap_or}
use Rattle.h26x_access_units.specs.declared.pushed.NotPushedReason.{NotPushedReason}
use Rattle.h26x_access_units.specs.declared.unit.ReceivedAccessUnit.{ReceivedAccessUnit}
use Rattle.h26x_access_units.specs.Missing.{missing_numbers, AreExactlyMissing}
use Rattle.h26x_access_units.specs.Arrival.{deadline_of}

-- what a receiver is to contracts: what waits, and the packet that waits alone; whether the stream has
-- begun anew, so that the access unit that is open is to end; which of the last numbers were taken; the
-- assembler of access units, those that ended and weren't given out; what is known of where they end;
-- their numbers; what is known of a decoder that is given them; the counts; and the limits on an open
-- run and on an open access unit
pub record Reception : Type 0 where
  pub waiting : JitterState
  pub stray : Option (ℕ × RtpBody)
  pub is_anew : Bool
  pub passed : PassedNumbers
  pub assembler : Assembly
  pub framing : Framing
  pub numbers : NumbersSoFar
  pub decoder : DecoderState
  pub counts : Counts
  pub run_limit : ℕ
  pub unit_limit : ℕ

-- whether a list has no entry
abbrev pub has_no_unit : List AccessUnitValue → Bool
has_no_unit [] = true
has_no_unit (unit ∷ units) = false

-- these
abbrev pub reception : JitterState → Option (ℕ × RtpBody) → Bool → PassedNumbers → Assembly →
    Framing → NumbersSoFar → DecoderState → Counts → ℕ → ℕ → Reception
reception waiting stray is_anew passed assembler framing numbers decoder counts run_limit unit_limit
    = record {
      waiting = waiting;
      stray = stray;
      is_anew = is_anew;
      passed = passed;
      assembler = assembler;
      framing = framing;
      numbers = numbers;
      decoder = decoder;
      counts = counts;
      run_limit = run_limit;
      unit_limit = unit_limit;
    }

-- before any packet came
abbrev pub fresh_reception : AccessUnitConfig → DepacketizerState → Reception
fresh_reception config state = reception (fresh_jitter config) None false none_passed
    (open_assembly state None none_open []) fresh_framing fresh_numbers fresh_decoder no_counts
    config.run_limit config.unit_limit

-- where the number of the first packet is told before one came: it is due and expected
abbrev pub begun_reception : ℕ → Reception → Reception
begun_reception number s =
    if may_tell_first s.waiting
    then record s {
      waiting = begun_jitter number s.waiting;
      assembler = record s.assembler { expected = Some number };
      numbers = begun_numbers_at s.numbers;
    }
    else s

-- before any packet of another sender came
abbrev pub restarted : Reception → Reception
restarted s = record s {
  waiting = fresh_jitter s.waiting.config;
  stray = None;
  is_anew = false;
  passed = none_passed;
  assembler = open_assembly s.assembler.state None none_open [];
  framing = fresh_framing;
  numbers = fresh_numbers;
  decoder = fresh_decoder;
}

-- whether a number is the one behind the packet that waits alone
abbrev pub is_behind_stray : Option (ℕ × RtpBody) → ℕ → Bool
is_behind_stray None number = false
is_behind_stray (Some stray) number = number == next_sequence_number stray.0

-- whether a number is one of the last 1024 that the stream passed, and was taken
abbrev pub is_repeat : Reception → ℕ → Bool
is_repeat s number = is_taken_before s.passed s.waiting.buffer.due number

-- whether a number is too far from the one that is due and from those that wait, and none of the last
-- 1024 that the stream passed (RFC 3550, A.1)
abbrev pub is_too_far : Reception → ℕ → Bool
is_too_far s number = is_far s.waiting.config.far s.waiting.config.far_behind s.waiting.buffer number
    && not (is_passed s.passed s.waiting.buffer.due number)

-- whether a number is near that of the packet that waits alone
abbrev pub is_near_stray : ℕ → Option (ℕ × RtpBody) → ℕ → Bool
is_near_stray window None number = false
is_near_stray window (Some stray) number = is_near window stray.0 number

-- what is answered for a packet that is too far: it waits alone, and where it follows the one that
-- waited alone the stream begins anew
abbrev pub far_answer : Reception → ℕ × RtpBody → Pushed
far_answer s p = if is_behind_stray s.stray p.0 then pushes.Anew else pushes.Stray

-- what is answered for one that is more than a window ahead: it waits alone, and where it is near the
-- one that waited alone both wait
abbrev pub ahead_answer : Reception → ℕ × RtpBody → Pushed
ahead_answer s p = if is_near_stray s.waiting.buffer.window s.stray p.0
    then (if is_full s.waiting (length p.1.payload) then pushes.Full else pushes.Jumped)
    else pushes.Stray

-- what a packet's number is to a receiver (RFC 3550, A.1): a number that was taken, one that is too
-- far, one that is more than a window ahead, or one within the window or late
abbrev pub way_of : Reception → ℕ → Way
way_of s number =
    if is_repeat s number then ways.Repeat
    else (if is_too_far s number then ways.Far
    else (if is_ahead s.waiting.buffer number then ways.Ahead else ways.Window))

-- what is answered for a packet, by that
abbrev pub answer_on : Way → Reception → ℕ × RtpBody → Pushed
answer_on ways.Repeat s p = pushes.Twice
answer_on ways.Far s p = far_answer s p
answer_on ways.Ahead s p = ahead_answer s p
answer_on ways.Window s p = jitter_answer s.waiting p

-- so for a packet that comes
abbrev pub reception_answer : Reception → ℕ × RtpBody → Pushed
reception_answer s p = answer_on (way_of s p.0) s p

-- so for one that was pushed, but for a refusal
abbrev pub IsPushAnswer : {E : Type 0} → Reception → ℕ × RtpBody → Result Pushed E → Type 0
IsPushAnswer s p result = IfOk result (λ answer. answer ≡ reception_answer s p)

-- what waits once a packet came, by its answer
abbrev pub pushed_to : ℕ → JitterState → ℕ × RtpBody → JitterState
pushed_to now j p = after_jitter now j p (jitter_answer j p)

-- what waits of a stream that begins anew with a packet that waited alone and the next one: both,
-- whatever the limit
abbrev pub anew_of : ℕ → AccessUnitConfig → Option (ℕ × RtpBody) → ℕ × RtpBody → JitterState
anew_of now config None p = pushed_to now (fresh_jitter config) p
anew_of now config (Some stray) p = record
    (pushed_to now (pushed_to now (fresh_jitter (with_held_limit (2 ^ 64 - 1) config)) stray) p) {
      config = config;
    }

-- what waits once a packet came that is near one that waited alone
abbrev pub held_with : ℕ → JitterState → Option (ℕ × RtpBody) → ℕ × RtpBody → JitterState
held_with now j None p = with_packet now j p
held_with now j (Some stray) p = with_stray now j stray p

-- after a packet came, at this tick, that is answered so
abbrev pub after_reception : ℕ → Reception → ℕ × RtpBody → Pushed → Reception
after_reception now s p pushes.Stray = record s {
  stray = Some p;
  counts = counted_push s.counts pushes.Stray;
}
after_reception now s p pushes.Anew = record s {
  waiting = anew_of now s.waiting.config s.stray p;
  stray = None;
  is_anew = true;
  passed = none_passed;
  counts = counted_dropped (counted_push s.counts pushes.Anew) (length s.waiting.buffer.held);
}
after_reception now s p pushes.Jumped = record s {
  waiting = held_with now s.waiting s.stray p;
  stray = None;
}
after_reception now s p answer = record s {
  waiting = after_jitter now s.waiting p answer;
  counts = counted_push s.counts answer;
}

-- where a packet that was pushed isn't taken at once, what stands then
abbrev pub IsPutAside : {E : Type 0} → ℕ → Reception → ℕ × RtpBody → Result Pushed E → Reception →
    Type 0
IsPutAside now s p result new = IfOk result (λ answer. new ≡ after_reception now s p answer)

-- once a packet came back with this reason
abbrev pub refused_reception : Reception → NotPushedReason → Reception
refused_reception s reason = record s { counts = counted_reason s.counts reason }

-- what is answered for a packet that is given to the assembler of access units: one that bears
-- nothing is skipped
abbrev pub IsAnswerTo : ℕ → Assembly → ℕ × RtpBody → Result Received PacketError →
    Type 0
IsAnswerTo most s p answer = MatchBool (bears_nothing p.1.payload)
    (answer ≡ Ok (skip_answer s.expected p.0)) (IsAssemblyAnswer most s p answer)

-- whether an answer says that memory lacks
abbrev pub lacks_memory : Result Received PacketError → Bool
lacks_memory (Err OutOfMemory) = true
lacks_memory answer = false

-- whether a packet of which nothing is to be written ends the access unit that is open: it has its
-- timestamp, comes in order, and its marker is believed
abbrev pub ends_with : Assembly → ℕ × RtpBody → Bool
ends_with s p = p.1.marker && (is_unit_at s.unit p.1.timestamp && is_expected s.expected p.0)

-- that assembler where a packet is refused that bears nothing to be written: its number is skipped
abbrev pub after_no_unit : Assembly → ℕ × RtpBody → Assembly
after_no_unit s p = after_unit_skip (if ends_with s p then after_ending s else s) p.0

-- whether a packet that is refused with this bears nothing that is to be written
abbrev pub is_no_unit : Assembly → PacketError → List ℕ → Bool
is_no_unit s error packet = bears_no_unit (s.state.format.extra false) error packet

-- that assembler afterwards: another one that is refused for what it is is passed over
abbrev pub assembly_after : ℕ → ℕ → Assembly → ℕ × RtpBody →
    Result Received PacketError → Assembly
assembly_after most limit s p (Ok answer) =
    if bears_nothing p.1.payload then after_unit_skip s p.0
    else after_rtp most limit s p (Ok answer)
assembly_after most limit s p (Err error) =
    if is_no_unit s error p.1.payload then after_no_unit s p else after_pass_over s p.0

-- the number that is expected for a packet that is taken: where none is, and it has a payload, its own,
-- so that it is known of its access unit from it on whether something is missing
abbrev pub expected_for : Option ℕ → ℕ × RtpBody → Option ℕ
expected_for None p = if bears_nothing p.1.payload then None else Some p.0
expected_for (Some number) p = Some number

-- so of an assembler
abbrev pub begun_for : Assembly → ℕ × RtpBody → Assembly
begun_for s p = record s { expected = expected_for s.expected p }

-- whether a number is the one that is expected, or behind others that are missing
abbrev pub is_in_reach : Assembly → ℕ → Bool
is_in_reach s number = is_some s.expected && not (is_late s.expected number)

-- whether numbers are missing right before one that is not late, where a packet was taken
abbrev pub is_behind_missing : Assembly → ℕ → Bool
is_behind_missing s number =
    is_in_reach s number && (s.is_gap || not (is_expected s.expected number))

-- what a packet shows to its depacketizer
abbrev pub shown_of : Assembly → ℕ × RtpBody → Shown
shown_of s p = shown_by s.state.format p.1.payload

-- Whether the access unit that is open ends before a packet: one that begins another by its timestamp,
-- behind numbers that are missing; or one of its timestamp that begins another by its units.
abbrev pub ends_before : Assembly → Framing → ℕ × RtpBody → Bool
ends_before s framing p = not (bears_nothing p.1.payload)
    && (if is_unit_at s.unit p.1.timestamp
    then is_in_reach s p.0 && ends_by_content framing (shown_of s p)
    else is_behind_missing s p.0)

-- the same once it forgot that a marker ended the last access unit: what goes on with that may be
-- known to be whole too
abbrev pub marker_forgotten : Assembly → Assembly
marker_forgotten s = record s { closed = None }

-- what is known of where access units end, with a packet
abbrev pub framing_of : Assembly → Framing → NumbersSoFar → ℕ × RtpBody → Framing
framing_of s framing numbers p = framing_with framing (is_unit_at s.unit p.1.timestamp)
    (is_timestamp numbers.marked p.1.timestamp) (shown_of s p)

-- a packet with its marker where that is believed
abbrev pub believed : Framing → ℕ × RtpBody → ℕ × RtpBody
believed framing p = (p.0, rtp_body p.1.timestamp (believes framing p.1.marker) p.1.payload)

-- whether a packet was taken, by what was answered: it has a payload and isn't late
abbrev pub is_one_taken : ℕ × RtpBody → Received → Bool
is_one_taken p answer = not (bears_nothing p.1.payload) && is_taken (Ok answer)

-- what is known of where access units end once a packet was due: `at` with it, where it was taken,
-- whose marker stands here where it is believed
abbrev pub framing_answered : Framing → Framing → ℕ × RtpBody → Result Received PacketError → Framing
framing_answered framing at p (Ok answer) =
    if is_one_taken p answer then framing_marked at p.1.marker else framing
framing_answered framing at p (Err error) = framing

-- the numbers then: a refused packet that bears nothing to be written is skipped, and may end the
-- access unit that is open
abbrev pub numbers_answered : Assembly → NumbersSoFar → Framing → ℕ × RtpBody →
    Result Received PacketError → NumbersSoFar
numbers_answered s n at p (Ok answer) =
    if is_one_taken p answer
    then numbers_after s.expected (numbers_still at.stands_still n) p (Ok answer)
    else numbers_after s.expected n p (Ok answer)
numbers_answered s n at p (Err error) =
    if is_no_unit s error p.1.payload
    then after_gap (if ends_with s p then numbers_closed n else n)
    (missing_told (skip_answer s.expected p.0))
    else numbers_after s.expected n p (Err error)

-- whether an access unit begins by its units at the timestamp of the one before
abbrev pub begins_still : Assembly → Framing → ℕ × RtpBody → Bool
begins_still s at p = not (is_unit_at s.unit p.1.timestamp) && at.stands_still

-- the counts then, by whether the packet's own marker was set, and whether a text was given up
abbrev pub counts_answered : Assembly → Counts → Framing → ℕ × RtpBody → Bool → Bool →
    Result Received PacketError → Counts
counts_answered s c at p marker text (Ok answer) =
    if is_one_taken p answer
    then counted_framing (counted_due s.expected c p (Ok answer) text) (begins_still s at p)
    (marker && not p.1.marker)
    else counted_due s.expected c p (Ok answer) text
counts_answered s c at p marker text (Err error) =
    if is_no_unit s error p.1.payload
    then counted_no_unit c (skip_answer s.expected p.0)
    else counted_due s.expected c p (Err error) text

-- what is known with a packet of where access units end
abbrev pub framing_at : Reception → ℕ × RtpBody → Framing
framing_at s p = framing_of (begun_for s.assembler p) s.framing s.numbers p

-- the packet as it is given to the assembler
abbrev pub believed_packet : Reception → ℕ × RtpBody → ℕ × RtpBody
believed_packet s p = believed (framing_at s p) p

-- after a packet that was due and was answered so, but for want of memory: it waits no more
abbrev pub after_due : Reception → ℕ × RtpBody → Result Received PacketError → Reception
after_due s p answer = record s {
  waiting = without_due s.waiting;
  passed = passed_with (unwrap_or (awaited s.waiting) 0) p.0 s.passed;
  assembler = marker_forgotten (assembly_after s.run_limit s.unit_limit (begun_for s.assembler p)
      (believed_packet s p) answer);
  framing = framing_answered s.framing (framing_at s p) (believed_packet s p) answer;
  numbers = numbers_answered (begun_for s.assembler p) s.numbers (framing_at s p) (believed_packet s p)
      answer;
  counts = counts_answered (begun_for s.assembler p) s.counts (framing_at s p) (believed_packet s p)
      p.1.marker (is_text_given_up s.run_limit s.unit_limit (begun_for s.assembler p)
      (believed_packet s p)) answer;
}

-- where a packet that is due begins an access unit behind numbers that are missing: the one that is
-- open ends, not known to be whole, and any number is next
abbrev pub ended_behind_missing : Reception → ℕ × RtpBody → Reception
ended_behind_missing s p = record s {
  assembler = after_finishing s.assembler;
  numbers = after_missing s.numbers (missing_count s.assembler.expected p.0);
  counts = counted_dropped s.counts (missing_count s.assembler.expected p.0);
}

-- where it begins one by its units, in order: the one that is open ends as by a marker
abbrev pub ended_by_content : Reception → Reception
ended_by_content s = record s {
  assembler = after_ending s.assembler;
  numbers = numbers_closed s.numbers;
}

-- so where one of both is the case
abbrev pub ended_before : Reception → ℕ × RtpBody → Reception
ended_before s p = if is_behind_missing s.assembler p.0 then ended_behind_missing s p
    else ended_by_content s

-- so it is where the access unit that is open ends before the packet that is due
pub record IsEndedBefore (now : ℕ) (s new : Reception) : Type 0 where
  pub packet : ℕ × RtpBody
  pub due : due_packet now s.waiting ≡ Some packet
  pub ends : ends_before s.assembler s.framing packet ≡ true
  pub stands : new ≡ ended_before s packet

-- a packet that was due was taken, or passed over
pub record IsDueTaken (now : ℕ) (s new : Reception) : Type 0 where
  pub packet : ℕ × RtpBody
  pub answer : Result Received PacketError
  pub due : due_packet now s.waiting ≡ Some packet
  pub follows : ends_before s.assembler s.framing packet ≡ false
  pub answered : IsAnswerTo s.run_limit (begun_for s.assembler packet)
      (believed_packet s packet) answer
  pub room : answer ≡ Err OutOfMemory → ⊥
  pub stands : new ≡ after_due s packet answer

-- so it is of a packet that is taken as it comes, at whatever tick
abbrev pub IsTakenAsDue : Reception → ℕ × RtpBody → Reception → Type 0
IsTakenAsDue s p new = (now : ℕ) → IsDueTaken now (after_reception now s p pushes.Held) new

-- by whether one was taken: one that was due, or none is due and all is as it was
abbrev pub IsDueTakenOrNone : ℕ → Reception → Bool → Reception → Type 0
IsDueTakenOrNone now s took new = MatchBool took (IsDueTaken now s new)
    ((due_packet now s.waiting ≡ None) × (new ≡ s))

-- no access unit ends before a packet that is due
abbrev pub FollowsWhereDue : ℕ → Reception → Type 0
FollowsWhereDue now s = (p : ℕ × RtpBody) → due_packet now s.waiting ≡ Some p →
    ends_before s.assembler s.framing p ≡ false

-- by whether one ended before the packet that is due, or all is as it was
abbrev pub IsEndedOrFollows : ℕ → Reception → Bool → Reception → Type 0
IsEndedOrFollows now s ended new = MatchBool ended (IsEndedBefore now s new)
    (FollowsWhereDue now s × (new ≡ s))

-- Where no access unit is left that ended: one ends before the packet that is due; or a packet is
-- taken; or one was to end, none was open, and the packet is taken.
pub data IsStep (now : ℕ) (s : Reception) : Reception → Type 0 where
  ended_alone : {t : Reception} → IsEndedBefore now s t →
      has_no_unit t.assembler.ended ≡ false → IsStep now s t
  taken_alone : {t : Reception} → IsDueTaken now s t → IsStep now s t
  ended_and_taken : {t u : Reception} → IsEndedBefore now s t → t.assembler.ended ≡ [] →
      IsDueTaken now t u → IsStep now s u

-- by whether something was due: a step, or none is due
abbrev pub IsStepOrNone : ℕ → Reception → Bool → Reception → Type 0
IsStepOrNone now s took new = MatchBool took (IsStep now s new)
    ((due_packet now s.waiting ≡ None) × (new ≡ s))

-- where memory lacks all is as it was, or one ended before the packet that is due
abbrev pub IsStepInPart : ℕ → Reception → Reception → Type 0
IsStepInPart now s new = (new ≡ s) ⊎ IsEndedBefore now s new

-- no packet is due, unless an access unit has ended
abbrev pub NoneIsDueUnlessEnded : ℕ → Reception → Type 0
NoneIsDueUnlessEnded now s = s.assembler.ended ≡ [] → due_packet now s.waiting ≡ None

-- whether a packet that comes is taken at once: it needn't wait, nothing is known to be missing before
-- it, no access unit ends before it, none that ended is left, and the stream hasn't begun anew
abbrev pub is_taken_at_once : Reception → ℕ × RtpBody → Bool
is_taken_at_once s p = goes_straight s.waiting.buffer p.0
    && (not (is_behind_missing s.assembler p.0)
    && (not (ends_before s.assembler s.framing p)
    && (has_no_unit s.assembler.ended && not s.is_anew)))

-- after a packet came, at this tick, that is answered so: where it is taken at once, it is as if it had
-- waited and was taken then
abbrev pub IsPushed : ℕ → Reception → ℕ × RtpBody → Pushed → Reception → Type 0
IsPushed now s p answer new = MatchBool (is_taken_at_once s p)
    (IsDueTaken now (after_reception now s p answer) new) (new ≡ after_reception now s p answer)

-- so for a packet that was pushed, but for a refusal
abbrev pub IsPushedIfOk : {E : Type 0} → ℕ → Reception → ℕ × RtpBody → Result Pushed E → Reception →
    Type 0
IsPushedIfOk now s p result new = IfOk result (λ answer. IsPushed now s p answer new)

-- once the first access unit that ended is passed over, which has no bytes: what is missing of it is
-- told with the next one
abbrev pub bare_passed : Reception → AccessUnitValue → List AccessUnitValue → Reception
bare_passed s unit units = record s {
  assembler = record s.assembler { ended = units };
  numbers = numbers_carrying (without_first_ended s.numbers) (first_ended s.numbers).missing;
  decoder = decoder_with s.decoder s.waiting.config.has_sets s.assembler.state.is_avc unit
      (first_ended s.numbers);
}

-- so where one has ended
abbrev pub first_passed_of : Reception → List AccessUnitValue → Reception
first_passed_of s [] = s
first_passed_of s (unit ∷ units) = bare_passed s unit units

-- so of a receiver
abbrev pub first_passed : Reception → Reception
first_passed s = first_passed_of s s.assembler.ended

-- once those are passed over that ended first and have no bytes
abbrev pub without_bare_of : Reception → List AccessUnitValue → Reception
without_bare_of s [] = s
without_bare_of s (unit ∷ units) =
    if bears_nothing unit.bytes then without_bare_of (bare_passed s unit units) units else s

-- whether the first of access units has no bytes
abbrev pub has_bare : List AccessUnitValue → Bool
has_bare [] = false
has_bare (unit ∷ units) = bears_nothing unit.bytes

-- whether the first of access units has bytes, so that it is given out next
abbrev pub has_unit : List AccessUnitValue → Bool
has_unit [] = false
has_unit (unit ∷ units) = not (bears_nothing unit.bytes)

-- so of a receiver
abbrev pub without_bare : Reception → Reception
without_bare s = without_bare_of s s.assembler.ended

-- packets that were due were taken, one after the other, as long as no access unit had ended that has
-- bytes; one ends before a packet that begins another
pub data IsDrained (now : ℕ) (s : Reception) : Reception → Type 0 where
  none : IsDrained now s s
  bare : {t : Reception} → IsDrained now s t → IsDrained now s (without_bare t)
  more : {t u : Reception} → IsDrained now s t → t.assembler.ended ≡ [] → IsDueTaken now t u →
      IsDrained now s u
  behind : {t u : Reception} → IsDrained now s t → t.assembler.ended ≡ [] →
      IsEndedBefore now t u → IsDrained now s u

-- at the end of the stream: all that waits is due
abbrev pub ended_reception : Reception → Reception
ended_reception s = record s { waiting = record s.waiting { is_over = true } }

-- after the end of the stream: the access unit that was open ended, no stray waits, and any number is
-- next
abbrev pub after_finish : Reception → Reception
after_finish s = record s {
  waiting = fresh_jitter s.waiting.config;
  stray = None;
  passed = none_passed;
  assembler = after_finishing s.assembler;
  framing = fresh_framing;
  numbers = after_last s.numbers;
}

-- the settings
abbrev pub settings : Reception → AccessUnitConfig
settings s =
    record s.waiting.config { run_limit = s.run_limit; unit_limit = s.unit_limit }

-- with other settings from now on
abbrev pub with_settings : AccessUnitConfig → Reception → Reception
with_settings config s = record s {
  waiting = with_config config s.waiting;
  run_limit = config.run_limit;
  unit_limit = config.unit_limit;
}

-- where the stream has begun anew, and no access unit that ended is left, the one that is open ends
abbrev pub ended_if_anew : Reception → Reception
ended_if_anew s =
    if has_no_unit s.assembler.ended && s.is_anew
    then record s {
      is_anew = false;
      assembler = after_finishing s.assembler;
      framing = fresh_framing;
      numbers = after_last s.numbers;
    }
    else s

-- where memory lacked for the next access unit: nothing was done but that those without bytes were
-- passed over, or packets that were due were taken
abbrev pub IsDrainedInPart : ℕ → Reception → Reception → Type 0
IsDrainedInPart now s new = (new ≡ without_bare s)
    ⊎ IsDrained now (ended_if_anew (without_bare s)) new

-- at the end of the stream, once no access unit that ended is left, the one that is open ends
abbrev pub ended_if_over : Reception → Reception
ended_if_over s =
    if has_no_unit s.assembler.ended && s.waiting.is_over then after_finish s else s

-- whether nothing is left that ended or has to end: no access unit ended that wasn't given out, and the
-- stream hasn't begun anew nor ended
abbrev pub has_nothing_left : Reception → Bool
has_nothing_left s =
    has_no_unit s.assembler.ended && (not s.is_anew && not s.waiting.is_over)

-- the first access unit that ended
abbrev pub unit_given_of : Reception → List AccessUnitValue → Option ReceivedAccessUnitValue
unit_given_of s [] = None
unit_given_of s (unit ∷ units) = Some (received_unit s.decoder s.waiting.config.has_sets
    s.assembler.state.is_avc unit (first_ended s.numbers))

-- so of a receiver
abbrev pub unit_given : Reception → Option ReceivedAccessUnitValue
unit_given s = unit_given_of s s.assembler.ended

-- once it is given out
abbrev pub without_given_of : Reception → List AccessUnitValue → Reception
without_given_of s [] = s
without_given_of s (unit ∷ units) = record s {
  assembler = record s.assembler { ended = units };
  numbers = without_first_ended s.numbers;
  decoder = decoder_with s.decoder s.waiting.config.has_sets s.assembler.state.is_avc unit
      (first_ended s.numbers);
  counts = counted_unit s.counts (whole_with s.decoder s.assembler.state.is_avc unit
      (first_ended s.numbers));
}

-- so of a receiver
abbrev pub without_given : Reception → Reception
without_given s = without_given_of s s.assembler.ended

-- The next access unit: those without bytes are passed over; where the stream has begun anew the one
-- that was open ends; packets that were due were taken until one ended or none was due, and the first
-- that ended and has bytes is given out.
pub record IsNext (now : ℕ) (s new : Reception) (unit : Option ReceivedAccessUnitValue) : Type 0
  where
    pub drained : Reception
    pub taken : IsDrained now (ended_if_anew (without_bare s)) drained
    pub until : NoneIsDueUnlessEnded now drained
    pub unit_is : unit ≡ unit_given (without_bare (ended_if_over drained))
    pub stands : new ≡ without_given (without_bare (ended_if_over drained))

-- so it is of what is given out, but for want of memory
abbrev pub GivesNext : ℕ → Reception → Result (Option ReceivedAccessUnit) PacketError → Reception →
    Type 0
GivesNext now s result new =
    IfOk result (λ unit. IsNext now s new (option_map received_unit_value unit))

-- the access unit that is open, as far as it came, where none that ended waits to be given out
abbrev pub open_units : Reception → Option OpenUnits
open_units s = if has_no_unit s.assembler.ended
    then option_map open_units_of s.assembler.unit else None

-- the numbers that a NACK asks for: those that are missing before packets that wait (RFC 4585, 6.2.1)
abbrev pub nack_numbers : Reception → List ℕ
nack_numbers s = missing_numbers (awaited s.waiting) s.waiting.buffer.held

-- these are exactly those between the one from which on others may be missing and the last that waits
-- that don't wait
abbrev pub AreExactNacks : Reception → List ℕ → Type 0
AreExactNacks s numbers = AreExactlyMissing (awaited s.waiting) s.waiting.buffer.held numbers

-- when the packet that waits longest is due at the latest
abbrev pub next_deadline : Reception → Option ℕ
next_deadline s = deadline_of (longest_wait s.waiting) s.waiting.arrivals
