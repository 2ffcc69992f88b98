-- Access units of packets with their timestamps and markers (RFC 3550, 5.1; RFC 6184, 5.1; RFC 7798,
-- 4.1; RFC 9328, 4.1; ours).
use Rattle.std.specs.Prelude.{◌≡◌, ℕ, ◌==◌, nat_lt, Bool, true, false, not, ◌&&◌, ◌||◌, if◌then◌else◌, List, [], ◌∷◌, ◌++◌, length, map, Option, Some, None, is_some, Result, Ok, Err, ◌⊎◌, ◌<◌, ◌^◌}
use Rattle.std.specs.Option.{option_map}
use Rattle.h26x_core.specs.declared.extra.CodecExtra.{CodecExtra}
use Rattle.h26x_core.specs.declared.extra.CodecExtra.TheVariants as extras
use Rattle.h26x_core.specs.declared.error.PacketError.{PacketError}
use Rattle.h26x_core.specs.declared.error.PacketError.TheVariants.{OutOfMemory}
use Rattle.h26x_model.specs.Payload.Reading.{Reading, is_start}
use Rattle.h26x_core.specs.ByteStream.{byte_stream}
use Rattle.h26x_model.specs.Receive.DepacketizerState.{DepacketizerState, Depacketization, units_brought}
use Rattle.h26x_model.specs.Receive.RunLimit.{run_len, state_with_run}
use Rattle.h26x_receiver.specs.declared.received.Received.{Received}
use Rattle.h26x_receiver.specs.declared.sequenced.SequencedDepacketizer.{SequencedDepacketizer}
use Rattle.h26x_receiver.specs.declared.received.Received.TheVariants.{TooLong, Late}
use Rattle.h26x_core.specs.Sequence.{is_expected, is_late, next_sequence_number}
use Rattle.h26x_receiver.specs.Sequenced.{SequencedDepacketization, sequenced_depacketization, after_sequenced_packet, after_taken_packet, IsSequencedAnswer, expected_after_skip, is_run_kept, with_run_if}
use Rattle.h26x_reorder.specs.Rtp.{RtpBody, rtp_body}
use Rattle.h26x_assembler.specs.declared.access_unit.AccessUnit.{AccessUnit}
use Rattle.h26x_assembler.specs.declared.access_unit.AccessUnitSoFar.{AccessUnitSoFar}
use Rattle.h26x_assembler.specs.declared.access_unit.UnitsSoFar.{UnitsSoFar}

-- an access unit as an assembler gives it out: its timestamp, the text of its units, what is told
-- of them, and whether it is known that nothing of it is missing
pub record AccessUnitValue : Type 0 where
  pub timestamp : ℕ
  pub bytes : List ℕ
  pub extra : CodecExtra
  pub is_whole : Bool

-- that of the code, its bytes as a list
abbrev pub access_unit_value : AccessUnit → AccessUnitValue
access_unit_value unit = record {
  timestamp = unit.timestamp;
  bytes = unit.bytes.items;
  extra = unit.extra;
  is_whole = unit.is_whole;
}

-- one that is open, as far as it came
abbrev pub open_unit_value : AccessUnitSoFar → AccessUnitValue
open_unit_value unit = record {
  timestamp = unit.timestamp;
  bytes = unit.text.text;
  extra = unit.extra;
  is_whole = unit.is_whole;
}

-- what is shown of it: its timestamp, the text of its units that came whole, and what is told of them
pub record OpenUnits : Type 0 where
  pub timestamp : ℕ
  pub bytes : List ℕ
  pub extra : CodecExtra

abbrev pub open_units_of : AccessUnitValue → OpenUnits
open_units_of unit =
    record { timestamp = unit.timestamp; bytes = unit.bytes; extra = unit.extra }

-- that of the code, its bytes as a list
abbrev pub units_so_far_value : UnitsSoFar → OpenUnits
units_so_far_value unit =
    record { timestamp = unit.timestamp; bytes = unit.bytes.now; extra = unit.extra }

-- the access unit that is open, if one is, the run that is open, whether packets are missing right
-- before those numbers that were skipped last, and the timestamp of the access unit that the marker of
-- the last packet ended, if it did
pub record OpenAccessUnitView : Type 0 where
  pub unit : Option AccessUnitValue
  pub run : Option (List ℕ)
  pub is_gap : Bool
  pub closed : Option ℕ

-- the run stands in the text of the one that is open, or else it is what the last one left
abbrev pub open_unit_view : Option AccessUnitSoFar → Option (List ℕ) → Bool → Option ℕ →
    OpenAccessUnitView
open_unit_view None left is_gap closed = record {
  unit = None;
  run = left;
  is_gap = is_gap;
  closed = closed;
}
open_unit_view (Some unit) left is_gap closed = record {
  unit = Some (open_unit_value unit);
  run = unit.text.run;
  is_gap = is_gap;
  closed = closed;
}

-- one that is open, with the run in its text
abbrev pub one_open : AccessUnitSoFar → Bool → Option ℕ → OpenAccessUnitView
one_open unit is_gap closed = open_unit_view (Some unit) None is_gap closed

-- neither is open
abbrev pub none_open : OpenAccessUnitView
none_open = record { unit = None; run = None; is_gap = false; closed = None }

-- one to which no packet came yet
abbrev pub empty_unit : ℕ → AccessUnitValue
empty_unit timestamp = record {
  timestamp = timestamp;
  bytes = [];
  extra = extras.None;
  is_whole = true;
}

-- the same, known to be whole only if this holds too
abbrev pub whole_if : Bool → AccessUnitValue → AccessUnitValue
whole_if holds unit = record unit { is_whole = unit.is_whole && holds }

-- what is open where packets are missing: no run, and nothing is known to be whole
abbrev pub behind_gap : OpenAccessUnitView → OpenAccessUnitView
behind_gap it = record {
  unit = option_map (whole_if false) it.unit;
  run = None;
  is_gap = true;
  closed = it.closed;
}

-- what an assembler works on: its depacketizer, the sequence number that is expected next, if one
-- came, whether packets are missing right before those numbers that were skipped last, the
-- timestamp of the access unit that the marker of the last packet ended, the access unit that is
-- open, and those that ended
pub record Assembly : Type 0 where
  pub state : DepacketizerState
  pub expected : Option ℕ
  pub is_gap : Bool
  pub closed : Option ℕ
  pub unit : Option AccessUnitValue
  pub ended : List AccessUnitValue

-- these, where none was skipped since the last packet, and that bore no marker
abbrev pub assembly : DepacketizerState → Option ℕ → Option AccessUnitValue →
    List AccessUnitValue → Assembly
assembly state expected unit ended = record {
  state = state;
  expected = expected;
  is_gap = false;
  closed = None;
  unit = unit;
  ended = ended;
}

-- the same by what is open, where the depacketizer's own run is not used
abbrev pub open_assembly : DepacketizerState → Option ℕ → OpenAccessUnitView →
    List AccessUnitValue → Assembly
open_assembly state expected it ended = record {
  state = state_with_run state it.run;
  expected = expected;
  is_gap = it.is_gap;
  closed = it.closed;
  unit = it.unit;
  ended = ended;
}

-- access units as contracts see them
abbrev pub unit_views : List AccessUnit → List AccessUnitValue
unit_views units = map access_unit_value units

-- a receiver of packets with this open, and those that ended, by what its depacketizer is
abbrev pub parts_at : {D : Type 0} → (D → DepacketizerState) → SequencedDepacketizer D →
    OpenAccessUnitView → List AccessUnit → Assembly
parts_at state packets it ended = open_assembly (state packets.depacketizer) packets.expected
    it (unit_views ended)

-- before any packet came
abbrev pub fresh_assembly : DepacketizerState → Assembly
fresh_assembly state = assembly state None None []

-- how many bytes the access unit that is open holds, none where none is open
abbrev pub unit_len : Option AccessUnitValue → ℕ
unit_len None = 0
unit_len (Some unit) = length unit.bytes

-- whether the access unit that is open has this timestamp
abbrev pub is_unit_at : Option AccessUnitValue → ℕ → Bool
is_unit_at None timestamp = false
is_unit_at (Some unit) timestamp = unit.timestamp == timestamp

-- it, where it has this timestamp, or else an empty one
abbrev pub unit_at : Option AccessUnitValue → ℕ → AccessUnitValue
unit_at None timestamp = empty_unit timestamp
unit_at (Some unit) timestamp =
    if unit.timestamp == timestamp then unit else empty_unit timestamp

-- what a packet with this timestamp is taken by: where it begins an access unit no run is open
abbrev pub taken_by : Assembly → ℕ → SequencedDepacketization
taken_by s timestamp = sequenced_depacketization
    (state_with_run s.state (if is_unit_at s.unit timestamp then s.state.run else None))
    s.expected (unit_at s.unit timestamp).bytes (unit_at s.unit timestamp).extra

-- what is answered for a packet where memory lacks for none of the access units that it ends
abbrev pub IsTakenAnswer : ℕ → Assembly → ℕ × RtpBody → Result Received PacketError →
    Type 0
IsTakenAnswer most s p answer = IsSequencedAnswer most (taken_by s p.1.timestamp) p.0 p.1.payload
    answer

-- so of a receiver of packets with this open
abbrev pub IsTakenAnswerAt : {D : Type 0} → (D → DepacketizerState) → SequencedDepacketizer D →
    OpenAccessUnitView → List AccessUnit → ℕ × RtpBody → Result Received PacketError → Type 0
IsTakenAnswerAt state packets it ended p answer =
    IsTakenAnswer packets.run_limit (parts_at state packets it ended) p answer

-- what is answered for a packet
abbrev pub IsAssemblyAnswer : ℕ → Assembly → ℕ × RtpBody → Result Received PacketError →
    Type 0
IsAssemblyAnswer most s p answer = (answer ≡ Err OutOfMemory) ⊎ IsTakenAnswer most s p answer

-- whether an answer says that the run that a packet left was too long
abbrev pub is_run_too_long : Result Received PacketError → Bool
is_run_too_long (Ok (TooLong n)) = true
is_run_too_long answer = false

-- whether the marker of the last packet ended an access unit of this timestamp
abbrev pub is_closed_at : Option ℕ → ℕ → Bool
is_closed_at None timestamp = false
is_closed_at (Some closed) timestamp = closed == timestamp

-- whether it is known that nothing of its access unit is missing before a packet with this timestamp
-- and number: that is the one expected, none is missing before those skipped last, and no marker ended
-- the access unit right before it
abbrev pub is_following : Bool → Option ℕ → Option ℕ → ℕ → ℕ → Bool
is_following is_gap closed expected timestamp number =
    if is_gap then false else (if is_closed_at closed timestamp then false
    else is_expected expected number)

-- so of an assembler
abbrev pub follows : Assembly → ℕ × RtpBody → Bool
follows s p = is_following s.is_gap s.closed s.expected p.1.timestamp p.0

-- whether no run is open that holds a byte
abbrev pub is_run_closed : Option (List ℕ) → Bool
is_run_closed run = run_len run == 0

-- whether no byte stands of a packet, by what stood before it and after it: neither in the text nor in
-- a run, as of a fragment whose start is missing
abbrev pub leaves_no_byte : Depacketization → Depacketization → Bool
leaves_no_byte before after = (length before.out == length after.out) && is_run_closed after.state.run

-- whether a packet gives up the run that is open: it starts another one, though no end came (RFC
-- 6184, 5.8; RFC 7798, 4.4.3; RFC 9328, 4.3.3)
abbrev pub gives_up_run : Option (List ℕ) → Reading → Bool
gives_up_run run reading = is_some run && is_start reading

-- whether a unit lacks its end or its start by a packet, by what stood before it and after it: it
-- gives up a run, or no byte stands of it
abbrev pub is_unit_broken : Depacketization → Depacketization → List ℕ → Bool
is_unit_broken before after packet =
    gives_up_run before.state.run (before.state.format.read packet) || leaves_no_byte before after

-- whether it is known that nothing of its access unit is missing before a packet that was taken, no
-- unit lacks its end or its start by it, and it left no run that is too long
abbrev pub is_sound : ℕ → Assembly → ℕ × RtpBody → Bool
is_sound most s p =
    if nat_lt most
    (run_len (after_sequenced_packet (taken_by s p.1.timestamp) p.0 p.1.payload).state.run)
    then false
    else (if is_unit_broken (taken_by s p.1.timestamp).at_work
    (after_sequenced_packet (taken_by s p.1.timestamp) p.0 p.1.payload) p.1.payload
    then false else follows s p)

-- the access unit of a packet that was taken, with what it completed
abbrev pub unit_with : ℕ → Assembly → ℕ × RtpBody → AccessUnitValue
unit_with most s p = whole_if (is_sound most s p) (record (unit_at s.unit p.1.timestamp) {
  bytes = (after_taken_packet most (taken_by s p.1.timestamp) p.0 p.1.payload).at_work.out;
  extra = (after_taken_packet most (taken_by s p.1.timestamp) p.0 p.1.payload).at_work.extra;
})

-- a packet that was taken leaves what its access unit has at the front, and puts the units that it
-- completes behind it
abbrev pub AppendsUnits : ℕ → Assembly → ℕ × RtpBody → Type 0
AppendsUnits most s p = (unit_with most s p).bytes ≡ (unit_at s.unit p.1.timestamp).bytes
    ++ byte_stream s.state.is_avc (units_brought (with_run_if (is_expected s.expected p.0)
    (taken_by s p.1.timestamp).at_work).state (p.1.payload ∷ []))

-- an access unit whose text was given up, since it is longer than the limit
abbrev pub without_text : AccessUnitValue → AccessUnitValue
without_text unit = record unit { bytes = []; extra = extras.None; is_whole = false }

-- the one that is open, its text given up where that has more bytes than this
abbrev pub unit_within : ℕ → Option AccessUnitValue → Option AccessUnitValue
unit_within limit None = None
unit_within limit (Some unit) =
    Some (if nat_lt limit (length unit.bytes) then without_text unit else unit)

-- so of an assembler
abbrev pub with_unit_within : ℕ → Assembly → Assembly
with_unit_within limit s = record s { unit = unit_within limit s.unit }

-- what is given out of the access unit that was open: it is known to be whole only if this holds too
abbrev pub given_out : Bool → Option AccessUnitValue → List AccessUnitValue
given_out holds None = []
given_out holds (Some unit) = whole_if holds unit ∷ []

-- No access unit is open, and no packets are missing before numbers skipped.
pub record IsNoneOpen (unit : Option AccessUnitValue) (is_gap : Bool) : Type 0 where
  pub none : unit ≡ None
  pub clear : is_gap ≡ false

-- those that ended, with what is open at the end
abbrev pub with_open_unit : List AccessUnit → OpenAccessUnitView → List AccessUnitValue
with_open_unit ended it = unit_views ended ++ given_out false it.unit

-- What a packet ends by its timestamp, if that is another one. The access unit is known to be whole
-- only if the packet follows it, and no run is open.
abbrev pub ended_by : Assembly → ℕ × RtpBody → List AccessUnitValue
ended_by s p = if is_unit_at s.unit p.1.timestamp then []
    else given_out (follows s p && is_run_closed s.state.run) s.unit

-- a packet without its marker
abbrev pub without_marker : ℕ × RtpBody → ℕ × RtpBody
without_marker p = (p.0, rtp_body p.1.timestamp false p.1.payload)

-- What stands after a packet that was taken, before the access unit that is open is measured: another
-- timestamp ends the one that was, and the marker ends the packet's own, which is known to be whole
-- only if no run is open then.
abbrev pub after_taken_rtp : ℕ → Assembly → ℕ × RtpBody → Assembly
after_taken_rtp most s p = record {
  state = (after_taken_packet most (taken_by s p.1.timestamp) p.0 p.1.payload).at_work.state;
  expected = (after_taken_packet most (taken_by s p.1.timestamp) p.0 p.1.payload).expected;
  is_gap = false;
  closed = if p.1.marker then Some p.1.timestamp else None;
  unit = if p.1.marker then None else Some (unit_with most s p);
  ended = (s.ended ++ ended_by s p)
      ++ (if p.1.marker then whole_if (is_run_closed
      (after_taken_packet most (taken_by s p.1.timestamp) p.0 p.1.payload).at_work.state.run)
      (unit_with most s p) ∷ [] else []);
}

-- whether the text that a packet leaves open is given up, since it is longer than the limit
abbrev pub is_text_given_up : ℕ → ℕ → Assembly → ℕ × RtpBody → Bool
is_text_given_up most limit s p = nat_lt limit (unit_len (after_taken_rtp most s p).unit)

-- what stands after an answer: a packet that was not taken changes nothing
abbrev pub after_rtp : ℕ → ℕ → Assembly → ℕ × RtpBody →
    Result Received PacketError → Assembly
after_rtp most limit s p (Ok (Late n)) = s
after_rtp most limit s p (Ok answer) = with_unit_within limit (after_taken_rtp most s p)
after_rtp most limit s p (Err error) = s

-- what stands behind numbers that are missing, up to this one: the open run is given up, and neither
-- what is open nor what the next packet begins is known to be whole
abbrev pub behind_missing : Assembly → ℕ → Assembly
behind_missing s number = record {
  state = state_with_run s.state None;
  expected = expected_after_skip s.expected number;
  is_gap = true;
  closed = s.closed;
  unit = option_map (whole_if false) s.unit;
  ended = s.ended;
}

-- what stands after a number that came and bears nothing of the stream: in order, or where it is late,
-- only the number that is expected changes; else others before it are missing
abbrev pub after_unit_skip : Assembly → ℕ → Assembly
after_unit_skip s number =
    if is_run_kept s.expected number
    then record s { expected = expected_after_skip s.expected number }
    else behind_missing s number

-- one that comes in order changes only which number is expected
abbrev pub UnitSkipsInOrder : Assembly → Type 0
UnitSkipsInOrder s = (number : ℕ) → number < 2 ^ 16 → is_expected s.expected number ≡ true →
    after_unit_skip s number ≡ record s { expected = Some (next_sequence_number number) }

-- what stands after a number whose packet was refused, and which is missing: one that is late changes
-- nothing
abbrev pub after_pass_over : Assembly → ℕ → Assembly
after_pass_over s number = if is_late s.expected number then s else behind_missing s number

-- what stands once the access unit that is open ended by itself: it is known to be whole only if no run
-- is open, and nothing is missing behind it
abbrev pub after_ending : Assembly → Assembly
after_ending s = record s {
  state = state_with_run s.state None;
  closed = None;
  unit = None;
  ended = s.ended ++ given_out (not s.is_gap && is_run_closed s.state.run) s.unit;
}

-- what stands after the end: what was open is not known to be whole, no run is open, and any number
-- may be the first
abbrev pub after_finishing : Assembly → Assembly
after_finishing s = assembly (state_with_run s.state None) None None
    (s.ended ++ given_out false s.unit)

-- what stands after answers
abbrev pub after_all_rtp : ℕ → ℕ → Assembly → List (ℕ × RtpBody) →
    List (Result Received PacketError) → Assembly
after_all_rtp most limit s (p ∷ packets) (answer ∷ answers) = after_all_rtp most limit
    (after_rtp most limit s p answer) packets answers
after_all_rtp most limit s packets answers = s

-- one answer for each packet, by what those before it left
abbrev pub HaveAssemblyAnswers : ℕ → ℕ → Assembly → List (ℕ × RtpBody) →
    List (Result Received PacketError) → Type 0
HaveAssemblyAnswers most limit s [] [] = Unit {0}
HaveAssemblyAnswers most limit s (p ∷ packets) (answer ∷ answers) = IsAssemblyAnswer most s p answer
    × HaveAssemblyAnswers most limit (after_rtp most limit s p answer) packets answers
HaveAssemblyAnswers most limit s packets answers = ⊥

-- What an assembler has done with packets, any whatever: each has its answer, and it stands after
-- them.
pub record AreAssembled (most limit : ℕ) (s : Assembly)
    (packets : List (ℕ × RtpBody)) (answers : List (Result Received PacketError))
    (new : Assembly) : Type 0 where
  pub each : HaveAssemblyAnswers most limit s packets answers
  pub stands : new ≡ after_all_rtp most limit s packets answers
