-- What becomes of packets with their sequence numbers (ours).
use Rattle.std.specs.Prelude.{◌≡◌, ℕ, ◌==◌, nat_lt, Bool, true, false, ◌||◌, if◌then◌else◌, List, [], ◌∷◌, Option, Some, None, Result, Ok, Err, IfOk, MatchBool, ◌+◌, ◌≤◌, ◌^◌, ◌<◌, length}
use Rattle.h26x_core.specs.declared.extra.CodecExtra.{CodecExtra}
use Rattle.h26x_core.specs.declared.error.PacketError.{PacketError}
use Rattle.h26x_model.specs.Receive.DepacketizerState.{DepacketizerState, Depacketization, depacketization, after_packets, IsPacketOutcome}
use Rattle.h26x_model.specs.Receive.RunLimit.{run_len, with_open_run, with_run_within}
use Rattle.h26x_depacketizer.specs.OpenText.{OpenTextView, text_depacketization}
use Rattle.h26x_receiver.specs.declared.received.Received.{Received}
use Rattle.h26x_receiver.specs.declared.sequenced.SequencedDepacketizer.{SequencedDepacketizer}
use Rattle.h26x_receiver.specs.declared.received.Received.TheVariants.{InOrder, Gap, TooLong, Late}
use Rattle.h26x_core.specs.Sequence.{next_sequence_number, missing_count, distance_behind, is_late, is_expected}
use Rattle.h26x_depacketizer.specs.RunDepacketizer.{RunStaysWithin}
use Rattle.h26x_depacketizer.specs.UnitSink.{Sink}

-- what a depacketizer works on, and the number that is expected next, if one was taken
pub record SequencedDepacketization : Type 0 where
  pub at_work : Depacketization
  pub expected : Option ℕ

-- these two
abbrev pub with_expected : Depacketization → Option ℕ → SequencedDepacketization
with_expected w expected = record { at_work = w; expected = expected }

-- of a depacketizer, with what was written and told
abbrev pub sequenced_depacketization : DepacketizerState → Option ℕ → List ℕ → CodecExtra →
    SequencedDepacketization
sequenced_depacketization r expected out extra = with_expected (depacketization r out extra) expected

-- the same where the open run stands in the text
abbrev pub sequenced_in_text : DepacketizerState → Option ℕ → OpenTextView → CodecExtra →
    SequencedDepacketization
sequenced_in_text r expected text extra = with_expected (text_depacketization r text extra) expected

-- what a receiver works on, by what its depacketizer is
abbrev pub work_at : {D : Type 0} → (D → DepacketizerState) → SequencedDepacketizer D → List ℕ →
    CodecExtra → Depacketization
work_at state it out extra = depacketization (state it.depacketizer) out extra

-- a receiver as it stands, by what its depacketizer is, with what was written and told
abbrev pub receiver_at : {D : Type 0} → (D → DepacketizerState) → SequencedDepacketizer D →
    List ℕ → CodecExtra → SequencedDepacketization
receiver_at state it out extra = sequenced_depacketization (state it.depacketizer) it.expected out
    extra

-- the same where the open run stands in the text
abbrev pub receiver_in_text : {D : Type 0} → (D → DepacketizerState) → SequencedDepacketizer D →
    OpenTextView → CodecExtra → SequencedDepacketization
receiver_in_text state it text extra = sequenced_in_text (state it.depacketizer) it.expected text
    extra

-- what a packet is taken by: the open run is given up, but where the packet is the one expected
abbrev pub with_run_if : Bool → Depacketization → Depacketization
with_run_if expected w = with_open_run w (if expected then w.state.run else None)

-- so a packet is met by a depacketizer at work on a sink
abbrev pub met_at_sink : Bool → DepacketizerState → Sink → CodecExtra → Depacketization
met_at_sink is_next r sink extra = with_run_if is_next (depacketization r sink.bytes extra)

-- what stands after a packet that was taken, before its run is measured
abbrev pub after_sequenced_packet : SequencedDepacketization → ℕ → List ℕ → Depacketization
after_sequenced_packet s number packet = after_packets
    (with_run_if (is_expected s.expected number) s.at_work) (packet ∷ [])

-- then the run is no longer than before and the packet
abbrev pub RunGrowsByPacket : SequencedDepacketization → ℕ → List ℕ → Type 0
RunGrowsByPacket s number packet = run_len (after_sequenced_packet s number packet).state.run
    ≤ run_len s.at_work.state.run + length packet

-- what is answered for a packet that was taken, by how many are missing before it, and whether the
-- run that it left was too long
abbrev pub answer_by_missing : ℕ → Bool → Received
answer_by_missing missing is_long =
    if is_long then TooLong missing else (if missing == 0 then InOrder else Gap missing)

-- so for a packet with its number
abbrev pub taken_packet_answer : ℕ → SequencedDepacketization → ℕ → List ℕ → Received
taken_packet_answer most s number packet = answer_by_missing (missing_count s.expected number)
    (nat_lt most (run_len (after_sequenced_packet s number packet).state.run))

-- whether an answer says that a packet was taken
abbrev pub is_taken : Result Received PacketError → Bool
is_taken (Ok (Late n)) = false
is_taken (Ok answer) = true
is_taken (Err error) = false

-- what holds of a packet that was taken
abbrev pub IfTaken : Result Received PacketError → Type 0 → Type 0
IfTaken answer holds = is_taken answer ≡ true → holds

-- what holds of one that was not
abbrev pub UnlessTaken : Result Received PacketError → Type 0 → Type 0
UnlessTaken answer holds = MatchBool (is_taken answer) (Unit {0}) holds

-- an answer as a depacketizer's outcome
abbrev pub as_outcome : Result Received PacketError → Result (Unit {0}) PacketError
as_outcome (Ok answer) = Ok tt
as_outcome (Err error) = Err error

-- What is answered for a packet: it is late, or it has the outcome that a depacketizer gives it that
-- has the open run only where the packet is the one expected.
abbrev pub IsSequencedAnswer : ℕ → SequencedDepacketization → ℕ → List ℕ →
    Result Received PacketError → Type 0
IsSequencedAnswer most s number packet answer =
    MatchBool (is_late s.expected number)
    (answer ≡ Ok (Late (distance_behind s.expected number)))
    (IsPacketOutcome (with_run_if (is_expected s.expected number) s.at_work) packet
    (as_outcome answer)
    × IfOk answer (λ it. it ≡ taken_packet_answer most s number packet))

-- so of a receiver as it stands
abbrev pub IsAnswerOf : {D : Type 0} → (D → DepacketizerState) → SequencedDepacketizer D → List ℕ →
    CodecExtra → ℕ → List ℕ → Result Received PacketError → Type 0
IsAnswerOf state it out extra number packet answer =
    IsSequencedAnswer it.run_limit (receiver_at state it out extra) number packet answer

-- the same where the open run stands in the text
abbrev pub IsAnswerInText : {D : Type 0} → (D → DepacketizerState) → SequencedDepacketizer D →
    OpenTextView → CodecExtra → ℕ → List ℕ → Result Received PacketError → Type 0
IsAnswerInText state it text extra number packet answer =
    IsSequencedAnswer it.run_limit (receiver_in_text state it text extra) number packet answer

-- what stands after a packet that was taken
abbrev pub after_taken_packet : ℕ → SequencedDepacketization → ℕ → List ℕ →
    SequencedDepacketization
after_taken_packet most s number packet = with_expected
    (with_run_within most (after_sequenced_packet s number packet))
    (Some (next_sequence_number number))

-- what stands after an answer: a packet that was not taken changes nothing
abbrev pub after_answer : ℕ → SequencedDepacketization → ℕ → List ℕ →
    Result Received PacketError → SequencedDepacketization
after_answer most s number packet (Ok (Late n)) = s
after_answer most s number packet (Ok answer) = after_taken_packet most s number packet
after_answer most s number packet (Err error) = s

-- what stands after answers
abbrev pub after_answers : ℕ → SequencedDepacketization → List (ℕ × List ℕ) →
    List (Result Received PacketError) → SequencedDepacketization
after_answers most s (p ∷ packets) (answer ∷ answers) = after_answers most
    (after_answer most s p.0 p.1 answer) packets answers
after_answers most s packets answers = s

-- whatever packets come, a run that is within the limit stays so
abbrev pub KeepsRunWithin : ℕ → SequencedDepacketization → Type 0
KeepsRunWithin most s = (packets : List (ℕ × List ℕ))
    (answers : List (Result Received PacketError)) → RunStaysWithin most s.at_work.state.run
    (after_answers most s packets answers).at_work.state.run

-- what is answered for a number that came and bears nothing of the stream
abbrev pub skip_answer : Option ℕ → ℕ → Received
skip_answer expected number =
    if is_late expected number then Late (distance_behind expected number)
    else answer_by_missing (missing_count expected number) false

-- the number that is expected behind it: one that is late changes nothing
abbrev pub expected_after_skip : Option ℕ → ℕ → Option ℕ
expected_after_skip expected number =
    if is_late expected number then expected else Some (next_sequence_number number)

-- whether the open run stays: the number is late, or the one expected
abbrev pub is_run_kept : Option ℕ → ℕ → Bool
is_run_kept expected number = is_late expected number || is_expected expected number

-- what stands after it: nothing is written, and the open run is given up where numbers before it are
-- missing
abbrev pub after_skip : SequencedDepacketization → ℕ → SequencedDepacketization
after_skip s number = with_expected (with_run_if (is_run_kept s.expected number) s.at_work)
    (expected_after_skip s.expected number)

-- so a receiver stands after it, whatever was written and told before
abbrev pub IsSkipped : {D : Type 0} → (D → DepacketizerState) → SequencedDepacketizer D → ℕ →
    SequencedDepacketizer D → Type 0
IsSkipped state old number new = (out : List ℕ) (extra : CodecExtra) →
    receiver_at state new out extra ≡ after_skip (receiver_at state old out extra) number

-- one that comes in order changes only which number is expected
abbrev pub SkipsInOrder : SequencedDepacketization → Type 0
SkipsInOrder s = (number : ℕ) → number < 2 ^ 16 → is_expected s.expected number ≡ true →
    after_skip s number ≡ with_expected s.at_work (Some (next_sequence_number number))

-- a depacketizer, or what else changes with each packet that is taken, once those that were taken are
abbrev pub having_taken_all : {A : Type 0} → (List ℕ → A → A) → List (List ℕ) →
    List (Result Received PacketError) → A → A
having_taken_all having (packet ∷ packets) (answer ∷ answers) it =
    having_taken_all having packets answers (if is_taken answer then having packet it else it)
having_taken_all having packets answers it = it

-- one answer for each packet, by what those before it left
abbrev pub HaveSequencedAnswers : ℕ → SequencedDepacketization → List (ℕ × List ℕ) →
    List (Result Received PacketError) → Type 0
HaveSequencedAnswers most s [] [] = Unit {0}
HaveSequencedAnswers most s (p ∷ packets) (answer ∷ answers) =
    IsSequencedAnswer most s p.0 p.1 answer
    × HaveSequencedAnswers most (after_answer most s p.0 p.1 answer) packets answers
HaveSequencedAnswers most s packets answers = ⊥

-- What a receiver has done with packets, any whatever: each has its answer, and it stands after
-- them.
pub record AreAllReceived (most : ℕ) (s : SequencedDepacketization) (packets : List (ℕ × List ℕ))
    (answers : List (Result Received PacketError)) (new : SequencedDepacketization) : Type 0 where
  pub each : HaveSequencedAnswers most s packets answers
  pub stands : new ≡ after_answers most s packets answers
