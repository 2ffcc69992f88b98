-- What an assembler does with the packets that are handed on to it.
use Rattle.std.proofs.Common.{◌≡◌, ◌∙◌, ap, sym, subst, refl, ℕ, ◌<◌, Bool, true, false, cond, List, [], ◌∷◌, ◌++◌, Option, Some, None, append_assoc, arith, inl, inr, Result, Ok, Err}
use Rattle.std.specs.Prelude.{◌==◌, ◌&&◌, nat_lt, MatchBool, not, if◌then◌else◌, IfOk}
use Rattle.std.proofs.lemmas.Bool.Decides.{nat_tests}
use Rattle.h26x_core.specs.Sequence.{next_sequence_number, distance_ahead, is_late, missing_count, distance_behind, is_expected}
use Rattle.h26x_model.specs.Receive.DepacketizerState.{IsPacketOutcome}
use Rattle.h26x_reorder.specs.Rtp.{RtpBody}
use Rattle.h26x_reorder.specs.ReorderBuffer.{IsHeldInOrder}
use Rattle.h26x_assembler.specs.AccessUnit.{AccessUnitValue, Assembly, given_out, ended_by, after_taken_rtp, with_unit_within, after_rtp, behind_missing, after_unit_skip, after_pass_over, after_ending, after_finishing, is_run_closed, whole_if, unit_with, taken_by, IsAssemblyAnswer}
use Rattle.h26x_access_units.specs.Numbers.{bears_nothing}
use Rattle.h26x_access_units.specs.Reception.{begun_for, ends_with, after_no_unit, is_no_unit, assembly_after, IsAnswerTo, expected_for}
use Rattle.h26x_core.specs.declared.error.PacketError.{PacketError}
use Rattle.h26x_receiver.specs.declared.received.Received.{Received}
use Rattle.h26x_receiver.specs.declared.received.Received.TheVariants as received
use Rattle.h26x_receiver.specs.Sequenced.{is_run_kept, expected_after_skip, after_taken_packet, skip_answer, SequencedDepacketization, IsSequencedAnswer, is_taken, answer_by_missing, taken_packet_answer, after_sequenced_packet, with_run_if, as_outcome}
use Rattle.h26x_model.specs.Receive.RunLimit.{run_len}
use Rattle.h26x_access_units.specs.Account.{texts_of}
use Rattle.h26x_access_units.proofs.MovesLemmas.{IsExpectedDue}

abbrev Packet : Type 0
Packet = ℕ × RtpBody

abbrev Packets : Type 0
Packets = List (ℕ × RtpBody)

-- an assembler to which access units that are gone were put back
abbrev pub with_gone : List AccessUnitValue → Assembly → Assembly
with_gone gone a = record a { ended = gone ++ a.ended }

module _ (gone : List AccessUnitValue) where
  pub ending_back : (a : Assembly) → after_ending (with_gone gone a) ≡ with_gone gone (after_ending a)
  ending_back a = ap (λ (e : List AccessUnitValue). record (after_ending a) { ended = e }) (append_assoc gone a.ended (given_out (not a.is_gap && is_run_closed a.state.run) a.unit))

  pub finishing_back : (a : Assembly) → after_finishing (with_gone gone a) ≡ with_gone gone (after_finishing a)
  finishing_back a = ap (λ (e : List AccessUnitValue). record (after_finishing a) { ended = e }) (append_assoc gone a.ended (given_out false a.unit))

  skip_back : (a : Assembly) (number : ℕ) → after_unit_skip (with_gone gone a) number ≡ with_gone gone (after_unit_skip a number)
  skip_back a number = elim (is_run_kept a.expected number) as (λ b.
      cond b (record (with_gone gone a) { expected = expected_after_skip a.expected number }) (behind_missing (with_gone gone a) number)
      ≡ with_gone gone (cond b (record a { expected = expected_after_skip a.expected number }) (behind_missing a number))) [ true ↦ refl | false ↦ refl ]

  over_back : (a : Assembly) (number : ℕ) → after_pass_over (with_gone gone a) number ≡ with_gone gone (after_pass_over a number)
  over_back a number = elim (is_late a.expected number) as (λ b.
      cond b (with_gone gone a) (behind_missing (with_gone gone a) number) ≡ with_gone gone (cond b a (behind_missing a number))) [ true ↦ refl | false ↦ refl ]

  taken_back : (most limit : ℕ) (a : Assembly) (p : Packet) → with_unit_within limit (after_taken_rtp most (with_gone gone a) p) ≡ with_gone gone (with_unit_within limit (after_taken_rtp most a p))
  taken_back most limit a p =
      let own = (if p.1.marker then whole_if (is_run_closed (after_taken_packet most (taken_by a p.1.timestamp) p.0 p.1.payload).at_work.state.run) (unit_with most a p) ∷ [] else []) in
      ap (λ (e : List AccessUnitValue). record (with_unit_within limit (after_taken_rtp most a p)) { ended = e })
      (ap (λ (e : List AccessUnitValue). e ++ own) (append_assoc gone a.ended (ended_by a p)) ∙ append_assoc gone (a.ended ++ ended_by a p) own)

  rtp_back : (most limit : ℕ) (a : Assembly) (p : Packet) (answer : Result Received PacketError) → after_rtp most limit (with_gone gone a) p answer ≡ with_gone gone (after_rtp most limit a p answer)
  rtp_back most limit a p (Ok (received.Late n)) = refl
  rtp_back most limit a p (Ok received.InOrder) = taken_back most limit a p
  rtp_back most limit a p (Ok (received.Gap n)) = taken_back most limit a p
  rtp_back most limit a p (Ok (received.TooLong n)) = taken_back most limit a p
  rtp_back most limit a p (Err error) = refl

  no_unit_back : (a : Assembly) (p : Packet) → after_no_unit (with_gone gone a) p ≡ with_gone gone (after_no_unit a p)
  no_unit_back a p = elim (ends_with a p) as (λ b. after_unit_skip (cond b (after_ending (with_gone gone a)) (with_gone gone a)) p.0 ≡ with_gone gone (after_unit_skip (cond b (after_ending a) a) p.0)) [
    | true ↦ ap (λ (x : Assembly). after_unit_skip x p.0) (ending_back a) ∙ skip_back (after_ending a) p.0
    | false ↦ skip_back a p.0
  ]

  pub after_back : (most limit : ℕ) (a : Assembly) (p : Packet) (answer : Result Received PacketError) → assembly_after most limit (with_gone gone a) p answer ≡ with_gone gone (assembly_after most limit a p answer)
  after_back most limit a p (Ok answer) = elim (bears_nothing p.1.payload) as (λ b.
      cond b (after_unit_skip (with_gone gone a) p.0) (after_rtp most limit (with_gone gone a) p (Ok answer)) ≡ with_gone gone (cond b (after_unit_skip a p.0) (after_rtp most limit a p (Ok answer)))) [
        | true ↦ skip_back a p.0
        | false ↦ rtp_back most limit a p (Ok answer)
      ]
  after_back most limit a p (Err error) = elim (is_no_unit a error p.1.payload) as (λ b.
      cond b (after_no_unit (with_gone gone a) p) (after_pass_over (with_gone gone a) p.0) ≡ with_gone gone (cond b (after_no_unit a p) (after_pass_over a p.0))) [
        | true ↦ no_unit_back a p
        | false ↦ over_back a p.0
      ]

pub texts_more : (units more_units : List AccessUnitValue) → texts_of (units ++ more_units) ≡ texts_of units ++ texts_of more_units
texts_more [] more_units = refl
texts_more (unit ∷ units) more_units = elim (bears_nothing unit.bytes) as (λ b.
    cond b (texts_of (units ++ more_units)) ((unit.timestamp, unit.bytes) ∷ texts_of (units ++ more_units))
    ≡ cond b (texts_of units) ((unit.timestamp, unit.bytes) ∷ texts_of units) ++ texts_of more_units) [
      | true ↦ texts_more units more_units
      | false ↦ ap (λ (l : List (ℕ × List ℕ)). (unit.timestamp, unit.bytes) ∷ l) (texts_more units more_units)
    ]

-- an answer isn't that a packet is late
abbrev pub IsOnTime : Result Received PacketError → Type 0
IsOnTime (Ok answer) = is_taken (Ok answer) ≡ true
IsOnTime (Err error) = Unit {0}

missing_on_time : (missing : ℕ) (long : Bool) → is_taken (Ok (answer_by_missing missing long)) ≡ true
missing_on_time missing true = refl
missing_on_time missing false = elim (missing == 0) as (λ b. is_taken (Ok (cond b received.InOrder (received.Gap missing))) ≡ true) [ true ↦ refl | false ↦ refl ]

pub skip_on_time : (expected : Option ℕ) (number : ℕ) → is_late expected number ≡ false → is_taken (Ok (skip_answer expected number)) ≡ true
skip_on_time expected number timely = rw timely (missing_on_time (missing_count expected number) false)

-- so of a packet whose number isn't late
sequenced_on_time : (most : ℕ) (s : SequencedDepacketization) (number : ℕ) (packet : List ℕ) (answer : Result Received PacketError) → is_late s.expected number ≡ false → IsSequencedAnswer most s number packet answer → IsOnTime answer
sequenced_on_time most s number packet answer timely it = by answer (subst (λ (b : Bool). MatchBool b (answer ≡ Ok (received.Late (distance_behind s.expected number)))
    (IsPacketOutcome (with_run_if (is_expected s.expected number) s.at_work) packet (as_outcome answer) × IfOk answer (λ it. it ≡ taken_packet_answer most s number packet))) timely it).1
  where
    by : (answer : Result Received PacketError) → IfOk answer (λ it. it ≡ taken_packet_answer most s number packet) → IsOnTime answer
    by (Ok x) is = subst (λ (y : Received). is_taken (Ok y) ≡ true) (sym is) (missing_on_time (missing_count s.expected number) (nat_lt most (run_len (after_sequenced_packet s number packet).state.run)))
    by (Err error) is = tt

pub answered_on_time : (most : ℕ) (a : Assembly) (p : Packet) (answer : Result Received PacketError) → is_late a.expected p.0 ≡ false → IsAnswerTo most a p answer → IsOnTime answer
answered_on_time most a p answer timely it = by (bears_nothing p.1.payload) it
  where
    taken : IsAssemblyAnswer most a p answer → IsOnTime answer
    taken (inl is) = subst IsOnTime (sym is) tt
    taken (inr is) = sequenced_on_time most (taken_by a p.1.timestamp) p.0 p.1.payload answer timely is

    by : (b : Bool) → MatchBool b (answer ≡ Ok (skip_answer a.expected p.0)) (IsAssemblyAnswer most a p answer) → IsOnTime answer
    by true is = subst IsOnTime (sym is) (skip_on_time a.expected p.0 timely)
    by false is = taken is

-- the number behind it is expected then
skip_expects : (a : Assembly) (number : ℕ) → is_late a.expected number ≡ false → (after_unit_skip a number).expected ≡ Some (next_sequence_number number)
skip_expects a number timely = elim (is_run_kept a.expected number) as (λ b. (cond b (record a { expected = expected_after_skip a.expected number }) (behind_missing a number)).expected ≡ Some (next_sequence_number number)) [
  | true ↦ rw timely refl
  | false ↦ rw timely refl
]

over_expects : (a : Assembly) (number : ℕ) → is_late a.expected number ≡ false → (after_pass_over a number).expected ≡ Some (next_sequence_number number)
over_expects a number timely = rw timely refl

pub after_expects : (most limit : ℕ) (a : Assembly) (p : Packet) (answer : Result Received PacketError) → is_late a.expected p.0 ≡ false → IsOnTime answer → (assembly_after most limit a p answer).expected ≡ Some (next_sequence_number p.0)
after_expects most limit a p (Ok answer) timely on_time = elim (bears_nothing p.1.payload) as (λ b. (cond b (after_unit_skip a p.0) (after_rtp most limit a p (Ok answer))).expected ≡ Some (next_sequence_number p.0)) [
  | true ↦ skip_expects a p.0 timely
  | false ↦ by answer on_time
]
  where
    by : (answer : Received) → is_taken (Ok answer) ≡ true → (after_rtp most limit a p (Ok answer)).expected ≡ Some (next_sequence_number p.0)
    by (received.Late n) is = absurd (let bad = is in cc)
    by received.InOrder is = refl
    by (received.Gap n) is = refl
    by (received.TooLong n) is = refl
after_expects most limit a p (Err error) timely on_time = elim (is_no_unit a error p.1.payload) as (λ b. (cond b (after_no_unit a p) (after_pass_over a p.0)).expected ≡ Some (next_sequence_number p.0)) [
  | true ↦ elim (ends_with a p) as (λ b. (after_unit_skip (cond b (after_ending a) a) p.0).expected ≡ Some (next_sequence_number p.0)) [
    | true ↦ skip_expects (after_ending a) p.0 timely
    | false ↦ skip_expects a p.0 timely
  ]
  | false ↦ over_expects a p.0 timely
]

-- a packet that is the first that waits isn't late
early_at : (due number : ℕ) → distance_ahead due number < 32768 → is_late (Some due) number ≡ false
early_at due number e = grind (arith, nat_tests)

own_distance : (number : ℕ) → number < 65536 → distance_ahead number number < 32768
own_distance number small = omega (arith, small)

pub first_timely : (a : Assembly) (due : Option ℕ) (p : Packet) (held : Packets) → IsHeldInOrder due (p ∷ held) → IsExpectedDue a.expected due → is_late (begun_for a p).expected p.0 ≡ false
first_timely a None p held order is = absurd (let bad = order in cc)
first_timely a (Some due) p held order is = by a.expected is
  where
    by : (expected : Option ℕ) → IsExpectedDue expected (Some due) → is_late (expected_for expected p) p.0 ≡ false
    by None is = elim (bears_nothing p.1.payload) as (λ b. is_late (cond b None (Some p.0)) p.0 ≡ false) [
      | true ↦ refl
      | false ↦ early_at p.0 p.0 (own_distance p.0 order.1.0)
    ]
    by (Some e) is = let same : due ≡ e = cc in subst (λ (d : ℕ). is_late (Some d) p.0 ≡ false) same (early_at due p.0 order.1.2)
