-- What a receiver knows of where access units end, while it takes packets of a sender.
use Rattle.std.proofs.Common.{◌≡◌, ◌∙◌, ap, sym, subst, refl, ℕ, ◌+◌, ◌≤◌, ◌<◌, Bool, true, false, cond, List, [], ◌∷◌, ◌++◌, length, Option, Some, None, arith, inl, inr, Result, Ok, Err}
use Rattle.std.specs.Prelude.{◌==◌, ◌||◌, ◌&&◌, nat_lt, MatchBool, if◌then◌else◌, not, is_some}
use Rattle.std.specs.Option.{option_map}
use Rattle.std.proofs.lemmas.List.{append-nil}
use Rattle.std.proofs.lemmas.Bool.Decides.{nat_tests}
use Rattle.h26x_core.specs.Sequence.{next_sequence_number, distance_ahead, is_late, missing_count, distance_behind, is_expected}
use Rattle.h26x_core.specs.declared.error.PacketError.{PacketError}
use Rattle.h26x_core.specs.declared.error.PacketError.TheVariants.{OutOfMemory}
use Rattle.h26x_model.specs.Receive.DepacketizerState.{DepacketizerState, IsPacketOutcome}
use Rattle.h26x_model.specs.Receive.RunLimit.{run_len, state_with_run}
use Rattle.h26x_receiver.specs.declared.received.Received.{Received}
use Rattle.h26x_receiver.specs.declared.received.Received.TheVariants as received
use Rattle.h26x_receiver.specs.Sequenced.{after_taken_packet, after_sequenced_packet, is_taken, taken_packet_answer, answer_by_missing, skip_answer, SequencedDepacketization, with_run_if}
use Rattle.h26x_reorder.specs.Rtp.{RtpBody}
use Rattle.h26x_assembler.specs.AccessUnit.{AccessUnitValue, Assembly, empty_unit, whole_if, without_text, is_unit_at, unit_at, taken_by, unit_with, unit_within, with_unit_within, after_taken_rtp, behind_missing, given_out, after_finishing, IsAssemblyAnswer, open_assembly, none_open}
use Rattle.h26x_access_units.specs.declared.numbers.AccessUnitNumbers.{AccessUnitNumbers}
use Rattle.h26x_access_units.specs.declared.numbers.NumbersSoFar.{NumbersSoFar}
use Rattle.h26x_access_units.specs.declared.framing.Framing.{Framing}
use Rattle.h26x_access_units.specs.declared.decoder.DecoderState.{DecoderState}
use Rattle.h26x_access_units.specs.Numbers.{bears_nothing, missing_told, missing_sum, is_timestamp, unit_numbers, after_gap, after_packet, numbers_still, after_missing, after_last, begun_numbers_at, fresh_numbers}
use Rattle.h26x_access_units.specs.Framing.{believes, framing_marked, fresh_framing}
use Rattle.h26x_access_units.specs.Decoder.{fresh_decoder}
use Rattle.h26x_access_units.specs.Reception.{IsAnswerTo, assembly_after, is_no_unit, begun_for, expected_for, marker_forgotten, framing_of, believed, framing_answered, numbers_answered, ends_before, is_behind_missing}
use Rattle.h26x_access_units.specs.WholeSent.{reads_no_unit, has_no_text, begins_unit, bears_slice, sent_at, sent_number, IsSentAt, IsSender}
use Rattle.h26x_access_units.specs.ToldWhole.{IsInTime, due_taken, due_passed, Deed, TookPacket, PassedPacket, EndedBefore, EndedStream, ToldFirst, DroppedAll, packet_deed, is_stream_new, took_none, open_stamp}
use Rattle.h26x_access_units.proofs.EndedLemmas.{SameStamp}
use Rattle.h26x_access_units.proofs.PieceLemmas.{told_is, one_missing, same_number, left_true, broken_at}
use Rattle.h26x_access_units.proofs.WholeSentLemmas.{refused_bare, answered_so, kind_with, content_ends}
use Rattle.h26x_access_units.proofs.SentLemmas.{next_place}

abbrev Packet : Type 0
Packet = ℕ × RtpBody

abbrev answer_of : Received → Result Received PacketError
answer_of x = Ok x

abbrev refusal : PacketError → Result Received PacketError
refusal error = Err error

-- what the last deed left
abbrev pub IsLast : List Deed → Assembly → NumbersSoFar → Type 0
IsLast [] a n = (a.expected ≡ None) × (n.skipped_gap ≡ 0)
IsLast (EndedStream ∷ ds) a n = (a.expected ≡ None) × (n.skipped_gap ≡ 0)
IsLast (DroppedAll ∷ ds) a n = (a.expected ≡ None) × (n.skipped_gap ≡ 0)
IsLast (TookPacket p ∷ ds) a n = (a.expected ≡ Some (next_sequence_number p.0)) × (a.is_gap ≡ false) × (n.has_begun ≡ true) × (n.skipped_gap ≡ 0)
IsLast (ToldFirst number ∷ ds) a n = (a.expected ≡ Some number) × (a.is_gap ≡ false) × (n.has_begun ≡ true) × (n.skipped_gap ≡ 0)
IsLast (deed ∷ ds) a n = Unit {0}

not_so : (b : Bool) → not b ≡ true → b ≡ false
not_so true e = absurd (let bad = e in cc)
not_so false e = refl

pub own_same : (x : ℕ) → (x == x) ≡ true
own_same x = grind (arith, nat_tests)

pub unit_stamp : (u : Option AccessUnitValue) (ts : ℕ) → (unit_at u ts).timestamp ≡ ts
unit_stamp None ts = refl
unit_stamp (Some u) ts = elim (u.timestamp == ts) as (λ b. (u.timestamp == ts) ≡ b → (cond b u (empty_unit ts)).timestamp ≡ ts) [
  | true ↦ λ e. same_number u.timestamp ts e
  | false ↦ λ e. refl
] refl

pub counted_stamp : (n : NumbersSoFar) (k : Option AccessUnitNumbers) (q : Packet) (missing : ℕ) → (unit_numbers (record n { unit = k }) q missing).timestamp ≡ q.1.timestamp
counted_stamp n None q missing = refl
counted_stamp n (Some k) q missing = elim (k.timestamp == q.1.timestamp) as (λ b. (k.timestamp == q.1.timestamp) ≡ b → (unit_numbers (record n { unit = Some k }) q missing).timestamp ≡ q.1.timestamp) [
  | true ↦ λ e. rw e (same_number k.timestamp q.1.timestamp e)
  | false ↦ λ e. rw e refl
] refl

-- a place near another one that has its number is that
pub near_same : (first i j : ℕ) → i < j + 32768 → j ≤ i + 32768 → sent_number first i ≡ sent_number first j → i ≡ j
near_same first i j ahead behind e = omega (arith, ahead, behind, e)

-- one whose number is not late is not behind it
near_ahead : (first due place : ℕ) → place < due + 32768 → due ≤ place + 32768 → distance_ahead (sent_number first due) (sent_number first place) < 32768 → due ≤ place
near_ahead first due place ahead behind e = omega (arith, ahead, behind, e)

near_behind : (first due place : ℕ) → place < due + 32768 → due ≤ place + 32768 → 32768 ≤ distance_ahead (sent_number first due) (sent_number first place) → place < due
near_behind first due place ahead behind e = omega (arith, ahead, behind, e)

not_below : (x y : ℕ) → x ≤ y → nat_lt y x ≡ false
not_below x y le = elim (nat_lt y x) as (λ c. nat_lt y x ≡ c → c ≡ false) [
  | true ↦ λ e. absurd (let bad : y < x = grind (arith, nat_tests) in omega (arith, le, bad))
  | false ↦ λ e. refl
] refl

is_below : (x y : ℕ) → y < x → nat_lt y x ≡ true
is_below x y lt = elim (nat_lt y x) as (λ c. nat_lt y x ≡ c → c ≡ true) [
  | true ↦ λ e. refl
  | false ↦ λ e. absurd (let bad : x ≤ y = grind (arith, nat_tests) in omega (arith, lt, bad))
] refl

module _ (state : DepacketizerState) (sent : List RtpBody) (first : ℕ) (sender : IsSender state sent) where
  -- the number that is due is that of the place
  abbrev pub IsDuePlace : Option ℕ → Option ℕ → Type 0
  IsDuePlace None expected = Unit {0}
  IsDuePlace (Some place) expected = expected ≡ Some (sent_number first place)

  -- behind an access unit of this timestamp that ended by itself the next packet has another one
  pub record Closed (due expected : Option ℕ) (x : ℕ) : Type 0 where
    pub at : ℕ
    pub within : at < length sent
    pub due_is : due ≡ Some (at + 1)
    pub expects : expected ≡ Some (sent_number first (at + 1))
    pub other : at + 1 < length sent → (sent_at sent (at + 1)).timestamp ≡ x → ⊥

  -- a slice of this timestamp is before the number that is expected
  pub record Sliced (due expected : Option ℕ) (x : ℕ) : Type 0 where
    pub last : ℕ
    pub within : last < length sent
    pub due_is : due ≡ Some (last + 1)
    pub expects : expected ≡ Some (sent_number first (last + 1))
    pub at : ℕ
    pub before : at ≤ last
    pub stamp : (sent_at sent at).timestamp ≡ x
    pub bears : bears_slice state.format (sent_at sent at).payload ≡ true

  pub record Steady (due : Option ℕ) (ds : List Deed) (a : Assembly) (f : Framing) (n : NumbersSoFar) (d : DecoderState) : Type 0 where
    pub kind : a.state ≡ state_with_run state a.state.run
    pub closed : a.closed ≡ None
    pub no_gap : a.expected ≡ None → a.is_gap ≡ false
    pub marks : f.marks_slices ≡ false
    pub still : f.stands_still ≡ false
    pub sync : SameStamp a.unit n.unit
    pub opened : (x : ℕ) → is_unit_at a.unit x ≡ true → open_stamp ds ≡ Some x
    pub marked : (x : ℕ) → n.marked ≡ Some x → (a.unit ≡ None) × (a.is_gap ≡ false → Closed due a.expected x)
    pub slices : f.has_slice ≡ true → (x : ℕ) → is_unit_at a.unit x ≡ true → Sliced due a.expected x
    pub last : IsLast ds a n
    pub place : IsDuePlace due a.expected
    pub none : took_none ds ≡ true → (a.unit ≡ None) × (a.ended ≡ []) × (d.has_begun ≡ false)

  -- where a packet that comes in time is late, or isn't
  on_time_place : (place x : ℕ) (p : Packet) (e : Option ℕ) → e ≡ Some (sent_number first x) → p.0 ≡ sent_number first place → IsInTime (Some x) place → is_late e p.0 ≡ false → x ≤ place
  on_time_place place x p e e_is number near timely =
      let late : is_late (Some (sent_number first x)) (sent_number first place) ≡ false = subst (λ (y : Option ℕ). is_late y (sent_number first place) ≡ false) e_is (subst (λ (y : ℕ). is_late e y ≡ false) number timely) in
      let ahead : distance_ahead (sent_number first x) (sent_number first place) < 32768 = grind (arith, nat_tests) in
      near_ahead first x place near.0 near.1 ahead

  late_place : (place x : ℕ) (p : Packet) (e : Option ℕ) → e ≡ Some (sent_number first x) → p.0 ≡ sent_number first place → IsInTime (Some x) place → is_late e p.0 ≡ true → place < x
  late_place place x p e e_is number near late =
      let is : is_late (Some (sent_number first x)) (sent_number first place) ≡ true = subst (λ (y : Option ℕ). is_late y (sent_number first place) ≡ true) e_is (subst (λ (y : ℕ). is_late e y ≡ true) number late) in
      let behind : 32768 ≤ distance_ahead (sent_number first x) (sent_number first place) = grind (arith, nat_tests) in
      near_behind first x place near.0 near.1 behind

  expected_place : (x : ℕ) (p : Packet) (e : Option ℕ) → e ≡ Some (sent_number first x) → expected_for e p ≡ Some (sent_number first x)
  expected_place x p e e_is = ap (λ (y : Option ℕ). expected_for y p) e_is

  -- the place that is due then
  pub taken_due : (due : Option ℕ) (e : Option ℕ) (p : Packet) (place : ℕ) → IsDuePlace due e → p.0 ≡ sent_number first place → IsInTime due place → is_late (expected_for e p) p.0 ≡ false → due_taken due place ≡ place + 1
  taken_due None e p place is number near timely = refl
  taken_due (Some x) e p place is number near timely =
      let below = not_below x place (on_time_place place x p (expected_for e p) (expected_place x p e is) number near timely) in
      rw below refl

  passed_due : (due : Option ℕ) (e : Option ℕ) (p : Packet) (place x : ℕ) → due ≡ Some x → IsDuePlace due e → p.0 ≡ sent_number first place → IsInTime due place → is_late (expected_for e p) p.0 ≡ false → due_passed due place ≡ Some (place + 1)
  passed_due None e p place x due_is is number near timely = absurd (let bad = due_is in cc)
  passed_due (Some y) e p place x due_is is number near timely = ap Some (taken_due (Some y) e p place is number near timely)

  pub late_due : (due : Option ℕ) (e : Option ℕ) (p : Packet) (place : ℕ) → IsDuePlace due e → p.0 ≡ sent_number first place → IsInTime due place → is_late (expected_for e p) p.0 ≡ true → due_passed due place ≡ due
  late_due None e p place is number near late = refl
  late_due (Some x) e p place is number near late =
      let below = is_below x place (late_place place x p (expected_for e p) (expected_place x p e is) number near late) in
      rw below refl

  has_text : (p : Packet) → IsSentAt sent first p → has_no_text state.format p.1.payload ≡ false
  has_text p at = subst (λ (b : RtpBody). has_no_text state.format b.payload ≡ false) (sym at.body) (sender.texts at.place at.within)

  left_false : (x y : Bool) → (x || y) ≡ false → x ≡ false
  left_false true y e = absurd (let bad = e in cc)
  left_false false y e = refl

  pub text_is : (p : Packet) → IsSentAt sent first p → bears_nothing p.1.payload ≡ false
  text_is p at = left_false (bears_nothing p.1.payload) (reads_no_unit (state.format.extra false) p.1.payload (state.format.read p.1.payload)) (has_text p at)

  either_true : (x y : Bool) → y ≡ true → (x || y) ≡ true
  either_true true y e = refl
  either_true false y e = e

  -- each way in which a packet that is due is met
  module _ (a : Assembly) (f : Framing) (n : NumbersSoFar) (p : Packet) (most limit : ℕ) (at : IsSentAt sent first p) (kind : a.state ≡ state_with_run state a.state.run) where
    abbrev b : Assembly
    b = begun_for a p

    abbrev g : Framing
    g = framing_of b f n p

    abbrev q : Packet
    q = believed g p

    abbrev work : SequencedDepacketization
    work = taken_by b p.1.timestamp

    abbrev Answered : (Deed → Assembly → Framing → NumbersSoFar → Type 0) → Result Received PacketError → Type 0
    Answered P answer = P (packet_deed p answer) (marker_forgotten (assembly_after most limit b q answer)) (framing_answered f g q answer) (numbers_answered b n g q answer)

    pub due_ways : (P : Deed → Assembly → Framing → NumbersSoFar → Type 0) →
        (is_late b.expected p.0 ≡ false → P (TookPacket p) (marker_forgotten (with_unit_within limit (after_taken_rtp most b q))) (framing_marked g q.1.marker) (after_packet (numbers_still g.stands_still n) q (missing_count b.expected p.0))) →
        (is_late b.expected p.0 ≡ true → P (PassedPacket p) (marker_forgotten b) f n) →
        (is_late b.expected p.0 ≡ false → (m : ℕ) → P (PassedPacket p) (marker_forgotten (record (behind_missing b p.0) { expected = Some (next_sequence_number p.0) })) f (after_gap n (m + 1))) →
        (answer : Result Received PacketError) → IsAnswerTo most b q answer → (answer ≡ Err OutOfMemory → ⊥) →
        P (packet_deed p answer) (marker_forgotten (assembly_after most limit b q answer)) (framing_answered f g q answer) (numbers_answered b n g q answer)
    due_ways P took late refused answer answered room = by answer (subst (λ (c : Bool). MatchBool c (answer ≡ answer_of (skip_answer b.expected p.0)) (IsAssemblyAnswer most b q answer)) (text_is p at) answered) room
      where
        text : bears_nothing p.1.payload ≡ false
        text = text_is p at

        taken_any : (m : ℕ) (long : Bool) → is_taken (Ok (answer_by_missing m long)) ≡ true
        taken_any m true = refl
        taken_any m false = elim (m == 0) as (λ c. is_taken (Ok (cond c received.InOrder (received.Gap m))) ≡ true) [ true ↦ refl | false ↦ refl ]

        took_by : (x : Received) → is_late b.expected p.0 ≡ false → is_taken (Ok x) ≡ true → missing_told x ≡ missing_count b.expected p.0 → Answered P (Ok x)
        took_by (received.Late k) e on_time told = absurd (let bad = on_time in cc)
        took_by received.InOrder e on_time told = rw text (subst (λ (m : ℕ). P (TookPacket p) (marker_forgotten (with_unit_within limit (after_taken_rtp most b q))) (framing_marked g q.1.marker) (after_packet (numbers_still g.stands_still n) q m)) (sym told) (took e))
        took_by (received.Gap k) e on_time told = rw text (subst (λ (m : ℕ). P (TookPacket p) (marker_forgotten (with_unit_within limit (after_taken_rtp most b q))) (framing_marked g q.1.marker) (after_packet (numbers_still g.stands_still n) q m)) (sym told) (took e))
        took_by (received.TooLong k) e on_time told = rw text (subst (λ (m : ℕ). P (TookPacket p) (marker_forgotten (with_unit_within limit (after_taken_rtp most b q))) (framing_marked g q.1.marker) (after_packet (numbers_still g.stands_still n) q m)) (sym told) (took e))

        late_by : (x : Received) (k : ℕ) → is_late b.expected p.0 ≡ true → answer_of x ≡ Ok (received.Late k) → Answered P (Ok x)
        late_by x k e is = let same : x ≡ received.Late k = cc in subst (λ (y : Received). Answered P (Ok y)) (sym same) (rw text (late e))

        by : (answer : Result Received PacketError) → IsAssemblyAnswer most b q answer → (answer ≡ Err OutOfMemory → ⊥) → Answered P answer
        by (Ok x) (inl is) room = absurd (let bad = is in cc)
        by (Ok x) (inr is) room = elim (is_late b.expected p.0) as (λ l. is_late b.expected p.0 ≡ l → Answered P (Ok x)) [
          | true ↦ λ e. late_by x (distance_behind b.expected p.0) e (subst (λ (l : Bool). MatchBool l (answer_of x ≡ Ok (received.Late (distance_behind b.expected p.0)))
              (IsPacketOutcome (with_run_if (is_expected b.expected p.0) work.at_work) p.1.payload (Ok tt) × (x ≡ taken_packet_answer most work p.0 p.1.payload))) e is)
          | false ↦ λ e.
              let so = answered_so state [] [] most work p.0 p.1.payload (Ok x) e is in
              let long = nat_lt most (run_len (after_sequenced_packet work p.0 p.1.payload).state.run) in
              took_by x e (subst (λ (y : Received). is_taken (Ok y) ≡ true) (sym so.1) (taken_any (missing_count b.expected p.0) long)) (ap missing_told so.1 ∙ told_is (missing_count b.expected p.0) long)
        ] refl
        by (Err error) (inl is) room = absurd (room is)
        by (Err error) (inr is) room = elim (is_late b.expected p.0) as (λ l. is_late b.expected p.0 ≡ l → Answered P (Err error)) [
          | true ↦ λ e. absurd (let bad : refusal error ≡ Ok (received.Late (distance_behind b.expected p.0)) = subst (λ (l : Bool). MatchBool l (refusal error ≡ Ok (received.Late (distance_behind b.expected p.0)))
              (IsPacketOutcome (with_run_if (is_expected b.expected p.0) work.at_work) p.1.payload (Err error) × Unit {0})) e is in cc)
          | false ↦ λ e. elim (is_no_unit b error p.1.payload) as (λ c. is_no_unit b error p.1.payload ≡ c → Answered P (Err error)) [
            | true ↦ λ none. absurd (
                let so = answered_so state [] [] most work p.0 p.1.payload (Err error) e is in
                let bare = refused_bare state [] [] a.state.is_avc (with_run_if (is_expected b.expected p.0) work.at_work).state.run (a.state.format.read p.1.payload) (a.state.format.extra false) p.1.payload error so.0 none in
                let reads : reads_no_unit (state.format.extra false) p.1.payload (state.format.read p.1.payload) ≡ true = subst (λ (r : DepacketizerState). reads_no_unit (r.format.extra false) p.1.payload (r.format.read p.1.payload) ≡ true) kind bare in
                let bad = sym (has_text p at) ∙ either_true (bears_nothing p.1.payload) _ reads in cc)
            | false ↦ λ some. rw (some, e) (subst (λ (m : ℕ). P (PassedPacket p) (marker_forgotten (record (behind_missing b p.0) { expected = Some (next_sequence_number p.0) })) f (after_gap n m)) (sym (one_missing (missing_count b.expected p.0))) (refused e (missing_count b.expected p.0)))
          ] refl
        ] refl

  -- a packet that begins an access unit, or goes on behind another one, is the one expected, and none is missing before it
  pub record InTurn (a : Assembly) (p : Packet) : Type 0 where
    pub present : a.is_gap ≡ false
    pub expects : expected_for a.expected p ≡ Some p.0

  pub in_turn : (a : Assembly) (f : Framing) (p : Packet) → is_unit_at a.unit p.1.timestamp ≡ false → bears_nothing p.1.payload ≡ false → ends_before a f p ≡ false → is_late (begun_for a p).expected p.0 ≡ false → (a.expected ≡ None → a.is_gap ≡ false) → InTurn a p
  in_turn a f p other text follows timely no_gap = by a.expected a.is_gap refl refl timely (no_other (bears_nothing p.1.payload) (is_unit_at a.unit p.1.timestamp) _ (is_behind_missing a p.0) text other follows) no_gap
    where
      no_other : (c u x y : Bool) → c ≡ false → u ≡ false → (not c && cond u x y) ≡ false → y ≡ false
      no_other true u x y is_c is_u e = absurd (let bad = is_c in cc)
      no_other false true x y is_c is_u e = absurd (let bad = is_u in cc)
      no_other false false x y is_c is_u e = e

      not_gap : (l gap c : Bool) → l ≡ false → ((true && not l) && (gap || not c)) ≡ false → (gap ≡ false) × (c ≡ true)
      not_gap true gap c is e = absurd (let bad = is in cc)
      not_gap false true c is e = absurd (let bad = e in cc)
      not_gap false false true is e = (refl, refl)
      not_gap false false false is e = absurd (let bad = e in cc)

      by : (e : Option ℕ) (gap : Bool) → a.expected ≡ e → a.is_gap ≡ gap → is_late (expected_for e p) p.0 ≡ false → ((is_some e && not (is_late e p.0)) && (gap || not (is_expected e p.0))) ≡ false → (e ≡ None → gap ≡ false) → InTurn a p
      by None gap is_e is_gap timely follows no_gap = record {
        present = is_gap ∙ no_gap refl;
        expects = ap (λ (e : Option ℕ). expected_for e p) is_e ∙ ap (λ (c : Bool). cond c None (Some p.0)) text;
      }
      by (Some x) gap is_e is_gap timely follows no_gap =
          let both = not_gap (is_late (Some x) p.0) gap (p.0 == x) timely follows in
          record {
            present = is_gap ∙ both.0;
            expects = ap (λ (e : Option ℕ). expected_for e p) is_e ∙ ap Some (sym (same_number p.0 x both.1));
          }

  -- no access unit that ended by itself has the timestamp of the next packet
  pub not_closed : (due : Option ℕ) (a : Assembly) (f : Framing) (n : NumbersSoFar) (p : Packet) (at : IsSentAt sent first p) → IsInTime due at.place → ends_before a f p ≡ false → is_late (begun_for a p).expected p.0 ≡ false → (a.expected ≡ None → a.is_gap ≡ false) →
      ((x : ℕ) → n.marked ≡ Some x → (a.unit ≡ None) × (a.is_gap ≡ false → Closed due a.expected x)) → is_timestamp n.marked p.1.timestamp ≡ false
  not_closed due a f n p at in_time follows timely no_gap marked = by n.marked refl
    where
      bad_for : (x : ℕ) → n.marked ≡ Some x → x ≡ p.1.timestamp → ⊥
      bad_for x is same =
          let it = marked x is in
          let none_open : is_unit_at a.unit p.1.timestamp ≡ false = ap (λ (u : Option AccessUnitValue). is_unit_at u p.1.timestamp) it.0 in
          let turn = in_turn a f p none_open (text_is p at) follows timely no_gap in
          let closed = it.1 turn.present in
          let next : Some p.0 ≡ Some (sent_number first (closed.at + 1)) = sym turn.expects ∙ ap (λ (e : Option ℕ). expected_for e p) closed.expects in
          let number : p.0 ≡ sent_number first (closed.at + 1) = cc in
          let w_at = at.within in
          let near = subst (λ (x : Option ℕ). IsInTime x at.place) closed.due_is in_time in
          let place_is : at.place ≡ closed.at + 1 = near_same first at.place (closed.at + 1) near.0 near.1 (sym at.number ∙ number) in
          closed.other (omega (arith, place_is, w_at)) (ap (λ (k : ℕ). (sent_at sent k).timestamp) (sym place_is) ∙ ap (λ (b : RtpBody). b.timestamp) (sym at.body) ∙ sym same)

      by : (m : Option ℕ) → n.marked ≡ m → is_timestamp m p.1.timestamp ≡ false
      by None is = refl
      by (Some x) is = elim (x == p.1.timestamp) as (λ c. (x == p.1.timestamp) ≡ c → c ≡ false) [
        | true ↦ λ e. absurd (bad_for x is (same_number x p.1.timestamp e))
        | false ↦ λ e. refl
      ] refl

  -- where a packet tells the number that is expected
  begun_sliced : (due : Option ℕ) (p : Packet) (e : Option ℕ) (x : ℕ) → Sliced due e x → Sliced due (expected_for e p) x
  begun_sliced due p e x it = record { last = it.last; within = it.within; due_is = it.due_is; expects = ap (λ (y : Option ℕ). expected_for y p) it.expects; at = it.at; before = it.before; stamp = it.stamp; bears = it.bears }

  -- a packet behind that is not late is behind it too
  sliced_more : (due new : Option ℕ) (p : Packet) (e : Option ℕ) (x : ℕ) (at : IsSentAt sent first p) → IsInTime due at.place → new ≡ Some (at.place + 1) → is_late e p.0 ≡ false → Sliced due e x → Sliced new (Some (next_sequence_number p.0)) x
  sliced_more due new p e x at in_time new_is timely it =
      let before = it.before in
      let later = on_time_place at.place (it.last + 1) p e it.expects at.number (subst (λ (y : Option ℕ). IsInTime y at.place) it.due_is in_time) timely in
      record {
        last = at.place;
        within = at.within;
        due_is = new_is;
        expects = ap (λ (y : ℕ). Some (next_sequence_number y)) at.number ∙ ap Some (next_place first at.place);
        at = it.at;
        before = omega (arith, later, before);
        stamp = it.stamp;
        bears = it.bears;
      }

  both_false : (x y z : Bool) → x ≡ false → y ≡ false → (x || (y && z)) ≡ false
  both_false true y z is_x is_y = absurd (let bad = is_x in cc)
  both_false false true z is_x is_y = absurd (let bad = is_y in cc)
  both_false false false z is_x is_y = refl

  neither_now : (u x y z : Bool) → x ≡ false → y ≡ false → cond u x (y && z) ≡ false
  neither_now true x y z is_x is_y = is_x
  neither_now false x true z is_x is_y = absurd (let bad = is_y in cc)
  neither_now false x false z is_x is_y = refl

  -- with a packet that is taken
  module _ (due : Option ℕ) (ds : List Deed) (a : Assembly) (f : Framing) (n : NumbersSoFar) (d : DecoderState) (p : Packet) (most limit missing : ℕ) (at : IsSentAt sent first p) (in_time : IsInTime due at.place) (it : Steady due ds a f n d) (follows : ends_before a f p ≡ false) (timely : is_late (begun_for a p).expected p.0 ≡ false) where
    abbrev ts : ℕ
    ts = p.1.timestamp

    abbrev now_b : Assembly
    now_b = begun_for a p

    abbrev now_g : Framing
    now_g = framing_of now_b f n p

    abbrev now_q : Packet
    now_q = believed now_g p

    abbrev now_n : NumbersSoFar
    now_n = numbers_still now_g.stands_still n

    abbrev open_now : Bool → Option AccessUnitValue
    open_now m = unit_within limit (if m then None else Some (unit_with most now_b now_q))

    abbrev counted_now : Bool → Option AccessUnitNumbers
    counted_now m = if m then None else Some (unit_numbers now_n now_q (missing_sum now_n.skipped_gap missing))

    own_stamp_now : (unit_with most now_b now_q).timestamp ≡ ts
    own_stamp_now = unit_stamp now_b.unit ts

    sync_now : (m : Bool) → SameStamp (open_now m) (counted_now m)
    sync_now true = tt
    sync_now false =
        let stamps : (unit_with most now_b now_q).timestamp ≡ (unit_numbers now_n now_q (missing_sum now_n.skipped_gap missing)).timestamp = own_stamp_now ∙ sym (counted_stamp now_n now_n.unit now_q (missing_sum now_n.skipped_gap missing)) in
        elim (nat_lt limit (length (unit_with most now_b now_q).bytes)) as (λ long. (cond long (without_text (unit_with most now_b now_q)) (unit_with most now_b now_q)).timestamp ≡ (unit_numbers now_n now_q (missing_sum now_n.skipped_gap missing)).timestamp) [ true ↦ stamps | false ↦ stamps ]

    open_at : (m : Bool) (x : ℕ) → is_unit_at (open_now m) x ≡ true → ts ≡ x
    open_at true x e = absurd (let bad = e in cc)
    open_at false x e = sym own_stamp_now ∙ by (nat_lt limit (length (unit_with most now_b now_q).bytes)) e
      where
        by : (long : Bool) → ((cond long (without_text (unit_with most now_b now_q)) (unit_with most now_b now_q)).timestamp == x) ≡ true → (unit_with most now_b now_q).timestamp ≡ x
        by true e = same_number (unit_with most now_b now_q).timestamp x e
        by false e = same_number (unit_with most now_b now_q).timestamp x e

    next_is : Some (next_sequence_number p.0) ≡ Some (sent_number first (at.place + 1))
    next_is = ap (λ (y : ℕ). Some (next_sequence_number y)) at.number ∙ ap Some (next_place first at.place)

    own_stamp_is : (sent_at sent at.place).timestamp ≡ ts
    own_stamp_is = ap (λ (b : RtpBody). b.timestamp) (sym at.body)

    due_is : Some (due_taken due at.place) ≡ Some (at.place + 1)
    due_is = ap Some (taken_due due a.expected p at.place it.place at.number in_time timely)

    marked_now : (m : Bool) → (m ≡ true → p.1.marker ≡ true) → (x : ℕ) → (if m then Some ts else None) ≡ Some x → (open_now m ≡ None) × (false ≡ false → Closed (Some (due_taken due at.place)) (Some (next_sequence_number p.0)) x)
    marked_now false marker x e = absurd (let bad = e in cc)
    marked_now true marker x e =
        let same : ts ≡ x = cc in (
          refl,
          λ g. record {
            at = at.place;
            within = at.within;
            due_is = due_is;
            expects = next_is;
            other = λ lt is. sender.marked at.place (subst (λ (b : RtpBody). b.marker ≡ true) at.body (marker refl)) lt (is ∙ sym same ∙ sym own_stamp_is);
          },
        )

    sliced_now : (x : ℕ) → ts ≡ x → now_g.has_slice ≡ true → Sliced (Some (due_taken due at.place)) (Some (next_sequence_number p.0)) x
    sliced_now x same e = subst (Sliced (Some (due_taken due at.place)) (Some (next_sequence_number p.0))) same (by (is_unit_at a.unit ts) f.has_slice (bears_slice a.state.format p.1.payload) refl refl refl e)
      where
        by : (u h b : Bool) → is_unit_at a.unit ts ≡ u → f.has_slice ≡ h → bears_slice a.state.format p.1.payload ≡ b → ((u && h) || b) ≡ true → Sliced (Some (due_taken due at.place)) (Some (next_sequence_number p.0)) ts
        by true true b is_u is_h is_b e = sliced_more due (Some (due_taken due at.place)) p now_b.expected ts at in_time due_is timely (begun_sliced due p a.expected ts (it.slices is_h ts is_u))
        by u h true is_u is_h is_b e = record {
          last = at.place;
          within = at.within;
          due_is = due_is;
          expects = next_is;
          at = at.place;
          before = omega arith;
          stamp = own_stamp_is;
          bears = subst (λ (b : RtpBody). bears_slice state.format b.payload ≡ true) at.body (subst (λ (r : DepacketizerState). bears_slice r.format p.1.payload ≡ true) it.kind is_b);
        }
        by true false false is_u is_h is_b e = absurd (let bad = e in cc)
        by false h false is_u is_h is_b e = absurd (let bad = e in cc)

    pub took_steady : Steady (Some (due_taken due at.place)) (TookPacket p ∷ ds) (marker_forgotten (with_unit_within limit (after_taken_rtp most now_b now_q))) (framing_marked now_g now_q.1.marker) (after_packet now_n now_q missing) d
    took_steady =
        let apart = not_closed due a f n p at in_time follows timely it.no_gap it.marked in
        let m = believes now_g p.1.marker in
        record {
          kind = kind_with state [] [] a.state it.kind (after_taken_packet most (taken_by now_b ts) p.0 p.1.payload).at_work.state.run;
          closed = refl;
          no_gap = λ e. refl;
          marks = both_false f.marks_slices (is_timestamp n.marked ts) _ it.marks apart;
          still = neither_now (is_unit_at a.unit ts) f.stands_still (is_timestamp n.marked ts) _ it.still apart;
          sync = sync_now m;
          opened = λ x e. ap Some (open_at m x e);
          marked = marked_now m (λ e. left_true p.1.marker _ e);
          slices = λ e x is. sliced_now x (open_at m x is) e;
          last = (refl, refl, refl, refl);
          place = next_is ∙ sym (ap (λ (x : ℕ). Some (sent_number first x)) (taken_due due a.expected p at.place it.place at.number in_time timely));
          none = λ e. absurd (let bad = e in cc);
        }

  some_expected : (p : Packet) (e : Option ℕ) → bears_nothing p.1.payload ≡ false → expected_for e p ≡ None → ⊥
  some_expected p None text is = let bad = sym (ap (λ (c : Bool). cond c None (Some p.0)) text) ∙ is in cc
  some_expected p (Some x) text is = let bad = is in cc

  closed_begun : (due : Option ℕ) (p : Packet) (e : Option ℕ) (x : ℕ) → Closed due e x → Closed due (expected_for e p) x
  closed_begun due p e x it = record { at = it.at; due_is = it.due_is; within = it.within; expects = ap (λ (y : Option ℕ). expected_for y p) it.expects; other = it.other }

  begun_place : (due : Option ℕ) (p : Packet) (e : Option ℕ) → IsDuePlace due e → IsDuePlace due (expected_for e p)
  begun_place None p e is = tt
  begun_place (Some x) p e is = expected_place x p e is

  -- with one that is late
  pub late_steady : (due : Option ℕ) (ds : List Deed) (a : Assembly) (f : Framing) (n : NumbersSoFar) (d : DecoderState) (p : Packet) (at : IsSentAt sent first p) → IsInTime due at.place → is_late (begun_for a p).expected p.0 ≡ true → Steady due ds a f n d →
      Steady (due_passed due at.place) (PassedPacket p ∷ ds) (marker_forgotten (begun_for a p)) f n d
  late_steady due ds a f n d p at in_time late it = subst (λ (x : Option ℕ). Steady x (PassedPacket p ∷ ds) (marker_forgotten (begun_for a p)) f n d) (sym (late_due due a.expected p at.place it.place at.number in_time late)) (record {
    kind = it.kind;
    closed = refl;
    no_gap = λ e. absurd (some_expected p a.expected (text_is p at) e);
    marks = it.marks;
    still = it.still;
    sync = it.sync;
    opened = it.opened;
    marked = λ x e. ((it.marked x e).0, λ g. closed_begun due p a.expected x ((it.marked x e).1 g));
    slices = λ h x e. begun_sliced due p a.expected x (it.slices h x e);
    last = tt;
    place = begun_place due p a.expected it.place;
    none = it.none;
  })

  broken_sync : (u : Option AccessUnitValue) (k : Option AccessUnitNumbers) → SameStamp u k → SameStamp (option_map (whole_if false) u) k
  broken_sync None None same = tt
  broken_sync None (Some k) same = absurd same
  broken_sync (Some u) None same = absurd same
  broken_sync (Some u) (Some k) same = same

  passed_place : (due : Option ℕ) (e : Option ℕ) (p : Packet) (at : IsSentAt sent first p) → IsDuePlace due e → IsInTime due at.place → is_late (expected_for e p) p.0 ≡ false → IsDuePlace (due_passed due at.place) (Some (next_sequence_number p.0))
  passed_place None e p at is in_time timely = tt
  passed_place (Some x) e p at is in_time timely =
      ap (λ (y : ℕ). Some (next_sequence_number y)) at.number ∙ ap Some (next_place first at.place) ∙ ap (λ (y : ℕ). Some (sent_number first y)) (sym (taken_due (Some x) e p at.place is at.number in_time timely))

  -- with one that is refused
  pub refused_steady : (due : Option ℕ) (ds : List Deed) (a : Assembly) (f : Framing) (n : NumbersSoFar) (d : DecoderState) (p : Packet) (m : ℕ) (at : IsSentAt sent first p) → IsInTime due at.place → is_late (begun_for a p).expected p.0 ≡ false → Steady due ds a f n d →
      Steady (due_passed due at.place) (PassedPacket p ∷ ds) (marker_forgotten (record (behind_missing (begun_for a p) p.0) { expected = Some (next_sequence_number p.0) })) f (after_gap n m) d
  refused_steady due ds a f n d p m at in_time timely it = record {
    kind = kind_with state [] [] a.state it.kind None;
    closed = refl;
    no_gap = λ e. absurd (let bad = e in cc);
    marks = it.marks;
    still = it.still;
    sync = broken_sync a.unit n.unit it.sync;
    opened = λ x e. it.opened x (sym (broken_at state [] [] a.unit x) ∙ e);
    marked = λ x e. (ap (option_map (whole_if false)) (it.marked x e).0, λ g. absurd (let bad = g in cc));
    slices = λ h x e.
        let slice = it.slices h x (sym (broken_at state [] [] a.unit x) ∙ e) in
        sliced_more due (due_passed due at.place) p (begun_for a p).expected x at in_time (passed_due due a.expected p at.place (slice.last + 1) slice.due_is it.place at.number in_time timely) timely (begun_sliced due p a.expected x slice);
    last = tt;
    place = passed_place due a.expected p at it.place in_time timely;
    none = λ e. let it_none = it.none e in (ap (option_map (whole_if false)) it_none.0, it_none.1, it_none.2);
  }

  none_left : (a : Assembly) → a.unit ≡ None → a.ended ≡ [] → (after_finishing a).ended ≡ []
  none_left a none_open empty = ap (λ (u : Option AccessUnitValue). a.ended ++ given_out false u) none_open ∙ append-nil a.ended ∙ empty

  -- where the access unit that is open ends behind numbers that are missing
  pub missing_steady : (due : Option ℕ) (ds : List Deed) (a : Assembly) (f : Framing) (n : NumbersSoFar) (d : DecoderState) (p : Packet) (m : ℕ) → Steady due ds a f n d → Steady None (EndedBefore p ∷ ds) (after_finishing a) f (after_missing n m) d
  missing_steady due ds a f n d p m it = record {
    kind = kind_with state [] [] a.state it.kind None;
    closed = refl;
    no_gap = λ e. refl;
    marks = it.marks;
    still = it.still;
    sync = tt;
    opened = λ x e. absurd (let bad = e in cc);
    marked = λ x e. absurd (let bad = e in cc);
    slices = λ h x e. absurd (let bad = e in cc);
    last = tt;
    place = tt;
    none = λ e. let it_none = it.none e in (refl, none_left a it_none.0 it_none.1, it_none.2);
  }

  -- or with its stream
  pub stream_steady : (due : Option ℕ) (ds : List Deed) (a : Assembly) (f : Framing) (n : NumbersSoFar) (d : DecoderState) → Steady due ds a f n d → Steady None (EndedStream ∷ ds) (after_finishing a) fresh_framing (after_last n) d
  stream_steady due ds a f n d it = record {
    kind = kind_with state [] [] a.state it.kind None;
    closed = refl;
    no_gap = λ e. refl;
    marks = refl;
    still = refl;
    sync = tt;
    opened = λ x e. absurd (let bad = e in cc);
    marked = λ x e. absurd (let bad = e in cc);
    slices = λ h x e. absurd (let bad = e in cc);
    last = (refl, refl);
    place = tt;
    none = λ e. let it_none = it.none e in (refl, none_left a it_none.0 it_none.1, it_none.2);
  }

  -- none ends by what a packet of its timestamp begins with
  pub never_by_content : (due : Option ℕ) (ds : List Deed) (a : Assembly) (f : Framing) (n : NumbersSoFar) (d : DecoderState) (p : Packet) (at : IsSentAt sent first p) → IsInTime due at.place → Steady due ds a f n d → ends_before a f p ≡ true → is_behind_missing a p.0 ≡ false → ⊥
  never_by_content due ds a f n d p at in_time it ends present =
      let facts = content_ends state [] [] a f p ends present in
      let slice = it.slices facts.slice p.1.timestamp facts.of_unit in
      let near = subst (λ (x : Option ℕ). IsInTime x at.place) slice.due_is in_time in
      let before = slice.before in
      let expected : is_expected (Some (sent_number first (slice.last + 1))) p.0 ≡ true = subst (λ (e : Option ℕ). is_expected e p.0 ≡ true) slice.expects facts.next in
      let number : p.0 ≡ sent_number first (slice.last + 1) = same_number p.0 (sent_number first (slice.last + 1)) expected in
      let place_is : at.place ≡ slice.last + 1 = near_same first at.place (slice.last + 1) near.0 near.1 (sym at.number ∙ number) in
      let own : (sent_at sent at.place).timestamp ≡ p.1.timestamp = ap (λ (b : RtpBody). b.timestamp) (sym at.body) in
      let none_begins = sender.begins slice.at at.place (omega (arith, before, place_is)) at.within (slice.stamp ∙ sym own) slice.bears in
      let begins = subst (λ (b : RtpBody). begins_unit state.format b.payload ≡ true) at.body (subst (λ (r : DepacketizerState). begins_unit r.format p.1.payload ≡ true) it.kind facts.begins) in
      let bad = sym none_begins ∙ begins in cc

  -- a new receiver, or one that dropped all
  pub fresh_steady : (ds : List Deed) (r : DepacketizerState) → r ≡ state_with_run state r.run → IsLast ds (open_assembly r None none_open []) fresh_numbers → Steady None ds (open_assembly r None none_open []) fresh_framing fresh_numbers fresh_decoder
  fresh_steady ds r kind last = record {
    kind = kind_with state [] [] r kind None;
    closed = refl;
    no_gap = λ e. refl;
    marks = refl;
    still = refl;
    sync = tt;
    opened = λ x e. absurd (let bad = e in cc);
    marked = λ x e. absurd (let bad = e in cc);
    slices = λ h x e. absurd (let bad = e in cc);
    last = last;
    place = tt;
    none = λ e. (refl, refl, refl);
  }

  pub new_last : (ds : List Deed) (a : Assembly) (n : NumbersSoFar) → is_stream_new ds ≡ true → IsLast ds a n → (a.expected ≡ None) × (n.skipped_gap ≡ 0)
  new_last [] a n e is = is
  new_last (EndedStream ∷ ds) a n e is = is
  new_last (DroppedAll ∷ ds) a n e is = is
  new_last (TookPacket p ∷ ds) a n e is = absurd (let bad = e in cc)
  new_last (PassedPacket p ∷ ds) a n e is = absurd (let bad = e in cc)
  new_last (EndedBefore p ∷ ds) a n e is = absurd (let bad = e in cc)
  new_last (ToldFirst number ∷ ds) a n e is = absurd (let bad = e in cc)

  pub new_closed : (ds : List Deed) → is_stream_new ds ≡ true → open_stamp ds ≡ None
  new_closed [] e = refl
  new_closed (EndedStream ∷ ds) e = refl
  new_closed (DroppedAll ∷ ds) e = refl
  new_closed (TookPacket p ∷ ds) e = absurd (let bad = e in cc)
  new_closed (PassedPacket p ∷ ds) e = absurd (let bad = e in cc)
  new_closed (EndedBefore p ∷ ds) e = absurd (let bad = e in cc)
  new_closed (ToldFirst number ∷ ds) e = absurd (let bad = e in cc)

  -- the number of the first is told
  pub told_steady : (due : Option ℕ) (ds : List Deed) (a : Assembly) (f : Framing) (n : NumbersSoFar) (d : DecoderState) (number : ℕ) → IsDuePlace due (Some number) → is_stream_new ds ≡ true → Steady None ds a f n d → Steady due (ToldFirst number ∷ ds) (record a { expected = Some number }) f (begun_numbers_at n) d
  told_steady due ds a f n d number is_due new it =
      let begins = new_last ds a n new it.last in
      record {
        kind = it.kind;
        closed = it.closed;
        no_gap = λ e. absurd (let bad = e in cc);
        marks = it.marks;
        still = it.still;
        sync = it.sync;
        opened = it.opened;
        marked = λ x e. ((it.marked x e).0, λ g. absurd (let closed = (it.marked x e).1 g in let bad = sym begins.0 ∙ closed.expects in cc));
        slices = λ h x e. absurd (let slice = it.slices h x e in let bad = sym begins.0 ∙ slice.expects in cc);
        last = (refl, it.no_gap begins.0, refl, begins.1);
        place = is_due;
        none = it.none;
      }

  last_with : (ds : List Deed) (a : Assembly) (units : List AccessUnitValue) (n new : NumbersSoFar) → new.has_begun ≡ n.has_begun → new.skipped_gap ≡ n.skipped_gap → IsLast ds a n → IsLast ds (record a { ended = units }) new
  last_with [] a units n new begun gap is = (is.0, gap ∙ is.1)
  last_with (EndedStream ∷ ds) a units n new begun gap is = (is.0, gap ∙ is.1)
  last_with (DroppedAll ∷ ds) a units n new begun gap is = (is.0, gap ∙ is.1)
  last_with (TookPacket p ∷ ds) a units n new begun gap is = (is.0, is.1, begun ∙ is.2, gap ∙ is.3)
  last_with (ToldFirst number ∷ ds) a units n new begun gap is = (is.0, is.1, begun ∙ is.2, gap ∙ is.3)
  last_with (PassedPacket p ∷ ds) a units n new begun gap is = tt
  last_with (EndedBefore p ∷ ds) a units n new begun gap is = tt

  -- once the first that ended is gone
  pub gone_steady : (due : Option ℕ) (ds : List Deed) (a : Assembly) (f : Framing) (n new : NumbersSoFar) (d later : DecoderState) (unit : AccessUnitValue) (units : List AccessUnitValue) → a.ended ≡ unit ∷ units → new.has_begun ≡ n.has_begun → new.skipped_gap ≡ n.skipped_gap → new.marked ≡ n.marked → SameStamp a.unit new.unit →
      Steady due ds a f n d → Steady due ds (record a { ended = units }) f new later
  gone_steady due ds a f n new d later unit units is begun gap marked sync it = record {
    kind = it.kind;
    closed = it.closed;
    no_gap = it.no_gap;
    marks = it.marks;
    still = it.still;
    sync = sync;
    opened = it.opened;
    marked = λ x e. it.marked x (sym marked ∙ e);
    slices = it.slices;
    last = last_with ds a units n new begun gap it.last;
    place = it.place;
    none = λ e. absurd (let bad = sym is ∙ (it.none e).1 in cc);
  }
