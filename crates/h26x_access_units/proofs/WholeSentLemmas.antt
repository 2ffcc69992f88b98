-- Access units that are told to be whole have all the packets between where they began and ended.
use Rattle.std.proofs.Common.{is_some, ◌≡◌, ◌∙◌, ap, sym, subst, refl, ℕ, ◌<◌, Bool, true, false, cond, List, [], ◌∷◌, ◌++◌, length, Option, Some, None, arith, inl, inr, Result, Ok, Err}
use Rattle.std.specs.Prelude.{◌==◌, ◌||◌, ◌&&◌, nat_lt, MatchBool, ◌⊎◌, if◌then◌else◌, not, IfOk}
use Rattle.std.specs.List.{Contains}
use Rattle.std.specs.Option.{option_map}
use Rattle.std.proofs.lemmas.Bool.Decides.{nat_tests}
use Rattle.h26x_core.specs.Sequence.{next_sequence_number, is_late, missing_count, distance_behind, is_expected}
use Rattle.h26x_core.specs.declared.error.PacketError.{PacketError}
use Rattle.h26x_core.specs.declared.error.PacketError.TheVariants.{OutOfMemory, AvcUnitTooLong}
use Rattle.h26x_core.specs.declared.extra.CodecExtra.{CodecExtra}
use Rattle.h26x_core.specs.declared.extra.CodecExtra.TheVariants as extras
use Rattle.h26x_model.specs.Payload.Format.{Format}
use Rattle.h26x_model.specs.Payload.Reading.{Reading, Single, Aggregate, Fragment, Paci, Refused}
use Rattle.h26x_model.specs.Receive.Outcome.{IsReadingOutcome}
use Rattle.h26x_model.specs.Receive.DepacketizerState.{DepacketizerState, Depacketization, depacketization, after_packets, IsPacketOutcome}
use Rattle.h26x_model.specs.Receive.RunLimit.{run_len, state_with_run}
use Rattle.h26x_receiver.specs.declared.received.Received.{Received}
use Rattle.h26x_receiver.specs.declared.received.Received.TheVariants as received
use Rattle.h26x_receiver.specs.Sequenced.{SequencedDepacketization, sequenced_depacketization, with_run_if, after_sequenced_packet, skip_answer, is_run_kept, expected_after_skip, is_taken, as_outcome, IsSequencedAnswer, taken_packet_answer}
use Rattle.h26x_reorder.specs.Rtp.{RtpBody, rtp_body}
use Rattle.h26x_assembler.specs.AccessUnit.{AccessUnitValue, Assembly, empty_unit, whole_if, without_text, is_unit_at, unit_at, taken_by, follows, is_run_closed, is_sound, unit_with, unit_within, with_unit_within, given_out, ended_by, after_taken_rtp, behind_missing, after_unit_skip, after_pass_over, after_ending, after_finishing, after_rtp, IsAssemblyAnswer, open_assembly, none_open}
use Rattle.h26x_assembler.specs.StampedCalls.{IsOtherStamp}
use Rattle.h26x_access_units.specs.declared.numbers.AccessUnitNumbers.{AccessUnitNumbers}
use Rattle.h26x_access_units.specs.declared.numbers.NumbersSoFar.{NumbersSoFar}
use Rattle.h26x_access_units.specs.Numbers.{missing_told, missing_up_to, missing_sum, is_timestamp, unit_numbers, numbers_to, numbers_ended, after_gap, after_packet, numbers_closed, numbers_still, numbers_taken, bears_nothing, fresh_numbers, after_missing, after_last, begun_numbers_at, first_ended, without_first_ended, numbers_carrying}
use Rattle.h26x_access_units.specs.Reception.{begun_for, marker_forgotten, ends_with, after_no_unit, IsAnswerTo, assembly_after, is_no_unit, framing_of, believed, numbers_answered, framing_answered, ends_before, is_behind_missing, is_in_reach, shown_of}
use Rattle.h26x_access_units.specs.declared.framing.Framing.{Framing}
use Rattle.h26x_access_units.specs.Framing.{believes, bears_no_unit, ends_by_content, trusts_markers, framing_marked}
use Rattle.h26x_access_units.specs.declared.decoder.DecoderState.{DecoderState}
use Rattle.h26x_access_units.specs.Decoder.{is_front}
use Rattle.h26x_access_units.specs.Content.{content_of}
use Rattle.h26x_access_units.specs.ReceivedAccessUnit.{received_unit, unit_content}
use Rattle.h26x_access_units.specs.WholeSent.{reads_no_unit, has_no_text, begins_unit, IsRightBehind, behind_one, as_told, IsBegunInOrder, IsBegunByContent, IsOfWholePackets, bears_slice, IsSliceBefore, slice_last, IsNextBegun, IsClosedBefore}
use Rattle.h26x_access_units.proofs.PieceLemmas.{Begun, Behind, Core, EndedOne, OpenIs, Piece, PieceOf, SliceAt, content_ended, core_begun, core_ending, core_over, core_skip, expected_is, first_true, follows_at, last_stamp, left_true, marked_ended, next_ended, next_small, none_ahead, open_left, over_is, piece_at, piece_bare, piece_new, piece_on, right_true, same_number, slice_more, sound_at, sum_none, told_is, whole_ended, work_is, work_of, zero_at}
use Rattle.h26x_access_units.proofs.EndedLemmas.{SameStamp, EndedAre, ended_more, none_ended}

abbrev Packet : Type 0
Packet = ℕ × RtpBody

abbrev Packets : Type 0
Packets = List (ℕ × RtpBody)

module _ (state : DepacketizerState) (kept : Packets) (told : List ℕ) where
  -- a packet that is taken, with its marker where that is believed, where a marker ended this timestamp
  module _ (handed : Packets) (a : Assembly) (n : NumbersSoFar) (p : Packet) (m : Bool) (most missing : ℕ) (marked : Option ℕ) (small : p.0 < 65536) (text : has_no_text state.format p.1.payload ≡ false)
      (kind : a.state ≡ state_with_run state a.state.run) (same : SameStamp a.unit n.unit) (has_slice : Bool) (timely : is_late a.expected p.0 ≡ false) (core : Core state kept told handed a n has_slice true)
      (missing_is : missing ≡ missing_count a.expected p.0)
      (marked_is : is_timestamp marked p.1.timestamp ≡ false → is_unit_at a.unit p.1.timestamp ≡ false → IsOtherStamp n.marked p.1.timestamp ⊎ (begins_unit state.format p.1.payload ≡ true)) where
    abbrev q : Packet
    q = (p.0, rtp_body p.1.timestamp m p.1.payload)

    abbrev ts : ℕ
    ts = p.1.timestamp

    abbrev BehindAt : Option AccessUnitNumbers → Type 0
    BehindAt k = n.has_begun ≡ true → n.skipped_gap ≡ 0 → Behind state kept told handed a.expected (last_stamp state kept told k n.marked) (true && not (is_some k))

    other_than : (x y : ℕ) → (x == y) ≡ false → x ≡ y → ⊥
    other_than x y e is = grind (arith, nat_tests)

    begun_behind : (stamp_now : Option ℕ) (is_closed : Bool) → IsOtherStamp stamp_now ts ⊎ ((begins_unit state.format p.1.payload ≡ true) × (is_closed ≡ true)) → Behind state kept told handed a.expected stamp_now is_closed → missing_count a.expected p.0 ≡ 0 →
        IsBegunInOrder told kept state.format ts p handed
    begun_behind stamp_now is_closed other it none_is = record {
      stamp = it.stamp;
      right_behind = subst (λ (d : ℕ). IsRightBehind told state.format d it.stamp handed) (sym at) it.right;
      other = by it.stamp_is;
    }
      where
        at : p.0 ≡ it.due
        at = none_ahead it.due p.0 it.small small (subst (λ (e : Option ℕ). missing_count e p.0 ≡ 0) it.expects none_is)

        closed : (stamp : Option ℕ) → it.stamp ≡ stamp → begins_unit state.format p.1.payload ≡ true → is_closed ≡ true → IsOtherStamp stamp ts ⊎ ((begins_unit state.format p.1.payload ≡ true) × IsClosedBefore kept state.format ts p.0 handed)
        closed None e begins c = inl tt
        closed (Some x) e begins c = elim (x == ts) as (λ b. (x == ts) ≡ b → IsOtherStamp (Some x) ts ⊎ ((begins_unit state.format p.1.payload ≡ true) × IsClosedBefore kept state.format ts p.0 handed)) [
          | true ↦ λ same_stamp.
              let is : x ≡ ts = grind (arith, nat_tests) in
              inr (begins, subst (λ (d : ℕ). IsClosedBefore kept state.format ts d handed) (sym at) (it.closing c ts (e ∙ ap Some is)))
          | false ↦ λ other_stamp. inl (other_than x ts other_stamp)
        ] refl

        by : (it.stamp ≡ None) ⊎ (it.stamp ≡ stamp_now) → IsOtherStamp it.stamp ts ⊎ ((begins_unit state.format p.1.payload ≡ true) × IsClosedBefore kept state.format ts p.0 handed)
        by (inl e) = inl (subst (λ (x : Option ℕ). IsOtherStamp x ts) (sym e) tt)
        by (inr e) = so other
          where
            so : IsOtherStamp stamp_now ts ⊎ ((begins_unit state.format p.1.payload ≡ true) × (is_closed ≡ true)) → IsOtherStamp it.stamp ts ⊎ ((begins_unit state.format p.1.payload ≡ true) × IsClosedBefore kept state.format ts p.0 handed)
            so (inl apart) = inl (subst (λ (x : Option ℕ). IsOtherStamp x ts) (sym e) apart)
            so (inr (begins, c)) = closed it.stamp refl begins c

    new_begun : (k : Option AccessUnitNumbers) → BehindAt k → (is_timestamp marked ts ≡ false → IsOtherStamp (last_stamp state kept told k n.marked) ts ⊎ ((begins_unit state.format p.1.payload ≡ true) × ((true && not (is_some k)) ≡ true))) →
        Begun state kept told ts p handed (is_timestamp marked ts) (n.has_begun && (missing_sum n.skipped_gap missing == 0))
    new_begun k behind other = λ continues follows.
        let zero_is = zero_at (missing_sum n.skipped_gap missing) (right_true n.has_begun (missing_sum n.skipped_gap missing == 0) follows) in
        let is = sum_none n.skipped_gap missing zero_is in
        begun_behind (last_stamp state kept told k n.marked) (true && not (is_some k)) (other continues) (behind (left_true n.has_begun (missing_sum n.skipped_gap missing == 0) follows) is.0) (sym missing_is ∙ is.1)

    still_closed : IsOtherStamp n.marked ts ⊎ (begins_unit state.format p.1.payload ≡ true) → IsOtherStamp n.marked ts ⊎ ((begins_unit state.format p.1.payload ≡ true) × (true ≡ true))
    still_closed (inl apart) = inl apart
    still_closed (inr begins) = inr (begins, refl)

    same_kind : state_with_run a.state None ≡ state_with_run state None
    same_kind = ap (λ (r : DepacketizerState). state_with_run r None) kind

    -- its own access unit, by which one is open
    abbrev at : Option AccessUnitValue → Assembly
    at u = record a { unit = u }

    abbrev counted : Option AccessUnitNumbers → AccessUnitNumbers
    counted k = unit_numbers (record n { unit = k; marked = marked }) q (missing_sum n.skipped_gap missing)

    abbrev IsPieceOf : Option AccessUnitValue → Option AccessUnitNumbers → Type 0
    IsPieceOf u k = (unit_with most (at u) q).is_whole ≡ true → PieceOf state kept told handed p (work_of state kept told most (taken_by (at u) ts) p) (unit_with most (at u) q).timestamp (counted k)

    work_at : (u : Option AccessUnitValue) (w : Depacketization) → taken_by (at u) ts ≡ record { at_work = w; expected = a.expected } → is_sound most (at u) q ≡ true → work_of state kept told most (taken_by (at u) ts) p ≡ after_packets w (p.1.payload ∷ [])
    work_at u w is sound =
        let facts = sound_at state kept told most (at u) q sound in
        let expected = follows_at state kept told (at u) q facts.1 in
        ap (λ (s : SequencedDepacketization). work_of state kept told most s p) is
        ∙ work_is state kept told most w a.expected p expected (subst (λ (s : SequencedDepacketization). nat_lt most (run_len (after_sequenced_packet s p.0 p.1.payload).state.run) ≡ false) is facts.0)

    new_piece : (u : Option AccessUnitValue) (k : AccessUnitNumbers) → taken_by (at u) ts ≡ sequenced_depacketization (state_with_run a.state None) a.expected [] extras.None → is_sound most (at u) q ≡ true →
        k.first ≡ p.0 → k.last ≡ p.0 → Begun state kept told ts p handed k.continues k.follows → PieceOf state kept told handed p (work_of state kept told most (taken_by (at u) ts) p) ts k
    new_piece u k is sound first_is last_is begun =
        let w = depacketization (state_with_run a.state None) [] extras.None in
        let work = work_at u w is sound ∙ ap (λ (r : DepacketizerState). after_packets (depacketization r [] extras.None) (p.1.payload ∷ [])) same_kind in
        let it = piece_new state kept told handed p k.continues k.follows text begun in
        subst (λ (v : Depacketization). PieceOf state kept told handed p v ts k) (sym work) (record {
          front = it.front;
          back = it.back;
          due = it.due;
          own = it.own;
          before = it.before;
          place = it.place;
          packets = it.packets;
          expects = it.expects;
          first_is = it.first_is ∙ sym first_is;
          last_is = it.last_is ∙ sym last_is;
          begun = it.begun;
        })

    unit_stamp : (u : Option AccessUnitValue) → (unit_at u ts).timestamp ≡ ts
    unit_stamp None = refl
    unit_stamp (Some u) = elim (u.timestamp == ts) as (λ b. (u.timestamp == ts) ≡ b → (cond b u (empty_unit ts)).timestamp ≡ ts) [
      | true ↦ λ e. grind (arith, nat_tests)
      | false ↦ λ e. refl
    ] refl

    taken_piece_by : (u : Option AccessUnitValue) (k : Option AccessUnitNumbers) → SameStamp u k → OpenIs state kept told handed a.state a.expected u k → BehindAt k →
        (is_timestamp marked ts ≡ false → is_unit_at u ts ≡ false → IsOtherStamp n.marked ts ⊎ (begins_unit state.format p.1.payload ≡ true)) → IsPieceOf u k
    taken_piece_by None None same_one opened behind means = λ whole.
        new_piece None (counted None) refl whole refl refl (new_begun None behind (λ e. still_closed (means e refl)))
    taken_piece_by None (Some k) same_one opened behind means = absurd same_one
    taken_piece_by (Some u) None same_one opened behind means = absurd same_one
    taken_piece_by (Some u) (Some k) same_one opened behind means = λ whole.
        elim (u.timestamp == ts) as (λ b. (u.timestamp == ts) ≡ b → IsPieceOf (Some u) (Some k)) [
          | true ↦ λ e.
              let e_k : (k.timestamp == ts) ≡ true = subst (λ (t : ℕ). (t == ts) ≡ true) same_one e in
              let is : taken_by (at (Some u)) ts ≡ sequenced_depacketization a.state a.expected u.bytes u.extra = rw e refl in
              let sound = right_true (unit_at (Some u) ts).is_whole (is_sound most (at (Some u)) q) whole in
              let own_whole : u.is_whole ≡ true = subst (λ (b : Bool). (cond b u (empty_unit ts)).is_whole ≡ true) e (left_true (unit_at (Some u) ts).is_whole (is_sound most (at (Some u)) q) whole) in
              let expected = follows_at state kept told (at (Some u)) q (sound_at state kept told most (at (Some u)) q sound).1 in
              let stamp : ts ≡ u.timestamp = grind (arith, nat_tests) in
              let it = piece_on state kept told handed a.state a.expected u.timestamp u.bytes u.extra k.first k.last k.continues k.follows p expected stamp text (opened own_whole) in
              let work = work_of state kept told most (taken_by (at (Some u)) ts) p in
              let numbers_are : counted (Some k) ≡ numbers_to k q (missing_sum n.skipped_gap missing) = rw e_k refl in
              let same_one : PieceOf state kept told handed p work u.timestamp (numbers_to k q (missing_sum n.skipped_gap missing)) =
              subst (λ (v : Depacketization). Piece state kept told (p ∷ handed) v.state (Some (next_sequence_number p.0)) u.timestamp v.out v.extra k.first p.0 k.continues k.follows) (sym (work_at (Some u) (depacketization a.state u.bytes u.extra) is sound)) it in
              λ w. subst (PieceOf state kept told handed p work (unit_at (Some u) ts).timestamp) (sym numbers_are) (subst (λ (t : ℕ). PieceOf state kept told handed p work t (numbers_to k q (missing_sum n.skipped_gap missing))) (sym (unit_stamp (Some u) ∙ stamp)) same_one)
          | false ↦ λ e.
              let e_k : (k.timestamp == ts) ≡ false = subst (λ (t : ℕ). (t == ts) ≡ false) same_one e in
              let is : taken_by (at (Some u)) ts ≡ sequenced_depacketization (state_with_run a.state None) a.expected [] extras.None = rw e refl in
              let sound = right_true (unit_at (Some u) ts).is_whole (is_sound most (at (Some u)) q) whole in
              let it = new_piece (Some u) (counted (Some k)) is sound (rw e_k refl) (rw e_k refl) (rw e_k (new_begun (Some k) behind (λ c. inl (other_than k.timestamp ts e_k)))) in
              λ w. subst (λ (t : ℕ). PieceOf state kept told handed p (work_of state kept told most (taken_by (at (Some u)) ts) p) t (counted (Some k))) (sym (unit_stamp (Some u))) it
        ] refl whole

    taken_piece : (unit_with most a q).is_whole ≡ true → PieceOf state kept told handed p (work_of state kept told most (taken_by a ts) p) (unit_with most a q).timestamp (counted n.unit)
    taken_piece = taken_piece_by a.unit n.unit same core.opened core.behind marked_is

    counted_stamp : (k : Option AccessUnitNumbers) → (counted k).timestamp ≡ ts
    counted_stamp None = refl
    counted_stamp (Some k) = elim (k.timestamp == ts) as (λ b. (k.timestamp == ts) ≡ b → (counted (Some k)).timestamp ≡ ts) [
      | true ↦ λ e. rw e (grind (arith, nat_tests))
      | false ↦ λ e. rw e refl
    ] refl

    abbrev open_now : Bool → ℕ → Option AccessUnitValue
    open_now b limit = unit_within limit (if b then None else Some (unit_with most a q))

    abbrev counted_now : Bool → Option AccessUnitNumbers
    counted_now b = if b then None else Some (counted n.unit)

    sync_taken : (b : Bool) (limit : ℕ) → SameStamp (open_now b limit) (counted_now b)
    sync_taken true limit = tt
    sync_taken false limit =
        let stamps : (unit_with most a q).timestamp ≡ (counted n.unit).timestamp = unit_stamp a.unit ∙ sym (counted_stamp n.unit) in
        elim (nat_lt limit (length (unit_with most a q).bytes)) as (λ long. (cond long (without_text (unit_with most a q)) (unit_with most a q)).timestamp ≡ (counted n.unit).timestamp) [ true ↦ stamps | false ↦ stamps ]

    open_taken : (b : Bool) (limit : ℕ) → OpenIs state kept told (p ∷ handed) (after_taken_rtp most a q).state (Some (next_sequence_number p.0)) (open_now b limit) (counted_now b)
    open_taken true limit = tt
    open_taken false limit =
        elim (nat_lt limit (length (unit_with most a q).bytes)) as (λ long. OpenIs state kept told (p ∷ handed) (after_taken_rtp most a q).state (Some (next_sequence_number p.0)) (Some (cond long (without_text (unit_with most a q)) (unit_with most a q))) (Some (counted n.unit))) [
          | true ↦ λ whole. absurd (let bad = whole in cc)
          | false ↦ taken_piece
        ]

    now_stamp : (b : Bool) → last_stamp state kept told (counted_now b) (if b then Some ts else None) ≡ Some ts
    now_stamp true = refl
    now_stamp false = ap Some (counted_stamp n.unit)

    now_at : (b : Bool) (limit timestamp : ℕ) → is_unit_at (open_now b limit) timestamp ≡ true → ts ≡ timestamp
    now_at true limit timestamp is = absurd (let bad = is in cc)
    now_at false limit timestamp is = sym (unit_stamp a.unit) ∙ by (nat_lt limit (length (unit_with most a q).bytes)) is
      where
        by : (long : Bool) → ((cond long (without_text (unit_with most a q)) (unit_with most a q)).timestamp == timestamp) ≡ true → (unit_with most a q).timestamp ≡ timestamp
        by true e = same_number (unit_with most a q).timestamp timestamp e
        by false e = same_number (unit_with most a q).timestamp timestamp e

    core_taken : (limit : ℕ) (after_slice : Bool) → (m ≡ true → p.1.marker ≡ true) → (after_slice ≡ true → ((is_unit_at a.unit ts ≡ true) × (has_slice ≡ true)) ⊎ (bears_slice state.format p.1.payload ≡ true)) →
        Core state kept told (p ∷ handed) (marker_forgotten (with_unit_within limit (after_taken_rtp most a q))) (after_packet (record n { marked = marked }) q missing) after_slice true
    core_taken limit after_slice marker slice_is = record {
      opened = open_taken m limit;
      behind = λ b g. record {
        due = next_sequence_number p.0;
        stamp = Some ts;
        right = behind_one p handed text;
        expects = refl;
        stamp_is = inr (sym (now_stamp m));
        small = next_small p.0;
        closing = λ c x is. inl (closed m refl c);
      };
      slices = λ sl timestamp is. subst (SliceAt state kept told (p ∷ handed) (Some (next_sequence_number p.0))) (now_at m limit timestamp is) (sliced (slice_is sl));
    }
      where
        closed : (b : Bool) → m ≡ b → (true && not (is_some (counted_now b))) ≡ true → (p.1.marker || has_no_text state.format p.1.payload) ≡ true
        closed true e c = first_true p.1.marker (has_no_text state.format p.1.payload) (marker e)
        closed false e c = absurd (let bad = c in cc)

        sliced : ((is_unit_at a.unit ts ≡ true) × (has_slice ≡ true)) ⊎ (bears_slice state.format p.1.payload ≡ true) → SliceAt state kept told (p ∷ handed) (Some (next_sequence_number p.0)) ts
        sliced (inl (at_it, sl)) = slice_more state kept told handed p a.expected ts timely (core.slices sl ts at_it)
        sliced (inr bears) = record { due = next_sequence_number p.0; expects = refl; slice = slice_last p handed refl bears }

    abbrev work : Depacketization
    work = work_of state kept told most (taken_by a ts) p

    abbrev own_ended : Bool → List AccessUnitValue
    own_ended b = if b then whole_if (is_run_closed work.state.run) (unit_with most a q) ∷ [] else []

    own_marked : (b : Bool) → m ≡ b → (m ≡ true → p.1.marker ≡ true) → EndedAre (EndedOne state kept told (p ∷ handed)) (own_ended b) None (if b then Some (counted n.unit) else None)
    own_marked false e marker = (refl, refl)
    own_marked true e marker = (
      λ whole.
          let u = unit_with most a q in
          let closed = is_run_closed work.state.run in
          marked_ended state kept told handed work.state (Some (next_sequence_number p.0)) u (counted n.unit) p (marker e) (sym (unit_stamp a.unit)) (right_true u.is_whole closed whole) (taken_piece (left_true u.is_whole closed whole)),
      (refl, refl),
    )

    other_ended : (u : Option AccessUnitValue) (k : Option AccessUnitNumbers) → Contains kept p → SameStamp u k → OpenIs state kept told handed a.state a.expected u k → EndedAre (EndedOne state kept told (p ∷ handed)) (ended_by (at u) q) (numbers_ended k ts) None
    other_ended None None is_kept same_one opened = (refl, refl)
    other_ended None (Some k) is_kept same_one opened = absurd same_one
    other_ended (Some u) None is_kept same_one opened = absurd same_one
    other_ended (Some u) (Some k) is_kept same_one opened =
        elim (u.timestamp == ts) as (λ b. (u.timestamp == ts) ≡ b → EndedAre (EndedOne state kept told (p ∷ handed)) (cond b [] (given_out (follows (at (Some u)) q && is_run_closed a.state.run) (Some u))) (numbers_ended (Some k) ts) None) [
          | true ↦ λ e. let e_k : (k.timestamp == ts) ≡ true = subst (λ (t : ℕ). (t == ts) ≡ true) same_one e in rw e_k (refl, refl)
          | false ↦ λ e.
              let e_k : (k.timestamp == ts) ≡ false = subst (λ (t : ℕ). (t == ts) ≡ false) same_one e in
              let behind_it = follows (at (Some u)) q in
              let closed = is_run_closed a.state.run in
              let other : ts ≡ u.timestamp → ⊥ = λ is. other_than u.timestamp ts e (sym is) in
              rw e_k (
                λ whole.
                    let both = right_true u.is_whole (behind_it && closed) whole in
                    next_ended state kept told handed (p ∷ []) a.state a.expected u k p is_kept (follows_at state kept told (at (Some u)) q (left_true behind_it closed both)) (right_true behind_it closed both) other (opened (left_true u.is_whole (behind_it && closed) whole)),
                (refl, refl),
              )
        ] refl

    -- what ended by it
    ended_taken : a.ended ≡ [] → Contains kept p → (m ≡ true → p.1.marker ≡ true) → EndedAre (EndedOne state kept told (p ∷ handed)) (after_taken_rtp most a q).ended (numbers_ended n.unit ts) (if m then Some (counted n.unit) else None)
    ended_taken empty is_kept marker =
        subst (λ (x : List AccessUnitValue). EndedAre (EndedOne state kept told (p ∷ handed)) ((x ++ ended_by a q) ++ own_ended m) (numbers_ended n.unit ts) (if m then Some (counted n.unit) else None)) (sym empty)
        (ended_more (EndedOne state kept told (p ∷ handed)) (ended_by a q) (numbers_ended n.unit ts) (if m then Some (counted n.unit) else None) (own_ended m) (other_ended a.unit n.unit is_kept same core.opened) (own_marked m refl marker))

  -- the depacketizer is of the same kind whatever its run
  pub kind_with : (r : DepacketizerState) → r ≡ state_with_run state r.run → (run : Option (List ℕ)) → state_with_run r run ≡ state_with_run state run
  kind_with r kind run = ap (λ (x : DepacketizerState). state_with_run x run) kind

  pub same_broken : (u : Option AccessUnitValue) (k : Option AccessUnitNumbers) → SameStamp u k → SameStamp (option_map (whole_if false) u) k
  same_broken None None same = tt
  same_broken None (Some k) same = absurd same
  same_broken (Some u) None same = absurd same
  same_broken (Some u) (Some k) same = same

  -- all that is known of access units: of those that are open and that ended, and of the packets before
  pub record PartsIf (has_slice : Bool) (handed : Packets) (a : Assembly) (n : NumbersSoFar) (is_anew : Bool) : Type 0 where
    pub kind : a.state ≡ state_with_run state a.state.run
    sync : SameStamp a.unit n.unit
    core : is_anew ≡ false → Core state kept told handed a n has_slice true
    ended : EndedAre (EndedOne state kept told handed) a.ended n.ended n.ended_by_marker

  -- where the stream hasn't begun anew
  abbrev pub Parts : Bool → Packets → Assembly → NumbersSoFar → Type 0
  Parts has_slice handed a n = PartsIf has_slice handed a n false

  -- where none that ended is left
  still_none : (handed : Packets) (units : List AccessUnitValue) (e b : Option AccessUnitNumbers) → units ≡ [] → (e ≡ None) × (b ≡ None) → EndedAre (EndedOne state kept told handed) units e b
  still_none handed units e b empty is = subst (λ (x : List AccessUnitValue). EndedAre (EndedOne state kept told handed) x e b) (sym empty) is

  -- a number that bears nothing is skipped, where this ended before
  skip_parts : {has_slice is_known : Bool} (handed : Packets) (a : Assembly) (n : NumbersSoFar) (p : Packet) → p.0 < 65536 → is_late a.expected p.0 ≡ false → has_no_text state.format p.1.payload ≡ true → a.state ≡ state_with_run state a.state.run → SameStamp a.unit n.unit → Core state kept told handed a n has_slice is_known →
      EndedAre (EndedOne state kept told (p ∷ handed)) a.ended n.ended n.ended_by_marker → Parts has_slice (p ∷ handed) (marker_forgotten (after_unit_skip a p.0)) (after_gap n (missing_told (skip_answer a.expected p.0)))
  skip_parts handed a n p small timely bare kind same core ended = record {
    kind = elim (is_run_kept a.expected p.0) as (λ b. let x = cond b (record a { expected = expected_after_skip a.expected p.0 }) (behind_missing a p.0) in x.state ≡ state_with_run state x.state.run) [
      | true ↦ kind
      | false ↦ kind_with a.state kind None
    ];
    sync = elim (is_run_kept a.expected p.0) as (λ b. SameStamp (cond b (record a { expected = expected_after_skip a.expected p.0 }) (behind_missing a p.0)).unit n.unit) [
      | true ↦ same
      | false ↦ same_broken a.unit n.unit same
    ];
    core = λ e. core_skip state kept told handed a n _ _ p small timely bare core;
    ended = elim (is_run_kept a.expected p.0) as (λ b. EndedAre (EndedOne state kept told (p ∷ handed)) (cond b (record a { expected = expected_after_skip a.expected p.0 }) (behind_missing a p.0)).ended n.ended n.ended_by_marker) [
      | true ↦ ended
      | false ↦ ended
    ];
  }

  -- one that is refused is passed over
  over_parts : {has_slice is_known : Bool} (handed : Packets) (a : Assembly) (n : NumbersSoFar) (p : Packet) → is_late a.expected p.0 ≡ false → a.state ≡ state_with_run state a.state.run → SameStamp a.unit n.unit → Core state kept told handed a n has_slice is_known →
      EndedAre (EndedOne state kept told (p ∷ handed)) a.ended n.ended n.ended_by_marker → Parts has_slice (p ∷ handed) (marker_forgotten (after_pass_over a p.0)) (after_gap n (missing_up_to a.expected p.0))
  over_parts handed a n p timely kind same core ended = record {
    kind = rw (over_is state kept told a p.0 timely) (kind_with a.state kind None);
    sync = rw (over_is state kept told a p.0 timely) (same_broken a.unit n.unit same);
    core = λ e. core_over state kept told handed a n _ _ p timely core;
    ended = rw (over_is state kept told a p.0 timely) ended;
  }

  unit_at_is : (u : AccessUnitValue) (timestamp : ℕ) → is_unit_at (Some u) timestamp ≡ true → timestamp ≡ u.timestamp
  unit_at_is u timestamp e = grind (arith, nat_tests)

  -- one that ended by a packet that bears nothing but the marker
  bare_ended : (handed : Packets) (a : Assembly) (n : NumbersSoFar) (p : Packet) (holds : Bool) → is_expected a.expected p.0 ≡ true → has_no_text state.format p.1.payload ≡ true → is_unit_at a.unit p.1.timestamp ≡ true → p.1.marker ≡ true →
      SameStamp a.unit n.unit → OpenIs state kept told handed a.state a.expected a.unit n.unit → EndedAre (EndedOne state kept told (p ∷ handed)) (given_out (holds && is_run_closed a.state.run) a.unit) n.unit None
  bare_ended handed a n p holds at bare of_unit marker same opened = whole_ended state kept told (p ∷ handed) (holds && is_run_closed a.state.run) a.unit n.unit same (λ u k is_u is_k both whole.
      let closed = right_true holds (is_run_closed a.state.run) both in
      let stamp = unit_at_is u p.1.timestamp (subst (λ (x : Option AccessUnitValue). is_unit_at x p.1.timestamp ≡ true) is_u of_unit) in
      let it = piece_at state kept told handed a.state a.expected a.unit n.unit u k is_u is_k opened whole in
      marked_ended state kept told handed a.state (Some (next_sequence_number p.0)) u k p marker stamp closed (piece_bare state kept told handed a.state a.expected u.timestamp u.bytes u.extra k.first k.last k.continues k.follows p at bare it))

  -- a packet of which nothing is to be written
  no_unit_parts : (has_slice : Bool) (handed : Packets) (a : Assembly) (n : NumbersSoFar) (p : Packet) (m : Bool) → p.0 < 65536 → is_late a.expected p.0 ≡ false → has_no_text state.format p.1.payload ≡ true → (m ≡ true → p.1.marker ≡ true) → a.ended ≡ [] → Parts has_slice handed a n →
      let q : Packet = (p.0, rtp_body p.1.timestamp m p.1.payload) in
      Parts has_slice (p ∷ handed) (marker_forgotten (after_no_unit a q)) (after_gap (if ends_with a q then numbers_closed n else n) (missing_told (skip_answer a.expected p.0)))
  no_unit_parts has_slice handed a n p m small timely bare marker empty it =
      let q : Packet = (p.0, rtp_body p.1.timestamp m p.1.payload) in
      let none_is = none_ended (EndedOne state kept told handed) a.ended n.ended n.ended_by_marker empty it.ended in
      elim (ends_with a q) as (λ b. ends_with a q ≡ b → Parts has_slice (p ∷ handed) (marker_forgotten (after_unit_skip (cond b (after_ending a) a) p.0)) (after_gap (cond b (numbers_closed n) n) (missing_told (skip_answer a.expected p.0)))) [
        | true ↦ λ e.
            let is_marked = left_true m (is_unit_at a.unit p.1.timestamp && is_expected a.expected p.0) e in
            let rest = right_true m (is_unit_at a.unit p.1.timestamp && is_expected a.expected p.0) e in
            let of_unit = left_true (is_unit_at a.unit p.1.timestamp) (is_expected a.expected p.0) rest in
            let at = right_true (is_unit_at a.unit p.1.timestamp) (is_expected a.expected p.0) rest in
            skip_parts handed (after_ending a) (numbers_closed n) p small timely bare (kind_with a.state it.kind None) tt (core_ending state kept told handed a n has_slice true false p.1.timestamp it.sync of_unit (λ c due x e at_x. absurd (let bad = c in cc)) (it.core refl))
            (subst (λ (x : List AccessUnitValue). EndedAre (EndedOne state kept told (p ∷ handed)) (x ++ given_out (not a.is_gap && is_run_closed a.state.run) a.unit) n.unit n.ended_by_marker) (sym empty)
            (subst (EndedAre (EndedOne state kept told (p ∷ handed)) (given_out (not a.is_gap && is_run_closed a.state.run) a.unit) n.unit) (sym none_is.1)
            (bare_ended handed a n p (not a.is_gap) at bare of_unit (marker is_marked) it.sync (it.core refl).opened)))
        | false ↦ λ e. skip_parts handed a n p small timely bare it.kind it.sync (it.core refl) (still_none (p ∷ handed) a.ended n.ended n.ended_by_marker empty none_is)
      ] refl

  other_stamp : (marked : Option ℕ) (timestamp : ℕ) → is_timestamp marked timestamp ≡ false → IsOtherStamp marked timestamp
  other_stamp None timestamp e = tt
  other_stamp (Some x) timestamp e = λ is. grind (arith, nat_tests)

  -- one that is taken
  taken_parts : (has_slice : Bool) (handed : Packets) (a : Assembly) (n : NumbersSoFar) (p : Packet) (m : Bool) (most limit missing : ℕ) (still after_slice : Bool) → p.0 < 65536 → is_late a.expected p.0 ≡ false → (after_slice ≡ true → ((is_unit_at a.unit p.1.timestamp ≡ true) × (has_slice ≡ true)) ⊎ (bears_slice state.format p.1.payload ≡ true)) → has_no_text state.format p.1.payload ≡ false → missing ≡ missing_count a.expected p.0 →
      (still ≡ true → is_unit_at a.unit p.1.timestamp ≡ false → begins_unit state.format p.1.payload ≡ true) → (m ≡ true → p.1.marker ≡ true) → Contains kept p → a.ended ≡ [] → Parts has_slice handed a n →
      let q : Packet = (p.0, rtp_body p.1.timestamp m p.1.payload) in
      Parts after_slice (p ∷ handed) (marker_forgotten (with_unit_within limit (after_taken_rtp most a q))) (after_packet (numbers_still still n) q missing)
  taken_parts has_slice handed a n p m most limit missing still after_slice small timely slice_is text missing_is begins marker is_kept empty it =
      let q : Packet = (p.0, rtp_body p.1.timestamp m p.1.payload) in
      let by : (marked : Option ℕ) → (is_timestamp marked p.1.timestamp ≡ false → is_unit_at a.unit p.1.timestamp ≡ false → IsOtherStamp n.marked p.1.timestamp ⊎ (begins_unit state.format p.1.payload ≡ true)) →
      Parts after_slice (p ∷ handed) (marker_forgotten (with_unit_within limit (after_taken_rtp most a q))) (after_packet (record n { marked = marked }) q missing) = λ marked means. record {
        kind = kind_with a.state it.kind (work_of state kept told most (taken_by a p.1.timestamp) p).state.run;
        sync = sync_taken handed a n p m most missing marked small text it.kind it.sync has_slice timely (it.core refl) missing_is means m limit;
        core = λ e. core_taken handed a n p m most missing marked small text it.kind it.sync has_slice timely (it.core refl) missing_is means limit after_slice marker slice_is;
        ended = ended_taken handed a n p m most missing marked small text it.kind it.sync has_slice timely (it.core refl) missing_is means empty is_kept marker;
      } in
      elim still as (λ b. still ≡ b → Parts after_slice (p ∷ handed) (marker_forgotten (with_unit_within limit (after_taken_rtp most a q))) (after_packet (cond b (record n { marked = None }) n) q missing)) [
        | true ↦ λ e. by None (λ c at. inr (begins e at))
        | false ↦ λ e. by n.marked (λ c at. inl (other_stamp n.marked p.1.timestamp c))
      ] refl

  -- a packet that was read bears something
  read_text : (avc : Bool) (run : Option (List ℕ)) (reading : Reading) (extra : CodecExtra) (packet : List ℕ) → IsReadingOutcome avc run reading (Ok tt) → reads_no_unit extra packet reading ≡ false
  read_text avc run (Refused error) extra packet is = absurd (let bad = is in cc)
  read_text avc run (Single unit don) extra packet is = refl
  read_text avc run (Aggregate units) extra packet is = refl
  read_text avc run (Fragment start end head don body) extra packet is = refl
  read_text avc run (Paci head fields extension body) extra packet is = refl

  -- a refusal, and a packet that is taken
  abbrev refused : PacketError → Result (Unit {0}) PacketError
  refused error = Err error

  abbrev taken_as : Received → Result Received PacketError
  taken_as x = Ok x

  taken_same : (x y : Received) → taken_as x ≡ taken_as y → x ≡ y
  taken_same x y e = cc

  no_other : (long : Bool) (error : PacketError) (extra : CodecExtra) (packet : List ℕ) → MatchBool long (refused error ≡ Err AvcUnitTooLong) ((refused error ≡ Ok tt) ⊎ (refused error ≡ Err OutOfMemory)) → bears_no_unit extra error packet ≡ true → ⊥
  no_other true error extra packet is e = let same : error ≡ AvcUnitTooLong = cc in let bad = subst (λ (x : PacketError). bears_no_unit extra x packet ≡ true) same e in cc
  no_other false error extra packet (inl is) e = let bad = is in cc
  no_other false error extra packet (inr is) e = let same : error ≡ OutOfMemory = cc in let bad = subst (λ (x : PacketError). bears_no_unit extra x packet ≡ true) same e in cc

  -- one that was refused so bears nothing
  pub refused_bare : (avc : Bool) (run : Option (List ℕ)) (reading : Reading) (extra : CodecExtra) (packet : List ℕ) (error : PacketError) → IsReadingOutcome avc run reading (Err error) → bears_no_unit extra error packet ≡ true → reads_no_unit extra packet reading ≡ true
  refused_bare avc run (Refused e) extra packet error is bears = let same : error ≡ e = cc in subst (λ (x : PacketError). bears_no_unit extra x packet ≡ true) same bears
  refused_bare avc run (Single unit don) extra packet error is bears = absurd (no_other _ error extra packet is bears)
  refused_bare avc run (Aggregate units) extra packet error is bears = absurd (no_other _ error extra packet is bears)
  refused_bare avc run (Fragment start end head don body) extra packet error is bears = absurd (no_other _ error extra packet is bears)
  refused_bare avc run (Paci head fields extension body) extra packet error is bears = absurd (no_other _ error extra packet is bears)

  -- what was answered for a packet that isn't late
  pub answered_so : (most : ℕ) (s : SequencedDepacketization) (number : ℕ) (packet : List ℕ) (answer : Result Received PacketError) → is_late s.expected number ≡ false → IsSequencedAnswer most s number packet answer →
      IsReadingOutcome s.at_work.state.is_avc (with_run_if (is_expected s.expected number) s.at_work).state.run (s.at_work.state.format.read packet) (as_outcome answer) × IfOk answer (λ it. it ≡ taken_packet_answer most s number packet)
  answered_so most s number packet answer timely it = subst (λ (b : Bool). MatchBool b (answer ≡ Ok (received.Late (distance_behind s.expected number)))
      (IsPacketOutcome (with_run_if (is_expected s.expected number) s.at_work) packet (as_outcome answer) × IfOk answer (λ it. it ≡ taken_packet_answer most s number packet))) timely it

  format_is : (r : DepacketizerState) → r ≡ state_with_run state r.run → r.format ≡ state.format
  format_is r kind = ap (λ (x : DepacketizerState). x.format) kind

  -- one that is due, by its answer
  module _ (handed : Packets) (a : Assembly) (n : NumbersSoFar) (framing : Framing) (p : Packet) (most limit : ℕ) (small : p.0 < 65536) (timely : is_late (begun_for a p).expected p.0 ≡ false) (is_kept : Contains kept p) (empty : a.ended ≡ []) (it : Parts framing.has_slice handed a n) where
    abbrev begun_one : Assembly
    begun_one = begun_for a p

    abbrev framing_then : Framing
    framing_then = framing_of begun_one framing n p

    abbrev bearing : Packet
    bearing = believed framing_then p

    parts_begun : Parts framing.has_slice handed begun_one n
    parts_begun = record { kind = it.kind; sync = it.sync; core = λ e. core_begun state kept told handed a n framing.has_slice true p (it.core refl); ended = it.ended }

    marked_too : believes framing_then p.1.marker ≡ true → p.1.marker ≡ true
    marked_too e = left_true p.1.marker (framing_then.has_slice && not framing_then.marks_slices) e

    begins_then : framing_then.stands_still ≡ true → is_unit_at a.unit p.1.timestamp ≡ false → begins_unit state.format p.1.payload ≡ true
    begins_then still new =
        let is : (cond (is_unit_at a.unit p.1.timestamp) framing.stands_still (is_timestamp n.marked p.1.timestamp && begins_unit a.state.format p.1.payload)) ≡ true = still in
        let both : (is_timestamp n.marked p.1.timestamp && begins_unit a.state.format p.1.payload) ≡ true = subst (λ (b : Bool). cond b framing.stands_still (is_timestamp n.marked p.1.timestamp && begins_unit a.state.format p.1.payload) ≡ true) new is in
        subst (λ (f : Format). begins_unit f p.1.payload ≡ true) (format_is a.state it.kind) (right_true (is_timestamp n.marked p.1.timestamp) (begins_unit a.state.format p.1.payload) both)

    slice_then : framing_then.has_slice ≡ true → ((is_unit_at a.unit p.1.timestamp ≡ true) × (framing.has_slice ≡ true)) ⊎ (bears_slice state.format p.1.payload ≡ true)
    slice_then e = by (is_unit_at a.unit p.1.timestamp) framing.has_slice e
      where
        by : (u h : Bool) → ((u && h) || bears_slice a.state.format p.1.payload) ≡ true → ((u ≡ true) × (h ≡ true)) ⊎ (bears_slice state.format p.1.payload ≡ true)
        by true true is = inl (refl, refl)
        by true false is = inr (subst (λ (f : Format). bears_slice f p.1.payload ≡ true) (format_is a.state it.kind) is)
        by false h is = inr (subst (λ (f : Format). bears_slice f p.1.payload ≡ true) (format_is a.state it.kind) is)

    -- it was taken
    taken_so : (x : Received) → is_taken (Ok x) ≡ true → bears_nothing p.1.payload ≡ false → IsAssemblyAnswer most begun_one bearing (Ok x) →
        Parts framing_then.has_slice (p ∷ handed) (marker_forgotten (after_rtp most limit begun_one bearing (Ok x))) (cond (is_taken (Ok x)) (numbers_taken (numbers_still framing_then.stands_still n) bearing x) (numbers_taken n bearing x))
    taken_so x on_time some (inl is) = absurd (let bad = is in cc)
    taken_so x on_time some (inr is) = by x on_time told_so
      where
        so : IsReadingOutcome a.state.is_avc (with_run_if (is_expected begun_one.expected p.0) (taken_by begun_one p.1.timestamp).at_work).state.run (a.state.format.read p.1.payload) (Ok tt) × (x ≡ taken_packet_answer most (taken_by begun_one p.1.timestamp) p.0 p.1.payload)
        so = answered_so most (taken_by begun_one p.1.timestamp) p.0 p.1.payload (Ok x) timely is

        told_so : missing_told x ≡ missing_count begun_one.expected p.0
        told_so = ap missing_told so.1 ∙ told_is (missing_count begun_one.expected p.0) (nat_lt most (run_len (after_sequenced_packet (taken_by begun_one p.1.timestamp) p.0 p.1.payload).state.run))

        text : has_no_text state.format p.1.payload ≡ false
        text = subst (λ (f : Format). has_no_text f p.1.payload ≡ false) (format_is a.state it.kind) (rw some (read_text a.state.is_avc (with_run_if (is_expected begun_one.expected p.0) (taken_by begun_one p.1.timestamp).at_work).state.run (a.state.format.read p.1.payload) (a.state.format.extra false) p.1.payload so.0))

        by : (y : Received) → is_taken (Ok y) ≡ true → missing_told y ≡ missing_count begun_one.expected p.0 →
            Parts framing_then.has_slice (p ∷ handed) (marker_forgotten (after_rtp most limit begun_one bearing (Ok y))) (cond (is_taken (Ok y)) (numbers_taken (numbers_still framing_then.stands_still n) bearing y) (numbers_taken n bearing y))
        by (received.Late k) e told_y = absurd (let bad = e in cc)
        by received.InOrder e told_y = taken_parts framing.has_slice handed begun_one n p (believes framing_then p.1.marker) most limit 0 framing_then.stands_still framing_then.has_slice small timely slice_then text told_y begins_then marked_too is_kept empty parts_begun
        by (received.Gap k) e told_y = taken_parts framing.has_slice handed begun_one n p (believes framing_then p.1.marker) most limit k framing_then.stands_still framing_then.has_slice small timely slice_then text told_y begins_then marked_too is_kept empty parts_begun
        by (received.TooLong k) e told_y = taken_parts framing.has_slice handed begun_one n p (believes framing_then p.1.marker) most limit k framing_then.stands_still framing_then.has_slice small timely slice_then text told_y begins_then marked_too is_kept empty parts_begun

    kept_ended : EndedAre (EndedOne state kept told (p ∷ handed)) a.ended n.ended n.ended_by_marker
    kept_ended = still_none (p ∷ handed) a.ended n.ended n.ended_by_marker empty (none_ended (EndedOne state kept told handed) a.ended n.ended n.ended_by_marker empty it.ended)

    -- it was refused, and bears nothing
    refused_text : (error : PacketError) → bears_no_unit (a.state.format.extra false) error p.1.payload ≡ true → ((answer : Result Received PacketError) → answer ≡ Err error → answer ≡ Err OutOfMemory → ⊥) → IsAnswerTo most begun_one bearing (Err error) → has_no_text state.format p.1.payload ≡ true
    refused_text error bears room answered = subst (λ (f : Format). has_no_text f p.1.payload ≡ true) (format_is a.state it.kind) (by (bears_nothing p.1.payload) answered)
      where
        by : (c : Bool) → MatchBool c (Err error ≡ Ok (skip_answer begun_one.expected p.0)) (IsAssemblyAnswer most begun_one bearing (Err error)) → (c || reads_no_unit (a.state.format.extra false) p.1.payload (a.state.format.read p.1.payload)) ≡ true
        by true is = refl
        by false (inl is) = absurd (room (Err error) refl is)
        by false (inr is) = refused_bare a.state.is_avc (with_run_if (is_expected begun_one.expected p.0) (taken_by begun_one p.1.timestamp).at_work).state.run (a.state.format.read p.1.payload) (a.state.format.extra false) p.1.payload error
            (answered_so most (taken_by begun_one p.1.timestamp) p.0 p.1.payload (Err error) timely is).0 bears

    pub due_parts : (answer : Result Received PacketError) → IsAnswerTo most begun_one bearing answer → (answer ≡ Err OutOfMemory → ⊥) → ((x : Received) → answer ≡ Ok x → is_taken (Ok x) ≡ true) →
        Parts (framing_answered framing framing_then bearing answer).has_slice (p ∷ handed) (marker_forgotten (assembly_after most limit begun_one bearing answer)) (numbers_answered begun_one n framing_then bearing answer)
    due_parts (Ok x) answered room on_time =
        elim (bears_nothing p.1.payload) as (λ c. bears_nothing p.1.payload ≡ c → MatchBool c (taken_as x ≡ taken_as (skip_answer begun_one.expected p.0)) (IsAssemblyAnswer most begun_one bearing (Ok x)) →
        Parts (cond (not c && is_taken (Ok x)) (framing_marked framing_then bearing.1.marker) framing).has_slice (p ∷ handed) (marker_forgotten (cond c (after_unit_skip begun_one p.0) (after_rtp most limit begun_one bearing (Ok x))))
        (cond (not c && is_taken (Ok x)) (cond c (after_gap (numbers_still framing_then.stands_still n) (missing_told x)) (numbers_taken (numbers_still framing_then.stands_still n) bearing x)) (cond c (after_gap n (missing_told x)) (numbers_taken n bearing x)))) [
          | true ↦ λ e is.
              let same = taken_same x (skip_answer begun_one.expected p.0) is in
              subst (λ (y : Received). Parts framing.has_slice (p ∷ handed) (marker_forgotten (after_unit_skip begun_one p.0)) (after_gap n (missing_told y))) (sym same)
              (skip_parts handed begun_one n p small timely (rw e refl) it.kind it.sync (core_begun state kept told handed a n framing.has_slice true p (it.core refl)) kept_ended)
          | false ↦ λ e is. subst (λ (b : Bool). Parts (cond b (framing_marked framing_then bearing.1.marker) framing).has_slice (p ∷ handed) (marker_forgotten (after_rtp most limit begun_one bearing (Ok x))) (cond (is_taken (Ok x)) (numbers_taken (numbers_still framing_then.stands_still n) bearing x) (numbers_taken n bearing x))) (sym (on_time x refl)) (taken_so x (on_time x refl) e is)
        ] refl answered
    due_parts (Err error) answered room on_time =
        elim (is_no_unit begun_one error p.1.payload) as (λ c. is_no_unit begun_one error p.1.payload ≡ c → Parts framing.has_slice (p ∷ handed) (marker_forgotten (cond c (after_no_unit begun_one bearing) (after_pass_over begun_one p.0)))
        (cond c (after_gap (if ends_with begun_one bearing then numbers_closed n else n) (missing_told (skip_answer begun_one.expected p.0))) (after_gap n (missing_up_to begun_one.expected p.0)))) [
          | true ↦ λ e. no_unit_parts framing.has_slice handed begun_one n p (believes framing_then p.1.marker) small timely (refused_text error e (λ x is same. room (sym is ∙ same)) answered) marked_too empty parts_begun
          | false ↦ λ e. over_parts handed begun_one n p timely it.kind it.sync (core_begun state kept told handed a n framing.has_slice true p (it.core refl)) kept_ended
        ] refl

  own_stamp : (x : ℕ) → (x == x) ≡ true
  own_stamp x = grind (arith, nat_tests)

  -- where a packet begins another access unit right behind it
  pub record Ends (a : Assembly) (has_slice : Bool) (q : Packet) : Type 0 where
    pub slice : has_slice ≡ true
    pub of_unit : is_unit_at a.unit q.1.timestamp ≡ true
    pub next : is_expected a.expected q.0 ≡ true
    pub begins : begins_unit a.state.format q.1.payload ≡ true

  pub content_ends : (a : Assembly) (framing : Framing) (q : Packet) → ends_before a framing q ≡ true → is_behind_missing a q.0 ≡ false → Ends a framing.has_slice q
  content_ends a framing q e present = by (bears_nothing q.1.payload) (is_unit_at a.unit q.1.timestamp) (is_in_reach a q.0) refl e present
    where
      last : (t h b : Bool) → (not t && (h && b)) ≡ true → (h ≡ true) × (b ≡ true)
      last true h b e = absurd (let bad = e in cc)
      last false true b e = (refl, e)
      last false false b e = absurd (let bad = e in cc)

      no_gap : (g x : Bool) → (g || not x) ≡ false → x ≡ true
      no_gap true x e = absurd (let bad = e in cc)
      no_gap false true e = refl
      no_gap false false e = absurd (let bad = e in cc)

      by : (c u r : Bool) → is_unit_at a.unit q.1.timestamp ≡ u → (not c && cond u (r && ends_by_content framing (shown_of a q)) (r && (a.is_gap || not (is_expected a.expected q.0)))) ≡ true → (r && (a.is_gap || not (is_expected a.expected q.0))) ≡ false → Ends a framing.has_slice q
      by true u r is e present = absurd (let bad = e in cc)
      by false false r is e present = absurd (let bad = sym e ∙ present in cc)
      by false true false is e present = absurd (let bad = e in cc)
      by false true true is e present = record {
        of_unit = is;
        next = no_gap a.is_gap (is_expected a.expected q.0) present;
        begins = (last (trusts_markers framing) framing.has_slice (begins_unit a.state.format q.1.payload) e).1;
        slice = (last (trusts_markers framing) framing.has_slice (begins_unit a.state.format q.1.payload) e).0;
      }

  pub content_parts : (handed : Packets) (a : Assembly) (n : NumbersSoFar) (framing : Framing) (q : Packet) → ends_before a framing q ≡ true → is_behind_missing a q.0 ≡ false → Contains kept q → a.ended ≡ [] → Parts framing.has_slice handed a n →
      Parts framing.has_slice handed (after_ending a) (numbers_closed n)
  content_parts handed a n framing q e present is_kept empty it =
      let ends = content_ends a framing q e present in
      let none_is = none_ended (EndedOne state kept told handed) a.ended n.ended n.ended_by_marker empty it.ended in
      let begins = subst (λ (f : Format). begins_unit f q.1.payload ≡ true) (format_is a.state it.kind) ends.begins in
      let holds = not a.is_gap && is_run_closed a.state.run in
      let next : (due x : ℕ) → a.expected ≡ Some due → is_unit_at a.unit x ≡ true → IsNextBegun kept state.format x due handed = λ due x is at_x.
      let slice = (it.core refl).slices ends.slice x at_x in
      let same : slice.due ≡ due = let both = sym slice.expects ∙ is in cc in
      record { next = q; is_kept = is_kept; number = expected_is a.expected due q.0 is ends.next; begins = begins; slice = subst (λ (d : ℕ). IsSliceBefore state.format x d handed) same slice.slice } in
      record {
        kind = kind_with a.state it.kind None;
        sync = tt;
        core = λ x. core_ending state kept told handed a n framing.has_slice true true q.1.timestamp it.sync ends.of_unit (λ c due y is at_y. inr (next due y is at_y)) (it.core refl);
        ended =
            subst (λ (x : List AccessUnitValue). EndedAre (EndedOne state kept told handed) (x ++ given_out holds a.unit) n.unit n.ended_by_marker) (sym empty)
            (subst (EndedAre (EndedOne state kept told handed) (given_out holds a.unit) n.unit) (sym none_is.1)
            (whole_ended state kept told handed holds a.unit n.unit it.sync (λ u k is_u is_k both whole.
            content_ended state kept told handed a.state a.expected u k (right_true (not a.is_gap) (is_run_closed a.state.run) both)
            (λ due is. next due u.timestamp is (subst (λ (x : Option AccessUnitValue). is_unit_at x u.timestamp ≡ true) (sym is_u) (own_stamp u.timestamp)))
            (piece_at state kept told handed a.state a.expected a.unit n.unit u k is_u is_k (it.core refl).opened whole))));
      }

  -- once the one that is open ended, not known to be whole, and what comes next follows none
  finished_parts : {has_slice : Bool} (is_anew : Bool) (handed : Packets) (a : Assembly) (n new : NumbersSoFar) → SameStamp a.unit n.unit → a.state ≡ state_with_run state a.state.run → a.ended ≡ [] → new.unit ≡ None → new.has_begun ≡ false → new.ended ≡ n.unit → new.ended_by_marker ≡ None →
      PartsIf has_slice handed (after_finishing a) new is_anew
  finished_parts is_anew handed a n new same kind empty none_open fresh ended_is marked_is = record {
    kind = kind_with a.state kind None;
    sync = rw none_open tt;
    core = λ e. record { opened = tt; behind = λ b g. absurd (let bad = sym b ∙ fresh in cc); slices = λ sl x is. absurd (let bad = is in cc) };
    ended =
        subst (λ (x : List AccessUnitValue). EndedAre (EndedOne state kept told handed) (x ++ given_out false a.unit) new.ended new.ended_by_marker) (sym empty)
        (subst (EndedAre (EndedOne state kept told handed) (given_out false a.unit) new.ended) (sym marked_is)
        (subst (λ (x : Option AccessUnitNumbers). EndedAre (EndedOne state kept told handed) (given_out false a.unit) x None) (sym ended_is) (open_left state kept told handed a.unit n.unit same)));
  }

  -- a new assembler of this kind
  pub fresh_parts : {has_slice : Bool} (is_anew : Bool) (handed : Packets) (r : DepacketizerState) → r ≡ state_with_run state r.run → PartsIf has_slice handed (open_assembly r None none_open []) fresh_numbers is_anew
  fresh_parts is_anew handed r kind = record {
    kind = kind_with r kind None;
    sync = tt;
    core = λ e. record { opened = tt; behind = λ b g. absurd (let bad = b in cc); slices = λ sl x is. absurd (let bad = is in cc) };
    ended = (refl, refl);
  }

  -- the number of the first packet is told
  pub told_parts : {has_slice : Bool} (is_anew : Bool) (handed : Packets) (a : Assembly) (n : NumbersSoFar) (number : ℕ) → number < 65536 → Contains told number → (is_anew ≡ false → a.unit ≡ None) → PartsIf has_slice handed a n is_anew → PartsIf has_slice handed (record a { expected = Some number }) (begun_numbers_at n) is_anew
  told_parts is_anew handed a n number small is_told none_is it = record {
    kind = it.kind;
    sync = it.sync;
    core = λ e. record {
      opened = subst (λ (u : Option AccessUnitValue). OpenIs state kept told handed a.state (Some number) u n.unit) (sym (none_is e)) tt;
      behind = λ b g. record { due = number; stamp = None; right = as_told number handed is_told; expects = refl; stamp_is = inl refl; small = small; closing = λ c x is. absurd (let bad = is in cc) };
      slices = λ sl x is. absurd (let bad = subst (λ (u : Option AccessUnitValue). is_unit_at u x ≡ true) (none_is e) is in cc);
    };
    ended = it.ended;
  }

  -- the first that ended is gone
  record FirstIs (handed : Packets) (a : Assembly) (n : NumbersSoFar) (unit : AccessUnitValue) (units : List AccessUnitValue) : Type 0 where
    first : EndedOne state kept told handed unit (first_ended n)
    others : EndedAre (EndedOne state kept told handed) units (without_first_ended n).ended (without_first_ended n).ended_by_marker
    same_unit : (without_first_ended n).unit ≡ n.unit
    rest : {has_slice : Bool} → Core state kept told handed a n has_slice true → Core state kept told handed a (without_first_ended n) has_slice true

  first_is_of : (handed : Packets) (a : Assembly) (n : NumbersSoFar) (unit : AccessUnitValue) (units : List AccessUnitValue) → EndedAre (EndedOne state kept told handed) (unit ∷ units) n.ended n.ended_by_marker → FirstIs handed a n unit units
  first_is_of handed a n unit units is = by n.ended n.ended_by_marker is
    where
      by : (e b : Option AccessUnitNumbers) → EndedAre (EndedOne state kept told handed) (unit ∷ units) e b → FirstIs handed a (record n { ended = e; ended_by_marker = b }) unit units
      by (Some k) b is = record { first = is.0; others = is.1; same_unit = refl; rest = λ core. record { opened = core.opened; behind = core.behind; slices = core.slices } }
      by None (Some k) is = record { first = is.0; others = is.1; same_unit = refl; rest = λ core. record { opened = core.opened; behind = core.behind; slices = core.slices } }
      by None None is = absurd is

  pub gone_parts : {has_slice : Bool} (is_anew : Bool) (handed : Packets) (a : Assembly) (n : NumbersSoFar) (unit : AccessUnitValue) (units : List AccessUnitValue) → a.ended ≡ unit ∷ units → PartsIf has_slice handed a n is_anew → PartsIf has_slice handed (record a { ended = units }) (without_first_ended n) is_anew
  gone_parts is_anew handed a n unit units is it =
      let at = first_is_of handed a n unit units (subst (λ (x : List AccessUnitValue). EndedAre (EndedOne state kept told handed) x n.ended n.ended_by_marker) is it.ended) in
      record {
        kind = it.kind;
        sync = subst (SameStamp a.unit) (sym at.same_unit) it.sync;
        core = λ e. let rest = at.rest (it.core e) in record { opened = rest.opened; behind = rest.behind; slices = rest.slices };
        ended = at.others;
      }

  -- what is missing of it is told with a later one
  carried_parts : (has_slice : Bool) (is_anew : Bool) (handed : Packets) (a : Assembly) (n : NumbersSoFar) (missing : ℕ) → PartsIf has_slice handed a n is_anew → PartsIf has_slice handed a (numbers_carrying n missing) is_anew
  carried_parts has_slice is_anew handed a n missing it = by n.ended n.ended_by_marker n.unit it.sync (λ e. (it.core e).opened) (λ e. (it.core e).behind) it.ended
    where
      units_with : (units : List AccessUnitValue) (e : Option AccessUnitNumbers) (k : AccessUnitNumbers) (m : ℕ) → EndedAre (EndedOne state kept told handed) units e (Some k) → EndedAre (EndedOne state kept told handed) units e (Some (record k { missing = m }))
      units_with [] e k m is = absurd (let bad = is.1 in cc)
      units_with (u ∷ units) (Some x) k m is = (is.0, units_with units None k m is.1)
      units_with (u ∷ units) None k m is = is

      same_with : (u : Option AccessUnitValue) (k : AccessUnitNumbers) (m : ℕ) → SameStamp u (Some k) → SameStamp u (Some (record k { missing = m }))
      same_with None k m same = same
      same_with (Some u) k m same = same

      open_with : (u : Option AccessUnitValue) (k : AccessUnitNumbers) (m : ℕ) → OpenIs state kept told handed a.state a.expected u (Some k) → OpenIs state kept told handed a.state a.expected u (Some (record k { missing = m }))
      open_with None k m opened = tt
      open_with (Some u) k m opened = opened

      by : (e b u : Option AccessUnitNumbers) → SameStamp a.unit u → (is_anew ≡ false → OpenIs state kept told handed a.state a.expected a.unit u) → (is_anew ≡ false → n.has_begun ≡ true → n.skipped_gap ≡ 0 → Behind state kept told handed a.expected (last_stamp state kept told u n.marked) (true && not (is_some u))) → EndedAre (EndedOne state kept told handed) a.ended e b → PartsIf has_slice handed a (numbers_carrying (record n { ended = e; ended_by_marker = b; unit = u }) missing) is_anew
      by e (Some k) u same opened behind ended = record { kind = it.kind; sync = same; core = λ x. record { opened = opened x; behind = behind x; slices = (it.core x).slices }; ended = units_with a.ended e k (missing_sum k.missing missing) ended }
      by e None (Some k) same opened behind ended = record { kind = it.kind; sync = same_with a.unit k (missing_sum k.missing missing) same; core = λ x. record { opened = open_with a.unit k (missing_sum k.missing missing) (opened x); behind = behind x; slices = (it.core x).slices }; ended = ended }
      by e None None same opened behind ended = record { kind = it.kind; sync = same; core = λ x. record { opened = opened x; behind = behind x; slices = (it.core x).slices }; ended = ended }

  pub bare_parts : {has_slice : Bool} (is_anew : Bool) (handed : Packets) (a : Assembly) (n : NumbersSoFar) (missing : ℕ) (unit : AccessUnitValue) (units : List AccessUnitValue) → a.ended ≡ unit ∷ units → PartsIf has_slice handed a n is_anew → PartsIf has_slice handed (record a { ended = units }) (numbers_carrying (without_first_ended n) missing) is_anew
  bare_parts is_anew handed a n missing unit units is it = carried_parts _ is_anew handed (record a { ended = units }) (without_first_ended n) missing (gone_parts is_anew handed a n unit units is it)

  -- what is given out and told whole
  told_whole : (handed : Packets) (d : DecoderState) (has_sets is_avc : Bool) (unit : AccessUnitValue) (k : AccessUnitNumbers) → is_avc ≡ state.is_avc → EndedOne state kept told handed unit k → (received_unit d has_sets is_avc unit k).is_whole ≡ true →
      IsOfWholePackets told kept handed state (received_unit d has_sets is_avc unit k)
  told_whole handed d has_sets is_avc unit k avc_is one whole =
      let front = is_front d unit.extra (unit_content is_avc unit).first in
      let own = left_true unit.is_whole (not k.continues && (k.follows || front)) whole in
      let rest = right_true unit.is_whole (not k.continues && (k.follows || front)) whole in
      let it = one own in
      record {
        later = it.later;
        own = it.own;
        before = it.before;
        first = it.front;
        last = it.back;
        due = it.due;
        written = it.written;
        place = it.place;
        packets = it.packets;
        bytes = it.bytes_are;
        extra = it.extra_is;
        closed = it.closed;
        first_is = it.first_is;
        last_is = it.last_is;
        begun = by k.follows refl (right_true (not k.continues) (k.follows || front) rest) (it.begun (not_so k.continues (left_true (not k.continues) (k.follows || front) rest)));
        ended = it.ended;
      }
    where
      not_so : (b : Bool) → not b ≡ true → b ≡ false
      not_so true e = absurd (let bad = e in cc)
      not_so false e = refl

      by : {timestamp : ℕ} {first : Packet} {before : Packets} (b : Bool) → k.follows ≡ b → (b || is_front d unit.extra (unit_content is_avc unit).first) ≡ true → (k.follows ≡ true → IsBegunInOrder told kept state.format timestamp first before) →
          IsBegunInOrder told kept state.format timestamp first before ⊎ IsBegunByContent state.is_avc (received_unit d has_sets is_avc unit k)
      by true is e begun = inl (begun is)
      by false is e begun = inr (record { decoder = d; front = subst (λ (b : Bool). is_front d unit.extra (content_of b unit.extra unit.bytes).first ≡ true) avc_is e })

  pub first_whole : {has_slice : Bool} (is_anew : Bool) (handed : Packets) (d : DecoderState) (has_sets : Bool) (a : Assembly) (n : NumbersSoFar) (unit : AccessUnitValue) (units : List AccessUnitValue) → a.ended ≡ unit ∷ units → PartsIf has_slice handed a n is_anew →
      (received_unit d has_sets a.state.is_avc unit (first_ended n)).is_whole ≡ true → IsOfWholePackets told kept handed state (received_unit d has_sets a.state.is_avc unit (first_ended n))
  first_whole is_anew handed d has_sets a n unit units is it whole =
      let at = first_is_of handed a n unit units (subst (λ (x : List AccessUnitValue). EndedAre (EndedOne state kept told handed) x n.ended n.ended_by_marker) is it.ended) in
      told_whole handed d has_sets a.state.is_avc unit (first_ended n) (ap (λ (r : DepacketizerState). r.is_avc) it.kind) at.first whole

  -- numbers missing before a packet end the one that is open
  pub missing_parts : {has_slice : Bool} (handed : Packets) (a : Assembly) (n : NumbersSoFar) (missing : ℕ) → a.ended ≡ [] → Parts has_slice handed a n → Parts has_slice handed (after_finishing a) (after_missing n missing)
  missing_parts handed a n missing empty it = finished_parts false handed a n (after_missing n missing) it.sync it.kind empty refl refl refl (none_ended (EndedOne state kept told handed) a.ended n.ended n.ended_by_marker empty it.ended).1

  -- so does the end of the stream
  pub last_parts : {has_slice new_slice : Bool} (is_anew new : Bool) (handed : Packets) (a : Assembly) (n : NumbersSoFar) → a.ended ≡ [] → PartsIf has_slice handed a n is_anew → PartsIf new_slice handed (after_finishing a) (after_last n) new
  last_parts is_anew new handed a n empty it = finished_parts new handed a n (after_last n) it.sync it.kind empty refl refl refl refl

  -- `restart` drops all
  pub restarted_parts : {has_slice new_slice : Bool} (is_anew : Bool) (handed : Packets) (a : Assembly) (n : NumbersSoFar) → PartsIf has_slice handed a n is_anew → PartsIf new_slice handed (open_assembly a.state None none_open []) fresh_numbers false
  restarted_parts is_anew handed a n it = fresh_parts false handed a.state it.kind

  -- the stream begins anew
  pub anew_parts : {has_slice : Bool} (is_anew : Bool) (handed : Packets) (a : Assembly) (n : NumbersSoFar) → PartsIf has_slice handed a n is_anew → PartsIf has_slice handed a n true
  anew_parts is_anew handed a n it = record { kind = it.kind; sync = it.sync; core = λ e. absurd (let bad = e in cc); ended = it.ended }
