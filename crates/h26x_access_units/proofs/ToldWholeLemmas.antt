-- An access unit all of whose packets were taken is told whole.
use Rattle.std.proofs.Common.{◌≡◌, ◌∙◌, ap, sym, subst, refl, ℕ, zero, suc, ◌+◌, ◌≤◌, ◌<◌, Bool, true, false, List, [], ◌∷◌, ◌++◌, length, Option, Some, None, arith, inl, inr, Result, Ok, Err}
use Rattle.std.specs.Prelude.{nat_lt, ◌⊎◌, if◌then◌else◌}
use Rattle.std.specs.List.{Contains}
use Rattle.std.proofs.lemmas.Bool.Decides.{nat_tests}
use Rattle.h26x_core.specs.Sequence.{next_sequence_number, is_late, missing_count}
use Rattle.h26x_core.specs.declared.error.PacketError.{PacketError}
use Rattle.h26x_core.specs.declared.error.PacketError.TheVariants.{OutOfMemory}
use Rattle.h26x_model.specs.Carry.Laws.{DepacketizerGoesOn}
use Rattle.h26x_model.specs.Receive.DepacketizerState.{DepacketizerState, Depacketization}
use Rattle.h26x_model.specs.Receive.RunLimit.{run_len}
use Rattle.h26x_receiver.specs.declared.received.Received.{Received}
use Rattle.h26x_reorder.specs.Rtp.{RtpBody}
use Rattle.h26x_assembler.specs.AccessUnit.{AccessUnitValue, Assembly, is_run_closed, is_unit_broken, with_unit_within, after_taken_rtp, behind_missing}
use Rattle.h26x_access_units.specs.declared.numbers.AccessUnitNumbers.{AccessUnitNumbers}
use Rattle.h26x_access_units.specs.declared.numbers.NumbersSoFar.{NumbersSoFar}
use Rattle.h26x_access_units.specs.declared.framing.Framing.{Framing}
use Rattle.h26x_access_units.specs.declared.decoder.DecoderState.{DecoderState}
use Rattle.h26x_access_units.specs.Framing.{framing_marked}
use Rattle.h26x_access_units.specs.Content.{content_of}
use Rattle.h26x_access_units.specs.Decoder.{tells_whole}
use Rattle.h26x_access_units.specs.Numbers.{bears_nothing, after_gap, after_packet, numbers_still, without_first_ended, without_ended_of, numbers_carrying, first_ended, first_of_ended}
use Rattle.h26x_access_units.specs.ReceivedAccessUnit.{ReceivedAccessUnitValue, received_unit}
use Rattle.h26x_access_units.specs.Reception.{begun_for, is_one_taken, marker_forgotten, framing_of, framing_answered, numbers_answered, believed, ends_before, IsAnswerTo, assembly_after}
use Rattle.h26x_access_units.specs.WholeSent.{bears_slice, nothing_written, sent_at, sent_number, sent_payloads, IsSentAt, IsSender, IsWrittenOf}
use Rattle.h26x_access_units.specs.ToldWhole.{IsInTime, due_taken, due_passed, Deed, TookPacket, PassedPacket, DroppedAll, packet_deed, took_place, took_places, sent_text, IsUnitSent, IsBegunSo, IsEndedSo, by_own_marker, by_next, AreOfSender, took_packet, passed_packet}
use Rattle.h26x_access_units.proofs.EndedLemmas.{SameStamp}
use Rattle.h26x_access_units.proofs.SteadyLemmas.{Steady, due_ways, took_steady, late_steady, refused_steady, gone_steady}
use Rattle.h26x_access_units.proofs.OpenUnitLemmas.{Good, Second, WaitsIn, Open, Short, After, Always, Tells, begin_on, next_on, next_ends}

abbrev Packet : Type 0
Packet = ℕ × RtpBody

abbrev Units : Type 0
Units = List ReceivedAccessUnitValue

same_head : (x y : Deed) (a b : List Deed) → x ∷ a ≡ y ∷ b → x ≡ y
same_head x y a b e = cc

same_tail : (x y : Deed) (a b : List Deed) → x ∷ a ≡ y ∷ b → a ≡ b
same_tail x y a b e = cc

same_packet : (p q : Packet) → TookPacket p ≡ TookPacket q → p ≡ q
same_packet p q e = cc

module _ (state : DepacketizerState) (sent : List RtpBody) (first : ℕ) (sender : IsSender state sent) (place count : ℕ) (unit : IsUnitSent sent place count) (goes : DepacketizerGoesOn (nothing_written state)) where
  abbrev w : ℕ → Depacketization
  w k = sent_text state sent place k

  abbrev at : ℕ → Packet
  at k = (sent_number first (place + k), sent_at sent (place + k))

  abbrev OpenAt : ℕ → Assembly → Framing → NumbersSoFar → DecoderState → Type 0
  OpenAt k a f n d = Open state sent first sender place count unit goes k a f n d

  abbrev Waits : Assembly → NumbersSoFar → DecoderState → Type 0
  Waits a n d = WaitsIn state sent first sender place count unit goes d a.ended n.ended n.ended_by_marker

  -- it was given out whole
  pub record Given (given : Units) : Type 0 where
    pub one : ReceivedAccessUnitValue
    pub given_is : Contains given one
    pub whole : one.is_whole ≡ true
    pub timestamp : one.timestamp ≡ (sent_at sent place).timestamp
    pub first_is : one.first ≡ sent_number first place
    pub written : IsWrittenOf state (sent_payloads sent place count) one

  abbrev pub Done : Units → Assembly → NumbersSoFar → DecoderState → Type 0
  Done given a n d = Given given ⊎ Waits a n d

  abbrev Going : ℕ → Units → Assembly → Framing → NumbersSoFar → DecoderState → Type 0
  Going k given a f n d = OpenAt k a f n d ⊎ Done given a n d

  abbrev Begun : List Deed → Type 0
  Begun before = IsBegunSo state sent first place (w count) before

  abbrev Ended : List Deed → Type 0
  Ended later = IsEndedSo state sent first place count later

  -- what became of the access unit by these deeds
  pub record Tale (ds : List Deed) (given : Units) (a : Assembly) (f : Framing) (n : NumbersSoFar) (d : DecoderState) : Type 0 where
    pub going : (k : ℕ) (before : List Deed) → ds ≡ took_places sent first place (suc k) ++ before → k < count → Begun before → Going (k + 1) given a f n d
    pub done : (later before : List Deed) → ds ≡ later ++ (took_places sent first place count ++ before) → Begun before → Ended later → (Contains later DroppedAll → ⊥) → Done given a n d

  in_front : (l : Deed) (later : List Deed) → Contains later DroppedAll → Contains (l ∷ later) DroppedAll
  in_front l later (k, within, same) = (suc k, omega (arith, within), same)

  at_front : (later : List Deed) → Contains (DroppedAll ∷ later) DroppedAll
  at_front later = (zero, omega arith, refl)

  -- the last deed
  count_is : (c : ℕ) → count ≡ suc c → (P : ℕ → Type 0) → P (c + 1) → P count
  count_is c is P it = subst P (let same : c + 1 ≡ count = omega (arith, is) in same) it

  step_tale : (deed : Deed) (ds : List Deed) (given : Units) (a new_a : Assembly) (f new_f : Framing) (n new_n : NumbersSoFar) (d new_d : DecoderState) →
      ((deed ≡ DroppedAll → ⊥) → Done given a n d → Done given new_a new_n new_d) →
      ((k : ℕ) (before : List Deed) → deed ≡ took_place sent first (place + k) → ds ≡ took_places sent first place k ++ before → k < count → Begun before → Going (k + 1) given new_a new_f new_n new_d) →
      (deed ≡ took_place sent first (place + count) → place + count < length sent → OpenAt count a f n d → Done given new_a new_n new_d) →
      Tale ds given a f n d → Tale (deed ∷ ds) given new_a new_f new_n new_d
  step_tale deed ds given a new_a f new_f n new_n d new_d persist own next it = record {
    going = goes_on;
    done = ends;
  }
    where
      goes_on : (k : ℕ) (before : List Deed) → deed ∷ ds ≡ took_places sent first place (suc k) ++ before → k < count → Begun before → Going (k + 1) given new_a new_f new_n new_d
      goes_on k before e lt begun = own k before (same_head deed _ ds _ e) (same_tail deed _ ds _ e) lt begun

      marked : (c last k : ℕ) → count ≡ suc c → count ≡ last + 1 → (sent_at sent (place + last)).marker ≡ true → k < count → bears_slice state.format (sent_at sent (place + k)).payload ≡ true → Going count given new_a new_f new_n new_d → Done given new_a new_n new_d
      marked c last k is last_is marker less bears (inl opened) = absurd (opened.unmarked last last_is marker k less bears)
      marked c last k is last_is marker less bears (inr done) = done

      at_end : (c : ℕ) (before : List Deed) → count ≡ suc c → deed ∷ ds ≡ took_places sent first place count ++ before → Begun before → Going count given new_a new_f new_n new_d
      at_end c before is e begun = count_is c is (λ k. Going k given new_a new_f new_n new_d) (goes_on c before (e ∙ ap (λ (k : ℕ). took_places sent first place k ++ before) is) (omega (arith, is)) begun)

      with_count : (c : ℕ) → count ≡ c → (later before : List Deed) → deed ∷ ds ≡ later ++ (took_places sent first place count ++ before) → Begun before → Ended later → (Contains later DroppedAll → ⊥) → Done given new_a new_n new_d
      with_count zero is later before e begun ended stays = absurd (let some = unit.some in omega (arith, some, is))
      with_count (suc c) is [] before e begun (by_own_marker last k last_is marker less bears) stays = marked c last k is last_is marker less bears (at_end c before is e begun)
      with_count (suc c) is [] before e begun (by_next [] since_is within) stays = absurd (let bad = since_is in cc)
      with_count (suc c) is [] before e begun (by_next (s ∷ since) since_is within) stays = absurd (let bad = since_is in cc)
      with_count (suc c) is (l ∷ later) before e begun ended stays = by ended
        where
          head : deed ≡ l
          head = same_head deed l ds (later ++ (took_places sent first place count ++ before)) e

          tail : ds ≡ later ++ (took_places sent first place count ++ before)
          tail = same_tail deed l ds (later ++ (took_places sent first place count ++ before)) e

          not_dropped : deed ≡ DroppedAll → ⊥
          not_dropped dropped = stays (subst (λ (x : Deed). Contains (x ∷ later) DroppedAll) (sym dropped ∙ head) (at_front later))

          stays_then : Contains later DroppedAll → ⊥
          stays_then is = stays (in_front l later is)

          first_next : Going count given a f n d → deed ≡ took_place sent first (place + count) → place + count < length sent → Done given new_a new_n new_d
          first_next (inl opened) deed_is within = next deed_is within opened
          first_next (inr done) deed_is within = persist not_dropped done

          by : Ended (l ∷ later) → Done given new_a new_n new_d
          by (by_own_marker last k last_is marker less bears) = persist not_dropped (it.done later before tail begun (by_own_marker last k last_is marker less bears) stays_then)
          by (by_next [] since_is within) =
              let own_is = same_head l (took_place sent first (place + count)) later [] since_is in
              let none_later = same_tail l (took_place sent first (place + count)) later [] since_is in
              let ds_is : ds ≡ took_places sent first place (suc c) ++ before = tail ∙ ap (λ (x : List Deed). x ++ (took_places sent first place count ++ before)) none_later ∙ ap (λ (k : ℕ). took_places sent first place k ++ before) is in
              first_next (count_is c is (λ k. Going k given a f n d) (it.going c before ds_is (omega (arith, is)) begun)) (head ∙ own_is) within
          by (by_next (s ∷ since) since_is within) = persist not_dropped (it.done later before tail begun (by_next since (same_tail l s later (since ++ took_place sent first (place + count) ∷ []) since_is) within) stays_then)

      ends : (later before : List Deed) → deed ∷ ds ≡ later ++ (took_places sent first place count ++ before) → Begun before → Ended later → (Contains later DroppedAll → ⊥) → Done given new_a new_n new_d
      ends later before e begun ended stays = with_count count refl later before e begun ended stays

  -- nothing was done yet
  pub fresh_tale : (given : Units) (a : Assembly) (f : Framing) (n : NumbersSoFar) (d : DecoderState) → Tale [] given a f n d
  fresh_tale given a f n d = record {
    going = λ k before e lt begun. absurd (let bad = e in cc);
    done = λ later before e begun ended stays. absurd (by count refl later before e);
  }
    where
      by : (c : ℕ) → count ≡ c → (later before : List Deed) → [] ≡ later ++ (took_places sent first place count ++ before) → ⊥
      by zero is later before e = let some = unit.some in omega (arith, some, is)
      by (suc c) is [] before e = let bad = e ∙ ap (λ (k : ℕ). took_places sent first place k ++ before) is in cc
      by (suc c) is (l ∷ later) before e = let bad = e in cc

  -- where all is dropped none of it was taken since
  pub dropped_tale : (ds : List Deed) (given : Units) (a : Assembly) (f : Framing) (n : NumbersSoFar) (d : DecoderState) → Tale (DroppedAll ∷ ds) given a f n d
  dropped_tale ds given a f n d = record {
    going = λ k before e lt begun. absurd (let bad = e in cc);
    done = λ later before e begun ended stays. absurd (by count refl later before e stays);
  }
    where
      by : (c : ℕ) → count ≡ c → (later before : List Deed) → DroppedAll ∷ ds ≡ later ++ (took_places sent first place count ++ before) → (Contains later DroppedAll → ⊥) → ⊥
      by zero is later before e stays = let some = unit.some in omega (arith, some, is)
      by (suc c) is [] before e stays = let bad = e ∙ ap (λ (k : ℕ). took_places sent first place k ++ before) is in cc
      by (suc c) is (l ∷ later) before e stays =
          let head = same_head DroppedAll l ds (later ++ (took_places sent first place count ++ before)) e in
          stays (subst (λ (x : Deed). Contains (x ∷ later) DroppedAll) head (at_front later))

  pub record Both (due : Option ℕ) (ds : List Deed) (given : Units) (a : Assembly) (f : Framing) (n : NumbersSoFar) (d : DecoderState) : Type 0 where
    pub steady : Steady state sent first sender due ds a f n d
    pub tale : Tale ds given a f n d

  -- what is written of it is within these limits
  abbrev pub Within : ℕ → ℕ → Type 0
  Within most limit = (k : ℕ) → k ≤ count → (run_len (w k).state.run ≤ most) × (length (w k).out ≤ limit)

  -- where none that ended is left it was given out
  pub given_before : (given : Units) (a : Assembly) (n : NumbersSoFar) (d : DecoderState) → a.ended ≡ [] → Done given a n d → Given given
  given_before given a n d empty (inl it) = it
  given_before given a n d empty (inr waits) = absurd (subst (λ (x : List AccessUnitValue). WaitsIn state sent first sender place count unit goes d x n.ended n.ended_by_marker) empty waits)

  -- a deed that is no packet taken
  pub other_tale : (deed : Deed) (ds : List Deed) (given : Units) (a new_a : Assembly) (f new_f : Framing) (n new_n : NumbersSoFar) (d new_d : DecoderState) → ((p : Packet) → deed ≡ TookPacket p → ⊥) →
      ((deed ≡ DroppedAll → ⊥) → Done given a n d → Done given new_a new_n new_d) → Tale ds given a f n d → Tale (deed ∷ ds) given new_a new_f new_n new_d
  other_tale deed ds given a new_a f new_f n new_n d new_d none persist it = step_tale deed ds given a new_a f new_f n new_n d new_d persist
      (λ k before is rest lt begun. absurd (none _ is)) (λ is within opened. absurd (none _ is)) it

  -- so where none that ended is left
  pub quiet_tale : (deed : Deed) (ds : List Deed) (given : Units) (a new_a : Assembly) (f new_f : Framing) (n new_n : NumbersSoFar) (d new_d : DecoderState) → ((p : Packet) → deed ≡ TookPacket p → ⊥) → a.ended ≡ [] → Tale ds given a f n d → Tale (deed ∷ ds) given new_a new_f new_n new_d
  quiet_tale deed ds given a new_a f new_f n new_n d new_d none empty it = other_tale deed ds given a new_a f new_f n new_n d new_d none (λ keeps done. inl (given_before given a n d empty done)) it

  module _ (some : bears_nothing (w count).out ≡ false) (closed : is_run_closed (w count).state.run ≡ true) (units : (k : ℕ) → k < count → is_unit_broken (w k) (w (k + 1)) (sent_at sent (place + k)).payload ≡ false) where
    not_more : (x y : ℕ) → x ≤ y → nat_lt y x ≡ false
    not_more x y le = elim (nat_lt y x) as (λ c. nat_lt y x ≡ c → c ≡ false) [
      | true ↦ λ e. absurd (let bad : y < x = grind (arith, nat_tests) in omega (arith, le, bad))
      | false ↦ λ e. refl
    ] refl

    short_of : (most limit : ℕ) → Within most limit → (k : ℕ) → k < count → Short state sent first sender place count unit goes most limit k
    short_of most limit within k lt =
        let both = within (k + 1) (omega (arith, lt)) in
        record {
          unbroken = units k lt;
          run = not_more (run_len (w (k + 1)).state.run) most both.0;
          text = not_more (length (w (k + 1)).out) limit both.1;
          closed = λ is. closed;
        }

    -- a packet that is due
    module _ (due : Option ℕ) (ds : List Deed) (given : Units) (a : Assembly) (f : Framing) (n : NumbersSoFar) (d : DecoderState) (most limit : ℕ) (within : Within most limit) (of : AreOfSender sent first due ds) (empty : a.ended ≡ []) (it : Both due ds given a f n d) where
      abbrev Going_on : ℕ → Packet → Type 0
      Going_on k p = let b = begun_for a p in let g = framing_of b f n p in let q = believed g p in let missing = missing_count b.expected p.0 in
          Going k given (marker_forgotten (with_unit_within limit (after_taken_rtp most b q))) (framing_marked g q.1.marker) (after_packet (numbers_still g.stands_still n) q missing) d

      as_going : (k : ℕ) (p : Packet) → After state sent first sender place count unit goes most limit (missing_count (begun_for a p).expected p.0) k a f n d p → Going_on k p
      as_going k p (inl opened) = inl opened
      as_going k p (inr waits) = inr (inr waits)

      own_at : (k : ℕ) (before : List Deed) → ds ≡ took_places sent first place k ++ before → k < count → Begun before → (sent_is : IsSentAt sent first (at k)) → IsInTime due sent_is.place → ends_before a f (at k) ≡ false → is_late (begun_for a (at k)).expected (at k).0 ≡ false → Going_on (k + 1) (at k)
      own_at zero before ds_is lt begun sent_is in_time follows timely = as_going (zero + 1) (at zero)
          (begin_on state sent first sender place count unit goes due ds a f n d most limit zero (missing_count (begun_for a (at zero)).expected (at zero).0) refl lt sent_is in_time it.steady follows timely refl empty (short_of most limit within zero lt) of (subst Begun (sym ds_is) begun))
      own_at (suc j) before ds_is lt begun sent_is in_time follows timely = by (it.tale.going j before ds_is (omega (arith, lt)) begun)
        where
          by : Going (j + 1) given a f n d → Going_on (suc j + 1) (at (suc j))
          by (inl opened) =
              let same : j + 1 ≡ suc j = omega arith in
              as_going (suc j + 1) (at (suc j)) (next_on state sent first sender place count unit goes due ds a f n d most limit (suc j) (missing_count (begun_for a (at (suc j))).expected (at (suc j)).0) lt sent_is in_time it.steady follows timely empty (short_of most limit within (suc j) lt)
              (subst (λ (k : ℕ). OpenAt k a f n d) same opened))
          by (inr done) = inr (inl (given_before given a n d empty done))

      next_at : place + count < length sent → OpenAt count a f n d → (sent_is : IsSentAt sent first (at count)) → IsInTime due sent_is.place → ends_before a f (at count) ≡ false → is_late (begun_for a (at count)).expected (at count).0 ≡ false →
          let p = at count in let b = begun_for a p in let g = framing_of b f n p in let q = believed g p in let missing = missing_count b.expected p.0 in
          Done given (marker_forgotten (with_unit_within limit (after_taken_rtp most b q))) (after_packet (numbers_still g.stands_still n) q missing) d
      next_at lt opened sent_is in_time follows timely = inr (next_ends state sent first sender place count unit goes due ds a f n d most limit (missing_count (begun_for a (at count)).expected (at count).0) lt sent_is in_time it.steady follows timely empty closed opened)

      took_both : (p : Packet) (at : IsSentAt sent first p) → IsInTime due at.place → ends_before a f p ≡ false → is_late (begun_for a p).expected p.0 ≡ false →
          let b = begun_for a p in let g = framing_of b f n p in let q = believed g p in
          Both (Some (due_taken due at.place)) (TookPacket p ∷ ds) given (marker_forgotten (with_unit_within limit (after_taken_rtp most b q))) (framing_marked g q.1.marker) (after_packet (numbers_still g.stands_still n) q (missing_count b.expected p.0)) d
      took_both p sent_is in_time follows timely = record {
        steady = took_steady state sent first sender due ds a f n d p most limit _ sent_is in_time it.steady follows timely;
        tale = step_tale (TookPacket p) ds given a _ f _ n _ d d (λ keeps done. inl (given_before given a n d empty done))
            (λ k before is rest lt begun.
            let same = same_packet p (at k) is in
            subst (λ (x : Packet). (x_is : IsSentAt sent first x) → IsInTime due x_is.place → ends_before a f x ≡ false → is_late (begun_for a x).expected x.0 ≡ false → Going_on (k + 1) x) (sym same) (own_at k before rest lt begun) sent_is in_time follows timely)
            (λ is lt opened.
            let same = same_packet p (at count) is in
            subst (λ (x : Packet). (x_is : IsSentAt sent first x) → IsInTime due x_is.place → ends_before a f x ≡ false → is_late (begun_for a x).expected x.0 ≡ false →
            let b = begun_for a x in let g = framing_of b f n x in let q = believed g x in let missing = missing_count b.expected x.0 in
            Done given (marker_forgotten (with_unit_within limit (after_taken_rtp most b q))) (after_packet (numbers_still g.stands_still n) q missing) d) (sym same) (next_at lt opened) sent_is in_time follows timely)
            it.tale;
      }

      late_both : (p : Packet) (at : IsSentAt sent first p) → IsInTime due at.place → is_late (begun_for a p).expected p.0 ≡ true → Both (due_passed due at.place) (PassedPacket p ∷ ds) given (marker_forgotten (begun_for a p)) f n d
      late_both p sent_is in_time late = record {
        steady = late_steady state sent first sender due ds a f n d p sent_is in_time late it.steady;
        tale = quiet_tale (PassedPacket p) ds given a _ f _ n _ d d (λ x e. let bad = e in cc) empty it.tale;
      }

      refused_both : (p : Packet) (at : IsSentAt sent first p) → IsInTime due at.place → is_late (begun_for a p).expected p.0 ≡ false → (m : ℕ) →
          Both (due_passed due at.place) (PassedPacket p ∷ ds) given (marker_forgotten (record (behind_missing (begun_for a p) p.0) { expected = Some (next_sequence_number p.0) })) f (after_gap n m) d
      refused_both p sent_is in_time timely m = record {
        steady = refused_steady state sent first sender due ds a f n d p m sent_is in_time timely it.steady;
        tale = quiet_tale (PassedPacket p) ds given a _ f _ n _ d d (λ x e. let bad = e in cc) empty it.tale;
      }

    -- a packet that was met, and what was done before
    record Met (p : Packet) (ds : List Deed) : Type 0 where
      due : Option ℕ
      at : IsSentAt sent first p
      of : AreOfSender sent first due ds

    packet_met : (p : Packet) (answer : Result Received PacketError) (new : Option ℕ) (ds : List Deed) → AreOfSender sent first new (packet_deed p answer ∷ ds) → Met p ds
    packet_met p (Err error) new ds of = passed p new ds of
      where
        passed : (p : Packet) (new : Option ℕ) (ds : List Deed) → AreOfSender sent first new (PassedPacket p ∷ ds) → Met p ds
        passed p new ds (passed_packet {due = due} q at in_time of) = record { due = due; at = at; of = of }
    packet_met p (Ok answer) new ds of = by (is_one_taken p answer) p new ds of
      where
        by : (c : Bool) (p : Packet) (new : Option ℕ) (ds : List Deed) → AreOfSender sent first new ((if c then TookPacket p else PassedPacket p) ∷ ds) → Met p ds
        by true p new ds (took_packet {due = due} q at in_time of) = record { due = due; at = at; of = of }
        by false p new ds (passed_packet {due = due} q at in_time of) = record { due = due; at = at; of = of }

    -- a packet that is due, whatever is known of the sender before
    module _ (ds : List Deed) (given : Units) (a : Assembly) (f : Framing) (n : NumbersSoFar) (d : DecoderState) (most limit : ℕ) (within : Within most limit) (empty : a.ended ≡ []) (each : (due : Option ℕ) → AreOfSender sent first due ds → Both due ds given a f n d) where
      took_each : (p : Packet) (new : Option ℕ) → ends_before a f p ≡ false → is_late (begun_for a p).expected p.0 ≡ false → AreOfSender sent first new (TookPacket p ∷ ds) →
          let b = begun_for a p in let g = framing_of b f n p in let q = believed g p in
          Both new (TookPacket p ∷ ds) given (marker_forgotten (with_unit_within limit (after_taken_rtp most b q))) (framing_marked g q.1.marker) (after_packet (numbers_still g.stands_still n) q (missing_count b.expected p.0)) d
      took_each p new follows timely (took_packet {due = due} q at in_time of) = took_both due ds given a f n d most limit within of empty (each due of) p at in_time follows timely

      late_each : (p : Packet) (new : Option ℕ) → is_late (begun_for a p).expected p.0 ≡ true → AreOfSender sent first new (PassedPacket p ∷ ds) → Both new (PassedPacket p ∷ ds) given (marker_forgotten (begun_for a p)) f n d
      late_each p new late (passed_packet {due = due} q at in_time of) = late_both due ds given a f n d most limit within of empty (each due of) p at in_time late

      refused_each : (p : Packet) (new : Option ℕ) → is_late (begun_for a p).expected p.0 ≡ false → (m : ℕ) → AreOfSender sent first new (PassedPacket p ∷ ds) →
          Both new (PassedPacket p ∷ ds) given (marker_forgotten (record (behind_missing (begun_for a p) p.0) { expected = Some (next_sequence_number p.0) })) f (after_gap n m) d
      refused_each p new timely m (passed_packet {due = due} q at in_time of) = refused_both due ds given a f n d most limit within of empty (each due of) p at in_time timely m

      pub due_both : (p : Packet) → ends_before a f p ≡ false → (answer : Result Received PacketError) → IsAnswerTo most (begun_for a p) (believed (framing_of (begun_for a p) f n p) p) answer → (answer ≡ Err OutOfMemory → ⊥) → (new : Option ℕ) → AreOfSender sent first new (packet_deed p answer ∷ ds) →
          let b = begun_for a p in let g = framing_of b f n p in let q = believed g p in
          Both new (packet_deed p answer ∷ ds) given (marker_forgotten (assembly_after most limit b q answer)) (framing_answered f g q answer) (numbers_answered b n g q answer) d
      due_both p follows answer answered room new of =
          let met = packet_met p answer new ds of in
          due_ways state sent first sender a f n p most limit met.at (each met.due met.of).steady.kind (λ (deed : Deed) (new_a : Assembly) (new_f : Framing) (new_n : NumbersSoFar). AreOfSender sent first new (deed ∷ ds) → Both new (deed ∷ ds) given new_a new_f new_n d)
          (λ timely. took_each p new follows timely)
          (λ late. late_each p new late)
          (λ timely m. refused_each p new timely (m + 1))
          answer answered room of

    -- the numbers of what is open, but for what is missing
    abbrev pub Carried : AccessUnitNumbers → Option AccessUnitNumbers → Type 0
    Carried k u = (now : AccessUnitNumbers) × (u ≡ Some now) × (now.timestamp ≡ k.timestamp) × (now.continues ≡ k.continues) × (now.first ≡ k.first) × (now.follows ≡ k.follows)

    -- once the first that ended is gone
    gone_both : (due : Option ℕ) (ds : List Deed) (given new_given : Units) (a : Assembly) (f : Framing) (n new : NumbersSoFar) (d later : DecoderState) (u : AccessUnitValue) (us : List AccessUnitValue) → a.ended ≡ u ∷ us → new.has_begun ≡ n.has_begun → new.skipped_gap ≡ n.skipped_gap → new.marked ≡ n.marked → SameStamp a.unit new.unit →
        ((k : AccessUnitNumbers) → n.unit ≡ Some k → Carried k new.unit) → (Given given → Given new_given) → (Waits a n d → Done new_given (record a { ended = us }) new later) → Both due ds given a f n d → Both due ds new_given (record a { ended = us }) f new later
    gone_both due ds given new_given a f n new d later u us is begun gap marked sync carry lift waits it = record {
      steady = gone_steady state sent first sender due ds a f n new d later u us is begun gap marked sync it.steady;
      tale = record {
        going = λ k before e lt begun. going (it.tale.going k before e lt begun);
        done = λ after before e begun ended stays. done (it.tale.done after before e begun ended stays);
      };
    }
      where
        done : Done given a n d → Done new_given (record a { ended = us }) new later
        done (inl given_is) = inl (lift given_is)
        done (inr waiting) = waits waiting

        tells : (follows : Bool) → Always state sent first sender place count unit goes follows ⊎ ((Tells state sent first sender place count unit goes d follows ≡ true) × (a.ended ≡ [])) → Always state sent first sender place count unit goes follows
        tells follows (inl always) = always
        tells follows (inr (now, none)) = absurd (let bad = sym is ∙ none in cc)

        going : {k : ℕ} → Going k given a f n d → Going k new_given (record a { ended = us }) f new later
        going (inr done_is) = inr (done done_is)
        going (inl opened) =
            let (now, now_is, stamp, continues, first_is, follows) = carry opened.numbers opened.numbers_are in
            inl (record {
              unit_is = opened.unit_is;
              state_is = opened.state_is;
              expects = opened.expects;
              present = opened.present;
              closed = opened.closed;
              numbers = now;
              numbers_are = now_is;
              stamp = stamp ∙ opened.stamp;
              alone = continues ∙ opened.alone;
              first_is = first_is ∙ opened.first_is;
              tells = inl (subst (Always state sent first sender place count unit goes) (sym follows) (tells opened.numbers.follows opened.tells));
              slices = opened.slices;
              unmarked = opened.unmarked;
            })

    -- where that has no bytes, and what is missing of it is told with a later one
    pub bare_both : (due : Option ℕ) (ds : List Deed) (given : Units) (a : Assembly) (f : Framing) (n : NumbersSoFar) (d later : DecoderState) (missing : ℕ) (u : AccessUnitValue) (us : List AccessUnitValue) → a.ended ≡ u ∷ us → bears_nothing u.bytes ≡ true → Both due ds given a f n d → Both due ds given (record a { ended = us }) f (numbers_carrying (without_first_ended n) missing) later
    bare_both due ds given a f n d later missing u us is bare it = by n.ended n.ended_by_marker n.unit it
      where
        no_bytes : (k : AccessUnitNumbers) → Good state sent first sender place count unit goes u k → ⊥
        no_bytes k good = let bad = sym some ∙ ap (λ (x : AccessUnitValue). bears_nothing x.bytes) (sym good.unit_is) ∙ bare in cc

        same_now : (k : AccessUnitNumbers) (x : Option AccessUnitNumbers) → x ≡ Some k → Carried k x
        same_now k x is_k = (k, is_k, refl, refl, refl, refl)

        more_now : (k x : AccessUnitNumbers) (m : ℕ) → Some x ≡ Some k → Carried k (Some (record x { missing = m }))
        more_now k x m is_k =
            let same : x ≡ k = cc in (
              record x { missing = m },
              refl,
              ap (λ (y : AccessUnitNumbers). y.timestamp) same,
              ap (λ (y : AccessUnitNumbers). y.continues) same,
              ap (λ (y : AccessUnitNumbers). y.first) same,
              ap (λ (y : AccessUnitNumbers). y.follows) same,
            )

        same_more : (u : Option AccessUnitValue) (x : AccessUnitNumbers) (m : ℕ) → SameStamp u (Some x) → SameStamp u (Some (record x { missing = m }))
        same_more None x m same = same
        same_more (Some v) x m same = same

        waits_later : (e b new : Option AccessUnitNumbers) (us : List AccessUnitValue) → ((k : AccessUnitNumbers) → b ≡ Some k → (e ≡ None → ⊥) → Carried k new) → WaitsIn state sent first sender place count unit goes d (u ∷ us) e b → WaitsIn state sent first sender place count unit goes later us None new
        waits_later (Some k) b new us carry (inl (good, tells)) = absurd (no_bytes k good)
        waits_later (Some k) b new [] carry (inr waiting) = absurd waiting
        waits_later (Some k) None new (v ∷ vs) carry (inr waiting) = absurd waiting
        waits_later (Some k) (Some kb) new (v ∷ vs) carry (inr (good, always)) =
            let (now, now_is, stamp, continues, first_is, follows) = carry kb refl (λ e. let bad = e in cc) in
            subst (WaitsIn state sent first sender place count unit goes later (v ∷ vs) None) (sym now_is)
            (record { unit_is = good.unit_is; alone = continues ∙ good.alone; first_is = first_is ∙ good.first_is }, subst (λ (x : Bool). Tells state sent first sender place count unit goes later x ≡ true) (sym follows) (always later))
        waits_later None (Some k) new us carry (good, tells) = absurd (no_bytes k good)
        waits_later None None new us carry waiting = absurd waiting

        at_first : (e b : Option AccessUnitNumbers) → WaitsIn state sent first sender place count unit goes d a.ended e b → WaitsIn state sent first sender place count unit goes d (u ∷ us) e b
        at_first e b waiting = subst (λ (l : List AccessUnitValue). WaitsIn state sent first sender place count unit goes d l e b) is waiting

        by : (e b x : Option AccessUnitNumbers) → Both due ds given a f (record n { ended = e; ended_by_marker = b; unit = x }) d → Both due ds given (record a { ended = us }) f (numbers_carrying (without_first_ended (record n { ended = e; ended_by_marker = b; unit = x })) missing) later
        by (Some k) (Some kb) x it = gone_both due ds given given a f _ _ d later u us is refl refl refl it.steady.sync (λ y is_y. same_now y x is_y) (λ g. g) (λ waiting. inr (waits_later (Some k) (Some kb) _ us (λ y is_y some. more_now y kb _ is_y) (at_first (Some k) (Some kb) waiting))) it
        by (Some k) None (Some x) it = gone_both due ds given given a f _ _ d later u us is refl refl refl (same_more a.unit x _ it.steady.sync) (λ y is_y. more_now y x _ is_y) (λ g. g) (λ waiting. inr (waits_later (Some k) None _ us (λ y is_y some. absurd (let bad = is_y in cc)) (at_first (Some k) None waiting))) it
        by (Some k) None None it = gone_both due ds given given a f _ _ d later u us is refl refl refl it.steady.sync (λ y is_y. same_now y None is_y) (λ g. g) (λ waiting. inr (waits_later (Some k) None _ us (λ y is_y some. absurd (let bad = is_y in cc)) (at_first (Some k) None waiting))) it
        by None b (Some x) it = gone_both due ds given given a f _ _ d later u us is refl refl refl (same_more a.unit x _ it.steady.sync) (λ y is_y. more_now y x _ is_y) (λ g. g) (λ waiting. inr (waits_later None b _ us (λ y is_y some. absurd (some refl)) (at_first None b waiting))) it
        by None b None it = gone_both due ds given given a f _ _ d later u us is refl refl refl it.steady.sync (λ y is_y. same_now y None is_y) (λ g. g) (λ waiting. inr (waits_later None b _ us (λ y is_y some. absurd (some refl)) (at_first None b waiting))) it

    -- the first that ended is given out
    pub given_both : (due : Option ℕ) (ds : List Deed) (given : Units) (a : Assembly) (f : Framing) (n : NumbersSoFar) (d later : DecoderState) (has_sets : Bool) (u : AccessUnitValue) (us : List AccessUnitValue) → a.ended ≡ u ∷ us → Both due ds given a f n d →
        Both due ds (received_unit d has_sets a.state.is_avc u (first_ended n) ∷ given) (record a { ended = us }) f (without_first_ended n) later
    given_both due ds given a f n d later has_sets u us is it = by n.ended n.ended_by_marker it
      where
        avc_is : a.state.is_avc ≡ state.is_avc
        avc_is = ap (λ (r : DepacketizerState). r.is_avc) it.steady.kind

        same_now : (k : AccessUnitNumbers) (x : Option AccessUnitNumbers) → x ≡ Some k → Carried k x
        same_now k x is_k = (k, is_k, refl, refl, refl, refl)

        lift : (one : ReceivedAccessUnitValue) → Given given → Given (one ∷ given)
        lift one g = record { one = g.one; given_is = more g.given_is; whole = g.whole; timestamp = g.timestamp; first_is = g.first_is; written = g.written }
          where
            more : {x : ReceivedAccessUnitValue} → Contains given x → Contains (one ∷ given) x
            more (k, within, same) = (suc k, omega (arith, within), same)

        first_whole : (k : AccessUnitNumbers) → Good state sent first sender place count unit goes u k → Tells state sent first sender place count unit goes d k.follows ≡ true → Given (received_unit d has_sets a.state.is_avc u k ∷ given)
        first_whole k good tells = record {
          one = received_unit d has_sets a.state.is_avc u k;
          given_is = (zero, omega arith, refl);
          whole = subst (λ (c : Bool). tells_whole d u.is_whole u.extra k (content_of c u.extra u.bytes) ≡ true) (sym avc_is)
              (subst (λ (x : AccessUnitValue). tells_whole d x.is_whole x.extra k (content_of state.is_avc x.extra x.bytes) ≡ true) (sym good.unit_is) (rw good.alone tells));
          timestamp = ap (λ (x : AccessUnitValue). x.timestamp) good.unit_is;
          first_is = good.first_is;
          written = record { bytes = ap (λ (x : AccessUnitValue). x.bytes) (sym good.unit_is); extra = ap (λ (x : AccessUnitValue). x.extra) (sym good.unit_is) };
        }

        second : (b : Option AccessUnitNumbers) (us : List AccessUnitValue) → Second state sent first sender place count unit goes us b → WaitsIn state sent first sender place count unit goes later us None b
        second b [] waiting = absurd waiting
        second None (v ∷ vs) waiting = absurd waiting
        second (Some k) (v ∷ vs) (good, always) = (good, always later)

        given_or_waits : (e b : Option AccessUnitNumbers) → WaitsIn state sent first sender place count unit goes d (u ∷ us) e b →
            Done (received_unit d has_sets a.state.is_avc u (first_of_ended e b) ∷ given) (record a { ended = us }) (without_ended_of (record n { ended = e; ended_by_marker = b }) e) later
        given_or_waits (Some k) b (inl (good, tells)) = inl (first_whole k good tells)
        given_or_waits (Some k) b (inr waiting) = inr (second b us waiting)
        given_or_waits None (Some k) (good, tells) = inl (first_whole k good tells)
        given_or_waits None None waiting = absurd waiting

        at_first : (e b : Option AccessUnitNumbers) → WaitsIn state sent first sender place count unit goes d a.ended e b → WaitsIn state sent first sender place count unit goes d (u ∷ us) e b
        at_first e b waiting = subst (λ (l : List AccessUnitValue). WaitsIn state sent first sender place count unit goes d l e b) is waiting

        by : (e b : Option AccessUnitNumbers) → Both due ds given a f (record n { ended = e; ended_by_marker = b }) d →
            Both due ds (received_unit d has_sets a.state.is_avc u (first_of_ended e b) ∷ given) (record a { ended = us }) f (without_ended_of (record n { ended = e; ended_by_marker = b }) e) later
        by (Some k) b it = gone_both due ds given _ a f _ _ d later u us is refl refl refl it.steady.sync (λ y is_y. same_now y n.unit is_y) (lift _) (λ waiting. given_or_waits (Some k) b (at_first (Some k) b waiting)) it
        by None b it = gone_both due ds given _ a f _ _ d later u us is refl refl refl it.steady.sync (λ y is_y. same_now y n.unit is_y) (lift _) (λ waiting. given_or_waits None b (at_first None b waiting)) it
