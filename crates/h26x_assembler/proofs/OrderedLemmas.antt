-- Packets of calls that come in order are all taken, and are those that a mask of their places keeps.
use Rattle.std.proofs.Common.{◌≡◌, ℕ, zero, suc, ◌+◌, ◌<◌, ◌≤◌, Bool, true, false, List, [], ◌∷◌, ◌++◌, length, map, drop, Option, Some, None, Result, Ok, Err, refl, sym, ap, ◌∙◌, subst, arith, ⊎_elim}
use Rattle.std.specs.Prelude.{◌==◌, ◌||◌, nat_lt, IsOk}
use Rattle.std.specs.List.{AllByRecursion, range_with_len}
use Rattle.std.proofs.lemmas.List.{append-nil, append_cancel_left, drop_more}
use Rattle.std.proofs.lemmas.List.FromFn.{length-map-range_with_len}
use Rattle.std.proofs.lemmas.Bool.Decides.{nat_tests}
use Rattle.h26x_core.specs.declared.error.PacketError.{PacketError}
use Rattle.h26x_core.specs.declared.error.PacketError.TheVariants.{OutOfMemory}
use Rattle.h26x_model.specs.Payload.Format.{Format}
use Rattle.h26x_model.specs.Payload.Facts.{IsPayloadFormat}
use Rattle.h26x_model.specs.Receive.RunLimit.{run_len}
use Rattle.h26x_receiver.specs.declared.received.Received.{Received}
use Rattle.h26x_receiver.specs.declared.received.Received.TheVariants.{InOrder, Gap, TooLong, Late}
use Rattle.h26x_core.specs.Sequence.{missing_count, distance_behind, is_late}
use Rattle.h26x_receiver.specs.Sequenced.{after_sequenced_packet}
use Rattle.h26x_receiver.specs.Delivery.{mask_of_places, IsNextPlace, AreNextPlaces, NoneIsRefused}
use Rattle.h26x_core.proofs.SequenceLemmas.{number_at, next_number}
use Rattle.h26x_receiver.proofs.PlaceLemmas.{expected_at, is_place, IsOn, next_in_time}
use Rattle.h26x_receiver.proofs.DeliveryLemmas.{DamagesNothing, GoUp, is_among, not_among, earlier_among, up_from_first}
use Rattle.h26x_receiver.proofs.AnswerLemmas.{accepted}
use Rattle.h26x_receiver.proofs.OrderLemmas.{in_time_taken}
use Rattle.h26x_reorder.specs.Rtp.{RtpBody, rtp_body}
use Rattle.h26x_assembler.specs.AccessUnit.{AccessUnitValue, Assembly, IsNoneOpen, taken_by, IsTakenAnswer, IsAssemblyAnswer, given_out, with_unit_within, after_taken_rtp, after_rtp, after_finishing, after_all_rtp, HaveAssemblyAnswers}
use Rattle.h26x_assembler.specs.StampedCalls.{sent_bodies, body_of_place, units_left, AreGivenOut, first_place, AreAccessUnitsLeft}
use Rattle.h26x_assembler.proofs.UnitLemmas.{after_all_taken, kept_from, AreGapsShort, IsLeftOpen}
use Rattle.h26x_assembler.proofs.StreamLemmas.{GoesOn, over_calls}
use Rattle.h26x_assembler.proofs.GivenLemmas.{given_from, given_all}
use Rattle.h26x_assembler.proofs.PastLimitLemmas.{after_all_measured, measured_from, measured_all, none_out}

-- an answer that is neither a refusal nor late leaves what a packet that is taken leaves
taken_is : (most limit : ℕ) (s : Assembly) (p : ℕ × RtpBody) (answer : Result Received PacketError) → is_late s.expected p.0 ≡ false →
    IsAssemblyAnswer most s p answer → IsOk answer → after_rtp most limit s p answer ≡ with_unit_within limit (after_taken_rtp most s p)
taken_is most limit s p (Err e) timely is fine = absurd (let bad = fine in cc)
taken_is most limit s p (Ok InOrder) timely is fine = refl
taken_is most limit s p (Ok (Gap n)) timely is fine = refl
taken_is most limit s p (Ok (TooLong n)) timely is fine = refl
taken_is most limit s p (Ok (Late n)) timely is fine = absurd (⊎_elim
    (λ (want : accepted (Late n) ≡ Err OutOfMemory). cc)
    (λ (heard : IsTakenAnswer most s p (accepted (Late n))). in_time_taken (is_late s.expected p.0) n (missing_count s.expected p.0)
    (nat_lt most (run_len (after_sequenced_packet (taken_by s p.1.timestamp) p.0 p.1.payload).state.run)) (Late (distance_behind s.expected p.0)) _ timely heard)
    is)

-- packets in order are all taken
pub all_taken : (most limit first : ℕ) (e : Option ℕ) (p : ℕ) (s : Assembly) (mask : List Bool) (bodies : List RtpBody) (answers : List (Result Received PacketError)) →
    s.expected ≡ expected_at first e → AreGapsShort e p mask → HaveAssemblyAnswers most limit s (kept_from first p mask bodies) answers → NoneIsRefused answers →
    after_all_rtp most limit s (kept_from first p mask bodies) answers ≡ after_all_measured most limit s (kept_from first p mask bodies)
all_taken most limit first e p s [] bodies [] is gaps each none = refl
all_taken most limit first e p s [] bodies (a ∷ answers) is gaps each none = absurd each
all_taken most limit first e p s (true ∷ mask) [] [] is gaps each none = refl
all_taken most limit first e p s (true ∷ mask) [] (a ∷ answers) is gaps each none = absurd each
all_taken most limit first e p s (false ∷ mask) [] [] is gaps each none = refl
all_taken most limit first e p s (false ∷ mask) [] (a ∷ answers) is gaps each none = absurd each
all_taken most limit first e p s (false ∷ mask) (b ∷ bodies) answers is gaps each none = all_taken most limit first e (p + 1) s mask bodies answers is gaps each none
all_taken most limit first e p s (true ∷ mask) (b ∷ bodies) [] is gaps each none = absurd each
all_taken most limit first e p s (true ∷ mask) (b ∷ bodies) (a ∷ answers) is gaps each none =
    let kept = kept_from first (p + 1) mask bodies in
    let timely : is_late s.expected (number_at first p) ≡ false = ap (λ (x : Option ℕ). is_late x (number_at first p)) is ∙ next_in_time first e p gaps.0 in
    let next = with_unit_within limit (after_taken_rtp most s (number_at first p, b)) in
    let here : after_rtp most limit s (number_at first p, b) a ≡ next = taken_is most limit s (number_at first p, b) a timely each.0 none.0 in
    ap (λ (x : Assembly). after_all_rtp most limit x kept answers) here
    ∙ all_taken most limit first (Some (p + 1)) (p + 1) next mask bodies answers (ap Some (next_number first p)) gaps.1
    (subst (λ (x : Assembly). HaveAssemblyAnswers most limit x kept answers) here each.1) none.1

-- nothing at a place beyond the packets sent
abbrev pub nothing : RtpBody
nothing = rtp_body 0 false []

-- the packets at places, and those that the mask of these keeps
pub record AreKept (first : ℕ) (sent : List RtpBody) (e : Option ℕ) (from count : ℕ) (places : List ℕ) : Type 0 where
  pub same : map (body_of_place sent first) places ≡ kept_from first from (map (is_among places) (range_with_len from count)) (drop from sent)
  pub gaps : AreGapsShort e from (map (is_among places) (range_with_len from count))

-- where none is at the first place
skipped : (first : ℕ) (sent : List RtpBody) (e : Option ℕ) (from count : ℕ) (places : List ℕ) → from + suc count ≡ length sent → is_among places from ≡ false →
    AreKept first sent e (from + 1) count places → AreKept first sent e from (suc count) places
skipped first sent e from count places total none rest =
    let more = drop_more sent from nothing (omega arith) in
    let tail = map (is_among places) (range_with_len (from + 1) count) in
    record {
      same = rest.same ∙ ap (kept_from first from (false ∷ tail)) (sym more) ∙ ap (λ (b : Bool). kept_from first from (b ∷ tail) (drop from sent)) (sym none);
      gaps = subst (λ (b : Bool). AreGapsShort e from (b ∷ tail)) (sym none) rest.gaps;
    }

pub by_mask : (first : ℕ) (sent : List RtpBody) (e : Option ℕ) (from count : ℕ) (places : List ℕ) → from + count ≡ length sent →
    GoUp (Some from) places → AreNextPlaces e places → AllByRecursion (λ place. place < length sent) places → AreKept first sent e from count places
by_mask first sent e from zero [] total up order within_sent = record { same = refl; gaps = tt }
by_mask first sent e from zero (place ∷ places) total up order within_sent =
    let low : from ≤ place = up.0 in let high : place < length sent = within_sent.0 in absurd (omega arith)
by_mask first sent e from (suc count) [] total up order within_sent =
    skipped first sent e from count [] total refl (by_mask first sent e (from + 1) count [] (omega arith) tt tt tt)
by_mask first sent e from (suc count) (place ∷ places) total up order within_sent =
    let low : from ≤ place = up.0 in
    elim (place == from) as (λ b. (place == from) ≡ b → AreKept first sent e from (suc count) (place ∷ places)) [
      | true ↦ λ at.
          let same : place ≡ from = grind (arith, nat_tests) in
          let more = drop_more sent from nothing (omega arith) in
          let tail = map (is_among (place ∷ places)) (range_with_len (from + 1) count) in
          let skip : tail ≡ map (is_among places) (range_with_len (from + 1) count) = earlier_among place (from + 1) count places (omega arith) in
          let rest = by_mask first sent (Some (from + 1)) (from + 1) count places (omega arith) (subst (λ (p : ℕ). GoUp (Some (p + 1)) places) same up.1)
          (subst (λ (p : ℕ). AreNextPlaces (Some (p + 1)) places) same order.1) within_sent.1 in
          record {
            same = ap (λ (p : ℕ). body_of_place sent first p ∷ map (body_of_place sent first) places) same
                ∙ ap (λ (l : List (ℕ × RtpBody)). body_of_place sent first from ∷ l) rest.same
                ∙ ap (λ (m : List Bool). body_of_place sent first from ∷ kept_from first (from + 1) m (drop (from + 1) sent)) (sym skip)
                ∙ ap (kept_from first from (true ∷ tail)) (sym more)
                ∙ ap (λ (b : Bool). kept_from first from ((b || is_among places from) ∷ tail) (drop from sent)) (sym at);
            gaps = subst (λ (b : Bool). AreGapsShort e from ((b || is_among places from) ∷ tail)) (sym at)
                (subst (IsNextPlace e) same order.0, subst (AreGapsShort (Some (from + 1)) (from + 1)) (sym skip) rest.gaps);
          }
      | false ↦ λ e_other.
          let behind_it : from + 1 ≤ place = grind (arith, nat_tests) in
          let none : is_among (place ∷ places) from ≡ false = not_among (from + 1) from (place ∷ places) (omega arith) (behind_it, up.1) in
          skipped first sent e from count (place ∷ places) total none
          (by_mask first sent e (from + 1) count (place ∷ places) (omega arith) (behind_it, up.1) order within_sent)
    ] refl

-- places in order go up
pub up_of : (e : Option ℕ) (places : List ℕ) → AreNextPlaces e places → GoUp e places
up_of e [] order = tt
up_of None (place ∷ places) order = (tt, up_of (Some (place + 1)) places order.1)
up_of (Some q) (place ∷ places) order = (order.0.0, up_of (Some (place + 1)) places order.1)

-- the first place is the one expected, or none is yet
pub first_on : (known : Bool) → IsOn (first_place known) 0
first_on true = omega arith
first_on false = tt

pub first_known : (known : Bool) → is_place (first_place known) 0 ≡ known
first_known true = refl
first_known false = refl

-- what is given out of packets in order
pub come_in_order : (most limit : ℕ) (w : Assembly) (packets : List (ℕ × RtpBody)) (answers : List (Result Received PacketError)) → DamagesNothing → GoesOn →
    IsPayloadFormat w.state.format → IsNoneOpen w.unit w.is_gap → HaveAssemblyAnswers most limit w packets answers → NoneIsRefused answers →
    AreAccessUnitsLeft most limit w packets (after_finishing (after_all_rtp most limit w packets answers)).ended
come_in_order most limit w packets answers law on_law ok start each none = λ s calls first known places same expected it apart.
    let sent = sent_bodies s calls in
    let e = first_place known in
    let mask = mask_of_places places (length sent) in
    let left = units_left most s w.state.is_avc known w.closed calls mask in
    let long : length mask ≡ length sent = length-map-range_with_len (is_among places) 0 (length sent) in
    let kept = by_mask first sent e 0 (length sent) places (omega arith) (up_from_first e places (up_of e places it.order)) it.order it.sent in
    let packets_kept = kept_from first 0 mask sent in
    let came : packets ≡ packets_kept = it.each ∙ kept.same in
    let all : Assembly → List AccessUnitValue = λ x. x.ended ++ given_out false x.unit in
    let known_is = first_known known in
    let over = over_calls most first 0 e None w.closed s w w.state.is_avc calls mask law on_law (subst (λ (f : Format). IsPayloadFormat f) same ok) it.streamed same refl start.clear refl expected
    (subst (λ (x : Option AccessUnitValue). IsLeftOpen None x e 0) (sym start.none) tt) (first_on known) kept.gaps long apart in
    let whole : all (after_all_taken most w packets_kept) ≡ w.ended ++ left = over
    ∙ ap (λ (x : Option AccessUnitValue). (w.ended ++ given_out false x) ++ units_left most s w.state.is_avc (is_place e 0) w.closed calls mask) start.none
    ∙ ap (λ (l : List AccessUnitValue). l ++ units_left most s w.state.is_avc (is_place e 0) w.closed calls mask) (append-nil w.ended)
    ∙ ap (λ (b : Bool). w.ended ++ units_left most s w.state.is_avc b w.closed calls mask) known_is in
    let given : given_from most w packets_kept ≡ left = append_cancel_left w.ended (given_from most w packets_kept) left (sym (given_all most w packets_kept) ∙ whole) in
    let took = all_taken most limit first e 0 w mask sent answers expected kept.gaps (subst (λ (x : List (ℕ × RtpBody)). HaveAssemblyAnswers most limit w x answers) came each) none in
    record {
      given = measured_from most limit w packets_kept;
      behind = ap (λ (x : List (ℕ × RtpBody)). all (after_all_rtp most limit w x answers)) came ∙ ap all took ∙ measured_all most limit w packets_kept;
      each = subst (AreGivenOut limit (measured_from most limit w packets_kept)) given (none_out most limit w packets_kept start.none);
    }
