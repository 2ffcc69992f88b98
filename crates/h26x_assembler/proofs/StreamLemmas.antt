-- Call by call, what an assembler gives out of the packets that a mask keeps.
use Rattle.std.proofs.Common.{◌≡◌, ℕ, zero, suc, ◌+◌, ◌≤◌, Bool, true, false, cond, List, [], ◌∷◌, ◌++◌, length, length-append, take, drop, Option, Some, None, refl, sym, ap, ◌∙◌, subst, append_assoc, arith}
use Rattle.std.specs.Prelude.{◌&&◌, IsTrue}
use Rattle.std.specs.List.{list_any, list_all, AllByRecursion}
use Rattle.std.proofs.lemmas.List.{append-nil, length-take, length-drop}
use Rattle.std.proofs.lemmas.Bool.Decides.{nat_tests}
use Rattle.h26x_core.specs.declared.extra.CodecExtra.{CodecExtra}
use Rattle.h26x_core.specs.declared.extra.CodecExtra.TheVariants as extras
use Rattle.h26x_core.specs.ByteStream.{byte_stream}
use Rattle.h26x_model.specs.Payload.Format.{Format}
use Rattle.h26x_model.specs.Payload.Extra.{extra_after}
use Rattle.h26x_model.specs.Payload.Facts.{IsPayloadFormat, AreCarried}
use Rattle.h26x_model.specs.Send.Group.{Entry}
use Rattle.h26x_model.specs.Send.Calls.{AreCalls, call_entries, all_entries}
use Rattle.h26x_model.specs.Send.PacketizerState.{PacketizerState, IsPacketizerState, state_units}
use Rattle.h26x_model.specs.Carry.Gaps.{whole_units, after_kept_packets, WritesWholeUnits}
use Rattle.h26x_model.specs.Carry.Laws.{PacketizerGoesOn}
use Rattle.h26x_core.proofs.SequenceLemmas.{number_at}
use Rattle.h26x_receiver.proofs.PlaceLemmas.{expected_at, is_place, IsOn}
use Rattle.h26x_receiver.proofs.DeliveryLemmas.{DamagesNothing}
use Rattle.h26x_reorder.specs.Rtp.{RtpBody}
use Rattle.h26x_assembler.specs.AccessUnit.{AccessUnitValue, Assembly, is_unit_at, is_closed_at, given_out}
use Rattle.h26x_assembler.specs.StampedCalls.{StampedCall, calls_of, access_unit_packets, after_call, unit_bodies, sent_bodies, are_runs_within, unit_left, last_came, closed_after, open_after, units_left, IsOtherStamp, AreApart, AreStreamed}
use Rattle.h26x_assembler.proofs.TakeLemmas.{at_gap}
use Rattle.h26x_assembler.proofs.UnitLemmas.{after_all_taken, taken_append, kept_from, expected_after, AreGapsShort, same_place, not_place, behind_next, on_next, IsLeftOpen, left_more, grown, begun, IsLeft, begins}
use Rattle.h26x_assembler.specs.AnyUnits.{are_used}
use Rattle.h26x_assembler.proofs.UsedLemmas.{calls_used}

-- the packets kept of some, and of others behind them
pub kept_append : (first p q : ℕ) (mask : List Bool) (a b : List RtpBody) → q ≡ p + length a → length a ≤ length mask →
    kept_from first p mask (a ++ b) ≡ kept_from first p (take (length a) mask) a ++ kept_from first q (drop (length a) mask) b
kept_append first p q mask [] b is long = ap (λ (k : ℕ). kept_from first k mask b) (let e : p ≡ q = omega arith in e)
kept_append first p q [] (x ∷ a) b is long = absurd (omega arith)
kept_append first p q (false ∷ mask) (x ∷ a) b is long = kept_append first (p + 1) q mask a b (omega arith) (omega arith)
kept_append first p q (true ∷ mask) (x ∷ a) b is long = ap (λ (l : List (ℕ × RtpBody)). (number_at first p, x) ∷ l) (kept_append first (p + 1) q mask a b (omega arith) (omega arith))

-- none is kept
pub none_kept : (first p : ℕ) (e : Option ℕ) (mask : List Bool) (bodies : List RtpBody) → list_any (λ came. came) mask ≡ false →
    (kept_from first p mask bodies ≡ []) × (expected_after e p mask ≡ e)
none_kept first p e [] bodies none = (refl, refl)
none_kept first p e (true ∷ mask) bodies none = absurd (let bad = none in cc)
none_kept first p e (false ∷ mask) [] none = (refl, (none_kept first (p + 1) e mask [] none).1)
none_kept first p e (false ∷ mask) (x ∷ bodies) none = none_kept first (p + 1) e mask bodies none

-- gaps of a mask are those of its parts
pub gaps_front : (n : ℕ) (e : Option ℕ) (p : ℕ) (mask : List Bool) → AreGapsShort e p mask → AreGapsShort e p (take n mask)
gaps_front zero e p mask gaps = tt
gaps_front (suc n) e p [] gaps = tt
gaps_front (suc n) e p (true ∷ mask) gaps = (gaps.0, gaps_front n (Some (p + 1)) (p + 1) mask gaps.1)
gaps_front (suc n) e p (false ∷ mask) gaps = gaps_front n e (p + 1) mask gaps

pub gaps_rest : (n : ℕ) (e : Option ℕ) (p q : ℕ) (mask : List Bool) → q ≡ p + n → n ≤ length mask → AreGapsShort e p mask →
    AreGapsShort (expected_after e p (take n mask)) q (drop n mask)
gaps_rest zero e p q mask is long gaps = subst (λ (k : ℕ). AreGapsShort e k mask) (let h : p ≡ q = omega arith in h) gaps
gaps_rest (suc n) e p q [] is long gaps = absurd (omega arith)
gaps_rest (suc n) e p q (true ∷ mask) is long gaps = gaps_rest n (Some (p + 1)) (p + 1) q mask (omega arith) (omega arith) gaps.1
gaps_rest (suc n) e p q (false ∷ mask) is long gaps = gaps_rest n e (p + 1) q mask (omega arith) (omega arith) gaps

-- whether the next place is the one expected
pub on_after : (e : Option ℕ) (p q : ℕ) (mask : List Bool) → q ≡ p + length mask → IsOn e p →
    IsOn (expected_after e p mask) q × (is_place (expected_after e p mask) q ≡ last_came (is_place e p) mask)
on_after e p q [] is on = let h : p ≡ q = omega arith in (subst (IsOn e) h on, ap (is_place e) (sym h))
on_after e p q (true ∷ mask) is on =
    let rest = on_after (Some (p + 1)) (p + 1) q mask (omega arith) (omega arith) in
    (rest.0, rest.1 ∙ ap (λ (b : Bool). last_came b mask) (same_place (p + 1)))
on_after e p q (false ∷ mask) is on =
    let rest = on_after e (p + 1) q mask (omega arith) (on_next e p on) in
    (rest.0, rest.1 ∙ ap (λ (b : Bool). last_came b mask) (not_place e (p + 1) (behind_next e p on)))

-- as many as packets
pub bodies_long : (t : ℕ) (packets : List (List ℕ)) → length (unit_bodies t packets) ≡ length packets
bodies_long t [] = refl
bodies_long t (x ∷ packets) = let rest = bodies_long t packets in omega (arith, rest)

-- what is open is another one than the next
pub other_unit : (stamp : Option ℕ) (unit : Option AccessUnitValue) (e : Option ℕ) (p t : ℕ) → IsLeftOpen stamp unit e p → IsOtherStamp stamp t → is_unit_at unit t ≡ false
other_unit stamp None e p t left other = refl
other_unit stamp (Some v) e p t left other = let apart = subst (λ (o : Option ℕ). IsOtherStamp o t) left.0 other in grind (arith, nat_tests, apart)

-- an assembler after a call, whether or not anything of it came
pub record IsCallOver (first : ℕ) (e : Option ℕ) (q : ℕ) (stamp closed : Option ℕ) (f : Format) (avc : Bool) (old : Assembly) (units : List AccessUnitValue) (new : Assembly) : Type 0 where
  pub all : new.ended ++ given_out false new.unit ≡ (old.ended ++ given_out false old.unit) ++ units
  pub expected : new.expected ≡ expected_at first e
  pub gap : new.is_gap ≡ false
  pub closed_is : new.closed ≡ closed
  pub left : IsLeftOpen stamp new.unit e q
  pub format : new.state.format ≡ f
  pub avc_is : new.state.is_avc ≡ avc

and_true : (a b : Bool) → b ≡ true → (a && b) ≡ a
and_true true b is = is
and_true false b is = refl

-- the text of what is left of a call
left_of_call : (most : ℕ) (s : PacketizerState) (w : Assembly) (avc : Bool) (c : StampedCall) (before : Bool) (mask : List Bool) →
    w.state.format ≡ s.format → w.state.is_avc ≡ avc → list_any (λ came. came) mask ≡ true → are_used s.format None (access_unit_packets s c.call) ≡ true → WritesWholeUnits most s (begun w) (c.call ∷ []) mask →
    grown most c.timestamp true before (begun w) mask (access_unit_packets s c.call) ∷ [] ≡ unit_left most s avc before c mask
left_of_call most s w avc c before mask same form some used whole =
    let units = whole_units most s (c.call ∷ []) mask in
    let packets = access_unit_packets s c.call in
    let runs : Format → Bool = λ f. are_runs_within f most None packets in
    let holds : Format → Bool = λ f. before && (list_all (λ came. came) mask && (runs f && are_used f None packets)) in
    let value : List ℕ → CodecExtra → Bool → AccessUnitValue = λ text told is. record {
      timestamp = c.timestamp;
      bytes = text;
      extra = told;
      is_whole = is;
    } in
    let told = (after_kept_packets most (begun w) mask packets).extra in
    ap (λ (x : List ℕ). value x told (holds w.state.format) ∷ []) whole.written
    ∙ ap (λ (x : CodecExtra). value (byte_stream w.state.is_avc units) x (holds w.state.format) ∷ []) whole.told
    ∙ ap (λ (a : Bool). value (byte_stream a units) (extra_after w.state.format extras.None units) (holds w.state.format) ∷ []) form
    ∙ ap (λ (f : Format). value (byte_stream avc units) (extra_after f extras.None units) (holds f) ∷ []) same
    ∙ ap (λ (b : Bool). value (byte_stream avc units) (extra_after s.format extras.None units) (before && (list_all (λ came. came) mask && b)) ∷ []) (and_true (runs s.format) (are_used s.format None packets) used)
    ∙ ap (λ (b : Bool). cond b (value (byte_stream avc units) (extra_after s.format extras.None units) (before && (list_all (λ came. came) mask && runs s.format)) ∷ []) []) (sym some)

-- the packets of one call
over_call : (most first p q : ℕ) (e stamp closed : Option ℕ) (s : PacketizerState) (w : Assembly) (avc : Bool) (c : StampedCall) (mask : List Bool) →
    DamagesNothing → IsPayloadFormat s.format → IsPacketizerState s → AreCalls (c.call ∷ []) → AreCarried s.format (state_units s (all_entries s.format (c.call ∷ []))) →
    w.state.format ≡ s.format → w.state.is_avc ≡ avc → w.is_gap ≡ false → w.closed ≡ closed → w.expected ≡ expected_at first e → IsLeftOpen stamp w.unit e p → IsOn e p → AreGapsShort e p mask →
    length mask ≡ length (access_unit_packets s c.call) → q ≡ p + length (access_unit_packets s c.call) → (list_any (λ came. came) mask ≡ true → IsOtherStamp stamp c.timestamp) →
    IsCallOver first (expected_after e p mask) q (open_after stamp c.timestamp mask) (closed_after closed c.timestamp mask) s.format avc w
    (unit_left most s avc (cond (is_closed_at closed c.timestamp) false (is_place e p)) c mask)
    (after_all_taken most w (kept_from first p mask (unit_bodies c.timestamp (access_unit_packets s c.call))))
over_call most first p q e stamp closed s w avc c mask law ok is small carried same form clear shut expected left on gaps long count apart =
    let packets = access_unit_packets s c.call in
    let t = c.timestamp in
    let before = cond (is_closed_at closed t) false (is_place e p) in
    let last = last_came false mask in
    let kept = kept_from first p mask (unit_bodies t packets) in
    let new = after_all_taken most w kept in
    elim (list_any (λ came. came) mask) as (λ b. list_any (λ came. came) mask ≡ b →
    IsCallOver first (expected_after e p mask) q (cond b (cond last None (Some t)) stamp) (cond b (cond last (Some t) None) closed) s.format avc w (unit_left most s avc before c mask) new) [
      | true ↦ λ some.
          let whole = law most s (begun w) (c.call ∷ []) ok is small same carried mask long in
          let u = grown most t true before (begun w) mask packets in
          let value = left_of_call most s w avc c before mask same form some (calls_used s c.call ok is small carried) whole in
          let rebuilt : at_gap false closed w.state (expected_at first e) w.unit w.ended ≡ w =
          ap (λ (g : Bool). at_gap g closed w.state (expected_at first e) w.unit w.ended) (sym clear)
          ∙ ap (λ (k : Option ℕ). at_gap w.is_gap k w.state (expected_at first e) w.unit w.ended) (sym shut)
          ∙ ap (λ (x : Option ℕ). at_gap w.is_gap w.closed w.state x w.unit w.ended) (sym expected) in
          let after : IsLeft first t last (expected_after e p mask) q w.state.format w.state.is_avc ((w.ended ++ given_out false w.unit) ++ u ∷ []) new =
          subst (λ (v : Assembly). IsLeft first t last (expected_after e p mask) q w.state.format w.state.is_avc ((w.ended ++ given_out false w.unit) ++ u ∷ []) (after_all_taken most v kept)) rebuilt
          (begins most first p q t stamp closed e w.state w.unit w.ended mask packets long count some (other_unit stamp w.unit e p t left (apart some)) left gaps on) in
          subst (λ (l : List AccessUnitValue). IsCallOver first (expected_after e p mask) q (cond last None (Some t)) (cond last (Some t) None) s.format avc w l new) value (record {
            all = after.all;
            expected = after.expected;
            gap = after.gap;
            closed_is = after.closed;
            left = after.open_unit;
            format = after.format ∙ same;
            avc_is = after.avc_is ∙ form;
          })
      | false ↦ λ none.
          let no = none_kept first p e mask (unit_bodies t packets) none in
          let stays : new ≡ w = ap (after_all_taken most w) no.0 in
          let empty : unit_left most s avc before c mask ≡ [] = rw none refl in
          subst (λ (l : List AccessUnitValue). IsCallOver first (expected_after e p mask) q stamp closed s.format avc w l new) (sym empty)
          (subst (λ (n : Assembly). IsCallOver first (expected_after e p mask) q stamp closed s.format avc w [] n) (sym stays)
          (subst (λ (x : Option ℕ). IsCallOver first x q stamp closed s.format avc w [] w) (sym no.1) (record {
            all = sym (append-nil (w.ended ++ given_out false w.unit));
            expected = expected;
            gap = clear;
            closed_is = shut;
            left = left_more stamp p q e w.unit (omega arith) left;
            format = same;
            avc_is = form;
          })))
    ] refl

-- all of two lists
pub all_front : {A : Type 0} → (P : A → Type 0) (a b : List A) → AllByRecursion P (a ++ b) → AllByRecursion P a
all_front P [] b all = tt
all_front P (x ∷ a) b all = (all.0, all_front P a b all.1)

pub all_rest : {A : Type 0} → (P : A → Type 0) (a b : List A) → AllByRecursion P (a ++ b) → AllByRecursion P b
all_rest P [] b all = all
all_rest P (x ∷ a) b all = all_rest P a b all.1

-- what a mask has beside its front
pub rest_long : (n m : ℕ) (mask : List Bool) → length mask ≡ n + m → (length (take n mask) ≡ n) × (length (drop n mask) ≡ m)
rest_long n m mask long =
    let t = length-take n mask in
    let d = length-drop n mask in
    (omega (arith, t, long), omega (arith, d, long))

-- the law of packetizers that go on, as it stands in `h26x_model`
abbrev pub GoesOn : Type 0
GoesOn = (s : PacketizerState) → IsPayloadFormat s.format → IsPacketizerState s → PacketizerGoesOn s

-- what holds of the first of calls, and of the rest
pub record IsNextCall (s : PacketizerState) (c : StampedCall) (calls : List StampedCall) : Type 0 where
  pub carried : AreCarried s.format (state_units s (all_entries s.format (c.call ∷ [])))
  pub streamed : AreStreamed (after_call s c.call) calls

pub next_call : (s : PacketizerState) (c : StampedCall) (calls : List StampedCall) → GoesOn → IsPayloadFormat s.format → AreStreamed s (c ∷ calls) → IsNextCall s c calls
next_call s c calls on_law ok it =
    let f = s.format in
    let next = after_call s c.call in
    let entries = call_entries f c.call in
    let rest_entries = all_entries f (calls_of calls) in
    let goes = on_law s ok it.sender in
    let units : state_units s (all_entries f (calls_of (c ∷ calls))) ≡ state_units s (all_entries f (c.call ∷ [])) ++ state_units next rest_entries =
    ap (λ (x : List Entry). state_units s (x ++ rest_entries)) (sym (append-nil entries)) ∙ goes.sent (entries ++ []) rest_entries in
    let carried = subst (AreCarried f) units it.carried in
    let carries : List ℕ → Type 0 = λ unit. IsTrue (f.carries unit) in
    record {
      carried = all_front carries (state_units s (all_entries f (c.call ∷ []))) (state_units next rest_entries) carried;
      streamed = record {
        sender = goes.stays (all_entries f (c.call ∷ []));
        calls_are = it.calls_are.1;
        carried = all_rest carries (state_units s (all_entries f (c.call ∷ []))) (state_units next rest_entries) carried;
      };
    }

-- the packets of calls
pub over_calls : (most first p : ℕ) (e stamp closed : Option ℕ) (s : PacketizerState) (w : Assembly) (avc : Bool) (calls : List StampedCall) (mask : List Bool) →
    DamagesNothing → GoesOn → IsPayloadFormat s.format → AreStreamed s calls →
    w.state.format ≡ s.format → w.state.is_avc ≡ avc → w.is_gap ≡ false → w.closed ≡ closed → w.expected ≡ expected_at first e → IsLeftOpen stamp w.unit e p → IsOn e p → AreGapsShort e p mask →
    length mask ≡ length (sent_bodies s calls) → AreApart stamp s calls mask →
    (let new = after_all_taken most w (kept_from first p mask (sent_bodies s calls)) in
    new.ended ++ given_out false new.unit ≡ (w.ended ++ given_out false w.unit) ++ units_left most s avc (is_place e p) closed calls mask)
over_calls most first p e stamp closed s w avc [] [] law on_law ok it same form clear shut expected left on gaps long apart = sym (append-nil (w.ended ++ given_out false w.unit))
over_calls most first p e stamp closed s w avc [] (m ∷ mask) law on_law ok it same form clear shut expected left on gaps long apart = absurd (omega arith)
over_calls most first p e stamp closed s w avc (c ∷ calls) mask law on_law ok it same form clear shut expected left on gaps long apart =
    let packets = access_unit_packets s c.call in
    let n = length packets in
    let here = unit_bodies c.timestamp packets in
    let next = after_call s c.call in
    let later = sent_bodies next calls in
    let q = p + n in
    let before = is_place e p in
    let front = take n mask in
    let back = drop n mask in
    let many = bodies_long c.timestamp packets in
    let both = length-append here later in
    let total : length mask ≡ n + length later = omega (arith, long, both, many) in
    let parts = rest_long n (length later) mask total in
    let split = next_call s c calls on_law ok it in
    let after_e = on_after e p q front (omega (arith, parts.0)) on in
    let e_next = expected_after e p front in
    let closed_next = closed_after closed c.timestamp front in
    let left_later = units_left most next avc (last_came before front) closed_next calls back in
    let over = over_call most first p q e stamp closed s w avc c front law ok it.sender (it.calls_are.0, tt) split.carried
    same form clear shut expected left on (gaps_front n e p mask gaps) parts.0 refl apart.0 in
    let mid = after_all_taken most w (kept_from first p front here) in
    let rest = over_calls most first q e_next (open_after stamp c.timestamp front) closed_next next mid avc calls back law on_law ok split.streamed over.format over.avc_is over.gap over.closed_is over.expected over.left after_e.0
    (gaps_rest n e p q mask refl (omega (arith, total)) gaps) parts.1 apart.1 in
    let kept : kept_from first p mask (here ++ later) ≡ kept_from first p front here ++ kept_from first q back later =
    kept_append first p q mask here later (omega (arith, many)) (omega (arith, many, total))
    ∙ ap (λ (k : ℕ). kept_from first p (take k mask) here ++ kept_from first q (drop k mask) later) many in
    let all : Assembly → List AccessUnitValue = λ x. x.ended ++ given_out false x.unit in
    ap (λ (l : List (ℕ × RtpBody)). all (after_all_taken most w l)) kept
    ∙ ap all (taken_append most w (kept_from first p front here) (kept_from first q back later))
    ∙ rest
    ∙ ap (λ (b : Bool). all mid ++ units_left most next avc b closed_next calls back) after_e.1
    ∙ ap (λ (l : List AccessUnitValue). l ++ left_later) over.all
    ∙ append_assoc (all w) (unit_left most s avc (cond (is_closed_at closed c.timestamp) false before) c front) left_later
