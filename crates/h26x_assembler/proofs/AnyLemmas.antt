-- What an assembler gives out of packets of any sender.
use Rattle.std.proofs.Common.{◌≡◌, ℕ, ◌+◌, ◌<◌, ◌≤◌, Bool, true, false, cond, List, [], ◌∷◌, ◌++◌, length, length-append, take, drop, slice_index_or, Option, Some, None, Result, refl, sym, ap, ◌∙◌, subst, append_assoc, arith}
use Rattle.std.specs.Prelude.{◌&&◌}
use Rattle.std.specs.List.{list_any, list_all}
use Rattle.std.proofs.lemmas.List.{append-nil, append_cancel_left}
use Rattle.std.proofs.lemmas.List.FromFn.{length-map-range_with_len}
use Rattle.h26x_core.specs.declared.error.PacketError.{PacketError}
use Rattle.h26x_core.specs.declared.extra.CodecExtra.{CodecExtra}
use Rattle.h26x_core.specs.declared.extra.CodecExtra.TheVariants as extras
use Rattle.h26x_core.specs.ByteStream.{byte_stream}
use Rattle.h26x_model.specs.Payload.Extra.{extra_after}
use Rattle.h26x_model.specs.Payload.Facts.{IsPayloadFormat}
use Rattle.h26x_model.specs.Payload.Format.{Format}
use Rattle.h26x_model.specs.Carry.Gaps.{after_kept_packets}
use Rattle.h26x_model.specs.Carry.AnySender.{WritesWhatCame}
use Rattle.h26x_receiver.specs.declared.received.Received.{Received}
use Rattle.h26x_receiver.specs.Delivery.{taken_places}
use Rattle.h26x_receiver.proofs.PlaceLemmas.{expected_at, is_place, IsOn}
use Rattle.h26x_receiver.proofs.DeliveryLemmas.{WritesIt, is_among, up_from_first}
use Rattle.h26x_reorder.specs.Rtp.{RtpBody}
use Rattle.h26x_reorder.specs.Reordering.{in_order}
use Rattle.h26x_reorder.specs.ReorderBuffer.{reordered}
use Rattle.h26x_assembler.specs.AccessUnit.{AccessUnitValue, Assembly, IsNoneOpen, is_closed_at, given_out, after_all_rtp, HaveAssemblyAnswers, AreAssembled}
use Rattle.h26x_assembler.specs.StampedCalls.{unit_bodies, last_came, closed_after, open_after, IsOtherStamp, AreGivenOut, first_place, are_runs_within}
use Rattle.h26x_assembler.specs.AnyUnits.{SentPackets, any_bodies, units_that_came, any_unit_left, any_units_left, AreSentApart, any_mask, are_used, AreAnyUnitsBrought}
use Rattle.h26x_assembler.proofs.TakeLemmas.{at_gap}
use Rattle.h26x_assembler.proofs.UnitLemmas.{after_all_taken, taken_append, kept_from, expected_after, AreGapsShort, IsLeftOpen, left_more, grown, begun, IsLeft, begins}
use Rattle.h26x_assembler.proofs.StreamLemmas.{IsCallOver, kept_append, none_kept, gaps_front, gaps_rest, on_after, bodies_long, other_unit, rest_long}
use Rattle.h26x_assembler.proofs.GivenLemmas.{given_from, given_all}
use Rattle.h26x_assembler.proofs.PastLimitLemmas.{measured_from, measured_all, none_out}
use Rattle.h26x_assembler.proofs.OrderedLemmas.{nothing, by_mask, up_of, first_on, first_known, all_taken}
use Rattle.h26x_assembler.proofs.TakenLemmas.{taken_packets, taken_answers, only_taken, taken_at, taken_below, taken_next}
use Rattle.h26x_assembler.proofs.ReceivedLemmas.{up_first}
use Rattle.h26x_reorder.proofs.PlaceShiftLemmas.{put_in_order_all}
use Rattle.h26x_reorder.proofs.ReorderLemmas.{puts_below}

-- the text of what is left of packets
left_of_packets : (most : ℕ) (w : Assembly) (f : Format) (avc : Bool) (sent : SentPackets) (before : Bool) (mask : List Bool) →
    w.state.format ≡ f → w.state.is_avc ≡ avc → list_any (λ came. came) mask ≡ true → WritesWhatCame most (begun w) mask sent.packets →
    grown most sent.timestamp true before (begun w) mask sent.packets ∷ [] ≡ any_unit_left most f avc before sent mask
left_of_packets most w f avc sent before mask same form some whole =
    let g = w.state.format in
    let units : Format → List (List ℕ) = λ k. units_that_came most k sent.packets mask in
    let holds : Format → Bool = λ k. before && (list_all (λ came. came) mask && (are_runs_within k most None sent.packets && are_used k None sent.packets)) in
    let value : List ℕ → CodecExtra → Bool → AccessUnitValue = λ text told is. record {
      timestamp = sent.timestamp;
      bytes = text;
      extra = told;
      is_whole = is;
    } in
    let told = (after_kept_packets most (begun w) mask sent.packets).extra in
    ap (λ (x : List ℕ). value x told (holds g) ∷ []) whole.written
    ∙ ap (λ (x : CodecExtra). value (byte_stream w.state.is_avc (units g)) x (holds g) ∷ []) whole.told
    ∙ ap (λ (a : Bool). value (byte_stream a (units g)) (extra_after g extras.None (units g)) (holds g) ∷ []) form
    ∙ ap (λ (k : Format). value (byte_stream avc (units k)) (extra_after k extras.None (units k)) (holds k) ∷ []) same
    ∙ ap (λ (b : Bool). cond b (value (byte_stream avc (units f)) (extra_after f extras.None (units f)) (holds f) ∷ []) []) (sym some)

-- the packets of one access unit
over_packets : (most first p q : ℕ) (e stamp closed : Option ℕ) (w : Assembly) (f : Format) (avc : Bool) (sent : SentPackets) (mask : List Bool) →
    WritesIt → IsPayloadFormat f → w.state.format ≡ f → w.state.is_avc ≡ avc → w.is_gap ≡ false → w.closed ≡ closed → w.expected ≡ expected_at first e → IsLeftOpen stamp w.unit e p → IsOn e p →
    AreGapsShort e p mask → length mask ≡ length sent.packets → q ≡ p + length sent.packets → (list_any (λ came. came) mask ≡ true → IsOtherStamp stamp sent.timestamp) →
    IsCallOver first (expected_after e p mask) q (open_after stamp sent.timestamp mask) (closed_after closed sent.timestamp mask) f avc w
    (any_unit_left most f avc (cond (is_closed_at closed sent.timestamp) false (is_place e p)) sent mask)
    (after_all_taken most w (kept_from first p mask (unit_bodies sent.timestamp sent.packets)))
over_packets most first p q e stamp closed w f avc sent mask law ok same form clear shut expected left on gaps long count apart =
    let t = sent.timestamp in
    let packets = sent.packets in
    let before = cond (is_closed_at closed t) false (is_place e p) in
    let last = last_came false mask in
    let kept = kept_from first p mask (unit_bodies t packets) in
    let new = after_all_taken most w kept in
    elim (list_any (λ came. came) mask) as (λ b. list_any (λ came. came) mask ≡ b →
    IsCallOver first (expected_after e p mask) q (cond b (cond last None (Some t)) stamp) (cond b (cond last (Some t) None) closed) f avc w (any_unit_left most f avc before sent mask) new) [
      | true ↦ λ some.
          let whole = law most (begun w) mask packets (subst (λ (k : Format). IsPayloadFormat k) (sym same) ok) in
          let u = grown most t true before (begun w) mask packets in
          let value = left_of_packets most w f avc sent before mask same form some whole in
          let rebuilt : at_gap false closed w.state (expected_at first e) w.unit w.ended ≡ w =
          ap (λ (g : Bool). at_gap g closed w.state (expected_at first e) w.unit w.ended) (sym clear)
          ∙ ap (λ (k : Option ℕ). at_gap w.is_gap k w.state (expected_at first e) w.unit w.ended) (sym shut)
          ∙ ap (λ (x : Option ℕ). at_gap w.is_gap w.closed w.state x w.unit w.ended) (sym expected) in
          let after : IsLeft first t last (expected_after e p mask) q w.state.format w.state.is_avc ((w.ended ++ given_out false w.unit) ++ u ∷ []) new =
          subst (λ (v : Assembly). IsLeft first t last (expected_after e p mask) q w.state.format w.state.is_avc ((w.ended ++ given_out false w.unit) ++ u ∷ []) (after_all_taken most v kept)) rebuilt
          (begins most first p q t stamp closed e w.state w.unit w.ended mask packets long count some (other_unit stamp w.unit e p t left (apart some)) left gaps on) in
          subst (λ (l : List AccessUnitValue). IsCallOver first (expected_after e p mask) q (cond last None (Some t)) (cond last (Some t) None) f avc w l new) value (record {
            all = after.all;
            expected = after.expected;
            gap = after.gap;
            closed_is = after.closed;
            left = after.open_unit;
            format = after.format ∙ same;
            avc_is = after.avc_is ∙ form;
          })
      | false ↦ λ none.
          let no = none_kept first p e mask (unit_bodies t packets) none in
          let stays : new ≡ w = ap (after_all_taken most w) no.0 in
          let empty : any_unit_left most f avc before sent mask ≡ [] = rw none refl in
          subst (λ (l : List AccessUnitValue). IsCallOver first (expected_after e p mask) q stamp closed f avc w l new) (sym empty)
          (subst (λ (n : Assembly). IsCallOver first (expected_after e p mask) q stamp closed f avc w [] n) (sym stays)
          (subst (λ (x : Option ℕ). IsCallOver first x q stamp closed f avc w [] w) (sym no.1) (record {
            all = sym (append-nil (w.ended ++ given_out false w.unit));
            expected = expected;
            gap = clear;
            closed_is = shut;
            left = left_more stamp p q e w.unit (omega arith) left;
            format = same;
            avc_is = form;
          })))
    ] refl

-- the packets of several
over_all : (most first p : ℕ) (e stamp closed : Option ℕ) (w : Assembly) (f : Format) (avc : Bool) (sent : List SentPackets) (mask : List Bool) →
    WritesIt → IsPayloadFormat f → w.state.format ≡ f → w.state.is_avc ≡ avc → w.is_gap ≡ false → w.closed ≡ closed → w.expected ≡ expected_at first e → IsLeftOpen stamp w.unit e p → IsOn e p →
    AreGapsShort e p mask → length mask ≡ length (any_bodies sent) → AreSentApart stamp sent mask →
    (let new = after_all_taken most w (kept_from first p mask (any_bodies sent)) in
    new.ended ++ given_out false new.unit ≡ (w.ended ++ given_out false w.unit) ++ any_units_left most f avc (is_place e p) closed sent mask)
over_all most first p e stamp closed w f avc [] [] law ok same form clear shut expected left on gaps long apart = sym (append-nil (w.ended ++ given_out false w.unit))
over_all most first p e stamp closed w f avc [] (m ∷ mask) law ok same form clear shut expected left on gaps long apart = absurd (omega arith)
over_all most first p e stamp closed w f avc (one ∷ others) mask law ok same form clear shut expected left on gaps long apart =
    let n = length one.packets in
    let here = unit_bodies one.timestamp one.packets in
    let later = any_bodies others in
    let q = p + n in
    let before = is_place e p in
    let front = take n mask in
    let back = drop n mask in
    let many = bodies_long one.timestamp one.packets in
    let both = length-append here later in
    let total : length mask ≡ n + length later = omega (arith, long, both, many) in
    let parts = rest_long n (length later) mask total in
    let after_e = on_after e p q front (omega (arith, parts.0)) on in
    let e_next = expected_after e p front in
    let closed_next = closed_after closed one.timestamp front in
    let left_later = any_units_left most f avc (last_came before front) closed_next others back in
    let over = over_packets most first p q e stamp closed w f avc one front law ok same form clear shut expected left on (gaps_front n e p mask gaps) parts.0 refl apart.0 in
    let mid = after_all_taken most w (kept_from first p front here) in
    let rest = over_all most first q e_next (open_after stamp one.timestamp front) closed_next mid f avc others back law ok over.format over.avc_is over.gap over.closed_is over.expected over.left after_e.0
    (gaps_rest n e p q mask refl (omega (arith, total)) gaps) parts.1 apart.1 in
    let kept : kept_from first p mask (here ++ later) ≡ kept_from first p front here ++ kept_from first q back later =
    kept_append first p q mask here later (omega (arith, many)) (omega (arith, many, total))
    ∙ ap (λ (k : ℕ). kept_from first p (take k mask) here ++ kept_from first q (drop k mask) later) many in
    let all : Assembly → List AccessUnitValue = λ x. x.ended ++ given_out false x.unit in
    ap (λ (l : List (ℕ × RtpBody)). all (after_all_taken most w l)) kept
    ∙ ap all (taken_append most w (kept_from first p front here) (kept_from first q back later))
    ∙ rest
    ∙ ap (λ (b : Bool). all mid ++ any_units_left most f avc b closed_next others back) after_e.1
    ∙ ap (λ (l : List AccessUnitValue). l ++ left_later) over.all
    ∙ append_assoc (all w) (any_unit_left most f avc (cond (is_closed_at closed one.timestamp) false before) one front) left_later

-- what a network brought of them
pub any_brought_by : (window most limit : ℕ) (w : Assembly) (packets : List (ℕ × RtpBody)) (answers : List (Result Received PacketError)) (new : Assembly) → WritesIt →
    0 < window → window ≤ 16384 → IsPayloadFormat w.state.format → IsNoneOpen w.unit w.is_gap → AreAssembled most limit w (reordered window packets) answers new →
    AreAnyUnitsBrought window most limit w packets answers (new.ended ++ given_out false new.unit)
any_brought_by window most limit w packets answers new law some half ok start received = λ sent first known places expected it near apart.
    let bodies = any_bodies sent in
    let e = first_place known in
    let ordered = in_order places in
    let given = reordered window packets in
    let only = only_taken most limit w given answers received.each in
    let took = taken_places ordered answers in
    let mask = any_mask sent places answers in
    let left = any_units_left most w.state.format w.state.is_avc known w.closed sent mask in
    let long : length mask ≡ length bodies = length-map-range_with_len (is_among took) 0 (length bodies) in
    let order = taken_next e ordered answers (up_first window known places half it.near) near in
    let within = taken_below (length bodies) ordered answers (puts_below (length bodies) places [] it.within tt) in
    let kept = by_mask first bodies e 0 (length bodies) took (omega arith) (up_from_first e took (up_of e took order)) order within in
    let packets_kept = kept_from first 0 mask bodies in
    let came : taken_packets given answers ≡ packets_kept =
    ap (λ (l : List (ℕ × RtpBody)). taken_packets l answers) (put_in_order_all window packets some half (λ place. slice_index_or bodies place nothing) first places it.each it.near)
    ∙ taken_at bodies first ordered answers ∙ kept.same in
    let all : Assembly → List AccessUnitValue = λ x. x.ended ++ given_out false x.unit in
    let over = over_all most first 0 e None w.closed w w.state.format w.state.is_avc sent mask law ok refl refl start.clear refl expected
    (subst (λ (x : Option AccessUnitValue). IsLeftOpen None x e 0) (sym start.none) tt) (first_on known) kept.gaps long apart in
    let left_from : Bool → List AccessUnitValue = λ b. any_units_left most w.state.format w.state.is_avc b w.closed sent mask in
    let whole : all (after_all_taken most w packets_kept) ≡ w.ended ++ left = over
    ∙ ap (λ (x : Option AccessUnitValue). (w.ended ++ given_out false x) ++ left_from (is_place e 0)) start.none
    ∙ ap (λ (l : List AccessUnitValue). l ++ left_from (is_place e 0)) (append-nil w.ended)
    ∙ ap (λ (b : Bool). w.ended ++ left_from b) (first_known known) in
    let given_is : given_from most w packets_kept ≡ left = append_cancel_left w.ended (given_from most w packets_kept) left (sym (given_all most w packets_kept) ∙ whole) in
    let measured = all_taken most limit first e 0 w mask bodies (taken_answers answers) expected kept.gaps (subst (λ (x : List (ℕ × RtpBody)). HaveAssemblyAnswers most limit w x (taken_answers answers)) came only.each) only.none in
    record {
      given = measured_from most limit w packets_kept;
      behind = ap all received.stands ∙ ap all (sym only.same) ∙ ap (λ (x : List (ℕ × RtpBody)). all (after_all_rtp most limit w x (taken_answers answers))) came ∙ ap all measured ∙ measured_all most limit w packets_kept;
      each = subst (AreGivenOut limit (measured_from most limit w packets_kept)) given_is (none_out most limit w packets_kept start.none);
    }
