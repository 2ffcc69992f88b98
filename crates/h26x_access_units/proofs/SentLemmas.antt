-- What is told to be whole is what a sender sent.
use Rattle.std.proofs.Common.{◌≡◌, ◌∙◌, ap, sym, subst, refl, ℕ, zero, suc, ◌+◌, ◌≤◌, ◌<◌, Bool, true, false, List, [], ◌∷◌, ◌++◌, length, take, drop, Option, Some, arith, inl, inr}
use Rattle.std.specs.Prelude.{◌||◌, ◌⊎◌, ◌==◌, map}
use Rattle.std.specs.List.{Contains}
use Rattle.std.proofs.lemmas.List.{map-append}
use Rattle.std.proofs.lemmas.List.Elements.{Contains-append_left, Contains-append_right}
use Rattle.std.proofs.lemmas.List.Sorted.{IsPermutation-sym, Contains-permutation}
use Rattle.std.proofs.lemmas.Bool.Decides.{nat_tests}
use Rattle.h26x_core.specs.Sequence.{next_sequence_number, distance_ahead}
use Rattle.h26x_core.specs.declared.extra.CodecExtra.{CodecExtra}
use Rattle.h26x_model.specs.Carry.Laws.{DepacketizerGoesOn}
use Rattle.h26x_model.specs.Receive.DepacketizerState.{DepacketizerState, Depacketization, after_packets}
use Rattle.h26x_reorder.specs.Rtp.{RtpBody}
use Rattle.h26x_assembler.specs.StampedCalls.{IsOtherStamp}
use Rattle.h26x_access_units.specs.ReceivedAccessUnit.{ReceivedAccessUnitValue}
use Rattle.h26x_access_units.specs.Decoder.{is_front}
use Rattle.h26x_access_units.specs.Content.{content_of}
use Rattle.h26x_access_units.specs.WholeSent.{has_no_text, begins_unit, bears_slice, nothing_written, ArePacketsOf, first_one, next_one, bare_one, IsRightBehind, behind_one, behind_bare, as_told, IsBegunInOrder, IsBegunByContent, IsOfWholePackets, IsUnitEnded, by_marker, by_timestamp, by_content, IsSliceBefore, slice_last, slice_earlier, IsNextBegun, IsClosedBefore, sent_at, sent_number, sent_payloads, IsSentAt, CameFromSender, WasSent, told_numbers, IsToldWhole}
use Rattle.h26x_access_units.specs.Reception.{Reception}
use Rattle.h26x_access_units.specs.Account.{ReceiverCall, kept_packets, packet_alone}

abbrev Packet : Type 0
Packet = ℕ × RtpBody

abbrev Packets : Type 0
Packets = List (ℕ × RtpBody)

-- with the packet behind them
one_more : (xs : List RtpBody) (i m n k : ℕ) → n ≡ m + 1 → k ≡ i + m → k < length xs → take n (drop i xs) ≡ take m (drop i xs) ++ sent_at xs k ∷ []
one_more [] i m n k n_is k_is lt = absurd (omega (arith, lt))
one_more (x ∷ xs) zero zero n k n_is k_is lt =
    let one : n ≡ 1 = omega (arith, n_is) in
    let none : k ≡ 0 = omega (arith, k_is) in
    subst (λ (a : ℕ). take a (x ∷ xs) ≡ sent_at (x ∷ xs) k ∷ []) (sym one) (subst (λ (a : ℕ). take 1 (x ∷ xs) ≡ sent_at (x ∷ xs) a ∷ []) (sym none) refl)
one_more (x ∷ xs) zero (suc m) zero k n_is k_is lt = absurd (omega (arith, n_is))
one_more (x ∷ xs) zero (suc m) (suc n) zero n_is k_is lt = absurd (omega (arith, k_is))
one_more (x ∷ xs) zero (suc m) (suc n) (suc k) n_is k_is lt = ap (λ (l : List RtpBody). x ∷ l) (one_more xs zero m n k (omega (arith, n_is)) (omega (arith, k_is)) (omega (arith, lt)))
one_more (x ∷ xs) (suc i) m n zero n_is k_is lt = absurd (omega (arith, k_is))
one_more (x ∷ xs) (suc i) m n (suc k) n_is k_is lt = one_more xs i m n k n_is (omega (arith, k_is)) (omega (arith, lt))

-- the payloads with that of the packet behind them
pub payloads_more : (sent : List RtpBody) (i m : ℕ) → i + m < length sent → sent_payloads sent i (m + 1) ≡ sent_payloads sent i m ++ (sent_at sent (i + m)).payload ∷ []
payloads_more sent i m lt = ap (map (λ p. p.payload)) (one_more sent i m (m + 1) (i + m) refl refl lt) ∙ map-append (λ p. p.payload) (take m (drop i sent)) (sent_at sent (i + m) ∷ [])

pub place_same : (first i j : ℕ) → i < 65536 → j < 65536 → sent_number first i ≡ sent_number first j → i ≡ j
place_same first i j small_i small_j e = omega (arith, small_i, small_j, e)

pub next_place : (first i : ℕ) → next_sequence_number (sent_number first i) ≡ sent_number first (i + 1)
next_place first i = omega arith

-- a place that is ahead by less than half of the circle is behind none
pub ahead_place : (first k place : ℕ) → k < 32768 → place < 32768 → distance_ahead (sent_number first (k + 1)) (sent_number first place) < 32768 → k < place
ahead_place first k place small_k small e = omega (arith, small_k, small, e)

marker_of : (m t : Bool) → t ≡ false → (m || t) ≡ true → m ≡ true
marker_of true t e is = refl
marker_of false t e is = absurd (let bad = sym e ∙ is in cc)

head_in : (p : Packet) (rest : Packets) → Contains (p ∷ rest) p
head_in p rest = (zero, omega arith, refl)

tail_in : (p q : Packet) (rest : Packets) → Contains rest p → Contains (q ∷ rest) p
tail_in p q rest (k, within, same) = (suc k, omega (arith, within), same)

module _ (r : DepacketizerState) (told : List ℕ) (kept : Packets) (sent : List RtpBody) (first : ℕ) (it : CameFromSender told kept r sent first) (goes : DepacketizerGoesOn (nothing_written r)) where
  few : length sent ≤ 32768
  few = it.few

  -- each packet of these is one that was sent
  abbrev AreSent : Packets → Type 0
  AreSent packets = (p : Packet) → Contains packets p → IsSentAt sent first p

  rest_sent : (p : Packet) (rest : Packets) → AreSent (p ∷ rest) → AreSent rest
  rest_sent p rest each q is = each q (tail_in q p rest is)

  -- it bears something
  has_text : (p : Packet) → IsSentAt sent first p → has_no_text r.format p.1.payload ≡ true → ⊥
  has_text p at bare = let text = it.sender.texts at.place at.within in let bad = sym text ∙ (subst (λ (b : RtpBody). has_no_text r.format b.payload ≡ true) at.body bare) in cc

  -- the packets of an access unit, by their places
  record Run (timestamp : ℕ) (front : Packet) (due : ℕ) (own : Packets) (w : Depacketization) : Type 0 where
    place : ℕ
    count : ℕ
    within : place + count ≤ length sent
    some : 0 < count
    front_is : front.0 ≡ sent_number first place
    front_body : front.1 ≡ sent_at sent place
    due_is : due ≡ sent_number first (place + count)
    stamps : (k : ℕ) → k < count → (sent_at sent (place + k)).timestamp ≡ timestamp
    text : w ≡ after_packets (nothing_written r) (sent_payloads sent place count)
    newest : (p : Packet) (rest : Packets) → own ≡ p ∷ rest → (k : ℕ) → count ≡ k + 1 → p.1 ≡ sent_at sent (place + k)

  same_head : (p q : Packet) (a b : Packets) → p ∷ a ≡ q ∷ b → p ≡ q
  same_head p q a b e = cc

  own_run : (timestamp : ℕ) (front back : Packet) (due : ℕ) (own : Packets) (w : Depacketization) → ArePacketsOf r timestamp front back due own w → AreSent own → Run timestamp front due own w
  own_run timestamp front back due own w (first_one stamp text) each =
      let at = each front (head_in front []) in
      let lt : at.place + 0 < length sent = let w = at.within in omega (arith, w) in
      let body : front.1 ≡ sent_at sent (at.place + 0) = at.body ∙ ap (sent_at sent) (omega arith) in
      record {
        place = at.place;
        count = 1;
        within = let w = at.within in omega (arith, w);
        some = omega arith;
        front_is = at.number;
        front_body = at.body;
        due_is = ap next_sequence_number at.number ∙ next_place first at.place;
        stamps = λ k lt. let zero_is : at.place + k ≡ at.place = omega (arith, lt) in subst (λ (x : ℕ). (sent_at sent x).timestamp ≡ timestamp) (sym zero_is) (subst (λ (b : RtpBody). b.timestamp ≡ timestamp) at.body stamp);
        text = ap (λ (x : List ℕ). after_packets (nothing_written r) (x ∷ [])) (ap (λ (b : RtpBody). b.payload) body) ∙ ap (after_packets (nothing_written r)) (sym (payloads_more sent at.place 0 lt));
        newest = λ p rest e k is. let zero_is : at.place + k ≡ at.place = omega (arith, is) in subst (λ (x : ℕ). p.1 ≡ sent_at sent x) (sym zero_is) (subst (λ (q : Packet). q.1 ≡ sent_at sent at.place) (same_head front p [] rest e) at.body);
      }
  own_run timestamp front back due own w (next_one {own = rest} {w = v} p packets stamp text) each =
      let before = own_run timestamp front _ p.0 rest v packets (rest_sent p rest each) in
      let at = each p (head_in p rest) in
      let w_before = before.within in
      let w_at = at.within in
      let same : at.place ≡ before.place + before.count = place_same first at.place (before.place + before.count) (omega (arith, w_at, few)) (omega (arith, w_before, few)) (sym at.number ∙ before.due_is) in
      let body : p.1 ≡ sent_at sent (before.place + before.count) = at.body ∙ ap (sent_at sent) same in
      let lt : before.place + before.count < length sent = omega (arith, same, w_at) in
      record {
        place = before.place;
        count = before.count + 1;
        within = omega (arith, lt);
        some = omega arith;
        front_is = before.front_is;
        front_body = before.front_body;
        due_is = ap next_sequence_number before.due_is ∙ next_place first (before.place + before.count) ∙ ap (sent_number first) (omega arith);
        stamps = λ k lt_k. by before k lt_k (subst (λ (b : RtpBody). b.timestamp ≡ timestamp) body stamp);
        text =
            ap (λ (x : Depacketization). after_packets x (p.1.payload ∷ [])) before.text
            ∙ goes.more (sent_payloads sent before.place before.count) (p.1.payload ∷ [])
            ∙ ap (λ (x : List ℕ). after_packets (nothing_written r) (sent_payloads sent before.place before.count ++ x ∷ [])) (ap (λ (b : RtpBody). b.payload) body)
            ∙ ap (after_packets (nothing_written r)) (sym (payloads_more sent before.place before.count lt));
        newest = λ q others e k is. let k_is : before.count ≡ k = omega (arith, is) in subst (λ (x : ℕ). q.1 ≡ sent_at sent (before.place + x)) k_is (subst (λ (y : Packet). y.1 ≡ sent_at sent (before.place + before.count)) (same_head p q rest others e) body);
      }
    where
      by : {front : Packet} {due : ℕ} {own : Packets} {v : Depacketization} (before : Run timestamp front due own v) (k : ℕ) → k < before.count + 1 → (sent_at sent (before.place + before.count)).timestamp ≡ timestamp → (sent_at sent (before.place + k)).timestamp ≡ timestamp
      by before k lt last = elim (k == before.count) as (λ b. (k == before.count) ≡ b → (sent_at sent (before.place + k)).timestamp ≡ timestamp) [
        | true ↦ λ e. let is : k ≡ before.count = grind (arith, nat_tests) in subst (λ (x : ℕ). (sent_at sent (before.place + x)).timestamp ≡ timestamp) (sym is) last
        | false ↦ λ e. before.stamps k (grind (arith, nat_tests, lt))
      ] refl
  own_run timestamp front back due own w (bare_one {own = rest} p packets bare) each = absurd (has_text p (each p (head_in p rest)) bare)

  -- a slice before a place
  record Slice (timestamp due : ℕ) : Type 0 where
    last : ℕ
    within : last < length sent
    due_is : due ≡ sent_number first (last + 1)
    place : ℕ
    before : place ≤ last
    stamp : (sent_at sent place).timestamp ≡ timestamp
    bears : bears_slice r.format (sent_at sent place).payload ≡ true

  slice_of : (timestamp due : ℕ) (packets : Packets) → IsSliceBefore r.format timestamp due packets → AreSent packets → Slice timestamp due
  slice_of timestamp due packets (slice_last p before stamp bears) each =
      let at = each p (head_in p before) in
      record {
        last = at.place;
        within = at.within;
        due_is = ap next_sequence_number at.number ∙ next_place first at.place;
        place = at.place;
        before = omega arith;
        stamp = subst (λ (b : RtpBody). b.timestamp ≡ timestamp) at.body stamp;
        bears = subst (λ (b : RtpBody). bears_slice r.format b.payload ≡ true) at.body bears;
      }
  slice_of timestamp due packets (slice_earlier {due = d} {before = before} p slice ahead) each =
      let at = each p (head_in p before) in
      let earlier = slice_of timestamp d before slice (rest_sent p before each) in
      let w_e = earlier.within in
      let w_at = at.within in
      let b_e = earlier.before in
      let near : distance_ahead (sent_number first (earlier.last + 1)) (sent_number first at.place) < 32768 = subst (λ (x : ℕ). distance_ahead x (sent_number first at.place) < 32768) earlier.due_is (subst (λ (x : ℕ). distance_ahead d x < 32768) at.number ahead) in
      let later = ahead_place first earlier.last at.place (omega (arith, w_e, few)) (omega (arith, w_at, few)) near in
      record {
        last = at.place;
        within = at.within;
        due_is = ap next_sequence_number at.number ∙ next_place first at.place;
        place = earlier.place;
        before = omega (arith, later, b_e);
        stamp = earlier.stamp;
        bears = earlier.bears;
      }

  -- a packet with the number of a place is the one sent there
  at_place : (p : Packet) (place : ℕ) → place < 65536 → p.0 ≡ sent_number first place → IsSentAt sent first p → (place < length sent) × (p.1 ≡ sent_at sent place)
  at_place p place small number at =
      let w = at.within in
      let same : at.place ≡ place = place_same first at.place place (omega (arith, w, few)) small (sym at.number ∙ number) in
      (omega (arith, same, w), at.body ∙ ap (sent_at sent) same)

  -- no other access unit of this timestamp begins at a place
  not_begun : (timestamp place : ℕ) (packets : Packets) → place < length sent → (sent_at sent place).timestamp ≡ timestamp → AreSent packets → IsNextBegun kept r.format timestamp (sent_number first place) packets → ⊥
  not_begun timestamp place packets lt stamp each next =
      let at = at_place next.next place (omega (arith, lt, few)) next.number (it.packets next.next next.is_kept) in
      let slice = slice_of timestamp (sent_number first place) packets next.slice each in
      let w = slice.within in
      let before = slice.before in
      let same : place ≡ slice.last + 1 = place_same first place (slice.last + 1) (omega (arith, lt, few)) (omega (arith, w, few)) slice.due_is in
      let none_begins = it.sender.begins slice.place place (omega (arith, before, same)) lt (slice.stamp ∙ sym stamp) slice.bears in
      let begins = subst (λ (b : RtpBody). begins_unit r.format b.payload ≡ true) at.1 next.begins in
      let bad = sym none_begins ∙ begins in cc

  -- where the place before is of the same access unit none begins in order
  not_in_order : (timestamp : ℕ) (front : Packet) (before : Packets) (place k : ℕ) → place ≡ k + 1 → place < length sent → front.0 ≡ sent_number first place → (sent_at sent place).timestamp ≡ timestamp → (sent_at sent k).timestamp ≡ timestamp → AreSent before →
      IsBegunInOrder told kept r.format timestamp front before → ⊥
  not_in_order timestamp front before place k place_is lt front_is stamp stamp_k each begun =
      by front.0 begun.stamp before begun.right_behind front_is begun.other each
    where
      by : (due : ℕ) (st : Option ℕ) (bs : Packets) → IsRightBehind told r.format due st bs → due ≡ sent_number first place → IsOtherStamp st timestamp ⊎ ((begins_unit r.format front.1.payload ≡ true) × IsClosedBefore kept r.format timestamp due bs) → AreSent bs → ⊥
      by due st bs (as_told number others is) due_is other each_one =
          let at = it.fronts number is in
          let w = at.within in
          let same : at.place ≡ place = place_same first at.place place (omega (arith, w, few)) (omega (arith, lt, few)) (sym at.number_is ∙ due_is) in
          at.front k (omega (arith, same, place_is)) (stamp_k ∙ sym stamp ∙ ap (λ (x : ℕ). (sent_at sent x).timestamp) (sym same))
      by due st bs (behind_bare p behind bare) due_is other each_one = has_text p (each_one p (head_in p _)) bare
      by due st bs (behind_one p others text) due_is other each_one =
          let at = each_one p (head_in p others) in
          let w = at.within in
          let same : place ≡ at.place + 1 = place_same first place (at.place + 1) (omega (arith, lt, few)) (omega (arith, w, few)) (sym due_is ∙ ap next_sequence_number at.number ∙ next_place first at.place) in
          let at_k : at.place ≡ k = omega (arith, same, place_is) in
          let p_stamp : p.1.timestamp ≡ timestamp = ap (λ (b : RtpBody). b.timestamp) at.body ∙ ap (λ (x : ℕ). (sent_at sent x).timestamp) at_k ∙ stamp_k in
          so other p_stamp at at_k
        where
          so : IsOtherStamp (Some p.1.timestamp) timestamp ⊎ ((begins_unit r.format front.1.payload ≡ true) × IsClosedBefore kept r.format timestamp (next_sequence_number p.0) (p ∷ others)) → p.1.timestamp ≡ timestamp → (at : IsSentAt sent first p) → at.place ≡ k → ⊥
          so (inl apart) p_stamp at at_k = apart p_stamp
          so (inr (begins, (inl last))) p_stamp at at_k =
              let marker = marker_of p.1.marker (has_no_text r.format p.1.payload) text last in
              let marked_k : (sent_at sent k).marker ≡ true = subst (λ (x : ℕ). (sent_at sent x).marker ≡ true) at_k (subst (λ (b : RtpBody). b.marker ≡ true) at.body marker) in
              it.sender.marked k marked_k (omega (arith, lt, place_is)) (ap (λ (x : ℕ). (sent_at sent x).timestamp) (sym place_is) ∙ stamp ∙ sym stamp_k)
          so (inr (begins, (inr next))) p_stamp at at_k = not_begun timestamp place (p ∷ others) lt stamp each_one (subst (λ (d : ℕ). IsNextBegun kept r.format timestamp d (p ∷ others)) due_is next)

  -- where an access unit ended the packet behind has another timestamp
  ended_there : (timestamp due : ℕ) (front : Packet) (own before : Packets) (w : Depacketization) (run : Run timestamp front due own w) → IsUnitEnded kept r.format timestamp due own before → AreSent (own ++ before) → run.place + run.count < length sent →
      (sent_at sent (run.place + run.count)).timestamp ≡ timestamp → ⊥
  ended_there timestamp due front own before w run ended each lt stamp = by due own before ended each run.due_is (λ p rest e k is. run.newest p rest e k is)
    where
      small : run.place + run.count < 65536
      small = omega (arith, lt, few)

      by : (d : ℕ) (os bs : Packets) → IsUnitEnded kept r.format timestamp d os bs → AreSent (os ++ bs) → d ≡ sent_number first (run.place + run.count) → ((p : Packet) (rest : Packets) → os ≡ p ∷ rest → (k : ℕ) → run.count ≡ k + 1 → p.1 ≡ sent_at sent (run.place + k)) → ⊥
      by d os bs (by_timestamp q others more is_kept apart) each_one due_is newest =
          let at = at_place q (run.place + run.count) small due_is (it.packets q is_kept) in
          apart (ap (λ (b : RtpBody). b.timestamp) at.1 ∙ stamp)
      by d os bs (by_content due_now others more next) each_one due_is newest = not_begun timestamp (run.place + run.count) (others ++ more) lt stamp each_one (subst (λ (x : ℕ). IsNextBegun kept r.format timestamp x (others ++ more)) due_is next)
      by d os bs (by_marker due_now p rest more marker p_stamp) each_one due_is newest = last run.count refl run.some
        where
          last : (c : ℕ) → run.count ≡ c → 0 < c → ⊥
          last zero e lt_c = absurd (omega (arith, lt_c))
          last (suc k) e lt_c =
              let body = newest p rest refl k (omega (arith, e)) in
              let marked_k : (sent_at sent (run.place + k)).marker ≡ true = subst (λ (b : RtpBody). b.marker ≡ true) body marker in
              let p_is : (sent_at sent (run.place + k)).timestamp ≡ timestamp = subst (λ (b : RtpBody). b.timestamp ≡ timestamp) body p_stamp in
              let next_is : run.place + k + 1 ≡ run.place + run.count = omega (arith, e) in
              it.sender.marked (run.place + k) marked_k (omega (arith, next_is, lt)) (ap (λ (x : ℕ). (sent_at sent x).timestamp) next_is ∙ stamp ∙ sym p_is)

  -- the text of packets of which the first is no front isn't taken for one
  not_by_content : (unit : ReceivedAccessUnitValue) (place count k : ℕ) → place ≡ k + 1 → place + count ≤ length sent →
      ((k : ℕ) → k < count → (sent_at sent (place + k)).timestamp ≡ (sent_at sent place).timestamp) → (sent_at sent k).timestamp ≡ (sent_at sent place).timestamp → (after_packets (nothing_written r) (sent_payloads sent place count)).out ≡ unit.bytes →
      (after_packets (nothing_written r) (sent_payloads sent place count)).extra ≡ unit.extra → IsBegunByContent r.is_avc unit → ⊥
  not_by_content unit place count k place_is within stamps same bytes_are extra_is content =
      let told_none = it.sender.fronts place count content.decoder within (λ front. front k place_is same) stamps in
      let none_is : is_front content.decoder unit.extra (content_of r.is_avc unit.extra unit.bytes).first ≡ false =
      subst (λ (e : CodecExtra). is_front content.decoder e (content_of r.is_avc e unit.bytes).first ≡ false) extra_is
      (subst (λ (b : List ℕ). let e = (after_packets (nothing_written r) (sent_payloads sent place count)).extra in is_front content.decoder e (content_of r.is_avc e b).first ≡ false) bytes_are told_none) in
      let front = content.front in
      let bad = sym none_is ∙ front in cc

  -- an access unit of whole packets was sent
  pub sent_whole : (handed : Packets) (unit : ReceivedAccessUnitValue) → IsOfWholePackets told kept handed r unit → AreSent handed → WasSent r sent first unit
  sent_whole handed unit whole each =
      let both : AreSent (whole.own ++ whole.before) = λ p is. each p (subst (λ (l : Packets). Contains l p) (sym whole.place) (Contains-append_right whole.later (whole.own ++ whole.before) p is)) in
      let own : AreSent whole.own = λ p is. both p (Contains-append_left whole.own whole.before p is) in
      let earlier : AreSent whole.before = λ p is. both p (Contains-append_right whole.own whole.before p is) in
      let run = own_run unit.timestamp whole.first whole.last whole.due whole.own whole.written whole.packets own in
      let within = run.within in
      let some = run.some in
      let lt : run.place < length sent = omega (arith, within, some) in
      let stamp : (sent_at sent run.place).timestamp ≡ unit.timestamp = ap (λ (x : ℕ). (sent_at sent x).timestamp) (omega arith) ∙ run.stamps 0 run.some in
      let bytes_are : (after_packets (nothing_written r) (sent_payloads sent run.place run.count)).out ≡ unit.bytes = ap (λ (w : Depacketization). w.out) (sym run.text) ∙ whole.bytes in
      let extra_is : (after_packets (nothing_written r) (sent_payloads sent run.place run.count)).extra ≡ unit.extra = ap (λ (w : Depacketization). w.extra) (sym run.text) ∙ whole.extra in
      record {
        place = run.place;
        count = run.count;
        some = run.some;
        within = run.within;
        first_is = sym whole.first_is ∙ run.front_is;
        stamps = run.stamps;
        front = λ k place_is same. begins whole.begun k run.place run.count place_is lt within (λ k few. run.stamps k few ∙ sym stamp) run.front_is stamp same bytes_are extra_is earlier;
        back = λ behind same. ended_there unit.timestamp whole.due whole.first whole.own whole.before whole.written run whole.ended both behind same;
        written = record { bytes = bytes_are; extra = extra_is };
      }
    where
      begins : IsBegunInOrder told kept r.format unit.timestamp whole.first whole.before ⊎ IsBegunByContent r.is_avc unit → (k place count : ℕ) → place ≡ k + 1 → place < length sent → place + count ≤ length sent →
          ((k : ℕ) → k < count → (sent_at sent (place + k)).timestamp ≡ (sent_at sent place).timestamp) → whole.first.0 ≡ sent_number first place → (sent_at sent place).timestamp ≡ unit.timestamp →
          (sent_at sent k).timestamp ≡ (sent_at sent place).timestamp → (after_packets (nothing_written r) (sent_payloads sent place count)).out ≡ unit.bytes → (after_packets (nothing_written r) (sent_payloads sent place count)).extra ≡ unit.extra → AreSent whole.before → ⊥
      begins (inl order) k place count place_is lt within stamps front_is stamp same bytes_are extra_is earlier = not_in_order unit.timestamp whole.first whole.before place k place_is lt front_is stamp (same ∙ stamp) earlier order
      begins (inr content) k place count place_is lt within stamps front_is stamp same bytes_are extra_is earlier = not_by_content unit place count k place_is within stamps same bytes_are extra_is content

-- so of what a receiver gives out
pub told_was_sent : (state : DepacketizerState) (calls : List ReceiverCall) (s : Reception) (sent : List RtpBody) (first : ℕ) (unit : ReceivedAccessUnitValue) → DepacketizerGoesOn (nothing_written state) → CameFromSender (told_numbers calls) (kept_packets calls) state sent first →
    IsToldWhole state calls s unit → WasSent state sent first unit
told_was_sent state calls s sent first unit goes from it =
    let a = it.account in
    let handed = a.handed ++ a.earlier in
    let dropped = a.dropped ++ packet_alone s.stray in
    sent_whole state (told_numbers calls) (kept_packets calls) sent first from goes handed unit it.whole (λ p is. from.packets p
    (Contains-permutation (dropped ++ (handed ++ s.waiting.buffer.held)) (kept_packets calls) p (IsPermutation-sym (kept_packets calls) (dropped ++ (handed ++ s.waiting.buffer.held)) it.each.exact)
    (Contains-append_right dropped (handed ++ s.waiting.buffer.held) p (Contains-append_left handed s.waiting.buffer.held p is))))
