-- What a receiver has of the access units of a sender, whichever of their packets it takes.
use Rattle.std.proofs.Common.{◌≡◌, ◌∙◌, ap, sym, subst, refl, ℕ, ◌+◌, ◌≤◌, ◌<◌, Bool, true, false, cond, List, [], ◌∷◌, ◌++◌, length, Option, Some, None, arith}
use Rattle.std.specs.Prelude.{◌==◌, ◌||◌, ◌&&◌, nat_lt, if◌then◌else◌, not}
use Rattle.std.specs.Option.{option_map}
use Rattle.std.proofs.lemmas.Bool.Decides.{nat_tests}
use Rattle.h26x_core.specs.Sequence.{next_sequence_number, distance_ahead, missing_count, is_expected}
use Rattle.h26x_core.specs.declared.extra.CodecExtra.{CodecExtra}
use Rattle.h26x_core.specs.declared.extra.CodecExtra.TheVariants as extras
use Rattle.h26x_model.specs.Carry.Laws.{DepacketizerGoesOn}
use Rattle.h26x_model.specs.Receive.DepacketizerState.{DepacketizerState, Depacketization, depacketization, after_packets}
use Rattle.h26x_model.specs.Receive.RunLimit.{run_len, state_with_run}
use Rattle.h26x_receiver.specs.Sequenced.{SequencedDepacketization, sequenced_depacketization, after_sequenced_packet, after_taken_packet}
use Rattle.h26x_reorder.specs.Rtp.{RtpBody, rtp_body}
use Rattle.h26x_assembler.specs.AccessUnit.{AccessUnitValue, Assembly, whole_if, without_text, is_unit_at, unit_at, empty_unit, taken_by, follows, is_run_closed, is_sound, unit_with, unit_within, with_unit_within, given_out, ended_by, after_taken_rtp, behind_missing, after_finishing, open_assembly, none_open}
use Rattle.h26x_access_units.specs.declared.numbers.AccessUnitNumbers.{AccessUnitNumbers}
use Rattle.h26x_access_units.specs.declared.numbers.NumbersSoFar.{NumbersSoFar}
use Rattle.h26x_access_units.specs.declared.decoder.DecoderState.{DecoderState}
use Rattle.h26x_access_units.specs.Numbers.{missing_sum, unit_numbers, numbers_to, numbers_ended, numbers_still, after_gap, after_packet, fresh_numbers, begun_numbers_at, first_ended, without_first_ended, numbers_carrying}
use Rattle.h26x_access_units.specs.Content.{content_of}
use Rattle.h26x_access_units.specs.Decoder.{is_front}
use Rattle.h26x_access_units.specs.ReceivedAccessUnit.{received_unit, unit_content}
use Rattle.h26x_access_units.specs.Reception.{begun_for, marker_forgotten}
use Rattle.h26x_access_units.specs.WholeSent.{nothing_written, sent_at, sent_number, sent_payloads, IsSentAt, IsUnitFront, IsSender, WasSent}
use Rattle.h26x_access_units.specs.ToldWhole.{IsInTime, sent_text}
use Rattle.h26x_access_units.proofs.PieceLemmas.{none_true, same_number, left_true, right_true, zero_at, sum_none, not_none, work_is, sound_at, follows_at}
use Rattle.h26x_access_units.proofs.SentLemmas.{payloads_more}
use Rattle.h26x_access_units.proofs.EndedLemmas.{SameStamp, EndedAre, open_ended, ended_more, none_ended, first_one}
use Rattle.h26x_access_units.proofs.SteadyLemmas.{IsDuePlace, near_same, unit_stamp}

abbrev Packet : Type 0
Packet = ℕ × RtpBody

-- a place near another one, before which none is missing, is that
none_between : (first x place : ℕ) → place < x + 32768 → x ≤ place + 32768 → distance_ahead (sent_number first x) (sent_number first place) ≡ 0 → place ≡ x
none_between first x place ahead behind e = omega (arith, ahead, behind, e)

other_than : (x y : ℕ) → (x == y) ≡ false → x ≡ y → ⊥
other_than x y e is = grind (arith, nat_tests)

module _ (state : DepacketizerState) (sent : List RtpBody) (first : ℕ) (sender : IsSender state sent) (goes : DepacketizerGoesOn (nothing_written state)) where
  -- one that is open and unbroken: all packets from a place on up to the one that is due
  record Piece (due : Option ℕ) (r : DepacketizerState) (timestamp : ℕ) (bytes : List ℕ) (extra : CodecExtra) (number : ℕ) (follows_one : Bool) : Type 0 where
    place : ℕ
    count : ℕ
    some : 0 < count
    within : place + count ≤ length sent
    due_is : due ≡ Some (place + count)
    stamps : (i : ℕ) → i < count → (sent_at sent (place + i)).timestamp ≡ timestamp
    text : depacketization r bytes extra ≡ sent_text state sent place count
    first_is : number ≡ sent_number first place
    front : follows_one ≡ true → IsUnitFront sent place

  -- one that ended: the packet behind it has another timestamp
  record Ended (timestamp : ℕ) (bytes : List ℕ) (extra : CodecExtra) (number : ℕ) (follows_one : Bool) : Type 0 where
    place : ℕ
    count : ℕ
    some : 0 < count
    within : place + count ≤ length sent
    stamps : (i : ℕ) → i < count → (sent_at sent (place + i)).timestamp ≡ timestamp
    back : place + count < length sent → (sent_at sent (place + count)).timestamp ≡ timestamp → ⊥
    bytes_are : (sent_text state sent place count).out ≡ bytes
    extra_is : (sent_text state sent place count).extra ≡ extra
    first_is : number ≡ sent_number first place
    front : follows_one ≡ true → IsUnitFront sent place

  piece_ended : (due : Option ℕ) (r : DepacketizerState) (timestamp : ℕ) (bytes : List ℕ) (extra : CodecExtra) (number : ℕ) (follows_one : Bool) (it : Piece due r timestamp bytes extra number follows_one) →
      (it.place + it.count < length sent → (sent_at sent (it.place + it.count)).timestamp ≡ timestamp → ⊥) → Ended timestamp bytes extra number follows_one
  piece_ended due r timestamp bytes extra number follows_one it back = record {
    place = it.place;
    count = it.count;
    some = it.some;
    within = it.within;
    stamps = it.stamps;
    back = back;
    bytes_are = ap (λ (w : Depacketization). w.out) (sym it.text);
    extra_is = ap (λ (w : Depacketization). w.extra) (sym it.text);
    first_is = it.first_is;
    front = it.front;
  }

  abbrev One : AccessUnitValue → AccessUnitNumbers → Type 0
  One u k = u.is_whole ≡ true → Ended u.timestamp u.bytes u.extra k.first k.follows

  abbrev Opened : Option ℕ → DepacketizerState → Option AccessUnitValue → Option AccessUnitNumbers → Type 0
  Opened due r None k = Unit {0}
  Opened due r (Some u) None = Unit {0}
  Opened due r (Some u) (Some k) = u.is_whole ≡ true → Piece due r u.timestamp u.bytes u.extra k.first k.follows

  -- the packet before a place is of the access unit that is open, or of another one than the packet there
  abbrev Behind : Option AccessUnitValue → ℕ → ℕ → Type 0
  Behind None before at = at < length sent → (sent_at sent before).timestamp ≡ (sent_at sent at).timestamp → ⊥
  Behind (Some u) before at = (sent_at sent before).timestamp ≡ u.timestamp

  -- which packet is next, where none is missing before it
  record Next (due : Option ℕ) (u : Option AccessUnitValue) : Type 0 where
    at : ℕ
    due_is : due ≡ Some at
    behind : (before : ℕ) → at ≡ before + 1 → Behind u before at

  pub record Sound (due : Option ℕ) (a : Assembly) (n : NumbersSoFar) : Type 0 where
    opened : Opened due a.state a.unit n.unit
    next : n.has_begun ≡ true → n.skipped_gap ≡ 0 → Next due a.unit
    ended : EndedAre One a.ended n.ended n.ended_by_marker

  -- what is written with a packet more
  text_more : (i m : ℕ) → i + m < length sent → after_packets (sent_text state sent i m) ((sent_at sent (i + m)).payload ∷ []) ≡ sent_text state sent i (m + 1)
  text_more i m lt = goes.more (sent_payloads sent i m) ((sent_at sent (i + m)).payload ∷ []) ∙ ap (after_packets (nothing_written state)) (sym (payloads_more sent i m lt))

  text_one : (i : ℕ) → i < length sent → after_packets (nothing_written state) ((sent_at sent i).payload ∷ []) ≡ sent_text state sent i 1
  text_one i lt =
      let same : i + 0 ≡ i = omega arith in
      ap (λ (w : Depacketization). after_packets w ((sent_at sent i).payload ∷ [])) (sym goes.none)
      ∙ ap (λ (k : ℕ). after_packets (sent_text state sent i 0) ((sent_at sent k).payload ∷ [])) (sym same)
      ∙ text_more i 0 (omega (arith, lt))

  -- a packet that is taken, by what takes it
  module _ (due : Option ℕ) (b : Assembly) (n : NumbersSoFar) (p : Packet) (m : Bool) (most : ℕ) (at : IsSentAt sent first p) (in_time : IsInTime due at.place) (kind : b.state ≡ state_with_run state b.state.run) (place_is : IsDuePlace state sent first sender due b.expected) where
    abbrev ts : ℕ
    ts = p.1.timestamp

    abbrev q : Packet
    q = (p.0, rtp_body p.1.timestamp m p.1.payload)

    abbrev missing : ℕ
    missing = missing_count b.expected p.0

    abbrev with_open : Option AccessUnitValue → Assembly
    with_open u = record b { unit = u }

    abbrev work : Option AccessUnitValue → Depacketization
    work u = (after_taken_packet most (taken_by (with_open u) ts) p.0 p.1.payload).at_work

    abbrev counted : Option AccessUnitNumbers → AccessUnitNumbers
    counted k = unit_numbers (record n { unit = k }) q (missing_sum n.skipped_gap missing)

    abbrev PieceThen : Depacketization → ℕ → AccessUnitNumbers → Type 0
    PieceThen w timestamp k = Piece (Some (at.place + 1)) w.state timestamp w.out w.extra k.first k.follows

    abbrev IsNext : Option AccessUnitValue → Type 0
    IsNext u = n.has_begun ≡ true → n.skipped_gap ≡ 0 → Next due u

    expects : (x : ℕ) → due ≡ Some x → b.expected ≡ Some (sent_number first x)
    expects x is = subst (λ (d : Option ℕ). IsDuePlace state sent first sender d b.expected) is place_is

    -- where it is the one that is expected it is the one that is due
    due_place : (x : ℕ) → due ≡ Some x → is_expected b.expected p.0 ≡ true → at.place ≡ x
    due_place x is e =
        let near = subst (λ (d : Option ℕ). IsInTime d at.place) is in_time in
        let number = same_number p.0 (sent_number first x) (subst (λ (y : Option ℕ). is_expected y p.0 ≡ true) (expects x is) e) in
        near_same first at.place x near.0 near.1 (sym at.number ∙ number)

    due_next : (x : ℕ) → due ≡ Some x → missing ≡ 0 → at.place ≡ x
    due_next x is none =
        let near = subst (λ (d : Option ℕ). IsInTime d at.place) is in_time in
        let number : distance_ahead (sent_number first x) p.0 ≡ 0 = subst (λ (y : Option ℕ). missing_count y p.0 ≡ 0) (expects x is) none in
        none_between first x at.place near.0 near.1 (subst (λ (y : ℕ). distance_ahead (sent_number first x) y ≡ 0) at.number number)

    own_stamp : (sent_at sent at.place).timestamp ≡ ts
    own_stamp = ap (λ (x : RtpBody). x.timestamp) (sym at.body)

    same_kind : state_with_run b.state None ≡ state_with_run state None
    same_kind = ap (λ (r : DepacketizerState). state_with_run r None) kind

    is_next_of : (u : Option AccessUnitValue) → is_sound most (with_open u) q ≡ true → is_expected b.expected p.0 ≡ true
    is_next_of u sound = follows_at state [] [] (with_open u) q (sound_at state [] [] most (with_open u) q sound).1

    work_at : (u : Option AccessUnitValue) (w : Depacketization) → taken_by (with_open u) ts ≡ record { at_work = w; expected = b.expected } → is_sound most (with_open u) q ≡ true → work u ≡ after_packets w (p.1.payload ∷ [])
    work_at u w is sound =
        let short = (sound_at state [] [] most (with_open u) q sound).0 in
        ap (λ (s : SequencedDepacketization). (after_taken_packet most s p.0 p.1.payload).at_work) is
        ∙ work_is state [] [] most w b.expected p (is_next_of u sound) (subst (λ (s : SequencedDepacketization). nat_lt most (run_len (after_sequenced_packet s p.0 p.1.payload).state.run) ≡ false) is short)

    -- the first of an access unit
    new_piece : (u : Option AccessUnitValue) (k : AccessUnitNumbers) → taken_by (with_open u) ts ≡ sequenced_depacketization (state_with_run b.state None) b.expected [] extras.None → is_sound most (with_open u) q ≡ true → k.first ≡ p.0 → (k.follows ≡ true → IsUnitFront sent at.place) → PieceThen (work u) ts k
    new_piece u k is sound first_is front = record {
      place = at.place;
      count = 1;
      some = omega arith;
      within = let lt = at.within in omega (arith, lt);
      due_is = refl;
      stamps = λ i lt. let none : at.place + i ≡ at.place = omega (arith, lt) in ap (λ (x : ℕ). (sent_at sent x).timestamp) none ∙ own_stamp;
      text =
          work_at u (depacketization (state_with_run b.state None) [] extras.None) is sound
          ∙ ap (λ (r : DepacketizerState). after_packets (depacketization r [] extras.None) (p.1.payload ∷ [])) same_kind
          ∙ ap (λ (x : RtpBody). after_packets (nothing_written state) (x.payload ∷ [])) at.body
          ∙ text_one at.place at.within;
      first_is = first_is ∙ at.number;
      front = front;
    }

    -- one more of it
    piece_on : (u : AccessUnitValue) (k : AccessUnitNumbers) → taken_by (with_open (Some u)) ts ≡ sequenced_depacketization b.state b.expected u.bytes u.extra → is_sound most (with_open (Some u)) q ≡ true → ts ≡ u.timestamp → Piece due b.state u.timestamp u.bytes u.extra k.first k.follows →
        PieceThen (work (Some u)) ts k
    piece_on u k is sound stamp it =
        let same = due_place (it.place + it.count) it.due_is (is_next_of (Some u) sound) in
        let at_within = at.within in
        let lt : it.place + it.count < length sent = omega (arith, same, at_within) in
        record {
          place = it.place;
          count = it.count + 1;
          some = omega arith;
          within = omega (arith, lt);
          due_is = let next : at.place + 1 ≡ it.place + (it.count + 1) = omega (arith, same) in ap Some next;
          stamps = λ i less. by it i less same;
          text =
              work_at (Some u) (depacketization b.state u.bytes u.extra) is sound
              ∙ ap (λ (w : Depacketization). after_packets w (p.1.payload ∷ [])) it.text
              ∙ ap (λ (x : RtpBody). after_packets (sent_text state sent it.place it.count) (x.payload ∷ [])) (at.body ∙ ap (sent_at sent) same)
              ∙ text_more it.place it.count lt;
          first_is = it.first_is;
          front = it.front;
        }
      where
        by : (it : Piece due b.state u.timestamp u.bytes u.extra k.first k.follows) (i : ℕ) → i < it.count + 1 → at.place ≡ it.place + it.count → (sent_at sent (it.place + i)).timestamp ≡ ts
        by it i less same = elim (i == it.count) as (λ c. (i == it.count) ≡ c → (sent_at sent (it.place + i)).timestamp ≡ ts) [
          | true ↦ λ e. let is : i ≡ it.count = grind (arith, nat_tests) in let there : it.place + i ≡ at.place = omega (arith, is, same) in ap (λ (x : ℕ). (sent_at sent x).timestamp) there ∙ own_stamp
          | false ↦ λ e. it.stamps i (grind (arith, nat_tests, less)) ∙ sym stamp
        ] refl

    -- where it follows it is at a front
    new_front : (u : Option AccessUnitValue) → is_unit_at u ts ≡ false → IsNext u → (n.has_begun && (missing_sum n.skipped_gap missing == 0)) ≡ true → IsUnitFront sent at.place
    new_front u other next follows_it = λ before before_is same.
        let none = sum_none n.skipped_gap missing (zero_at (missing_sum n.skipped_gap missing) (right_true n.has_begun (missing_sum n.skipped_gap missing == 0) follows_it)) in
        let it = next (left_true n.has_begun (missing_sum n.skipped_gap missing == 0) follows_it) none.0 in
        let there = due_next it.at it.due_is none.1 in
        by u other it.at there before same (it.behind before (sym there ∙ before_is))
      where
        by : (u : Option AccessUnitValue) → is_unit_at u ts ≡ false → (x : ℕ) → at.place ≡ x → (before : ℕ) → (sent_at sent before).timestamp ≡ (sent_at sent at.place).timestamp → Behind u before x → ⊥
        by None other x there before same behind = behind (subst (λ (y : ℕ). y < length sent) there at.within) (same ∙ ap (λ (y : ℕ). (sent_at sent y).timestamp) there)
        by (Some u) other x there before same behind = other_than u.timestamp ts other (sym behind ∙ same ∙ own_stamp)

    taken_piece : (u : Option AccessUnitValue) (k : Option AccessUnitNumbers) → SameStamp u k → Opened due b.state u k → IsNext u → (unit_with most (with_open u) q).is_whole ≡ true → PieceThen (work u) ts (counted k)
    taken_piece None None same opened next whole = new_piece None (counted None) refl whole refl (new_front None refl next)
    taken_piece None (Some k) same opened next whole = absurd same
    taken_piece (Some u) None same opened next whole = absurd same
    taken_piece (Some u) (Some k) same opened next whole =
        elim (u.timestamp == ts) as (λ c. (u.timestamp == ts) ≡ c → PieceThen (work (Some u)) ts (counted (Some k))) [
          | true ↦ λ e.
              let e_k : (k.timestamp == ts) ≡ true = subst (λ (t : ℕ). (t == ts) ≡ true) same e in
              let sound = right_true (unit_at (Some u) ts).is_whole (is_sound most (with_open (Some u)) q) whole in
              let own_whole : u.is_whole ≡ true = subst (λ (c : Bool). (cond c u (empty_unit ts)).is_whole ≡ true) e (left_true (unit_at (Some u) ts).is_whole (is_sound most (with_open (Some u)) q) whole) in
              let numbers_are : counted (Some k) ≡ numbers_to k q (missing_sum n.skipped_gap missing) = rw e_k refl in
              subst (PieceThen (work (Some u)) ts) (sym numbers_are) (piece_on u k (rw e refl) sound (sym (same_number u.timestamp ts e)) (opened own_whole))
          | false ↦ λ e.
              let e_k : (k.timestamp == ts) ≡ false = subst (λ (t : ℕ). (t == ts) ≡ false) same e in
              let sound = right_true (unit_at (Some u) ts).is_whole (is_sound most (with_open (Some u)) q) whole in
              new_piece (Some u) (counted (Some k)) (rw e refl) sound (rw e_k refl) (rw e_k (new_front (Some u) e next))
        ] refl

    -- what ends by its timestamp
    other_ended : (u : Option AccessUnitValue) (k : Option AccessUnitNumbers) → SameStamp u k → Opened due b.state u k → EndedAre One (ended_by (with_open u) q) (numbers_ended k ts) None
    other_ended None None same opened = (refl, refl)
    other_ended None (Some k) same opened = absurd same
    other_ended (Some u) None same opened = absurd same
    other_ended (Some u) (Some k) same opened =
        let holds = follows (with_open (Some u)) q && is_run_closed b.state.run in
        elim (u.timestamp == ts) as (λ c. (u.timestamp == ts) ≡ c → EndedAre One (cond c [] (given_out holds (Some u))) (numbers_ended (Some k) ts) None) [
          | true ↦ λ e. let e_k : (k.timestamp == ts) ≡ true = subst (λ (t : ℕ). (t == ts) ≡ true) same e in rw e_k (refl, refl)
          | false ↦ λ e. let e_k : (k.timestamp == ts) ≡ false = subst (λ (t : ℕ). (t == ts) ≡ false) same e in rw e_k (λ whole. by holds refl e whole, (refl, refl))
        ] refl
      where
        by : (holds : Bool) → (follows (with_open (Some u)) q && is_run_closed b.state.run) ≡ holds → (u.timestamp == ts) ≡ false → (u.is_whole && holds) ≡ true → Ended u.timestamp u.bytes u.extra k.first k.follows
        by holds is e whole =
            let it = opened (left_true u.is_whole holds whole) in
            let both = is ∙ right_true u.is_whole holds whole in
            let next = follows_at state [] [] (with_open (Some u)) q (left_true (follows (with_open (Some u)) q) (is_run_closed b.state.run) both) in
            let there = due_place (it.place + it.count) it.due_is next in
            piece_ended due b.state u.timestamp u.bytes u.extra k.first k.follows it (λ lt stamp. other_than u.timestamp ts e (sym stamp ∙ ap (λ (x : ℕ). (sent_at sent x).timestamp) (sym there) ∙ own_stamp))

    -- what it ends by its marker
    own_ended : (u : Option AccessUnitValue) (k : AccessUnitNumbers) → p.1.marker ≡ true → ((unit_with most (with_open u) q).is_whole ≡ true → PieceThen (work u) ts k) → One (whole_if (is_run_closed (work u).state.run) (unit_with most (with_open u) q)) k
    own_ended u k marker piece = λ whole.
        let it = piece (left_true (unit_with most (with_open u) q).is_whole (is_run_closed (work u).state.run) whole) in
        let next : at.place + 1 ≡ it.place + it.count = let is = it.due_is in cc in
        let marked = subst (λ (x : RtpBody). x.marker ≡ true) at.body marker in
        subst (λ (t : ℕ). Ended t (work u).out (work u).extra k.first k.follows) (sym (unit_stamp u ts))
        (piece_ended (Some (at.place + 1)) (work u).state ts (work u).out (work u).extra k.first k.follows it (λ lt stamp. sender.marked at.place marked (omega (arith, lt, next)) (ap (λ (x : ℕ). (sent_at sent x).timestamp) next ∙ stamp ∙ sym own_stamp)))

  -- with a packet that is taken
  took_by : (due : Option ℕ) (a : Assembly) (n : NumbersSoFar) (p : Packet) (m : Bool) (most limit : ℕ) (at : IsSentAt sent first p) → IsInTime due at.place → a.state ≡ state_with_run state a.state.run → IsDuePlace state sent first sender due (begun_for a p).expected → SameStamp a.unit n.unit → (m ≡ true → p.1.marker ≡ true) → a.ended ≡ [] → Sound due a n →
      let b = begun_for a p in let q : Packet = (p.0, rtp_body p.1.timestamp m p.1.payload) in
      Sound (Some (at.place + 1)) (marker_forgotten (with_unit_within limit (after_taken_rtp most b q))) (after_packet n q (missing_count b.expected p.0))
  took_by due a n p m most limit at in_time kind place_is same marker empty it = record {
    opened = open_now m;
    next = λ begun gap. record { at = at.place + 1; due_is = refl; behind = λ before before_is. behind_now m refl before (omega (arith, before_is)) };
    ended = subst (λ (x : List AccessUnitValue). EndedAre One ((x ++ ended_by b now) ++ own_list m) (numbers_ended n.unit p.1.timestamp) (own_count m)) (sym empty)
        (ended_more One (ended_by b now) (numbers_ended n.unit p.1.timestamp) (own_count m) (own_list m) (other_ended due b n p m most at in_time kind place_is a.unit n.unit same it.opened) (ended_now m refl));
  }
    where
      b : Assembly
      b = begun_for a p

      now : Packet
      now = (p.0, rtp_body p.1.timestamp m p.1.payload)

      own : AccessUnitNumbers
      own = unit_numbers n now (missing_sum n.skipped_gap (missing_count b.expected p.0))

      work_now : Depacketization
      work_now = (after_taken_packet most (taken_by b p.1.timestamp) p.0 p.1.payload).at_work

      own_list : Bool → List AccessUnitValue
      own_list c = if c then whole_if (is_run_closed work_now.state.run) (unit_with most b now) ∷ [] else []

      own_count : Bool → Option AccessUnitNumbers
      own_count c = if c then Some own else None

      piece : (unit_with most b now).is_whole ≡ true → Piece (Some (at.place + 1)) work_now.state p.1.timestamp work_now.out work_now.extra own.first own.follows
      piece = taken_piece due b n p m most at in_time kind place_is a.unit n.unit same it.opened it.next

      stamp_now : (unit_with most b now).timestamp ≡ p.1.timestamp
      stamp_now = unit_stamp a.unit p.1.timestamp

      open_now : (c : Bool) → Opened (Some (at.place + 1)) work_now.state (unit_within limit (if c then None else Some (unit_with most b now))) (if c then None else Some own)
      open_now true = tt
      open_now false = elim (nat_lt limit (length (unit_with most b now).bytes)) as (λ long. Opened (Some (at.place + 1)) work_now.state (Some (cond long (without_text (unit_with most b now)) (unit_with most b now))) (Some own)) [
        | true ↦ λ whole. absurd (let bad = whole in cc)
        | false ↦ λ whole. subst (λ (t : ℕ). Piece (Some (at.place + 1)) work_now.state t work_now.out work_now.extra own.first own.follows) (sym stamp_now) (piece whole)
      ]

      behind_now : (c : Bool) → m ≡ c → (before : ℕ) → before ≡ at.place → Behind (unit_within limit (if c then None else Some (unit_with most b now))) before (at.place + 1)
      behind_now true e before is = λ lt stamp. sender.marked at.place (subst (λ (x : RtpBody). x.marker ≡ true) at.body (marker e)) lt (sym stamp ∙ ap (λ (x : ℕ). (sent_at sent x).timestamp) is)
      behind_now false e before is =
          let own_is : (sent_at sent before).timestamp ≡ (unit_with most b now).timestamp = ap (λ (x : ℕ). (sent_at sent x).timestamp) is ∙ ap (λ (x : RtpBody). x.timestamp) (sym at.body) ∙ sym stamp_now in
          elim (nat_lt limit (length (unit_with most b now).bytes)) as (λ long. (sent_at sent before).timestamp ≡ (cond long (without_text (unit_with most b now)) (unit_with most b now)).timestamp) [ true ↦ own_is | false ↦ own_is ]

      ended_now : (c : Bool) → m ≡ c → EndedAre One (own_list c) None (own_count c)
      ended_now false e = (refl, refl)
      ended_now true e = (own_ended due b n p m most at in_time kind place_is a.unit own (marker e) piece, (refl, refl))

  -- so it is where what begins has the timestamp of the one before
  pub took_sound : (still : Bool) (due : Option ℕ) (a : Assembly) (n : NumbersSoFar) (p : Packet) (m : Bool) (most limit : ℕ) (at : IsSentAt sent first p) → IsInTime due at.place → a.state ≡ state_with_run state a.state.run → IsDuePlace state sent first sender due (begun_for a p).expected → SameStamp a.unit n.unit → (m ≡ true → p.1.marker ≡ true) → a.ended ≡ [] → Sound due a n →
      let b = begun_for a p in let q : Packet = (p.0, rtp_body p.1.timestamp m p.1.payload) in
      Sound (Some (at.place + 1)) (marker_forgotten (with_unit_within limit (after_taken_rtp most b q))) (after_packet (numbers_still still n) q (missing_count b.expected p.0))
  took_sound true due a n p m most limit at in_time kind place_is same marker empty it =
      took_by due a (record n { marked = None }) p m most limit at in_time kind place_is same marker empty (record { opened = it.opened; next = it.next; ended = it.ended })
  took_sound false due a n p m most limit at in_time kind place_is same marker empty it = took_by due a n p m most limit at in_time kind place_is same marker empty it

  -- with one that is late
  pub late_sound : (due : Option ℕ) (a : Assembly) (n : NumbersSoFar) (p : Packet) → Sound due a n → Sound due (marker_forgotten (begun_for a p)) n
  late_sound due a n p it = record { opened = it.opened; next = it.next; ended = it.ended }

  -- with one that is refused
  pub refused_sound : (due new : Option ℕ) (a : Assembly) (n : NumbersSoFar) (p : Packet) (m : ℕ) → Sound due a n → Sound new (marker_forgotten (record (behind_missing (begun_for a p) p.0) { expected = Some (next_sequence_number p.0) })) (after_gap n (m + 1))
  refused_sound due new a n p m it = record {
    opened = by a.unit n.unit;
    next = λ begun gap. absurd (not_none state [] [] n.skipped_gap m gap);
    ended = it.ended;
  }
    where
      by : (u : Option AccessUnitValue) (k : Option AccessUnitNumbers) → Opened new (state_with_run a.state None) (option_map (whole_if false) u) k
      by None k = tt
      by (Some u) None = tt
      by (Some u) (Some k) = λ whole. absurd (none_true u.is_whole whole)

  -- where the one that is open ends, not known to be whole, and what comes next follows none
  pub finished_sound : (due new_due : Option ℕ) (a : Assembly) (n new : NumbersSoFar) → SameStamp a.unit n.unit → a.ended ≡ [] → new.unit ≡ None → new.has_begun ≡ false → new.ended ≡ n.unit → (n.ended_by_marker ≡ None → new.ended_by_marker ≡ None) → Sound due a n → Sound new_due (after_finishing a) new
  finished_sound due new_due a n new same empty none_open fresh ended_is marked_is it = record {
    opened = tt;
    next = λ begun gap. absurd (let bad = sym begun ∙ fresh in cc);
    ended =
        subst (λ (x : List AccessUnitValue). EndedAre One (x ++ given_out false a.unit) new.ended new.ended_by_marker) (sym empty)
        (subst (EndedAre One (given_out false a.unit) new.ended) (sym (marked_is (none_ended One a.ended n.ended n.ended_by_marker empty it.ended).1))
        (subst (λ (x : Option AccessUnitNumbers). EndedAre One (given_out false a.unit) x None) (sym ended_is)
        (open_ended One false a.unit n.unit same (λ unit numbers u_is k_is whole. absurd (none_true unit.is_whole whole)))));
  }

  -- a new receiver, or one that dropped all
  pub fresh_sound : (r : DepacketizerState) → Sound None (open_assembly r None none_open []) fresh_numbers
  fresh_sound r = record { opened = tt; next = λ begun gap. absurd (let bad = begun in cc); ended = (refl, refl) }

  -- where the number of a front is told
  pub told_sound : (place number : ℕ) (a : Assembly) (n : NumbersSoFar) → a.unit ≡ None → IsUnitFront sent place → Sound None a n → Sound (Some place) (record a { expected = Some number }) (begun_numbers_at n)
  told_sound place number a n none_open front it = record {
    opened = subst (λ (u : Option AccessUnitValue). Opened (Some place) a.state u n.unit) (sym none_open) tt;
    next = λ begun gap. record { at = place; due_is = refl; behind = λ before is. subst (λ (u : Option AccessUnitValue). Behind u before place) (sym none_open) (λ lt. front before is) };
    ended = it.ended;
  }

  -- once the first that ended is gone
  pub gone_sound : (due : Option ℕ) (a : Assembly) (n : NumbersSoFar) (u : AccessUnitValue) (us : List AccessUnitValue) → a.ended ≡ u ∷ us → Sound due a n → Sound due (record a { ended = us }) (without_first_ended n)
  gone_sound due a n u us is it = by n.ended n.ended_by_marker (subst (λ (x : List AccessUnitValue). EndedAre One x n.ended n.ended_by_marker) is it.ended)
    where
      by : (e b : Option AccessUnitNumbers) → EndedAre One (u ∷ us) e b → Sound due (record a { ended = us }) (without_first_ended (record n { ended = e; ended_by_marker = b }))
      by (Some k) b ended = record { opened = it.opened; next = it.next; ended = ended.1 }
      by None (Some k) ended = record { opened = it.opened; next = it.next; ended = ended.1 }
      by None None ended = absurd ended

  -- what is missing of it is told with a later one
  pub carried_sound : (due : Option ℕ) (a : Assembly) (n : NumbersSoFar) (missing : ℕ) → Sound due a n → Sound due a (numbers_carrying n missing)
  carried_sound due a n missing it = by n.ended_by_marker n.unit it.opened it.ended
    where
      units_with : (units : List AccessUnitValue) (e : Option AccessUnitNumbers) (k : AccessUnitNumbers) (m : ℕ) → EndedAre One units e (Some k) → EndedAre One units e (Some (record k { missing = m }))
      units_with [] e k m is = absurd (let bad = is.1 in cc)
      units_with (u ∷ units) (Some x) k m is = (is.0, units_with units None k m is.1)
      units_with (u ∷ units) None k m is = is

      open_with : (u : Option AccessUnitValue) (k : AccessUnitNumbers) (m : ℕ) → Opened due a.state u (Some k) → Opened due a.state u (Some (record k { missing = m }))
      open_with None k m opened = tt
      open_with (Some u) k m opened = opened

      by : (b u : Option AccessUnitNumbers) → Opened due a.state a.unit u → EndedAre One a.ended n.ended b → Sound due a (numbers_carrying (record n { ended_by_marker = b; unit = u }) missing)
      by (Some k) u opened ended = record { opened = opened; next = it.next; ended = units_with a.ended n.ended k _ ended }
      by None (Some k) opened ended = record { opened = open_with a.unit k _ opened; next = it.next; ended = ended }
      by None None opened ended = record { opened = opened; next = it.next; ended = ended }

  -- one that is given out and told whole was sent
  was_sent : (d : DecoderState) (has_sets is_avc : Bool) (u : AccessUnitValue) (k : AccessUnitNumbers) → is_avc ≡ state.is_avc → One u k → (received_unit d has_sets is_avc u k).is_whole ≡ true → WasSent state sent first (received_unit d has_sets is_avc u k)
  was_sent d has_sets is_avc u k avc_is one whole =
      let looks = is_front d u.extra (unit_content is_avc u).first in
      let rest = right_true u.is_whole (not k.continues && (k.follows || looks)) whole in
      let it = one (left_true u.is_whole (not k.continues && (k.follows || looks)) whole) in
      let begins = right_true (not k.continues) (k.follows || looks) rest in
      record {
        place = it.place;
        count = it.count;
        some = it.some;
        within = it.within;
        first_is = it.first_is;
        stamps = it.stamps;
        front = front it k.follows refl begins;
        back = it.back;
        written = record { bytes = it.bytes_are; extra = it.extra_is };
      }
    where
      front : (it : Ended u.timestamp u.bytes u.extra k.first k.follows) (c : Bool) → k.follows ≡ c → (c || is_front d u.extra (unit_content is_avc u).first) ≡ true → IsUnitFront sent it.place
      front it true is e = it.front is
      front it false is e = λ before before_is same.
          let text = sent_text state sent it.place it.count in
          let none : it.place + 0 ≡ it.place = omega arith in
          let own : (sent_at sent it.place).timestamp ≡ u.timestamp = ap (λ (x : ℕ). (sent_at sent x).timestamp) (sym none) ∙ it.stamps 0 it.some in
          let apart : is_front d text.extra (content_of state.is_avc text.extra text.out).first ≡ false = sender.fronts it.place it.count d it.within (λ f. f before before_is same) (λ i lt. it.stamps i lt ∙ sym own) in
          let by_extra : is_front d u.extra (content_of state.is_avc u.extra text.out).first ≡ false = subst (λ (x : CodecExtra). is_front d x (content_of state.is_avc x text.out).first ≡ false) it.extra_is apart in
          let by_bytes : is_front d u.extra (content_of state.is_avc u.extra u.bytes).first ≡ false = subst (λ (x : List ℕ). is_front d u.extra (content_of state.is_avc u.extra x).first ≡ false) it.bytes_are by_extra in
          let by_avc : is_front d u.extra (content_of is_avc u.extra u.bytes).first ≡ false = subst (λ (x : Bool). is_front d u.extra (content_of x u.extra u.bytes).first ≡ false) (sym avc_is) by_bytes in
          let bad = sym by_avc ∙ e in cc

  pub given_sent : (due : Option ℕ) (d : DecoderState) (has_sets : Bool) (a : Assembly) (n : NumbersSoFar) (u : AccessUnitValue) (us : List AccessUnitValue) → a.ended ≡ u ∷ us → a.state ≡ state_with_run state a.state.run → Sound due a n →
      (received_unit d has_sets a.state.is_avc u (first_ended n)).is_whole ≡ true → WasSent state sent first (received_unit d has_sets a.state.is_avc u (first_ended n))
  given_sent due d has_sets a n u us is kind it whole =
      was_sent d has_sets a.state.is_avc u (first_ended n) (ap (λ (r : DepacketizerState). r.is_avc) kind)
      (first_one One u us n.ended n.ended_by_marker (subst (λ (x : List AccessUnitValue). EndedAre One x n.ended n.ended_by_marker) is it.ended)) whole
