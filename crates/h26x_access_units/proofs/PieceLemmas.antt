-- What of an access unit that is open is known by its packets, while none is known to be missing.
use Rattle.std.proofs.Common.{is_some, ◌≡◌, ◌∙◌, ap, sym, subst, refl, ℕ, ◌+◌, ◌<◌, Bool, true, false, cond, List, [], ◌∷◌, ◌++◌, Option, Some, None, arith, inl, inr}
use Rattle.std.specs.Prelude.{◌==◌, ◌||◌, ◌&&◌, nat_lt, ◌⊎◌, not}
use Rattle.std.specs.List.{Contains}
use Rattle.std.specs.Option.{option_map}
use Rattle.std.proofs.lemmas.Bool.Decides.{nat_tests}
use Rattle.h26x_core.specs.Sequence.{next_sequence_number, distance_ahead, is_late, missing_count, is_expected}
use Rattle.h26x_core.specs.declared.extra.CodecExtra.{CodecExtra}
use Rattle.h26x_model.specs.Receive.DepacketizerState.{DepacketizerState, Depacketization, depacketization, after_packets}
use Rattle.h26x_model.specs.Receive.RunLimit.{run_len, state_with_run, with_open_run}
use Rattle.h26x_receiver.specs.declared.received.Received.TheVariants as received
use Rattle.h26x_receiver.specs.Sequenced.{SequencedDepacketization, with_run_if, after_sequenced_packet, after_taken_packet, skip_answer, answer_by_missing, expected_after_skip}
use Rattle.h26x_reorder.specs.Rtp.{RtpBody}
use Rattle.h26x_assembler.specs.AccessUnit.{AccessUnitValue, Assembly, whole_if, is_unit_at, taken_by, is_closed_at, follows, is_run_closed, is_sound, is_unit_broken, given_out, behind_missing, after_unit_skip, after_pass_over, after_ending}
use Rattle.h26x_assembler.proofs.UnitLemmas.{short_run}
use Rattle.h26x_access_units.specs.declared.numbers.AccessUnitNumbers.{AccessUnitNumbers}
use Rattle.h26x_access_units.specs.declared.numbers.NumbersSoFar.{NumbersSoFar}
use Rattle.h26x_access_units.specs.Numbers.{missing_told, missing_with, missing_up_to, missing_sum, after_gap, numbers_closed}
use Rattle.h26x_access_units.specs.Reception.{expected_for, begun_for, marker_forgotten}
use Rattle.h26x_access_units.specs.WholeSent.{has_no_text, nothing_written, ArePacketsOf, first_one, next_one, bare_one, IsRightBehind, behind_bare, IsBegunInOrder, IsUnitEnded, by_marker, by_timestamp, by_content, IsSliceBefore, slice_earlier, IsNextBegun, IsClosedBefore}
use Rattle.h26x_access_units.proofs.EndedLemmas.{SameStamp, EndedAre, open_ended}

abbrev Packet : Type 0
Packet = ℕ × RtpBody

abbrev Packets : Type 0
Packets = List (ℕ × RtpBody)

-- a number that is the one expected
pub expected_is : (expected : Option ℕ) (due number : ℕ) → expected ≡ Some due → is_expected expected number ≡ true → number ≡ due
expected_is expected due number is at = let t : (number == due) ≡ true = subst (λ (e : Option ℕ). is_expected e number ≡ true) is at in grind (arith, nat_tests)

pub none_true : (b : Bool) → (b && false) ≡ true → ⊥
none_true true e = let bad = e in cc
none_true false e = let bad = e in cc

pub left_true : (a b : Bool) → (a && b) ≡ true → a ≡ true
left_true true b e = refl
left_true false b e = absurd (let bad = e in cc)

pub right_true : (a b : Bool) → (a && b) ≡ true → b ≡ true
right_true true b e = e
right_true false b e = absurd (let bad = e in cc)

-- what an answer tells of numbers that are missing
pub told_is : (m : ℕ) (long : Bool) → missing_told (answer_by_missing m long) ≡ m
told_is m true = refl
told_is m false = elim (m == 0) as (λ b. (m == 0) ≡ b → missing_told (cond b received.InOrder (received.Gap m)) ≡ m) [
  | true ↦ λ e. grind (arith, nat_tests)
  | false ↦ λ e. refl
] refl

pub one_missing : (m : ℕ) → missing_with (answer_by_missing m false) ≡ m + 1
one_missing m = elim (m == 0) as (λ b. (m == 0) ≡ b → missing_with (cond b received.InOrder (received.Gap m)) ≡ m + 1) [
  | true ↦ λ e. grind (arith, nat_tests)
  | false ↦ λ e. refl
] refl

skip_told : (expected : Option ℕ) (number : ℕ) → is_late expected number ≡ false → missing_told (skip_answer expected number) ≡ missing_count expected number
skip_told expected number timely = rw timely (told_is (missing_count expected number) false)

-- none is missing before the number that is due
pub none_ahead : (due number : ℕ) → due < 65536 → number < 65536 → distance_ahead due number ≡ 0 → number ≡ due
none_ahead due number small_due small e = omega (arith, small_due, small, e)

pub next_small : (number : ℕ) → next_sequence_number number < 65536
next_small number = omega arith

pub same_number : (x y : ℕ) → (x == y) ≡ true → x ≡ y
same_number x y e = grind (arith, nat_tests)

pub first_true : (a b : Bool) → a ≡ true → (a || b) ≡ true
first_true true b e = refl
first_true false b e = absurd (let bad = e in cc)

pub zero_at : (m : ℕ) → (m == 0) ≡ true → m ≡ 0
zero_at m e = grind (arith, nat_tests)

pub sum_none : (a b : ℕ) → missing_sum a b ≡ 0 → (a ≡ 0) × (b ≡ 0)
sum_none a b e = (omega (arith, e), omega (arith, e))

module _ (state : DepacketizerState) (kept : Packets) (told : List ℕ) where
  -- where a marker or a number tells nothing else it begins in order
  abbrev pub Begun : ℕ → Packet → Packets → Bool → Bool → Type 0
  Begun timestamp front before continues follows = continues ≡ false → follows ≡ true → IsBegunInOrder told kept state.format timestamp front before

  -- an access unit that is open, and unbroken so far
  pub record Piece (handed : Packets) (r : DepacketizerState) (expected : Option ℕ) (timestamp : ℕ) (bytes : List ℕ) (extra : CodecExtra) (first last : ℕ) (continues follows : Bool) : Type 0 where
    pub front : Packet
    pub back : Packet
    pub due : ℕ
    pub own : Packets
    pub before : Packets
    pub place : handed ≡ own ++ before
    pub packets : ArePacketsOf state timestamp front back due own (depacketization r bytes extra)
    pub expects : expected ≡ Some due
    pub first_is : front.0 ≡ first
    pub last_is : back.0 ≡ last
    pub begun : Begun timestamp front before continues follows

  -- with another number expected
  piece_expecting : (handed : Packets) (r : DepacketizerState) (expected new : Option ℕ) (timestamp : ℕ) (bytes : List ℕ) (extra : CodecExtra) (first last : ℕ) (continues follows : Bool) →
      (it : Piece handed r expected timestamp bytes extra first last continues follows) → new ≡ Some it.due → Piece handed r new timestamp bytes extra first last continues follows
  piece_expecting handed r expected new timestamp bytes extra first last continues follows it is = record {
    front = it.front;
    back = it.back;
    due = it.due;
    own = it.own;
    before = it.before;
    place = it.place;
    packets = it.packets;
    expects = is;
    first_is = it.first_is;
    last_is = it.last_is;
    begun = it.begun;
  }

  -- a packet more that bears nothing
  pub piece_bare : (handed : Packets) (r : DepacketizerState) (expected : Option ℕ) (timestamp : ℕ) (bytes : List ℕ) (extra : CodecExtra) (first last : ℕ) (continues follows : Bool) (p : Packet) →
      is_expected expected p.0 ≡ true → has_no_text state.format p.1.payload ≡ true → Piece handed r expected timestamp bytes extra first last continues follows →
      Piece (p ∷ handed) r (Some (next_sequence_number p.0)) timestamp bytes extra first last continues follows
  piece_bare handed r expected timestamp bytes extra first last continues follows p at bare it =
      let same = expected_is expected it.due p.0 it.expects at in
      record {
        front = it.front;
        back = it.back;
        due = next_sequence_number p.0;
        own = p ∷ it.own;
        before = it.before;
        place = ap (λ (x : Packets). p ∷ x) it.place;
        packets = bare_one p (subst (λ (d : ℕ). ArePacketsOf state timestamp it.front it.back d it.own (depacketization r bytes extra)) (sym same) it.packets) bare;
        expects = refl;
        first_is = it.first_is;
        last_is = it.last_is;
        begun = it.begun;
      }

  -- a packet more of the access unit
  pub piece_on : (handed : Packets) (r : DepacketizerState) (expected : Option ℕ) (timestamp : ℕ) (bytes : List ℕ) (extra : CodecExtra) (first last : ℕ) (continues follows : Bool) (p : Packet) →
      is_expected expected p.0 ≡ true → p.1.timestamp ≡ timestamp → has_no_text state.format p.1.payload ≡ false → Piece handed r expected timestamp bytes extra first last continues follows →
      let w = after_packets (depacketization r bytes extra) (p.1.payload ∷ []) in Piece (p ∷ handed) w.state (Some (next_sequence_number p.0)) timestamp w.out w.extra first p.0 continues follows
  piece_on handed r expected timestamp bytes extra first last continues follows p at stamp text it =
      let same = expected_is expected it.due p.0 it.expects at in
      record {
        front = it.front;
        back = p;
        due = next_sequence_number p.0;
        own = p ∷ it.own;
        before = it.before;
        place = ap (λ (x : Packets). p ∷ x) it.place;
        packets = next_one p (subst (λ (d : ℕ). ArePacketsOf state timestamp it.front it.back d it.own (depacketization r bytes extra)) (sym same) it.packets) stamp text;
        expects = refl;
        first_is = it.first_is;
        last_is = refl;
        begun = it.begun;
      }

  -- the first packet of one
  pub piece_new : (handed : Packets) (p : Packet) (continues follows : Bool) → has_no_text state.format p.1.payload ≡ false → Begun p.1.timestamp p handed continues follows →
      let w = after_packets (nothing_written state) (p.1.payload ∷ []) in Piece (p ∷ handed) w.state (Some (next_sequence_number p.0)) p.1.timestamp w.out w.extra p.0 p.0 continues follows
  piece_new handed p continues follows text begun = record {
    front = p;
    back = p;
    due = next_sequence_number p.0;
    own = p ∷ [];
    before = handed;
    place = refl;
    packets = first_one refl text;
    expects = refl;
    first_is = refl;
    last_is = refl;
    begun = begun;
  }

  -- one that ended
  pub record Part (handed : Packets) (timestamp : ℕ) (bytes : List ℕ) (extra : CodecExtra) (first last : ℕ) (continues follows : Bool) : Type 0 where
    pub front : Packet
    pub back : Packet
    pub due : ℕ
    pub own : Packets
    pub before : Packets
    pub later : Packets
    pub written : Depacketization
    pub place : handed ≡ later ++ (own ++ before)
    pub packets : ArePacketsOf state timestamp front back due own written
    pub bytes_are : written.out ≡ bytes
    pub extra_is : written.extra ≡ extra
    pub closed : is_run_closed written.state.run ≡ true
    pub first_is : front.0 ≡ first
    pub last_is : back.0 ≡ last
    pub begun : Begun timestamp front before continues follows
    pub ended : IsUnitEnded kept state.format timestamp due own before

  part_of : (handed later : Packets) (r : DepacketizerState) (expected : Option ℕ) (timestamp : ℕ) (bytes : List ℕ) (extra : CodecExtra) (first last : ℕ) (continues follows : Bool) →
      (it : Piece handed r expected timestamp bytes extra first last continues follows) → is_run_closed r.run ≡ true → IsUnitEnded kept state.format timestamp it.due it.own it.before → Part (later ++ handed) timestamp bytes extra first last continues follows
  part_of handed later r expected timestamp bytes extra first last continues follows it closed ended = record {
    front = it.front;
    back = it.back;
    due = it.due;
    own = it.own;
    before = it.before;
    later = later;
    written = depacketization r bytes extra;
    place = ap (λ (x : Packets). later ++ x) it.place;
    packets = it.packets;
    bytes_are = refl;
    extra_is = refl;
    closed = closed;
    first_is = it.first_is;
    last_is = it.last_is;
    begun = it.begun;
    ended = ended;
  }

  same_front : (p q : Packet) (a b : Packets) → p ∷ a ≡ q ∷ b → p ≡ q
  same_front p q a b e = cc

  ended_marked : (p : Packet) (timestamp due : ℕ) (q : Packet) (rest before : Packets) → p ≡ q → p.1.marker ≡ true → p.1.timestamp ≡ timestamp → IsUnitEnded kept state.format timestamp due (q ∷ rest) before
  ended_marked p timestamp due q rest before same marker stamp =
      subst (λ (x : Packet). IsUnitEnded kept state.format timestamp due (x ∷ rest) before) same (by_marker due p rest before marker stamp)

  -- where the last packet bears the marker
  marked_end : (p : Packet) (handed before : Packets) (timestamp : ℕ) (front back : Packet) (due : ℕ) (own : Packets) (w : Depacketization) → ArePacketsOf state timestamp front back due own w → p ∷ handed ≡ own ++ before →
      p.1.marker ≡ true → p.1.timestamp ≡ timestamp → IsUnitEnded kept state.format timestamp due own before
  marked_end p handed before timestamp front back due own w (first_one a b) place marker stamp = ended_marked p timestamp _ front [] before (same_front p front handed before place) marker stamp
  marked_end p handed before timestamp front back due own w (next_one {own = rest} q packets a b) place marker stamp = ended_marked p timestamp _ q rest before (same_front p q handed (rest ++ before) place) marker stamp
  marked_end p handed before timestamp front back due own w (bare_one {own = rest} q packets a) place marker stamp = ended_marked p timestamp _ q rest before (same_front p q handed (rest ++ before) place) marker stamp

  abbrev pub OpenIs : Packets → DepacketizerState → Option ℕ → Option AccessUnitValue → Option AccessUnitNumbers → Type 0
  OpenIs handed r expected None k = Unit {0}
  OpenIs handed r expected (Some u) None = Unit {0}
  OpenIs handed r expected (Some u) (Some k) = u.is_whole ≡ true → Piece handed r expected u.timestamp u.bytes u.extra k.first k.last k.continues k.follows

  -- the timestamp of the last packet that was taken
  abbrev pub last_stamp : Option AccessUnitNumbers → Option ℕ → Option ℕ
  last_stamp None marked = marked
  last_stamp (Some k) marked = Some k.timestamp

  -- the packet that was taken last is right before the one that is expected; where the access unit that
  -- was open is closed it is known by what
  pub record Behind (handed : Packets) (expected stamp_now : Option ℕ) (is_closed : Bool) : Type 0 where
    pub due : ℕ
    pub stamp : Option ℕ
    pub right : IsRightBehind told state.format due stamp handed
    pub expects : expected ≡ Some due
    pub stamp_is : (stamp ≡ None) ⊎ (stamp ≡ stamp_now)
    pub small : due < 65536
    pub closing : is_closed ≡ true → (x : ℕ) → stamp ≡ Some x → IsClosedBefore kept state.format x due handed

  -- a slice of this timestamp came before the packet that is expected
  pub record SliceAt (handed : Packets) (expected : Option ℕ) (timestamp : ℕ) : Type 0 where
    pub due : ℕ
    pub expects : expected ≡ Some due
    pub slice : IsSliceBefore state.format timestamp due handed

  -- of the access unit that is open, where it has a slice, and of what comes next, where all is known by
  -- which the one before is closed
  pub record Core (handed : Packets) (a : Assembly) (n : NumbersSoFar) (has_slice is_known : Bool) : Type 0 where
    pub opened : OpenIs handed a.state a.expected a.unit n.unit
    pub behind : n.has_begun ≡ true → n.skipped_gap ≡ 0 → Behind handed a.expected (last_stamp n.unit n.marked) (is_known && not (is_some n.unit))
    pub slices : has_slice ≡ true → (timestamp : ℕ) → is_unit_at a.unit timestamp ≡ true → SliceAt handed a.expected timestamp

  for_due : (p : Packet) (expected : Option ℕ) (due : ℕ) → expected ≡ Some due → expected_for expected p ≡ Some due
  for_due p expected due is = subst (λ (e : Option ℕ). expected_for e p ≡ Some due) (sym is) refl

  open_expecting : (handed : Packets) (r : DepacketizerState) (p : Packet) (e : Option ℕ) (u : Option AccessUnitValue) (k : Option AccessUnitNumbers) → OpenIs handed r e u k → OpenIs handed r (expected_for e p) u k
  open_expecting handed r p e None k opened = tt
  open_expecting handed r p e (Some u) None opened = tt
  open_expecting handed r p e (Some u) (Some k) opened = λ whole.
      let it = opened whole in
      piece_expecting handed r e (expected_for e p) u.timestamp u.bytes u.extra k.first k.last k.continues k.follows it (for_due p e it.due it.expects)

  -- where a packet tells the number that is expected
  pub core_begun : (handed : Packets) (a : Assembly) (n : NumbersSoFar) (has_slice is_known : Bool) (p : Packet) → Core handed a n has_slice is_known → Core handed (begun_for a p) n has_slice is_known
  core_begun handed a n has_slice is_known p core = record {
    opened = open_expecting handed a.state p a.expected a.unit n.unit core.opened;
    behind = λ b g.
        let it = core.behind b g in
        record { due = it.due; stamp = it.stamp; right = it.right; expects = for_due p a.expected it.due it.expects; stamp_is = it.stamp_is; small = it.small; closing = it.closing };
    slices = λ sl timestamp at. let it = core.slices sl timestamp at in record { due = it.due; expects = for_due p a.expected it.due it.expects; slice = it.slice };
  }

  open_broken : (handed : Packets) (r : DepacketizerState) (e : Option ℕ) (u : Option AccessUnitValue) (k : Option AccessUnitNumbers) → OpenIs handed r e (option_map (whole_if false) u) k
  open_broken handed r e None k = tt
  open_broken handed r e (Some u) None = tt
  open_broken handed r e (Some u) (Some k) = λ whole. absurd (none_true u.is_whole whole)

  open_bare : (handed : Packets) (r : DepacketizerState) (p : Packet) (e : Option ℕ) (u : Option AccessUnitValue) (k : Option AccessUnitNumbers) → is_expected e p.0 ≡ true → has_no_text state.format p.1.payload ≡ true →
      OpenIs handed r e u k → OpenIs (p ∷ handed) r (Some (next_sequence_number p.0)) u k
  open_bare handed r p e None k at bare opened = tt
  open_bare handed r p e (Some u) None at bare opened = tt
  open_bare handed r p e (Some u) (Some k) at bare opened = λ whole. piece_bare handed r e u.timestamp u.bytes u.extra k.first k.last k.continues k.follows p at bare (opened whole)

  or_true : (a b : Bool) → b ≡ true → (a || b) ≡ true
  or_true true b e = refl
  or_true false b e = e

  -- the next number is right behind a packet that bears nothing too
  behind_more : (handed : Packets) (p : Packet) (expected stamp_now : Option ℕ) (is_closed now : Bool) → p.0 < 65536 → has_no_text state.format p.1.payload ≡ true → missing_count expected p.0 ≡ 0 → Behind handed expected stamp_now is_closed →
      Behind (p ∷ handed) (Some (next_sequence_number p.0)) stamp_now now
  behind_more handed p expected stamp_now is_closed now small bare none_is it =
      let near : distance_ahead it.due p.0 ≡ 0 = subst (λ (e : Option ℕ). missing_count e p.0 ≡ 0) it.expects none_is in
      let same = none_ahead it.due p.0 it.small small near in
      record {
        due = next_sequence_number p.0;
        stamp = it.stamp;
        right = behind_bare p (subst (λ (d : ℕ). IsRightBehind told state.format d it.stamp handed) (sym same) it.right) bare;
        expects = refl;
        stamp_is = it.stamp_is;
        small = next_small p.0;
        closing = λ c x is. inl (or_true p.1.marker (has_no_text state.format p.1.payload) bare);
      }

  ahead_of : (due number : ℕ) → is_late (Some due) number ≡ false → distance_ahead due number < 32768
  ahead_of due number timely = grind (arith, nat_tests)

  -- a slice came before a later one too
  pub slice_more : (handed : Packets) (p : Packet) (expected : Option ℕ) (timestamp : ℕ) → is_late expected p.0 ≡ false → SliceAt handed expected timestamp → SliceAt (p ∷ handed) (Some (next_sequence_number p.0)) timestamp
  slice_more handed p expected timestamp timely it = record {
    due = next_sequence_number p.0;
    expects = refl;
    slice = slice_earlier p it.slice (ahead_of it.due p.0 (subst (λ (e : Option ℕ). is_late e p.0 ≡ false) it.expects timely));
  }

  pub broken_at : (u : Option AccessUnitValue) (timestamp : ℕ) → is_unit_at (option_map (whole_if false) u) timestamp ≡ is_unit_at u timestamp
  broken_at None timestamp = refl
  broken_at (Some u) timestamp = refl

  skip_is : (a : Assembly) (number : ℕ) → is_late a.expected number ≡ false →
      after_unit_skip a number ≡ cond (is_expected a.expected number) (record a { expected = Some (next_sequence_number number) }) (record (behind_missing a number) { expected = Some (next_sequence_number number) })
  skip_is a number timely = rw timely refl

  -- a number that bears nothing
  pub core_skip : (handed : Packets) (a : Assembly) (n : NumbersSoFar) (has_slice is_known : Bool) (p : Packet) → p.0 < 65536 → is_late a.expected p.0 ≡ false → has_no_text state.format p.1.payload ≡ true → Core handed a n has_slice is_known →
      Core (p ∷ handed) (marker_forgotten (after_unit_skip a p.0)) (after_gap n (missing_told (skip_answer a.expected p.0))) has_slice true
  core_skip handed a n has_slice is_known p small timely bare core =
      let next = Some (next_sequence_number p.0) in
      let gap = after_gap n (missing_told (skip_answer a.expected p.0)) in
      let right : n.has_begun ≡ true → gap.skipped_gap ≡ 0 → Behind (p ∷ handed) next (last_stamp n.unit n.marked) (true && not (is_some n.unit)) = λ b g.
      let none_is = sum_none n.skipped_gap (missing_told (skip_answer a.expected p.0)) g in
      behind_more handed p a.expected (last_stamp n.unit n.marked) (is_known && not (is_some n.unit)) (true && not (is_some n.unit)) small bare (sym (skip_told a.expected p.0 timely) ∙ none_is.1) (core.behind b none_is.0) in
      subst (λ (x : Assembly). Core (p ∷ handed) (marker_forgotten x) gap has_slice true) (sym (skip_is a p.0 timely))
      (elim (is_expected a.expected p.0) as (λ b. is_expected a.expected p.0 ≡ b → Core (p ∷ handed) (marker_forgotten (cond b (record a { expected = next }) (record (behind_missing a p.0) { expected = next }))) gap has_slice true) [
        | true ↦ λ at. record { opened = open_bare handed a.state p a.expected a.unit n.unit at bare core.opened; behind = right; slices = λ sl timestamp is. slice_more handed p a.expected timestamp timely (core.slices sl timestamp is) }
        | false ↦ λ at. record {
          opened = open_broken (p ∷ handed) (state_with_run a.state None) next a.unit n.unit;
          behind = right;
          slices = λ sl timestamp is. slice_more handed p a.expected timestamp timely (core.slices sl timestamp (sym (broken_at a.unit timestamp) ∙ is));
        }
      ] refl)

  pub over_is : (a : Assembly) (number : ℕ) → is_late a.expected number ≡ false → after_pass_over a number ≡ behind_missing a number
  over_is a number timely = rw timely refl

  pub not_none : (a b : ℕ) → missing_sum a (b + 1) ≡ 0 → ⊥
  not_none a b e = omega (arith, e)

  -- one that is refused is missing
  pub core_over : (handed : Packets) (a : Assembly) (n : NumbersSoFar) (has_slice is_known : Bool) (p : Packet) → is_late a.expected p.0 ≡ false → Core handed a n has_slice is_known →
      Core (p ∷ handed) (marker_forgotten (after_pass_over a p.0)) (after_gap n (missing_up_to a.expected p.0)) has_slice true
  core_over handed a n has_slice is_known p timely core =
      let missing : missing_up_to a.expected p.0 ≡ missing_count a.expected p.0 + 1 = rw timely (one_missing (missing_count a.expected p.0)) in
      let next_is : expected_after_skip a.expected p.0 ≡ Some (next_sequence_number p.0) = rw timely refl in
      subst (λ (x : Assembly). Core (p ∷ handed) (marker_forgotten x) (after_gap n (missing_up_to a.expected p.0)) has_slice true) (sym (over_is a p.0 timely)) (record {
        opened = open_broken (p ∷ handed) (state_with_run a.state None) (expected_after_skip a.expected p.0) a.unit n.unit;
        behind = λ b g. absurd (not_none n.skipped_gap (missing_count a.expected p.0) (subst (λ (m : ℕ). missing_sum n.skipped_gap m ≡ 0) missing g));
        slices = λ sl timestamp is. subst (λ (e : Option ℕ). SliceAt (p ∷ handed) e timestamp) (sym next_is) (slice_more handed p a.expected timestamp timely (core.slices sl timestamp (sym (broken_at a.unit timestamp) ∙ is)));
      })

  closed_stamp : (u : Option AccessUnitValue) (k : Option AccessUnitNumbers) (marked : Option ℕ) (timestamp : ℕ) → SameStamp u k → is_unit_at u timestamp ≡ true → last_stamp k marked ≡ option_map (λ unit. unit.timestamp) k
  closed_stamp None k marked timestamp same at = absurd (let bad = at in cc)
  closed_stamp (Some u) None marked timestamp same at = absurd same
  closed_stamp (Some u) (Some k) marked timestamp same at = refl

  -- once the access unit that is open ended by itself
  pub core_ending : (handed : Packets) (a : Assembly) (n : NumbersSoFar) (has_slice is_known now : Bool) (timestamp : ℕ) → SameStamp a.unit n.unit → is_unit_at a.unit timestamp ≡ true →
      (now ≡ true → (due x : ℕ) → a.expected ≡ Some due → is_unit_at a.unit x ≡ true → IsClosedBefore kept state.format x due handed) → Core handed a n has_slice is_known → Core handed (after_ending a) (numbers_closed n) has_slice now
  core_ending handed a n has_slice is_known now timestamp same at closed core = record {
    opened = tt;
    behind = λ b g.
        let it = core.behind b g in
        let stamp_is = subst (λ (s : Option ℕ). (it.stamp ≡ None) ⊎ (it.stamp ≡ s)) (closed_stamp a.unit n.unit n.marked timestamp same at) it.stamp_is in
        record {
          due = it.due;
          stamp = it.stamp;
          right = it.right;
          expects = it.expects;
          stamp_is = stamp_is;
          small = it.small;
          closing = λ c x is. closed (left_true now true c) it.due x it.expects (stamp_of a.unit n.unit it.stamp x same is stamp_is);
        };
    slices = λ sl t is. absurd (let bad = is in cc);
  }
    where
      stamp_of : (u : Option AccessUnitValue) (k : Option AccessUnitNumbers) (stamp : Option ℕ) (x : ℕ) → SameStamp u k → stamp ≡ Some x → (stamp ≡ None) ⊎ (stamp ≡ option_map (λ unit. unit.timestamp) k) → is_unit_at u x ≡ true
      stamp_of u k stamp x same is (inl e) = absurd (let bad = sym is ∙ e in cc)
      stamp_of None None stamp x same is (inr e) = absurd (let bad = sym is ∙ e in cc)
      stamp_of None (Some k) stamp x same is (inr e) = absurd same
      stamp_of (Some u) None stamp x same is (inr e) = absurd same
      stamp_of (Some u) (Some k) stamp x same is (inr e) = let equal : x ≡ k.timestamp = let both = sym is ∙ e in cc in let t : u.timestamp ≡ x = same ∙ sym equal in grind (arith, nat_tests)

  -- what a packet that is taken leaves
  abbrev pub work_of : ℕ → SequencedDepacketization → Packet → Depacketization
  work_of most s p = (after_taken_packet most s p.0 p.1.payload).at_work

  pub work_is : (most : ℕ) (w : Depacketization) (e : Option ℕ) (p : Packet) → is_expected e p.0 ≡ true → nat_lt most (run_len (after_packets (with_run_if (is_expected e p.0) w) (p.1.payload ∷ [])).state.run) ≡ false →
      work_of most (record { at_work = w; expected = e }) p ≡ after_packets w (p.1.payload ∷ [])
  work_is most w e p at short =
      let x = after_packets (with_run_if (is_expected e p.0) w) (p.1.payload ∷ []) in
      let first : with_run_if (is_expected e p.0) w ≡ w = rw at refl in
      ap (λ (r : Option (List ℕ)). with_open_run x r) (short_run most x.state.run short) ∙ ap (λ (v : Depacketization). after_packets v (p.1.payload ∷ [])) first

  neither_is : (b c : Bool) → cond b false c ≡ true → (b ≡ false) × (c ≡ true)
  neither_is true c e = absurd (let bad = e in cc)
  neither_is false c e = (refl, e)

  pub sound_at : (most : ℕ) (a : Assembly) (q : Packet) → is_sound most a q ≡ true →
      (nat_lt most (run_len (after_sequenced_packet (taken_by a q.1.timestamp) q.0 q.1.payload).state.run) ≡ false) × (follows a q ≡ true)
  sound_at most a q e =
      let s = taken_by a q.1.timestamp in
      let after = after_sequenced_packet s q.0 q.1.payload in
      let first = neither_is (nat_lt most (run_len after.state.run)) (cond (is_unit_broken s.at_work after q.1.payload) false (follows a q)) e in
      (first.0, (neither_is (is_unit_broken s.at_work after q.1.payload) (follows a q) first.1).1)

  pub follows_at : (a : Assembly) (q : Packet) → follows a q ≡ true → is_expected a.expected q.0 ≡ true
  follows_at a q e =
      let first = neither_is a.is_gap (cond (is_closed_at a.closed q.1.timestamp) false (is_expected a.expected q.0)) e in
      (neither_is (is_closed_at a.closed q.1.timestamp) (is_expected a.expected q.0) first.1).1

  abbrev pub PieceOf : Packets → Packet → Depacketization → ℕ → AccessUnitNumbers → Type 0
  PieceOf handed p w timestamp k = Piece (p ∷ handed) w.state (Some (next_sequence_number p.0)) timestamp w.out w.extra k.first k.last k.continues k.follows

  -- one that ended, with its numbers
  abbrev pub EndedOne : Packets → AccessUnitValue → AccessUnitNumbers → Type 0
  EndedOne handed u k = u.is_whole ≡ true → Part handed u.timestamp u.bytes u.extra k.first k.last k.continues k.follows

  -- what is open ends, whole where this holds too
  pub whole_ended : (handed : Packets) (holds : Bool) (u : Option AccessUnitValue) (k : Option AccessUnitNumbers) → SameStamp u k →
      ((unit : AccessUnitValue) (numbers : AccessUnitNumbers) → u ≡ Some unit → k ≡ Some numbers → holds ≡ true → EndedOne handed unit numbers) → EndedAre (EndedOne handed) (given_out holds u) k None
  whole_ended handed holds u k same each = open_ended (EndedOne handed) holds u k same (λ unit numbers u_is k_is whole. each unit numbers u_is k_is (right_true unit.is_whole holds whole) (left_true unit.is_whole holds whole))

  -- not known to be whole
  pub open_left : (handed : Packets) (u : Option AccessUnitValue) (k : Option AccessUnitNumbers) → SameStamp u k → EndedAre (EndedOne handed) (given_out false u) k None
  open_left handed u k same = whole_ended handed false u k same (λ unit numbers a b holds. absurd (let bad = holds in cc))

  pub piece_at : (handed : Packets) (r : DepacketizerState) (e : Option ℕ) (u : Option AccessUnitValue) (k : Option AccessUnitNumbers) (unit : AccessUnitValue) (numbers : AccessUnitNumbers) → u ≡ Some unit → k ≡ Some numbers → OpenIs handed r e u k →
      unit.is_whole ≡ true → Piece handed r e unit.timestamp unit.bytes unit.extra numbers.first numbers.last numbers.continues numbers.follows
  piece_at handed r e u k unit numbers is_u is_k opened =
      subst (λ (x : Option AccessUnitNumbers). OpenIs handed r e (Some unit) x) is_k (subst (λ (x : Option AccessUnitValue). OpenIs handed r e x k) is_u opened)

  -- before a packet right behind it
  pub next_ended : (handed later : Packets) (r : DepacketizerState) (e : Option ℕ) (u : AccessUnitValue) (k : AccessUnitNumbers) (q : Packet) → Contains kept q → is_expected e q.0 ≡ true → is_run_closed r.run ≡ true →
      (q.1.timestamp ≡ u.timestamp → ⊥) → Piece handed r e u.timestamp u.bytes u.extra k.first k.last k.continues k.follows → Part (later ++ handed) u.timestamp u.bytes u.extra k.first k.last k.continues k.follows
  next_ended handed later r e u k q is_kept at closed other it =
      let same = expected_is e it.due q.0 it.expects at in
      part_of handed later r e u.timestamp u.bytes u.extra k.first k.last k.continues k.follows it closed
      (subst (λ (d : ℕ). IsUnitEnded kept state.format u.timestamp d it.own it.before) same (by_timestamp q it.own it.before is_kept other))

  pub content_ended : (handed : Packets) (r : DepacketizerState) (e : Option ℕ) (u : AccessUnitValue) (k : AccessUnitNumbers) → is_run_closed r.run ≡ true → ((due : ℕ) → e ≡ Some due → IsNextBegun kept state.format u.timestamp due handed) →
      Piece handed r e u.timestamp u.bytes u.extra k.first k.last k.continues k.follows → Part handed u.timestamp u.bytes u.extra k.first k.last k.continues k.follows
  content_ended handed r e u k closed next it = part_of handed [] r e u.timestamp u.bytes u.extra k.first k.last k.continues k.follows it closed
      (by_content it.due it.own it.before (subst (IsNextBegun kept state.format u.timestamp it.due) it.place (next it.due it.expects)))

  -- by a packet that bears the marker, and is its last
  pub marked_ended : (handed : Packets) (r : DepacketizerState) (e : Option ℕ) (u : AccessUnitValue) (k : AccessUnitNumbers) (p : Packet) → p.1.marker ≡ true → p.1.timestamp ≡ u.timestamp → is_run_closed r.run ≡ true →
      Piece (p ∷ handed) r e u.timestamp u.bytes u.extra k.first k.last k.continues k.follows → Part (p ∷ handed) u.timestamp u.bytes u.extra k.first k.last k.continues k.follows
  marked_ended handed r e u k p marker stamp closed it = part_of (p ∷ handed) [] r e u.timestamp u.bytes u.extra k.first k.last k.continues k.follows it closed
      (marked_end p handed it.before u.timestamp it.front it.back it.due it.own (depacketization r u.bytes u.extra) it.packets it.place marker stamp)
