-- What a receiver has of an access unit that was sent, while it takes its packets one behind the other.
use Rattle.std.proofs.Common.{◌≡◌, ◌∙◌, ap, sym, subst, refl, ℕ, ◌+◌, ◌<◌, Bool, true, false, cond, List, [], ◌∷◌, ◌++◌, length, Option, Some, None, arith, inl, inr}
use Rattle.std.specs.Prelude.{◌==◌, ◌||◌, ◌&&◌, nat_lt, ◌⊎◌, if◌then◌else◌, not}
use Rattle.std.proofs.lemmas.List.{append-nil}
use Rattle.std.proofs.lemmas.Bool.Decides.{nat_tests}
use Rattle.h26x_core.specs.Sequence.{distance_ahead, is_late, missing_count}
use Rattle.h26x_core.specs.declared.extra.CodecExtra.{CodecExtra}
use Rattle.h26x_core.specs.declared.extra.CodecExtra.TheVariants as extras
use Rattle.h26x_model.specs.Carry.Laws.{DepacketizerGoesOn}
use Rattle.h26x_model.specs.Receive.DepacketizerState.{DepacketizerState, Depacketization, after_packets}
use Rattle.h26x_model.specs.Receive.RunLimit.{run_len, state_with_run, with_open_run, with_run_within}
use Rattle.h26x_receiver.specs.Sequenced.{SequencedDepacketization, with_expected, sequenced_depacketization, with_run_if, after_sequenced_packet, after_taken_packet}
use Rattle.h26x_reorder.specs.Rtp.{RtpBody, rtp_body}
use Rattle.h26x_assembler.specs.AccessUnit.{AccessUnitValue, Assembly, empty_unit, whole_if, is_unit_at, unit_at, taken_by, follows, is_run_closed, is_sound, is_unit_broken, unit_with, unit_within, with_unit_within, given_out, ended_by, after_taken_rtp}
use Rattle.h26x_assembler.proofs.UnitLemmas.{short_run}
use Rattle.h26x_assembler.specs.StampedCalls.{IsOtherStamp}
use Rattle.h26x_access_units.specs.declared.numbers.AccessUnitNumbers.{AccessUnitNumbers}
use Rattle.h26x_access_units.specs.declared.numbers.NumbersSoFar.{NumbersSoFar}
use Rattle.h26x_access_units.specs.declared.framing.Framing.{Framing}
use Rattle.h26x_access_units.specs.declared.decoder.DecoderState.{DecoderState}
use Rattle.h26x_access_units.specs.declared.content.UnitKind.{UnitKind}
use Rattle.h26x_access_units.specs.declared.content.UnitKind.TheVariants as kinds
use Rattle.h26x_access_units.specs.Content.{content_of}
use Rattle.h26x_access_units.specs.Decoder.{is_front, fresh_decoder}
use Rattle.h26x_access_units.specs.Numbers.{missing_sum, unit_numbers, numbers_with, numbers_to, begun_numbers, numbers_ended, after_packet, numbers_still}
use Rattle.h26x_access_units.specs.Framing.{believes, framing_marked}
use Rattle.h26x_access_units.specs.Reception.{begun_for, expected_for, marker_forgotten, framing_of, believed, ends_before}
use Rattle.h26x_access_units.specs.WholeSent.{bears_slice, nothing_written, sent_at, sent_number, sent_payloads, IsSentAt, IsSender}
use Rattle.h26x_access_units.specs.ToldWhole.{IsInTime, due_taken, Deed, TookPacket, sent_text, IsUnitSent, IsBegunSo, behind_packet, as_first_told, by_front, by_first_front, is_stream_new, ToldFirst, AreOfSender, told_its_first}
use Rattle.h26x_access_units.proofs.PieceLemmas.{same_number, left_true}
use Rattle.h26x_access_units.proofs.WholeSentLemmas.{kind_with}
use Rattle.h26x_access_units.proofs.SentLemmas.{payloads_more, next_place}
use Rattle.h26x_access_units.proofs.EndedLemmas.{SameStamp}
use Rattle.h26x_access_units.proofs.SteadyLemmas.{own_same, unit_stamp, Steady, in_turn, not_closed, text_is, took_steady, new_closed}

abbrev Packet : Type 0
Packet = ℕ × RtpBody

or_right : (x y : Bool) → y ≡ true → (x || y) ≡ true
or_right true y e = refl
or_right false y e = e

-- a decoder that was given none is as a new one here
front_same : (d : DecoderState) (extra : CodecExtra) (kind : Option UnitKind) → d.has_begun ≡ false → is_front d extra kind ≡ is_front fresh_decoder extra kind
front_same d extra None e = refl
front_same d extra (Some kinds.Delimiter) e = refl
front_same d extra (Some kinds.Vps) e = ap not e
front_same d extras.None (Some (kinds.Sps highest)) e = ap not e
front_same d (extras.H264 told) (Some (kinds.Sps highest)) e = ap not e
front_same d (extras.H265 told) (Some (kinds.Sps highest)) e = refl
front_same d (extras.H266 told) (Some (kinds.Sps highest)) e = ap not e
front_same d extra (Some kind) e = refl

abbrev no_units : List AccessUnitValue
no_units = []

-- where another access unit is open, or none
new_unit : (u : Option AccessUnitValue) (x : ℕ) → is_unit_at u x ≡ false → unit_at u x ≡ empty_unit x
new_unit None x e = refl
new_unit (Some u) x e = rw e refl

begun_is : (u : Option AccessUnitValue) (k : Option AccessUnitNumbers) (n : NumbersSoFar) (p : Packet) (missing : ℕ) → SameStamp u k → is_unit_at u p.1.timestamp ≡ false →
    numbers_with k n.marked n.has_begun n.has_taken n.carried p missing ≡ begun_numbers n.marked n.has_begun n.has_taken n.carried p missing
begun_is None None n p missing same e = refl
begun_is None (Some k) n p missing same e = absurd same
begun_is (Some u) None n p missing same e = absurd same
begun_is (Some u) (Some k) n p missing same e =
    let other : (k.timestamp == p.1.timestamp) ≡ false = subst (λ (t : ℕ). (t == p.1.timestamp) ≡ false) same e in
    rw other refl

-- what ends by a packet of another timestamp, with its numbers
abbrev Others : List AccessUnitValue → Option AccessUnitNumbers → Type 0
Others units e = ((units ≡ []) × (e ≡ None)) ⊎ ((x : AccessUnitValue) × (k : AccessUnitNumbers) × (units ≡ x ∷ []) × (e ≡ Some k))

others_of : (holds : Bool) (u : Option AccessUnitValue) (k : Option AccessUnitNumbers) (x : ℕ) → SameStamp u k → is_unit_at u x ≡ false → Others (given_out holds u) (numbers_ended k x)
others_of holds None None x same e = inl (refl, refl)
others_of holds None (Some k) x same e = absurd same
others_of holds (Some u) None x same e = absurd same
others_of holds (Some u) (Some k) x same e =
    let other : (k.timestamp == x) ≡ false = subst (λ (t : ℕ). (t == x) ≡ false) same e in
    inr (whole_if holds u, k, refl, rw other refl)

none_numbers : (u : Option AccessUnitValue) (k : Option AccessUnitNumbers) → SameStamp u k → u ≡ None → k ≡ None
none_numbers None None same e = refl
none_numbers None (Some k) same e = absurd same
none_numbers (Some u) k same e = absurd (let bad = e in cc)

not_same : (x y : ℕ) → (x ≡ y → ⊥) → (x == y) ≡ false
not_same x y other = elim (x == y) as (λ c. (x == y) ≡ c → c ≡ false) [
  | true ↦ λ e. absurd (other (same_number x y e))
  | false ↦ λ e. refl
] refl

module _ (state : DepacketizerState) (sent : List RtpBody) (first : ℕ) (sender : IsSender state sent) (place count : ℕ) (unit : IsUnitSent sent place count) (goes : DepacketizerGoesOn (nothing_written state)) where
  abbrev pub ts : ℕ
  ts = (sent_at sent place).timestamp

  abbrev pub w : ℕ → Depacketization
  w k = sent_text state sent place k

  abbrev pub at : ℕ → Packet
  at k = (sent_number first (place + k), sent_at sent (place + k))

  abbrev pub unit_of : Depacketization → AccessUnitValue
  unit_of v = record { timestamp = ts; bytes = v.out; extra = v.extra; is_whole = true }

  within_sent : (k : ℕ) → k < count → place + k < length sent
  within_sent k lt = let most = unit.within in omega (arith, lt, most)

  -- what is written with a packet more
  w_next : (k : ℕ) → k < count → w (k + 1) ≡ after_packets (w k) ((sent_at sent (place + k)).payload ∷ [])
  w_next k lt = ap (after_packets (nothing_written state)) (payloads_more sent place k (within_sent k lt)) ∙ sym (goes.more (sent_payloads sent place k) ((sent_at sent (place + k)).payload ∷ []))

  w_none : w 0 ≡ nothing_written state
  w_none = goes.none

  abbrev pub Tells : DecoderState → Bool → Bool
  Tells d follows = follows || is_front d (w count).extra (content_of state.is_avc (w count).extra (w count).out).first

  -- it is told whole by any decoder
  abbrev pub Always : Bool → Type 0
  Always follows = (d : DecoderState) → Tells d follows ≡ true

  -- the access unit, whole, with its numbers
  pub record Good (u : AccessUnitValue) (k : AccessUnitNumbers) : Type 0 where
    pub unit_is : u ≡ unit_of (w count)
    pub alone : k.continues ≡ false
    pub first_is : k.first ≡ sent_number first place

  abbrev pub Second : List AccessUnitValue → Option AccessUnitNumbers → Type 0
  Second [] b = ⊥
  Second (u ∷ units) None = ⊥
  Second (u ∷ units) (Some k) = Good u k × Always k.follows

  -- it is among those that have ended
  abbrev pub WaitsIn : DecoderState → List AccessUnitValue → Option AccessUnitNumbers → Option AccessUnitNumbers → Type 0
  WaitsIn d [] e b = ⊥
  WaitsIn d (u ∷ units) (Some k) b = (Good u k × (Tells d k.follows ≡ true)) ⊎ Second units b
  WaitsIn d (u ∷ units) None (Some k) = Good u k × (Tells d k.follows ≡ true)
  WaitsIn d (u ∷ units) None None = ⊥

  -- it is open, with so many of its packets
  pub record Open (k : ℕ) (a : Assembly) (f : Framing) (n : NumbersSoFar) (d : DecoderState) : Type 0 where
    pub unit_is : a.unit ≡ Some (unit_of (w k))
    pub state_is : a.state ≡ (w k).state
    pub expects : a.expected ≡ Some (sent_number first (place + k))
    pub present : a.is_gap ≡ false
    pub closed : a.closed ≡ None
    pub numbers : AccessUnitNumbers
    pub numbers_are : n.unit ≡ Some numbers
    pub stamp : numbers.timestamp ≡ ts
    pub alone : numbers.continues ≡ false
    pub first_is : numbers.first ≡ sent_number first place
    pub tells : Always numbers.follows ⊎ ((Tells d numbers.follows ≡ true) × (a.ended ≡ []))
    pub slices : (j : ℕ) → j < k → bears_slice state.format (sent_at sent (place + j)).payload ≡ true → f.has_slice ≡ true
    pub unmarked : (i : ℕ) → k ≡ i + 1 → (sent_at sent (place + i)).marker ≡ true → (j : ℕ) → j < k → bears_slice state.format (sent_at sent (place + j)).payload ≡ true → ⊥

  -- it is open, or among those that have ended
  abbrev pub Now : ℕ → Assembly → Framing → NumbersSoFar → DecoderState → Type 0
  Now k a f n d = Open k a f n d ⊎ WaitsIn d a.ended n.ended n.ended_by_marker

  -- a packet of it that is taken, by what takes it
  module _ (most : ℕ) (k : ℕ) (lt : k < count) (b : Assembly) (m : Bool) (by_work : taken_by b (sent_at sent (place + k)).timestamp ≡ with_expected (w k) (Some (sent_number first (place + k))))
      (is_new : (unit_at b.unit (sent_at sent (place + k)).timestamp).is_whole ≡ true) (stamp : (unit_at b.unit (sent_at sent (place + k)).timestamp).timestamp ≡ ts) (present : b.is_gap ≡ false) (closed : b.closed ≡ None) (expects : b.expected ≡ Some (sent_number first (place + k)))
      (unbroken : is_unit_broken (w k) (w (k + 1)) (sent_at sent (place + k)).payload ≡ false) (short : nat_lt most (run_len (w (k + 1)).state.run) ≡ false) where
    abbrev q : Packet
    q = (sent_number first (place + k), rtp_body (sent_at sent (place + k)).timestamp m (sent_at sent (place + k)).payload)

    abbrev payload : List ℕ
    payload = (sent_at sent (place + k)).payload

    abbrev before : SequencedDepacketization
    before = with_expected (w k) (Some (sent_number first (place + k)))

    sequenced : after_sequenced_packet before q.0 payload ≡ w (k + 1)
    sequenced = ap (λ (c : Bool). after_packets (with_run_if c (w k)) (payload ∷ [])) (own_same q.0) ∙ sym (w_next k lt)

    pub taken_work : (after_taken_packet most (taken_by b q.1.timestamp) q.0 payload).at_work ≡ w (k + 1)
    taken_work =
        ap (λ (s : SequencedDepacketization). (after_taken_packet most s q.0 payload).at_work) by_work
        ∙ ap (with_run_within most) sequenced
        ∙ ap (λ (r : Option (List ℕ)). with_open_run (w (k + 1)) r) (short_run most (w (k + 1)).state.run short)

    follows_it : follows b q ≡ true
    follows_it = rw (present, closed, expects) (own_same q.0)

    abbrev Sound : SequencedDepacketization → Type 0
    Sound s = cond (nat_lt most (run_len (after_sequenced_packet s q.0 payload).state.run)) false (cond (is_unit_broken s.at_work (after_sequenced_packet s q.0 payload) payload) false (follows b q)) ≡ true

    sound : is_sound most b q ≡ true
    sound = subst Sound (sym by_work) (subst (λ (x : Depacketization). cond (nat_lt most (run_len x.state.run)) false (cond (is_unit_broken (w k) x payload) false (follows b q)) ≡ true) (sym sequenced) (rw (short, unbroken) follows_it))

    abbrev made : ℕ → Depacketization → Bool → AccessUnitValue
    made t v whole = record { timestamp = t; bytes = v.out; extra = v.extra; is_whole = whole }

    pub taken_unit : unit_with most b q ≡ unit_of (w (k + 1))
    taken_unit =
        let u = unit_at b.unit q.1.timestamp in
        let work = (after_taken_packet most (taken_by b q.1.timestamp) q.0 payload).at_work in
        let whole : u.is_whole && is_sound most b q ≡ true = rw (is_new, sound) refl in
        ap (λ (t : ℕ). made t work (u.is_whole && is_sound most b q)) stamp
        ∙ ap (λ (v : Depacketization). made ts v (u.is_whole && is_sound most b q)) taken_work
        ∙ ap (made ts (w (k + 1))) whole

  -- once its packet was taken
  module _ (due : Option ℕ) (ds : List Deed) (a : Assembly) (f : Framing) (n : NumbersSoFar) (d : DecoderState) (most limit k missing : ℕ) (lt : k < count) (sent_is : IsSentAt sent first (at k)) (in_time : IsInTime due sent_is.place) (st : Steady state sent first sender due ds a f n d) (is_next : ends_before a f (at k) ≡ false) (timely : is_late (begun_for a (at k)).expected (sent_number first (place + k)) ≡ false)
      (by_work : taken_by (begun_for a (at k)) (sent_at sent (place + k)).timestamp ≡ with_expected (w k) (Some (sent_number first (place + k))))
      (is_new : (unit_at a.unit (sent_at sent (place + k)).timestamp).is_whole ≡ true) (stamp : (unit_at a.unit (sent_at sent (place + k)).timestamp).timestamp ≡ ts) (present : a.is_gap ≡ false) (expects : expected_for a.expected (at k) ≡ Some (sent_number first (place + k)))
      (unbroken : is_unit_broken (w k) (w (k + 1)) (sent_at sent (place + k)).payload ≡ false) (run_short : nat_lt most (run_len (w (k + 1)).state.run) ≡ false) (text_short : nat_lt limit (length (w (k + 1)).out) ≡ false) (is_closed : k + 1 ≡ count → is_run_closed (w count).state.run ≡ true) where
    abbrev b : Assembly
    b = begun_for a (at k)

    abbrev g : Framing
    g = framing_of b f n (at k)

    abbrev m : Bool
    m = believes g (sent_at sent (place + k)).marker

    abbrev p : Packet
    p = (sent_number first (place + k), rtp_body (sent_at sent (place + k)).timestamp m (sent_at sent (place + k)).payload)

    abbrev own : AccessUnitNumbers
    own = unit_numbers n p (missing_sum n.skipped_gap missing)

    own_unit : unit_with most b p ≡ unit_of (w (k + 1))
    own_unit = taken_unit most k lt b m by_work is_new stamp present st.closed expects unbroken run_short

    own_work : (after_taken_packet most (taken_by b p.1.timestamp) p.0 p.1.payload).at_work ≡ w (k + 1)
    own_work = taken_work most k lt b m by_work is_new stamp present st.closed expects unbroken run_short

    own_stamp : (sent_at sent (place + k)).timestamp ≡ ts
    own_stamp = unit.stamps k lt

    -- what stands then, where the packet ends these
    abbrev Then : Type 0
    Then = Now (k + 1) (marker_forgotten (with_unit_within limit (after_taken_rtp most b p))) (framing_marked g m) (after_packet n p missing) d

    -- so by whether its marker is believed
    abbrev ThenBy : Bool → Type 0
    ThenBy c = Now (k + 1) (record (marker_forgotten (with_unit_within limit (after_taken_rtp most b p))) {
      unit = unit_within limit (if c then None else Some (unit_with most b p));
      ended = (b.ended ++ ended_by b p) ++ (if c then whole_if (is_run_closed (after_taken_packet most (taken_by b p.1.timestamp) p.0 p.1.payload).at_work.state.run) (unit_with most b p) ∷ [] else []);
    }) (framing_marked g m) (record (after_packet n p missing) { unit = if c then None else Some own; ended_by_marker = if c then Some own else None }) d

    new_steady : Steady state sent first sender (Some (due_taken due sent_is.place)) (TookPacket (at k) ∷ ds) (marker_forgotten (with_unit_within limit (after_taken_rtp most b p))) (framing_marked g m) (after_packet (numbers_still g.stands_still n) p missing) d
    new_steady = took_steady state sent first sender due ds a f n d (at k) most limit missing sent_is in_time st is_next timely

    is_last : (sent_at sent (place + k)).marker ≡ true → k + 1 ≡ count
    is_last marker = elim (nat_lt (k + 1) count) as (λ c. nat_lt (k + 1) count ≡ c → k + 1 ≡ count) [
      | true ↦ λ e. absurd (
          let less : k + 1 < count = grind (arith, nat_tests) in
          let both = within_sent (k + 1) less in
          let same : place + k + 1 ≡ place + (k + 1) = omega arith in
          sender.marked (place + k) marker (omega (arith, both)) (ap (λ (x : ℕ). (sent_at sent x).timestamp) same ∙ unit.stamps (k + 1) less ∙ sym own_stamp))
      | false ↦ λ e. grind (arith, nat_tests, lt)
    ] refl

    pub taken_on : own.continues ≡ false → own.first ≡ sent_number first place → own.timestamp ≡ ts → (all : List AccessUnitValue) → b.ended ++ ended_by b p ≡ all → Others all (numbers_ended n.unit p.1.timestamp) →
        Always own.follows ⊎ ((Tells d own.follows ≡ true) × (all ≡ []) × (numbers_ended n.unit p.1.timestamp ≡ None)) →
        ((j : ℕ) → j < k + 1 → bears_slice state.format (sent_at sent (place + j)).payload ≡ true → g.has_slice ≡ true) → Then
    taken_on alone first_is stamp_is all all_is others tells slices = by m refl
      where
        opened : m ≡ false → Open (k + 1) (record (marker_forgotten (with_unit_within limit (after_taken_rtp most b p))) { unit = unit_within limit (Some (unit_with most b p)); ended = (b.ended ++ ended_by b p) ++ [] }) (framing_marked g m) (record (after_packet n p missing) { unit = Some own; ended_by_marker = None }) d
        opened is = record {
          unit_is = ap (λ (u : AccessUnitValue). unit_within limit (Some u)) own_unit ∙ rw text_short refl;
          state_is = ap (λ (x : Depacketization). x.state) own_work;
          expects = ap Some (next_place first (place + k)) ∙ ap (λ (x : ℕ). Some (sent_number first x)) (omega arith);
          present = refl;
          closed = refl;
          numbers = own;
          numbers_are = refl;
          stamp = stamp_is;
          alone = alone;
          first_is = first_is;
          tells = still tells;
          slices = slices;
          unmarked = λ i same marker j less bears.
              let i_is : i ≡ k = omega (arith, same) in
              let own_marker : (sent_at sent (place + k)).marker ≡ true = subst (λ (x : ℕ). (sent_at sent (place + x)).marker ≡ true) i_is marker in
              let believed_one : m ≡ true = rw (own_marker, slices j less bears, new_steady.marks) refl in
              let bad = sym is ∙ believed_one in cc;
        }
          where
            still : Always own.follows ⊎ ((Tells d own.follows ≡ true) × (all ≡ []) × (numbers_ended n.unit p.1.timestamp ≡ None)) → Always own.follows ⊎ ((Tells d own.follows ≡ true) × ((b.ended ++ ended_by b p) ++ [] ≡ []))
            still (inl always) = inl always
            still (inr (now, none, e)) = inr (now, append-nil (b.ended ++ ended_by b p) ∙ all_is ∙ none)

        good : m ≡ true → Good (whole_if (is_run_closed (after_taken_packet most (taken_by b p.1.timestamp) p.0 p.1.payload).at_work.state.run) (unit_with most b p)) own
        good is =
            let last = is_last (left_true (sent_at sent (place + k)).marker (g.has_slice && not g.marks_slices) is) in
            let work = ap (λ (x : Depacketization). is_run_closed x.state.run) own_work ∙ ap (λ (x : ℕ). is_run_closed (w x).state.run) last ∙ is_closed last in
            record {
              unit_is = ap (λ (c : Bool). whole_if c (unit_with most b p)) work ∙ ap (whole_if true) own_unit ∙ ap (λ (x : ℕ). unit_of (w x)) last;
              alone = alone;
              first_is = first_is;
            }

        waits : (u : AccessUnitValue) → Good u own → (e : Option AccessUnitNumbers) (units : List AccessUnitValue) → Others units e → Always own.follows ⊎ ((Tells d own.follows ≡ true) × (units ≡ []) × (e ≡ None)) → WaitsIn d (units ++ u ∷ []) e (Some own)
        waits u it e units (inl (none, e_is)) t = subst (λ (x : List AccessUnitValue). WaitsIn d (x ++ u ∷ []) e (Some own)) (sym none) (subst (λ (x : Option AccessUnitNumbers). WaitsIn d (u ∷ []) x (Some own)) (sym e_is) (it, told t))
          where
            told : Always own.follows ⊎ ((Tells d own.follows ≡ true) × (units ≡ []) × (e ≡ None)) → Tells d own.follows ≡ true
            told (inl always) = always d
            told (inr (now, none, e)) = now
        waits u it e units (inr (x, k, one, e_is)) (inl always) = subst (λ (y : List AccessUnitValue). WaitsIn d (y ++ u ∷ []) e (Some own)) (sym one) (subst (λ (y : Option AccessUnitNumbers). WaitsIn d (x ∷ u ∷ []) y (Some own)) (sym e_is) (inr (it, always)))
        waits u it e units (inr (x, k, one, e_is)) (inr (now, none, e_none)) = absurd (let bad = sym one ∙ none in cc)

        by : (c : Bool) → m ≡ c → Then
        by true is = subst ThenBy (sym is) (inr (subst (λ (x : List AccessUnitValue). WaitsIn d (x ++ whole_if (is_run_closed (after_taken_packet most (taken_by b p.1.timestamp) p.0 p.1.payload).at_work.state.run) (unit_with most b p) ∷ []) (numbers_ended n.unit p.1.timestamp) (Some own)) (sym all_is) (waits _ (good is) (numbers_ended n.unit p.1.timestamp) all others tells)))
        by false is = subst ThenBy (sym is) (inl (opened is))

  -- where the limits are kept, behind so many packets
  pub record Short (most limit k : ℕ) : Type 0 where
    pub unbroken : is_unit_broken (w k) (w (k + 1)) (sent_at sent (place + k)).payload ≡ false
    pub run : nat_lt most (run_len (w (k + 1)).state.run) ≡ false
    pub text : nat_lt limit (length (w (k + 1)).out) ≡ false
    pub closed : k + 1 ≡ count → is_run_closed (w count).state.run ≡ true

  split_less : (j k : ℕ) → j < k + 1 → (j < k) ⊎ (j ≡ k)
  split_less j k lt = elim (nat_lt j k) as (λ c. nat_lt j k ≡ c → (j < k) ⊎ (j ≡ k)) [
    | true ↦ λ e. inl (grind (arith, nat_tests))
    | false ↦ λ e. inr (grind (arith, nat_tests, lt))
  ] refl

  shows_slice : (a : Assembly) (payload : List ℕ) → a.state ≡ state_with_run state a.state.run → bears_slice state.format payload ≡ true → bears_slice a.state.format payload ≡ true
  shows_slice a payload kind bears = subst (λ (r : DepacketizerState). bears_slice r.format payload ≡ true) (sym kind) bears

  -- what stands once a packet was taken
  abbrev pub After : ℕ → ℕ → ℕ → ℕ → Assembly → Framing → NumbersSoFar → DecoderState → Packet → Type 0
  After most limit missing k a f n d p = let b = begun_for a p in let g = framing_of b f n p in let q = believed g p in
      Now k (marker_forgotten (with_unit_within limit (after_taken_rtp most b q))) (framing_marked g q.1.marker) (after_packet (numbers_still g.stands_still n) q missing) d

  -- a packet more of it
  module _ (due : Option ℕ) (ds : List Deed) (a : Assembly) (f : Framing) (n : NumbersSoFar) (d : DecoderState) (most limit k missing : ℕ) (lt : k < count) (sent_is : IsSentAt sent first (at k)) (in_time : IsInTime due sent_is.place) (st : Steady state sent first sender due ds a f n d) (is_next : ends_before a f (at k) ≡ false)
      (timely : is_late (begun_for a (at k)).expected (sent_number first (place + k)) ≡ false) (empty : a.ended ≡ []) (short : Short most limit k) where
    abbrev stamp_k : ℕ
    stamp_k = (sent_at sent (place + k)).timestamp

    abbrev bb : Assembly
    bb = begun_for a (at k)

    abbrev gg : Framing
    gg = framing_of bb f n (at k)

    abbrev pp : Packet
    pp = believed gg (at k)

    abbrev work_by : Option AccessUnitValue → DepacketizerState → Option ℕ → SequencedDepacketization
    work_by u r e = sequenced_depacketization (state_with_run r (if is_unit_at u stamp_k then r.run else None)) e (unit_at u stamp_k).bytes (unit_at u stamp_k).extra

    still_is : numbers_still gg.stands_still n ≡ n
    still_is = ap (λ (c : Bool). numbers_still c n) (took_steady state sent first sender due ds a f n d (at k) most limit missing sent_is in_time st is_next timely).still

    with_still : Now (k + 1) (marker_forgotten (with_unit_within limit (after_taken_rtp most bb pp))) (framing_marked gg pp.1.marker) (after_packet n pp missing) d → After most limit missing (k + 1) a f n d (at k)
    with_still it = subst (λ (x : NumbersSoFar). Now (k + 1) (marker_forgotten (with_unit_within limit (after_taken_rtp most bb pp))) (framing_marked gg pp.1.marker) (after_packet x pp missing) d) (sym still_is) it

    pub next_on : Open k a f n d → After most limit missing (k + 1) a f n d (at k)
    next_on it =
        let same : (ts == stamp_k) ≡ true = subst (λ (x : ℕ). (ts == x) ≡ true) (sym (unit.stamps k lt)) (own_same ts) in
        let at_unit : is_unit_at a.unit stamp_k ≡ true = ap (λ (u : Option AccessUnitValue). is_unit_at u stamp_k) it.unit_is ∙ same in
        let expects = ap (λ (e : Option ℕ). expected_for e (at k)) it.expects in
        let by_work : taken_by bb stamp_k ≡ with_expected (w k) (Some (sent_number first (place + k))) =
        ap (λ (u : Option AccessUnitValue). work_by u a.state bb.expected) it.unit_is
        ∙ ap (λ (r : DepacketizerState). work_by (Some (unit_of (w k))) r bb.expected) it.state_is
        ∙ ap (work_by (Some (unit_of (w k))) (w k).state) expects
        ∙ rw same refl in
        let is_new : (unit_at a.unit stamp_k).is_whole ≡ true = ap (λ (u : Option AccessUnitValue). (unit_at u stamp_k).is_whole) it.unit_is ∙ rw same refl in
        let same_numbers : (it.numbers.timestamp == stamp_k) ≡ true = subst (λ (x : ℕ). (x == stamp_k) ≡ true) (sym it.stamp) same in
        let own = unit_numbers n pp (missing_sum n.skipped_gap missing) in
        let own_is : own ≡ numbers_to it.numbers pp (missing_sum n.skipped_gap missing) =
        ap (λ (u : Option AccessUnitNumbers). numbers_with u n.marked n.has_begun n.has_taken n.carried pp (missing_sum n.skipped_gap missing)) it.numbers_are ∙ rw same_numbers refl in
        let none_ended : numbers_ended n.unit stamp_k ≡ None = ap (λ (u : Option AccessUnitNumbers). numbers_ended u stamp_k) it.numbers_are ∙ rw same_numbers refl in
        let ended_none : bb.ended ++ ended_by bb pp ≡ [] = rw (at_unit, empty) refl in
        let follows_is : own.follows ≡ it.numbers.follows = ap (λ (x : AccessUnitNumbers). x.follows) own_is in
        with_still (taken_on due ds a f n d most limit k missing lt sent_is in_time st is_next timely by_work is_new (unit_stamp a.unit stamp_k ∙ unit.stamps k lt) it.present expects short.unbroken short.run short.text short.closed
        (ap (λ (x : AccessUnitNumbers). x.continues) own_is ∙ it.alone) (ap (λ (x : AccessUnitNumbers). x.first) own_is ∙ it.first_is) (ap (λ (x : AccessUnitNumbers). x.timestamp) own_is ∙ it.stamp)
        [] ended_none (inl (refl, none_ended)) (tells follows_is none_ended it.tells) (λ j less bears. slices at_unit j (split_less j k less) bears))
      where
        tells : {follows now : Bool} {e : Option AccessUnitNumbers} → now ≡ follows → e ≡ None → Always follows ⊎ ((Tells d follows ≡ true) × (a.ended ≡ [])) → Always now ⊎ ((Tells d now ≡ true) × (no_units ≡ []) × (e ≡ None))
        tells same none (inl always) = inl (subst Always (sym same) always)
        tells same none (inr (told, ended)) = inr (subst (λ (x : Bool). Tells d x ≡ true) (sym same) told, refl, none)

        slices : is_unit_at a.unit stamp_k ≡ true → (j : ℕ) → (j < k) ⊎ (j ≡ k) → bears_slice state.format (sent_at sent (place + j)).payload ≡ true → gg.has_slice ≡ true
        slices at_unit j (inl less) bears = rw (at_unit, it.slices j less bears) refl
        slices at_unit j (inr same) bears = or_right (is_unit_at a.unit stamp_k && f.has_slice) (bears_slice a.state.format (sent_at sent (place + k)).payload)
            (shows_slice a (sent_at sent (place + k)).payload st.kind (subst (λ (x : ℕ). bears_slice state.format (sent_at sent (place + x)).payload ≡ true) same bears))

  -- a number is told of a stream that begins
  told_new : (due : Option ℕ) (number : ℕ) (ds : List Deed) → AreOfSender sent first due (ToldFirst number ∷ ds) → is_stream_new ds ≡ true
  told_new due number ds (told_its_first n told is_new of) = is_new

  -- before its first packet no access unit of its timestamp is open
  other_open : (due : Option ℕ) (ds : List Deed) (a : Assembly) (f : Framing) (n : NumbersSoFar) (d : DecoderState) → Steady state sent first sender due ds a f n d → AreOfSender sent first due ds → IsBegunSo state sent first place (w count) ds → is_unit_at a.unit ts ≡ true → ⊥
  other_open due ds a f n d st of (behind_packet j before place_is) opened = let same = st.opened ts opened in unit.front j place_is (let t : Some (sent_at sent j).timestamp ≡ Some ts = same in cc)
  other_open due ds a f n d st of (as_first_told before) opened = let bad = sym (new_closed state sent first sender before (told_new due (sent_number first place) before of)) ∙ st.opened ts opened in cc
  other_open due ds a f n d st of (by_front before apart front) opened = subst (λ (x : Option ℕ). IsOtherStamp x ts) (st.opened ts opened) apart refl
  other_open due ds a f n d st of (by_first_front before none front) opened = let bad = sym (ap (λ (u : Option AccessUnitValue). is_unit_at u ts) (st.none none).0) ∙ opened in cc

  -- and it is told whole, whether by what is before it or by what it begins with
  begun_tells : (due : Option ℕ) (ds : List Deed) (a : Assembly) (f : Framing) (n : NumbersSoFar) (d : DecoderState) (missing : ℕ) → missing ≡ 0 → Steady state sent first sender due ds a f n d → AreOfSender sent first due ds → IsBegunSo state sent first place (w count) ds →
      Always (n.has_begun && (missing_sum n.skipped_gap missing == 0)) ⊎ ((Tells d (n.has_begun && (missing_sum n.skipped_gap missing == 0)) ≡ true) × (a.unit ≡ None))
  begun_tells due ds a f n d missing none_missing st of (behind_packet j before place_is) = let last = st.last in inl (λ x. rw (last.2, last.3, none_missing) refl)
  begun_tells due ds a f n d missing none_missing st of (as_first_told before) = let last = st.last in inl (λ x. rw (last.2, last.3, none_missing) refl)
  begun_tells due ds a f n d missing none_missing st of (by_front before apart front) = inl (λ x. or_right (n.has_begun && (missing_sum n.skipped_gap missing == 0)) _ (front x))
  begun_tells due ds a f n d missing none_missing st of (by_first_front before none front) = inr (or_right (n.has_begun && (missing_sum n.skipped_gap missing == 0)) _ (front_same d (w count).extra (content_of state.is_avc (w count).extra (w count).out).first (st.none none).2 ∙ front), (st.none none).0)

  -- its first packet
  pub begin_on : (due : Option ℕ) (ds : List Deed) (a : Assembly) (f : Framing) (n : NumbersSoFar) (d : DecoderState) (most limit k missing : ℕ) → k ≡ 0 → (lt : k < count) → (sent_is : IsSentAt sent first (at k)) → IsInTime due sent_is.place → (st : Steady state sent first sender due ds a f n d) → (is_next : ends_before a f (at k) ≡ false) →
      (timely : is_late (begun_for a (at k)).expected (sent_number first (place + k)) ≡ false) → missing ≡ missing_count (begun_for a (at k)).expected (sent_number first (place + k)) → a.ended ≡ [] → Short most limit k → AreOfSender sent first due ds → IsBegunSo state sent first place (w count) ds → After most limit missing (k + 1) a f n d (at k)
  begin_on due ds a f n d most limit k missing k_is lt sent_is in_time st is_next timely missing_is empty short of begun =
      let t = (sent_at sent (place + k)).timestamp in
      let place_is : place + k ≡ place = omega (arith, k_is) in
      let t_is : ts ≡ t = ap (λ (x : ℕ). (sent_at sent x).timestamp) (sym place_is) in
      let b = begun_for a (at k) in
      let q = believed (framing_of b f n (at k)) (at k) in
      let other : is_unit_at a.unit t ≡ false = subst (λ (x : ℕ). is_unit_at a.unit x ≡ false) t_is (no_true (is_unit_at a.unit ts) (other_open due ds a f n d st of begun)) in
      let turn = in_turn state sent first sender a f (at k) other (text_is state sent first sender (at k) sent_is) is_next timely st.no_gap in
      let number = sent_number first (place + k) in
      let start : w k ≡ nothing_written state = ap w k_is ∙ w_none in
      let by_work : taken_by b t ≡ with_expected (w k) (Some number) =
      ap (λ (c : Bool). sequenced_depacketization (state_with_run a.state (if c then a.state.run else None)) b.expected (unit_at a.unit t).bytes (unit_at a.unit t).extra) other
      ∙ ap (λ (u : AccessUnitValue). sequenced_depacketization (state_with_run a.state None) b.expected u.bytes u.extra) (new_unit a.unit t other)
      ∙ ap (λ (r : DepacketizerState). sequenced_depacketization r b.expected [] extras.None) (kind_with state [] [] a.state st.kind None)
      ∙ ap (λ (e : Option ℕ). with_expected (nothing_written state) e) turn.expects
      ∙ ap (λ (v : Depacketization). with_expected v (Some number)) (sym start) in
      let is_new : (unit_at a.unit t).is_whole ≡ true = ap (λ (u : AccessUnitValue). u.is_whole) (new_unit a.unit t other) in
      let own_is = begun_is a.unit n.unit n q (missing_sum n.skipped_gap missing) st.sync other in
      let none_missing : missing ≡ 0 = missing_is ∙ ap (λ (e : Option ℕ). missing_count e number) turn.expects ∙ own_distance first (place + k) in
      let holds = follows b q && is_run_closed b.state.run in
      with_still due ds a f n d most limit k missing lt sent_is in_time st is_next timely empty short
      (taken_on due ds a f n d most limit k missing lt sent_is in_time st is_next timely by_work is_new (unit_stamp a.unit t ∙ sym t_is) turn.present turn.expects short.unbroken short.run short.text short.closed
      (ap (λ (x : AccessUnitNumbers). x.continues) own_is ∙ not_closed state sent first sender due a f n (at k) sent_is in_time is_next timely st.no_gap st.marked)
      (ap (λ (x : AccessUnitNumbers). x.first) own_is ∙ ap (sent_number first) place_is)
      (ap (λ (x : AccessUnitNumbers). x.timestamp) own_is ∙ sym t_is)
      (given_out holds a.unit) (rw (other, empty) refl) (others_of holds a.unit n.unit t st.sync other)
      (tells (ap (λ (x : AccessUnitNumbers). x.follows) own_is) holds (begun_tells due ds a f n d missing none_missing st of begun))
      (λ j less bears. or_right (is_unit_at a.unit t && f.has_slice) (bears_slice a.state.format (sent_at sent (place + k)).payload)
      (shows_slice a (sent_at sent (place + k)).payload st.kind (subst (λ (x : ℕ). bears_slice state.format (sent_at sent x).payload ≡ true) (omega (arith, k_is, less)) bears))))
    where
      no_true : (x : Bool) → (x ≡ true → ⊥) → x ≡ false
      no_true true e = absurd (e refl)
      no_true false e = refl

      own_distance : (first place : ℕ) → distance_ahead (sent_number first place) (sent_number first place) ≡ 0
      own_distance first place = omega arith

      tells : {follows now : Bool} → now ≡ follows → (holds : Bool) → Always follows ⊎ ((Tells d follows ≡ true) × (a.unit ≡ None)) →
          Always now ⊎ ((Tells d now ≡ true) × (given_out holds a.unit ≡ no_units) × (numbers_ended n.unit (sent_at sent (place + k)).timestamp ≡ None))
      tells same holds (inl always) = inl (subst Always (sym same) always)
      tells same holds (inr (told, none_open)) = inr (
        subst (λ (x : Bool). Tells d x ≡ true) (sym same) told,
        ap (given_out holds) none_open,
        ap (λ (u : Option AccessUnitNumbers). numbers_ended u (sent_at sent (place + k)).timestamp) (none_numbers a.unit n.unit st.sync none_open),
      )

  -- the packet behind it, which has another timestamp
  pub next_ends : (due : Option ℕ) (ds : List Deed) (a : Assembly) (f : Framing) (n : NumbersSoFar) (d : DecoderState) (most limit missing : ℕ) → place + count < length sent → (sent_is : IsSentAt sent first (at count)) → IsInTime due sent_is.place → (st : Steady state sent first sender due ds a f n d) → (is_next : ends_before a f (at count) ≡ false) →
      (timely : is_late (begun_for a (at count)).expected (sent_number first (place + count)) ≡ false) → a.ended ≡ [] → is_run_closed (w count).state.run ≡ true → Open count a f n d →
      let b = begun_for a (at count) in let g = framing_of b f n (at count) in let q = believed g (at count) in
      WaitsIn d (with_unit_within limit (after_taken_rtp most b q)).ended (after_packet (numbers_still g.stands_still n) q missing).ended (after_packet (numbers_still g.stands_still n) q missing).ended_by_marker
  next_ends due ds a f n d most limit missing lt sent_is in_time st is_next timely empty closed it =
      let t = (sent_at sent (place + count)).timestamp in
      let b = begun_for a (at count) in
      let g = framing_of b f n (at count) in
      let q = believed g (at count) in
      let still = (took_steady state sent first sender due ds a f n d (at count) most limit missing sent_is in_time st is_next timely).still in
      let new : (ts == t) ≡ false = not_same ts t (λ same. unit.back lt (sym same)) in
      let other : is_unit_at a.unit t ≡ false = ap (λ (u : Option AccessUnitValue). is_unit_at u t) it.unit_is ∙ new in
      let expects : b.expected ≡ Some (sent_number first (place + count)) = ap (λ (e : Option ℕ). expected_for e (at count)) it.expects in
      let follows_it : follows b q ≡ true = rw (it.present, it.closed, expects) (own_same (sent_number first (place + count))) in
      let closed_it : is_run_closed a.state.run ≡ true = ap (λ (r : DepacketizerState). is_run_closed r.run) it.state_is ∙ closed in
      let ended_is : ended_by b q ≡ unit_of (w count) ∷ [] = rw (other, follows_it, closed_it) (ap (given_out true) it.unit_is) in
      let other_numbers : (it.numbers.timestamp == t) ≡ false = subst (λ (x : ℕ). (x == t) ≡ false) (sym it.stamp) new in
      let unit_numbers_is : (numbers_still g.stands_still n).unit ≡ Some it.numbers = ap (λ (c : Bool). (numbers_still c n).unit) still ∙ it.numbers_are in
      let numbers_is : numbers_ended (numbers_still g.stands_still n).unit t ≡ Some it.numbers = ap (λ (u : Option AccessUnitNumbers). numbers_ended u t) unit_numbers_is ∙ rw other_numbers refl in
      let own : List AccessUnitValue = if q.1.marker then whole_if (is_run_closed (after_taken_packet most (taken_by b t) q.0 q.1.payload).at_work.state.run) (unit_with most b q) ∷ [] else [] in
      let ended_all : (a.ended ++ ended_by b q) ++ own ≡ unit_of (w count) ∷ own = ap (λ (x : List AccessUnitValue). (x ++ ended_by b q) ++ own) empty ∙ ap (λ (x : List AccessUnitValue). x ++ own) ended_is in
      let good : Good (unit_of (w count)) it.numbers = record { unit_is = refl; alone = it.alone; first_is = it.first_is } in
      let marked = (after_packet (numbers_still g.stands_still n) q missing).ended_by_marker in
      subst (λ (x : List AccessUnitValue). WaitsIn d x (numbers_ended (numbers_still g.stands_still n).unit t) marked) (sym ended_all)
      (subst (λ (x : Option AccessUnitNumbers). WaitsIn d (unit_of (w count) ∷ own) x marked) (sym numbers_is) (inl (good, told it.numbers.follows it.tells)))
    where
      told : (follows : Bool) → Always follows ⊎ ((Tells d follows ≡ true) × (a.ended ≡ [])) → Tells d follows ≡ true
      told follows (inl always) = always d
      told follows (inr (now, e)) = now
