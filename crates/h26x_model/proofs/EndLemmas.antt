-- The laws of the two ends.
use Rattle.std.proofs.Common.{◌≡◌, ℕ, ◌+◌, ◌%◌, ◌<◌, ◌≤◌, Bool, true, false, cond, List, [], ◌∷◌, ◌++◌, length, map, Result, Ok, Err, refl, sym, ap, ◌∙◌, subst, arith, ◌⊎◌, inl, inr, ⊎_elim}
use Rattle.std.specs.Prelude.{nat_lt, filter, MatchBool, ◌&&◌, ◌||◌, Option}
use Rattle.std.specs.List.{flat_map, list_all, list_any, AllByRecursion}
use Rattle.std.proofs.lemmas.Bool.{and_parts}
use Rattle.std.proofs.lemmas.List.Folds.{list_any-append}
use Rattle.std.proofs.Math.Nat.{mod-eq_of_lt}
use Rattle.h26x_core.specs.declared.error.PacketError.{PacketError}
use Rattle.h26x_core.specs.declared.error.PacketError.TheVariants.{AvcUnitTooLong, OutOfMemory}
use Rattle.h26x_core.specs.Kind.{Kind, Skipped, is_other}
use Rattle.h26x_model.specs.Payload.Format.{Format}
use Rattle.h26x_model.specs.Send.Group.{Entry}
use Rattle.h26x_model.specs.Send.Calls.{Call, AreCalls, call_limit, call_entries, all_entries}
use Rattle.h26x_model.specs.Send.Plan.{Item, Alone, Together, fits_one_packet, is_dropped, item_units, unit_items, entry_items, sets_items}
use Rattle.h26x_model.specs.Send.WaitingSets.{WaitingSets, sets_waiting, sets_are_sent, waiting_after_unit, outgoing_items, plan_with_waiting, waiting_after, entries_with_limit}
use Rattle.h26x_model.specs.Send.Packets.{item_packets, plan_packets}
use Rattle.h26x_model.specs.Send.Limit.{AreWithinLimit, ItemIsWithinLimit, item_limit}
use Rattle.h26x_model.specs.Payload.Reading.{Reading, Single, Aggregate, Fragment, Paci, Refused, IsRead}
use Rattle.h26x_model.specs.Receive.Received.{run_after, reading_units}
use Rattle.h26x_model.specs.Receive.Outcome.{is_too_long, IsReadingOutcome}
use Rattle.h26x_model.specs.Payload.Facts.{FitsLimits, DonlHasTwoBytes, IsPayloadFormat, AreCarried}
use Rattle.h26x_model.specs.Send.PacketizerState.{PacketizerState, IsPacketizerState, state_plan, state_units, state_packets, don_after, after_entries, is_skipped, has_no_effect, IsSentAsPlanned, AreOfCalls}
use Rattle.h26x_model.specs.Receive.DepacketizerState.{DepacketizerState, Depacketization, readings_units, run_after_readings, units_brought, after_packets, IsRefusalCause}
use Rattle.h26x_model.specs.Carry.Laws.{PacketizerGoesOn, DepacketizerGoesOn, CarriesWhole}
use Rattle.h26x_model.proofs.LimitLemmas.{all_both}
use Rattle.h26x_model.proofs.NumberLemmas.{numbers_are}
use Rattle.h26x_model.proofs.DetectionLemmas.{are_detected}
use Rattle.h26x_model.proofs.AcceptedLemmas.{all_read}
use Rattle.h26x_model.proofs.ExtraLemmas.{first_is_told}
use Rattle.h26x_model.proofs.SentLemmas.{all_parts, all_received, can_send, entries_of_calls}
use Rattle.std.proofs.lemmas.List.Concat.{flat_map-append}
use Rattle.h26x_model.proofs.WaitLemmas.{waits-waiting}
use Rattle.h26x_model.proofs.SenderLemmas.{as_plan, plan_with-append, sent_by-append, packets_by-append, after-append, still_sender, sender_plans, sender_within}
use Rattle.h26x_model.proofs.ReceiverLemmas.{whatever_run, after_is_from, work_after-nil, work_after-append, brought-append}

-- a kind that is skipped
skipped_is : (k : Kind) → is_skipped k ≡ true → k ≡ Skipped
skipped_is Skipped e = refl
skipped_is k e = absurd cc

-- entries of no effect: nothing is sent, and the same sets wait
abbrev NothingOf : Format → WaitingSets → List Entry → Type 0
NothingOf f w entries = (plan_with_waiting f w entries ≡ []) × (waiting_after f w entries ≡ w)

-- so of skipped units
skipped_units : (f : Format) (w : WaitingSets) (limit : ℕ) (units : List (List ℕ)) → list_all (λ unit. is_skipped (f.kind unit)) units ≡ true → NothingOf f w (entries_with_limit limit units)
skipped_units f w limit [] all = (refl, refl)
skipped_units f w limit (unit ∷ units) all =
    let p = and_parts (is_skipped (f.kind unit)) (list_all (λ u. is_skipped (f.kind u)) units) all in
    let is = skipped_is (f.kind unit) p.0 in
    let later = skipped_units f w limit units p.1 in
    let now : outgoing_items f w (record { unit = unit; limit = limit }) ≡ [] = rw is refl in
    let wait : waiting_after_unit f w unit ≡ w = rw is refl in (
      ap (λ (x : List Item). x ++ plan_with_waiting f (waiting_after_unit f w unit) (entries_with_limit limit units)) now ∙ ap (λ v. plan_with_waiting f v (entries_with_limit limit units)) wait ∙ later.0,
      ap (λ v. waiting_after f v (entries_with_limit limit units)) wait ∙ later.1,
    )

-- and of a call without effect
call_without : (f : Format) (w : WaitingSets) (call : Call) → has_no_effect f call ≡ true → NothingOf f w (call_entries f call)
call_without f w call none =
    elim (nat_lt call.mtu f.least_mtu) as (λ b. (b || list_all (λ unit. is_skipped (f.kind unit)) (f.units call.payload)) ≡ true →
    NothingOf f w (cond b [] (entries_with_limit (call_limit f call) (f.units call.payload)))) [
      | true ↦ λ _. (refl, refl)
      | false ↦ λ all. skipped_units f w (call_limit f call) (f.units call.payload) all
    ] none

-- a counter that goes on by nothing
counted_none : (has_donl : Bool) (n : ℕ) → n < 65536 → don_after has_donl n 0 ≡ n
counted_none true n small = let same : n + 0 ≡ n = omega arith in ap (λ x. x % 65536) same ∙ mod-eq_of_lt small
counted_none false n small = refl

-- where nothing is sent and the same sets wait the packetizer is the same
same_sender : (s : PacketizerState) (entries : List Entry) → IsPacketizerState s → NothingOf s.format s.waiting entries → after_entries s entries ≡ s
same_sender s entries is (none, wait) =
    let next_don : don_after s.format.has_donl s.next_don (length (state_units s entries)) ≡ s.next_don =
    ap (λ (items : List Item). don_after s.format.has_donl s.next_don (length (flat_map item_units items))) none ∙ counted_none s.format.has_donl s.next_don is.small in
    rw (wait, next_don) refl

-- items of a call have its limit
abbrev HaveLimit : ℕ → List Item → Type 0
HaveLimit limit items = AllByRecursion (λ item. item_limit item ≡ limit) items

-- sets that go alone
each_alone : (limit : ℕ) (sets : List (List ℕ)) → HaveLimit limit (map (Alone limit) sets)
each_alone limit [] = tt
each_alone limit (set ∷ sets) = (refl, each_alone limit sets)

-- sets that are due
sets_limit : (f : Format) (limit : ℕ) (sets : List (List ℕ)) (unit : List ℕ) → HaveLimit limit (sets_items f limit sets unit)
sets_limit f limit sets unit = elim (f.sets_fit limit sets) as (λ b.
    HaveLimit limit (cond b (Together limit sets unit ∷ []) (map (Alone limit) (filter (fits_one_packet f limit) sets)))) [
      | true ↦ (refl, tt)
      | false ↦ each_alone limit (filter (fits_one_packet f limit) sets)
    ]

-- an entry's unit
entry_limit : (f : Format) (e : Entry) → HaveLimit e.limit (entry_items f e)
entry_limit f e = elim (is_other (f.kind e.unit)) as (λ b. HaveLimit e.limit (cond b (unit_items f e.limit e.unit) [])) [
  | true ↦ elim (is_dropped f e.limit e.unit) as (λ b. HaveLimit e.limit (cond b [] (Alone e.limit e.unit ∷ []))) [ true ↦ tt | false ↦ (refl, tt) ]
  | false ↦ tt
]

-- what goes when an entry comes
now_limit : (f : Format) (w : WaitingSets) (e : Entry) → HaveLimit e.limit (outgoing_items f w e)
now_limit f w e =
    let sets = sets_items f e.limit (sets_waiting w) e.unit in
    all_both (λ item. item_limit item ≡ e.limit) (cond (sets_are_sent (f.kind e.unit) w) sets []) (entry_items f e)
    (elim (sets_are_sent (f.kind e.unit) w) as (λ b. HaveLimit e.limit (cond b sets [])) [ true ↦ sets_limit f e.limit (sets_waiting w) e.unit | false ↦ tt ])
    (entry_limit f e)

-- what goes for units at one limit
units_limit : (f : Format) (w : WaitingSets) (limit : ℕ) (units : List (List ℕ)) → HaveLimit limit (plan_with_waiting f w (entries_with_limit limit units))
units_limit f w limit [] = tt
units_limit f w limit (unit ∷ units) =
    let e : Entry = record { unit = unit; limit = limit } in
    all_both (λ item. item_limit item ≡ limit) (outgoing_items f w e) (plan_with_waiting f (waiting_after_unit f w unit) (entries_with_limit limit units))
    (now_limit f w e) (units_limit f (waiting_after_unit f w unit) limit units)

-- what goes for a call
items_of_call_limit : (f : Format) (w : WaitingSets) (call : Call) → HaveLimit (call_limit f call) (plan_with_waiting f w (call_entries f call))
items_of_call_limit f w call = elim (nat_lt call.mtu f.least_mtu) as (λ b. HaveLimit (call_limit f call) (plan_with_waiting f w (cond b [] (entries_with_limit (call_limit f call) (f.units call.payload))))) [
  | true ↦ tt
  | false ↦ units_limit f w (call_limit f call) (f.units call.payload)
]

-- so the packets of items of one limit are within it
items_within : (f : Format) (n limit : ℕ) (items : List Item) → HaveLimit limit items → AllByRecursion (ItemIsWithinLimit f) items → AreWithinLimit limit (plan_packets f n items)
items_within f n limit [] have each = tt
items_within f n limit (item ∷ items) (is, have) (here, later) =
    all_both (λ packet. length packet ≤ limit) (item_packets f n item) (plan_packets f (n + length (item_units item)) items)
    (subst (λ l. AreWithinLimit l (item_packets f n item)) is (here n)) (items_within f (n + length (item_units item)) limit items have later)

-- what a call does, by the plan of the sets that waited and its units
sent_as_planned : (s : PacketizerState) → FitsLimits s.format → IsPacketizerState s → (call : Call) → IsSentAsPlanned s call (state_packets s (call_entries s.format call)) (after_entries s (call_entries s.format call))
sent_as_planned s fits is call =
    let f = s.format in
    let limit = call_limit f call in
    let entries = call_entries f call in
    let planned = as_plan s entries is limit in
    record {
      packets_are = ap (plan_packets f s.next_don) (sym planned);
      within = items_within f s.next_don limit (state_plan s entries) (items_of_call_limit f s.waiting call) (sender_within s is fits entries);
      waits = sym (waits-waiting f limit s.waiting entries is.sets);
      next_don = ap (λ (items : List Item). don_after f.has_donl s.next_don (length (flat_map item_units items))) (sym planned);
      format = refl;
      max_packet_size = refl;
    }

-- the packets of calls, call by call
call_lists : PacketizerState → List Call → List (List (List ℕ))
call_lists s [] = []
call_lists s (call ∷ calls) = state_packets s (call_entries s.format call) ∷ call_lists (after_entries s (call_entries s.format call)) calls

-- those of each call are within its limit
lists_within : (s : PacketizerState) (calls : List Call) → IsPacketizerState s → FitsLimits s.format → AreOfCalls s calls (call_lists s calls)
unfolding call_lists
lists_within s [] is ok = tt
lists_within s (call ∷ calls) is ok =
    let entries = call_entries s.format call in (
      refl,
      (sent_as_planned s ok is call).within,
      lists_within (after_entries s entries) calls (still_sender s entries is) ok,
    )

-- and joined they are the packets of all calls
lists_joined : (s : PacketizerState) (calls : List Call) → DonlHasTwoBytes s.format → flat_map (λ (list : List (List ℕ)). list) (call_lists s calls) ≡ state_packets s (all_entries s.format calls)
unfolding call_lists
lists_joined s [] dons = refl
lists_joined s (call ∷ calls) dons =
    let entries = call_entries s.format call in
    ap (λ (x : List (List ℕ)). state_packets s entries ++ x) (lists_joined (after_entries s entries) calls dons)
    ∙ sym (packets_by-append s dons entries (all_entries s.format calls))

-- a packetizer goes on
pub sender_goes_on : (s : PacketizerState) → FitsLimits s.format → DonlHasTwoBytes s.format → IsPacketizerState s → PacketizerGoesOn s
sender_goes_on s fits dons is = record {
  sent = sent_by-append s;
  packets = packets_by-append s dons;
  later = after-append s;
  stays = λ a. still_sender s a is;
  none = same_sender s [] is (refl, refl);
  no_effect = λ call none. let h = call_without s.format s.waiting call none in (h.0, same_sender s (call_entries s.format call) is h);
  planned = sent_as_planned s fits is;
  within = λ calls. record {
    lists = call_lists s calls;
    of_calls = lists_within s calls is fits;
    joined = lists_joined s calls dons;
  };
}

-- a depacketizer goes on
pub receiver_goes_on : (w : Depacketization) → IsPayloadFormat w.state.format → DepacketizerGoesOn w
receiver_goes_on w ok = record {
  none = work_after-nil w;
  more = work_after-append w ok.extra;
  brings = λ none packets. ap (λ run. readings_units run (map w.state.format.read packets)) none ∙ sym (after_is_from [] (map w.state.format.read packets));
}

-- what is read is refused for want of memory, or in AVC form for a unit that is too long
by_length : (avc long : Bool) (e : PacketError) (answer : Result (Unit {0}) PacketError) → answer ≡ Err e →
    MatchBool (avc && long) (answer ≡ Err AvcUnitTooLong) ((answer ≡ Ok tt) ⊎ (answer ≡ Err OutOfMemory)) →
    (e ≡ OutOfMemory) ⊎ ((avc ≡ true) × (long ≡ true) × (e ≡ AvcUnitTooLong))
by_length true true e answer is h = inr (refl, refl, cc)
by_length true false e answer is (inl h) = absurd cc
by_length true false e answer is (inr h) = inl cc
by_length false long e answer is (inl h) = absurd cc
by_length false long e answer is (inr h) = inl cc

-- the same of a reading
cause_of : (avc : Bool) (run : Option (List ℕ)) (reading : Reading) (e : PacketError) → IsRead reading → IsReadingOutcome avc run reading (Err e) →
    (e ≡ OutOfMemory) ⊎ ((avc ≡ true) × (list_any is_too_long (reading_units run reading) ≡ true) × (e ≡ AvcUnitTooLong))
cause_of avc run (Refused error) e read outcome = absurd read
cause_of avc run (Single unit don) e read outcome = by_length avc _ e (Err e) refl outcome
cause_of avc run (Aggregate units) e read outcome = by_length avc _ e (Err e) refl outcome
cause_of avc run (Fragment start end head don body) e read outcome = by_length avc _ e (Err e) refl outcome
cause_of avc run (Paci head fields extension body) e read outcome = by_length avc _ e (Err e) refl outcome

-- of three tests one holds where the middle one does
middle : (a b c : Bool) → b ≡ true → (a || (b || c)) ≡ true
middle true b c e = refl
middle false true c e = refl
middle false false c e = absurd cc

-- the units that a packet brings after others are among those that all bring
long_there : (r : DepacketizerState) (taken later : List (List ℕ)) (packet : List ℕ) →
    list_any is_too_long (reading_units (run_after_readings r.run (map r.format.read taken)) (r.format.read packet)) ≡ true →
    list_any is_too_long (units_brought r (taken ++ packet ∷ later)) ≡ true
long_there r taken later packet long =
    let run = run_after_readings r.run (map r.format.read taken) in
    let here = reading_units run (r.format.read packet) in
    let others = readings_units (run_after run (r.format.read packet)) (map r.format.read later) in
    ap (list_any is_too_long) (brought-append r taken (packet ∷ later))
    ∙ list_any-append is_too_long (units_brought r taken) (here ++ others)
    ∙ ap (λ b. list_any is_too_long (units_brought r taken) || b) (list_any-append is_too_long here others)
    ∙ middle (list_any is_too_long (units_brought r taken)) (list_any is_too_long here) (list_any is_too_long others) long

-- where packets are all read, why the one behind a front is refused
stopped_by : (w : Depacketization) (taken left : List (List ℕ)) (error : PacketError) → AllByRecursion (λ packet. IsRead (w.state.format.read packet)) (taken ++ left) →
    IsRefusalCause (after_packets w taken) left error →
    (error ≡ OutOfMemory)
    ⊎ ((w.state.is_avc ≡ true) × (list_any is_too_long (units_brought w.state (taken ++ left)) ≡ true) × (error ≡ AvcUnitTooLong))
stopped_by w taken left error read (inl memory) = inl memory
stopped_by w taken left error read (inr (packet, later, here, outcome)) =
    let f = w.state.format in
    let reads = all_parts (λ packet. IsRead (f.read packet)) taken left read in
    let run = run_after_readings w.state.run (map f.read taken) in
    let long = long_there w.state taken later packet in
    ⊎_elim
    (λ (memory : error ≡ OutOfMemory). inl memory)
    (λ (avc, too_long, is). inr (avc, rw here (long too_long), is))
    (cause_of w.state.is_avc run (f.read packet) error (subst (AllByRecursion (λ packet. IsRead (f.read packet))) here reads.1).0 outcome)

-- what calls send is carried whole
pub carries_whole : (s : PacketizerState) (w : Depacketization) (calls : List Call) → IsPayloadFormat s.format → IsPacketizerState s → AreCalls calls → w.state.format ≡ s.format →
    AreCarried s.format (state_units s (all_entries s.format calls)) → CarriesWhole s w calls
carries_whole s w calls ok is small same carried =
    let f = s.format in
    let entries = all_entries f calls in
    let items = state_plan s entries in
    let plans = sender_plans s is ok.sets ok.other entries (entries_of_calls f calls small) carried in
    let send = can_send f ok.reads items plans in
    let all : units_brought w.state (state_packets s entries) ≡ state_units s entries =
    ap (λ (g : Format). readings_units w.state.run (map g.read (state_packets s entries))) same
    ∙ whatever_run (map f.read (state_packets s entries)) (state_units s entries) (λ earlier. all_received f ok.reads s.next_don items earlier send) w.state.run in
    let read = all_read f ok.reads s.next_don items send in
    let why : (taken left : List (List ℕ)) (error : PacketError) → state_packets s entries ≡ taken ++ left → IsRefusalCause (after_packets w taken) left error →
    (error ≡ OutOfMemory) ⊎ ((w.state.is_avc ≡ true) × (list_any is_too_long (state_units s entries) ≡ true) × (error ≡ AvcUnitTooLong)) =
    λ taken left error front cause. rw (← all, front) (stopped_by w taken left error
    (subst (λ (g : Format). AllByRecursion (λ packet. IsRead (g.read packet)) (taken ++ left)) (sym same) (subst (AllByRecursion (λ packet. IsRead (f.read packet))) front read)) cause) in
    record {
      received = all;
      dons = numbers_are f ok.reads s.next_don items send;
      detected = are_detected f ok.detects ok.reads s.next_don items plans;
      told = first_is_told f ok.extra ok.reads.header (state_units s entries) carried;
      read = read;
      refused = λ short taken left error front cause. ⊎_elim
          (λ (memory : error ≡ OutOfMemory). memory)
          (λ (avc, long, is). let none = short avc in absurd cc)
          (why taken left error front cause);
      causes = λ taken left error front cause. ⊎_elim (λ (memory : error ≡ OutOfMemory). inl memory) (λ (avc, long, is). inr (avc, is)) (why taken left error front cause);
    }

-- what is planned of entries between others that are of no effect
between : (s : PacketizerState) → IsPayloadFormat s.format → IsPacketizerState s → (b c l : List Entry) →
    ((t : PacketizerState) → t.format ≡ s.format → IsPacketizerState t → NothingOf t.format t.waiting c) →
    (state_plan s (b ++ (c ++ l)) ≡ state_plan s (b ++ l)) × (after_entries s (b ++ (c ++ l)) ≡ after_entries s (b ++ l))
between s ok is b c l nothing =
    let t = after_entries s b in
    let t_is = still_sender s b is in
    let none = nothing t refl t_is in
    let same : after_entries t c ≡ t = same_sender t c t_is none in (
      plan_with-append s.format s.waiting b (c ++ l)
          ∙ ap (λ (x : List Item). state_plan s b ++ x) (
          plan_with-append s.format t.waiting c l ∙ ap (λ (x : List Item). x ++ state_plan (after_entries t c) l) none.0 ∙ ap (λ v. plan_with_waiting s.format v l) none.1)
          ∙ sym (plan_with-append s.format s.waiting b l),
      after-append s b (c ++ l) ∙ after-append t c l ∙ ap (λ (x : PacketizerState). after_entries x l) same ∙ sym (after-append s b l),
    )

-- a call without effect may be left out
pub left_out : (s : PacketizerState) → IsPayloadFormat s.format → IsPacketizerState s → (before later : List Call) (call : Call) → has_no_effect s.format call ≡ true →
    (state_plan s (all_entries s.format (before ++ call ∷ later)) ≡ state_plan s (all_entries s.format (before ++ later)))
    × (after_entries s (all_entries s.format (before ++ call ∷ later)) ≡ after_entries s (all_entries s.format (before ++ later)))
left_out s ok is before later call none =
    let f = s.format in
    let with_it : all_entries f (before ++ call ∷ later) ≡ all_entries f before ++ (call_entries f call ++ all_entries f later) = flat_map-append (call_entries f) before (call ∷ later) in
    let without : all_entries f (before ++ later) ≡ all_entries f before ++ all_entries f later = flat_map-append (call_entries f) before later in
    let h = between s ok is (all_entries f before) (call_entries f call) (all_entries f later)
    (λ t same t_is. subst (λ (g : Format). has_no_effect g call ≡ true → NothingOf g t.waiting (call_entries f call)) (sym same) (λ n. call_without f t.waiting call n)
    (subst (λ (g : Format). has_no_effect g call ≡ true) (sym same) none)) in
    (ap (state_plan s) with_it ∙ h.0 ∙ ap (state_plan s) (sym without), ap (after_entries s) with_it ∙ h.1 ∙ ap (after_entries s) (sym without))
