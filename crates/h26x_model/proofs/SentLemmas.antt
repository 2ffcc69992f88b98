-- What is planned of units that are carried can be sent, and what can be sent is received.
use Rattle.std.proofs.Common.{◌≡◌, ℕ, ◌+◌, ◌≤◌, ◌<◌, Bool, true, false, cond, List, [], ◌∷◌, ◌++◌, length, map, refl, sym, ap, ◌∙◌, subst, length-append, arith}
use Rattle.std.specs.Prelude.{◌&&◌, nat_le, nat_lt, filter, IsTrue}
use Rattle.std.specs.List.{AllByRecursion, flat_map, list_any, list_all}
use Rattle.std.proofs.lemmas.Bool.{lt-leb, and_parts}
use Rattle.std.proofs.lemmas.List.{length-map}
use Rattle.h26x_core.specs.Kind.{Kind, Other, is_vps, is_sps, is_pps, is_other}
use Rattle.h26x_core.specs.ByteStream.{is_not_empty}
use Rattle.h26x_model.specs.Payload.Format.{Format, IsLimit, donl_len, fragment_header_len}
use Rattle.h26x_model.specs.Send.Group.{Entry, Group, completes_group, latest_of_kind, latest_sets, AreGroups}
use Rattle.h26x_model.specs.Send.Plan.{Item, Alone, Together, fits_one_packet, is_dropped, unit_items, entry_items, sets_items, item_units, plan, units_sent, KeepsLast}
use Rattle.h26x_model.specs.Send.WaitingSets.{entries_with_limit}
use Rattle.h26x_model.specs.Send.Packets.{item_packets, plan_packets}
use Rattle.h26x_model.specs.Payload.Reading.{Reading}
use Rattle.h26x_model.specs.Receive.Received.{units_after}
use Rattle.h26x_model.specs.Carry.Loss.{keep, packets_left, AreMasks, AreAllUnitsLeft}
use Rattle.h26x_model.specs.Send.Calls.{Call, AreCalls, call_limit, call_entries, all_entries}
use Rattle.h26x_model.specs.Payload.Facts.{AreCarried, SetsLeaveRoom, KeyUnitsAreOther, ReadsWhatItWrites, IsPlanned, CanSend}
use Rattle.h26x_model.proofs.PlanLemmas.{tail, plan-tail, any-latest}
use Rattle.h26x_model.proofs.LimitLemmas.{all_both}
use Rattle.h26x_model.proofs.LossLemmas.{items_left}
use Rattle.h26x_model.proofs.AgainLemmas.{other_is}

-- where a fragment has room for data no unit is dropped
pub never_dropped : (f : Format) (limit : ℕ) (unit : List ℕ) → fragment_header_len f + donl_len f < limit → is_dropped f limit unit ≡ false
never_dropped f limit unit large =
    elim (fits_one_packet f limit unit) as (λ b. cond b false (nat_le limit (fragment_header_len f + donl_len f)) ≡ false) [
      | true ↦ refl
      | false ↦ lt-leb limit (fragment_header_len f + donl_len f) large
    ]

-- a list that is not empty has one element or more
not_empty_long : (xs : List (List ℕ)) → is_not_empty xs ≡ true → 1 ≤ length xs
not_empty_long [] e = absurd cc
not_empty_long (x ∷ xs) e = omega arith

-- the unit that ends a group is an other unit, and an SPS and a PPS wait
ends_group : (f : Format) (front : List Entry) (e : Entry) → completes_group f front e ≡ true →
    (is_other (f.kind e.unit) ≡ true) × (is_not_empty (latest_of_kind is_sps f front) ≡ true) × (is_not_empty (latest_of_kind is_pps f front) ≡ true)
ends_group f front e done =
    let waits : (is_other (f.kind e.unit) && is_not_empty (latest_of_kind is_sps f front) && is_not_empty (latest_of_kind is_pps f front)) ≡ true
    = rw (any-latest is_sps f front, any-latest is_pps f front) at done in
    let p = and_parts _ _ waits in
    let q = and_parts _ _ p.0 in
    (q.0, q.1, p.1)

-- before the end of a group two sets wait, or three
pub two_wait : (f : Format) (front : List Entry) (e : Entry) → completes_group f front e ≡ true → 2 ≤ length (latest_sets f front)
two_wait f front e done =
    let (_, sps, pps) = ends_group f front e done in
    let s : 1 ≤ length (latest_of_kind is_sps f front) = not_empty_long (latest_of_kind is_sps f front) sps in
    let p : 1 ≤ length (latest_of_kind is_pps f front) = not_empty_long (latest_of_kind is_pps f front) pps in
    simp length-append (omega arith)

-- the unit at the end of a group whose sets fit one packet is sent
end_kept : (f : Format) → SetsLeaveRoom f → (front : List Entry) (e : Entry) → completes_group f front e ≡ true →
    f.sets_fit e.limit (latest_sets f front) ≡ true → is_dropped f e.limit e.unit ≡ false
end_kept f roomy front e done fit = never_dropped f e.limit e.unit (roomy e.limit (latest_sets f front) (two_wait f front e done) fit)

-- so in each group
pub last_stays : (f : Format) → SetsLeaveRoom f → (entries : List Entry) (groups : List Group) (rest : List Entry) → AreGroups f entries groups rest → AllByRecursion (KeepsLast f) groups
last_stays f roomy entries [] rest h = tt
last_stays f roomy entries (g ∷ groups) rest (later, same, opened, done, others) = (end_kept f roomy g.front g.last done, last_stays f roomy later groups rest others)

-- what holds of a whole list holds of its parts
pub all_parts : {A : Type 0} (P : A → Type 0) (xs ys : List A) → AllByRecursion P (xs ++ ys) → AllByRecursion P xs × AllByRecursion P ys
all_parts P [] ys h = (tt, h)
all_parts P (x ∷ xs) ys (here, later) = let (a, b) = all_parts P xs ys later in ((here, a), b)

-- the units of an item are carried
abbrev ItemIsCarried : Format → Item → Type 0
ItemIsCarried f item = AreCarried f (item_units item)

-- units that are carried are so item by item
items_carried : (f : Format) (items : List Item) → AreCarried f (flat_map item_units items) → AllByRecursion (ItemIsCarried f) items
items_carried f [] h = tt
items_carried f (item ∷ items) h = let (a, b) = all_parts (λ unit. IsTrue (f.carries unit)) (item_units item) (flat_map item_units items) h in (a, items_carried f items b)

-- an entry with a limit that a call can have
abbrev pub IsOfCall : Format → Entry → Type 0
IsOfCall f e = IsLimit f e.limit

-- the limits of a call's entries are the call's
pub entries_at_of_call : (f : Format) (limit : ℕ) → IsLimit f limit → (units : List (List ℕ)) → AllByRecursion (IsOfCall f) (entries_with_limit limit units)
entries_at_of_call f limit is [] = tt
entries_at_of_call f limit is (unit ∷ units) = (is, entries_at_of_call f limit is units)

-- the limit of a call is one that a call can have
is_limit : (f : Format) (call : Call) → call.max_packet_size ≤ 65535 → IsLimit f (call_limit f call)
is_limit f call small has_max_packet_size = rw has_max_packet_size (omega arith)

-- the entries of one call
entries_of_one : (f : Format) (call : Call) → call.max_packet_size ≤ 65535 → AllByRecursion (IsOfCall f) (call_entries f call)
entries_of_one f call small = elim (nat_lt call.mtu f.least_mtu) as (λ b. AllByRecursion (IsOfCall f) (cond b [] (entries_with_limit (call_limit f call) (f.units call.payload)))) [
  | true ↦ tt
  | false ↦ entries_at_of_call f (call_limit f call) (is_limit f call small) (f.units call.payload)
]

-- the entries of calls have limits of calls
pub entries_of_calls : (f : Format) (calls : List Call) → AreCalls calls → AllByRecursion (IsOfCall f) (all_entries f calls)
entries_of_calls f [] small = tt
entries_of_calls f (call ∷ calls) small =
    all_both (IsOfCall f) (call_entries f call) (all_entries f calls) (entries_of_one f call small.0) (entries_of_calls f calls small.1)

-- what is sent of a unit, and of an entry, if it is carried
unit_planned : (f : Format) (limit : ℕ) (unit : List ℕ) → AllByRecursion (ItemIsCarried f) (unit_items f limit unit) → AllByRecursion (IsPlanned f) (unit_items f limit unit)
unit_planned f limit unit h = elim (is_dropped f limit unit) as (λ b. is_dropped f limit unit ≡ b →
    AllByRecursion (ItemIsCarried f) (cond b [] (Alone limit unit ∷ [])) → AllByRecursion (IsPlanned f) (cond b [] (Alone limit unit ∷ []))) [
      | true ↦ λ _ _. tt
      | false ↦ λ stays carried. ((carried.0.0, stays), tt)
    ] refl h

-- an entry whose unit is carried where it is sent
entry_planned : (f : Format) (e : Entry) → AllByRecursion (ItemIsCarried f) (entry_items f e) → AllByRecursion (IsPlanned f) (entry_items f e)
entry_planned f e h = elim (is_other (f.kind e.unit)) as (λ b.
    AllByRecursion (ItemIsCarried f) (cond b (unit_items f e.limit e.unit) []) → AllByRecursion (IsPlanned f) (cond b (unit_items f e.limit e.unit) [])) [
      | true ↦ unit_planned f e.limit e.unit
      | false ↦ λ _. tt
    ] h

-- an other unit that is not dropped is sent, so it is carried
sent_is_carried : (f : Format) (e : Entry) → is_other (f.kind e.unit) ≡ true → is_dropped f e.limit e.unit ≡ false →
    AllByRecursion (ItemIsCarried f) (entry_items f e) → IsTrue (f.carries e.unit)
sent_is_carried f e other stays h = let one = rw (other, stays) at h in one.0.0

-- sets that go alone fit
fitting_planned : (f : Format) (limit : ℕ) (sets : List (List ℕ)) → AllByRecursion (ItemIsCarried f) (map (Alone limit) (filter (fits_one_packet f limit) sets)) →
    AllByRecursion (IsPlanned f) (map (Alone limit) (filter (fits_one_packet f limit) sets))
fitting_planned f limit [] h = tt
fitting_planned f limit (set ∷ sets) h = elim (fits_one_packet f limit set) as (λ b. fits_one_packet f limit set ≡ b →
    AllByRecursion (ItemIsCarried f) (map (Alone limit) (cond b (set ∷ filter (fits_one_packet f limit) sets) (filter (fits_one_packet f limit) sets))) →
    AllByRecursion (IsPlanned f) (map (Alone limit) (cond b (set ∷ filter (fits_one_packet f limit) sets) (filter (fits_one_packet f limit) sets)))) [
      | true ↦ λ fit carried. ((carried.0.0, rw fit refl), fitting_planned f limit sets carried.1)
      | false ↦ λ _ carried. fitting_planned f limit sets carried
    ] refl h

-- what holds of every unit of a kind holds of the latest
latest_each : (P : List ℕ → Type 0) (is_it : Kind → Bool) (f : Format) → ((unit : List ℕ) → is_it (f.kind unit) ≡ true → P unit) →
    (entries : List Entry) → AllByRecursion P (latest_of_kind is_it f entries)
latest_each P is_it f each [] = tt
latest_each P is_it f each (e ∷ entries) =
    elim (list_any (λ (later : Entry). is_it (f.kind later.unit)) entries) as (λ b. AllByRecursion P (cond b (latest_of_kind is_it f entries) (cond (is_it (f.kind e.unit)) (e.unit ∷ []) []))) [
      | true ↦ latest_each P is_it f each entries
      | false ↦ elim (is_it (f.kind e.unit)) as (λ t. is_it (f.kind e.unit) ≡ t → AllByRecursion P (cond t (e.unit ∷ []) [])) [ true ↦ λ h. (each e.unit h, tt) | false ↦ λ _. tt ] refl
    ]

-- no unit of a kind of sets is a key unit
set_no_key : (f : Format) → KeyUnitsAreOther f → (is_it : Kind → Bool) → is_it Other ≡ false → (unit : List ℕ) → is_it (f.kind unit) ≡ true → f.is_key unit ≡ false
set_no_key f keys is_it never unit set = elim (f.is_key unit) as (λ b. f.is_key unit ≡ b → b ≡ false) [
  | true ↦ λ key. let other = other_is (f.kind unit) (keys unit key) in absurd cc
  | false ↦ λ _. refl
] refl

-- no set that waits is a key unit
waiting_no_key : (f : Format) → KeyUnitsAreOther f → (front : List Entry) → AllByRecursion (λ set. f.is_key set ≡ false) (latest_sets f front)
waiting_no_key f keys front =
    let P : List ℕ → Type 0 = λ set. f.is_key set ≡ false in
    all_both P (latest_of_kind is_vps f front ++ latest_of_kind is_sps f front) (latest_of_kind is_pps f front)
    (all_both P (latest_of_kind is_vps f front) (latest_of_kind is_sps f front)
    (latest_each P is_vps f (set_no_key f keys is_vps refl) front)
    (latest_each P is_sps f (set_no_key f keys is_sps refl) front))
    (latest_each P is_pps f (set_no_key f keys is_pps refl) front)

-- the sets before the end of a group, together or each alone
sets_planned : (f : Format) → SetsLeaveRoom f → KeyUnitsAreOther f → (front : List Entry) (e : Entry) → IsLimit f e.limit → completes_group f front e ≡ true →
    AllByRecursion (ItemIsCarried f) (sets_items f e.limit (latest_sets f front) e.unit) → AllByRecursion (ItemIsCarried f) (entry_items f e) →
    AllByRecursion (IsPlanned f) (sets_items f e.limit (latest_sets f front) e.unit)
sets_planned f roomy keys front e is done h end =
    let sets = latest_sets f front in
    elim (f.sets_fit e.limit sets) as (λ b. f.sets_fit e.limit sets ≡ b →
    AllByRecursion (ItemIsCarried f) (cond b (Together e.limit sets e.unit ∷ []) (map (Alone e.limit) (filter (fits_one_packet f e.limit) sets))) →
    AllByRecursion (IsPlanned f) (cond b (Together e.limit sets e.unit ∷ []) (map (Alone e.limit) (filter (fits_one_packet f e.limit) sets)))) [
      | true ↦ λ fit carried.
          let unit = sent_is_carried f e (ends_group f front e done).0 (end_kept f roomy front e done fit) end in
          ((is, fit, two_wait f front e done, carried.0, unit, waiting_no_key f keys front), tt)
      | false ↦ λ _. fitting_planned f e.limit sets
    ] refl h

-- what is planned behind a front, of entries with limits of calls, if it is carried
tail_planned : (f : Format) → SetsLeaveRoom f → KeyUnitsAreOther f → (front entries : List Entry) → AllByRecursion (IsOfCall f) entries →
    AllByRecursion (ItemIsCarried f) (tail f front entries) → AllByRecursion (IsPlanned f) (tail f front entries)
unfolding tail
tail_planned f roomy keys front [] limits h = tt
tail_planned f roomy keys front (e ∷ entries) limits h =
    elim (completes_group f front e) as (λ b. completes_group f front e ≡ b →
    AllByRecursion (ItemIsCarried f) (cond b (sets_items f e.limit (latest_sets f front) e.unit ++ (entry_items f e ++ tail f [] entries)) (entry_items f e ++ tail f (front ++ e ∷ []) entries)) →
    AllByRecursion (IsPlanned f) (cond b (sets_items f e.limit (latest_sets f front) e.unit ++ (entry_items f e ++ tail f [] entries)) (entry_items f e ++ tail f (front ++ e ∷ []) entries))) [
      | true ↦ λ done carried.
          let (sets, others) = all_parts (ItemIsCarried f) (sets_items f e.limit (latest_sets f front) e.unit) (entry_items f e ++ tail f [] entries) carried in
          let (here, later) = all_parts (ItemIsCarried f) (entry_items f e) (tail f [] entries) others in
          all_both (IsPlanned f) (sets_items f e.limit (latest_sets f front) e.unit) (entry_items f e ++ tail f [] entries)
          (sets_planned f roomy keys front e limits.0 done sets here)
          (all_both (IsPlanned f) (entry_items f e) (tail f [] entries) (entry_planned f e here) (tail_planned f roomy keys [] entries limits.1 later))
      | false ↦ λ _ carried.
          let (here, later) = all_parts (ItemIsCarried f) (entry_items f e) (tail f (front ++ e ∷ []) entries) carried in
          all_both (IsPlanned f) (entry_items f e) (tail f (front ++ e ∷ []) entries) (entry_planned f e here) (tail_planned f roomy keys (front ++ e ∷ []) entries limits.1 later)
    ] refl h

-- what is planned of entries with limits of calls, whose units sent are carried
pub entries_planned : (f : Format) → SetsLeaveRoom f → KeyUnitsAreOther f → (entries : List Entry) → AllByRecursion (IsOfCall f) entries →
    AreCarried f (units_sent f entries) → AllByRecursion (IsPlanned f) (plan f entries)
entries_planned f roomy keys entries limits carried =
    let same = plan-tail f entries in
    subst (AllByRecursion (IsPlanned f)) (sym same)
    (tail_planned f roomy keys [] entries limits (subst (AllByRecursion (ItemIsCarried f)) same (items_carried f (plan f entries) carried)))

-- by cases of an item
item_can_send : (f : Format) → ReadsWhatItWrites f → (item : Item) → IsPlanned f item → CanSend f item
item_can_send f sound (Alone limit unit) h = h
item_can_send f sound (Together limit sets unit) (is, fit, two, carried, last, keys) = λ n. sound.sets n limit sets unit is fit two carried last

-- what is planned can be sent
pub can_send : (f : Format) → ReadsWhatItWrites f → (items : List Item) → AllByRecursion (IsPlanned f) items → AllByRecursion (CanSend f) items
can_send f sound [] h = tt
can_send f sound (item ∷ items) (here, later) = (item_can_send f sound item here, can_send f sound items later)

-- a mask that keeps every packet
abbrev keeps_all : List (List ℕ) → List Bool
keeps_all packets = map (λ _. true) packets

-- the same for each item
abbrev masks_of_all : Format → ℕ → List Item → List (List Bool)
masks_of_all f n [] = []
masks_of_all f n (item ∷ items) = keeps_all (item_packets f n item) ∷ masks_of_all f (n + length (item_units item)) items

-- a mask that keeps all is as long as the list
kept_long : (packets : List (List ℕ)) → length (keeps_all packets) ≡ length packets
kept_long packets = simp length-map

-- these are masks of the items' packets, keep them all and lose none
all_fit : (f : Format) (n : ℕ) (items : List Item) → AreMasks f n items (masks_of_all f n items)
all_fit f n [] = tt
all_fit f n (item ∷ items) = (kept_long (item_packets f n item), all_fit f (n + length (item_units item)) items)

-- every place of such a mask keeps
each_kept : (packets : List (List ℕ)) → keep (keeps_all packets) packets ≡ packets
each_kept [] = refl
each_kept (packet ∷ packets) = ap (λ (x : List (List ℕ)). packet ∷ x) (each_kept packets)

-- masks that keep every packet of every item
every_kept : (f : Format) (n : ℕ) (items : List Item) → packets_left f n items (masks_of_all f n items) ≡ plan_packets f n items
every_kept f n [] = refl
every_kept f n (item ∷ items) = rw (each_kept (item_packets f n item), every_kept f (n + length (item_units item)) items) refl

-- with such masks no packet is lost
none_lost : (packets : List (List ℕ)) → list_all (λ b. b) (keeps_all packets) ≡ true
none_lost [] = refl
none_lost (packet ∷ packets) = none_lost packets

-- where no packet is lost the units are those of the items
whole_left : (f : Format) (n : ℕ) (items : List Item) (written : List (List (List ℕ))) → AreAllUnitsLeft f n items (masks_of_all f n items) written →
    flat_map (λ units. units) written ≡ flat_map item_units items
whole_left f n [] [] left = refl
whole_left f n [] (units ∷ written) left = absurd left
whole_left f n (item ∷ items) [] left = absurd left
whole_left f n (item ∷ items) (units ∷ written) (here, later) =
    let none = none_lost (item_packets f n item) in
    let same = rw none at here in
    rw (same, whole_left f (n + length (item_units item)) items written later) refl

-- all packets bring what is sent, whatever came before
pub all_received : (f : Format) → ReadsWhatItWrites f → (n : ℕ) (items : List Item) (earlier : List Reading) → AllByRecursion (CanSend f) items →
    units_after earlier (map f.read (plan_packets f n items)) ≡ flat_map item_units items
all_received f sound n items earlier send =
    let (written, left, same) = items_left f n items (masks_of_all f n items) earlier sound send (all_fit f n items) in
    ap (λ (x : List (List ℕ)). units_after earlier (map f.read x)) (sym (every_kept f n items)) ∙ same ∙ whole_left f n items written left
