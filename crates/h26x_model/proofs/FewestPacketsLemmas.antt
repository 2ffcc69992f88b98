-- Every unit goes in the fewest packets that there could be.
use Rattle.std.proofs.Common.{◌≡◌, ℕ, ◌+◌, ◌-◌, ◌*◌, ◌<◌, ◌≤◌, suc, Bool, true, false, cond, List, [], ◌∷◌, ◌++◌, length, map, refl, sym, ap, ◌∙◌, arith, length-append, append_assoc, Option, Some, None}
use Rattle.std.specs.List.{AllByRecursion, flat_map, list_all}
use Rattle.std.proofs.lemmas.Bool.{and_parts}
use Rattle.std.proofs.lemmas.Bool.Decides.{nat_tests}
use Rattle.std.proofs.lemmas.List.FromFn.{length-map-range_with_len}
use Rattle.h26x_model.specs.Payload.Reading.{Reading, Single, Aggregate, Fragment, Paci, Refused}
use Rattle.h26x_model.specs.Payload.Format.{Format, donl_len}
use Rattle.h26x_model.specs.Send.Plan.{Item, Alone, Together, fits_one_packet, is_dropped, item_units}
use Rattle.h26x_model.specs.Send.Packets.{fragment_room, fragment_count, fragment, fragments, single_packet, plan_packets, item_packets}
use Rattle.h26x_model.specs.Send.Limit.{AreWithinLimit}
use Rattle.h26x_model.specs.Receive.Received.{reading_units, run_after, extended_run, run_units}
use Rattle.h26x_model.specs.Receive.DepacketizerState.{readings_units}
use Rattle.h26x_model.proofs.FewestLemmas.{needed_le, has_room}
use Rattle.h26x_model.proofs.ReceiverLemmas.{after_is_from}
use Rattle.h26x_model.proofs.SentLemmas.{all_parts}
use Rattle.h26x_model.specs.Send.Every.{go_together, groups_from, units_items, every_unit, AreSendable, IsShared, IsOfBytes, IsReadWithin, HoldsWhatItBrings, FitsInPart, TakesFewestPackets}

-- how many packets a unit alone takes
abbrev pub cost : Format → ℕ → List ℕ → ℕ
cost f limit unit = cond (fits_one_packet f limit unit) 1 (fragment_count f limit unit)

-- whether a unit goes with those that are begun, if any are
abbrev joined : (List (List ℕ) → Bool) → Option (List (List ℕ)) → List ℕ → Bool
joined together None unit = false
joined together (Some begun) unit = together (begun ++ unit ∷ [])

-- those that are begun with one more
abbrev with_one : Option (List (List ℕ)) → List ℕ → List (List ℕ)
with_one None unit = unit ∷ []
with_one (Some begun) unit = begun ++ unit ∷ []

-- how many packets units take beside the one that is begun
abbrev pub more : Format → (List (List ℕ) → Bool) → ℕ → Option (List (List ℕ)) → List (List ℕ) → ℕ
more f together limit begun [] = 0
more f together limit begun (unit ∷ units) =
    cond (joined together begun unit) (more f together limit (Some (with_one begun unit)) units)
    (cost f limit unit + more f together limit (Some (unit ∷ [])) units)

-- what is asked of units that go together
record Splits (f : Format) (together : List (List ℕ) → Bool) (limit : ℕ) : Type 0 where
  pub front : (a b : List (List ℕ)) → together (a ++ b) ≡ true → together a ≡ true
  pub back : (a b : List (List ℕ)) → together (a ++ b) ≡ true → together b ≡ true
  pub alone : (unit : List ℕ) → together (unit ∷ []) ≡ true → fits_one_packet f limit unit ≡ true

-- a unit that fits one packet takes one
cost_one : (f : Format) (limit : ℕ) (unit : List ℕ) → fits_one_packet f limit unit ≡ true → cost f limit unit ≡ 1
cost_one f limit unit fit = rw fit refl

-- these units need at most m packets beside any that is begun
abbrev Needs : Format → (List (List ℕ) → Bool) → ℕ → List (List ℕ) → ℕ → Type 0
Needs f together limit units m = (begun : Option (List (List ℕ))) → more f together limit begun units ≤ m

-- a unit before them needs its own packets at most
one_more : (f : Format) (together : List (List ℕ) → Bool) (limit : ℕ) (unit : List ℕ) (units : List (List ℕ)) (c m : ℕ) →
    cost f limit unit ≤ c → Needs f together limit units m → Needs f together limit (unit ∷ units) (c + m)
one_more f together limit unit units c m few needs begun =
    elim (joined together begun unit) as (λ b. cond b (more f together limit (Some (with_one begun unit)) units)
    (cost f limit unit + more f together limit (Some (unit ∷ [])) units) ≤ c + m) [
      | true ↦ let a = needs (Some (with_one begun unit)) in omega (arith, a)
      | false ↦ let a = needs (Some (unit ∷ [])) in omega (arith, a, few)
    ]

-- where all fit the packet that is begun, they need no packet more
all_join : (f : Format) (together : List (List ℕ) → Bool) (limit : ℕ) → Splits f together limit → (begun units others : List (List ℕ)) (m : ℕ) →
    together (begun ++ units) ≡ true → Needs f together limit others m → more f together limit (Some begun) (units ++ others) ≤ m
all_join f together limit splits begun [] others m fit needs = needs (Some begun)
all_join f together limit splits begun (unit ∷ units) others m fit needs =
    let fit_all : together ((begun ++ unit ∷ []) ++ units) ≡ true = ap together (append_assoc begun (unit ∷ []) units) ∙ fit in
    let here : together (begun ++ unit ∷ []) ≡ true = splits.front (begun ++ unit ∷ []) units fit_all in
    let later = all_join f together limit splits (begun ++ unit ∷ []) units others m fit_all needs in
    rw here later

-- units that go together need one packet at most
several : (f : Format) (together : List (List ℕ) → Bool) (limit : ℕ) → Splits f together limit → (units others : List (List ℕ)) (m : ℕ) →
    together units ≡ true → Needs f together limit others m → Needs f together limit (units ++ others) (1 + m)
several f together limit splits [] others m fit needs begun = let a = needs begun in omega (arith, a)
several f together limit splits (unit ∷ units) others m fit needs begun =
    let alone : together (unit ∷ []) ≡ true = splits.front (unit ∷ []) units fit in
    let one = cost_one f limit unit (splits.alone unit alone) in
    elim (joined together begun unit) as (λ b. cond b (more f together limit (Some (with_one begun unit)) (units ++ others))
    (cost f limit unit + more f together limit (Some (unit ∷ [])) (units ++ others)) ≤ 1 + m) [
      | true ↦ several f together limit splits units others m (splits.back (unit ∷ []) units fit) needs (Some (with_one begun unit))
      | false ↦ let a = all_join f together limit splits (unit ∷ []) units others m fit needs in omega (arith, a, one)
    ]

-- what k packets within the limit can hold of an begun run
abbrev Holds : Format → ℕ → ℕ → Option (List ℕ) → Type 0
Holds f limit k None = Unit {0}
Holds f limit k (Some run) = donl_len f + length run ≤ k * fragment_room f limit

-- one fragment more
holds_more : (f : Format) (limit k : ℕ) (packet head body : List ℕ) (start end : Bool) (don : Option ℕ) (run : Option (List ℕ)) → HoldsWhatItBrings f →
    f.read packet ≡ Fragment start end head don body → length packet ≤ limit → Holds f limit k run → Holds f limit (k + 1) (extended_run start run body)
holds_more f limit k packet head body true end don run holds is within so_far =
    let room = holds.fragment packet head body true end don is in
    let one : donl_len f + length body ≤ fragment_room f limit = omega (arith, room, within) in
    grind (arith, one)
holds_more f limit k packet head body false end don None holds is within so_far = tt
holds_more f limit k packet head body false end don (Some run) holds is within so_far =
    let room = holds.fragment packet head body false end don is in
    let one : length body ≤ fragment_room f limit = omega (arith, room, within) in
    let both : length (run ++ body) ≡ length run + length body = length-append run body in
    grind (arith, one, both, so_far)

-- a unit that so many fragments hold takes no more alone
run_cost : (f : Format) (limit k : ℕ) (head run : List ℕ) → 0 < k → length head ≤ f.header_len → donl_len f + length run ≤ k * fragment_room f limit →
    is_dropped f limit (head ++ run) ≡ false → cost f limit (head ++ run) ≤ k
run_cost f limit k head run some short holds kept =
    elim (fits_one_packet f limit (head ++ run)) as (λ b. fits_one_packet f limit (head ++ run) ≡ b → cond b 1 (fragment_count f limit (head ++ run)) ≤ k) [
      | true ↦ λ fit. omega (arith, some)
      | false ↦ λ unfit.
          let large = has_room f limit (head ++ run) unfit kept in
          let both : length (head ++ run) ≡ length head + length run = length-append head run in
          needed_le (donl_len f + (length (head ++ run) - f.header_len)) (fragment_room f limit) k (omega (arith, large)) (omega (arith, both, short, holds))
    ] refl

-- what the packets behind need, by what is begun
abbrev NeedsBehind : Format → (List (List ℕ) → Bool) → ℕ → Option (List ℕ) → List (List ℕ) → ℕ → Type 0
NeedsBehind f together limit run units count = (k : ℕ) → Holds f limit k run → Needs f together limit units (count + k)

-- nothing is brought: the packets behind need one more
nothing_more : (f : Format) (together : List (List ℕ) → Bool) (limit : ℕ) (units : List (List ℕ)) (m : ℕ) → Needs f together limit units m → Needs f together limit units (1 + m)
nothing_more f together limit units m needs begun = let a = needs begun in omega (arith, a)

-- the unit that a run brings
run_brings : (f : Format) (together : List (List ℕ) → Bool) (limit k count : ℕ) (head : List ℕ) (run : Option (List ℕ)) (later : List (List ℕ)) →
    length head ≤ f.header_len → Holds f limit (k + 1) run → Needs f together limit later count → AreSendable f limit (run_units head run) →
    Needs f together limit (run_units head run ++ later) ((k + 1) + count)
run_brings f together limit k count head None later short holds needs kept begun = let a = needs begun in omega (arith, a)
run_brings f together limit k count head (Some run) later short holds needs kept begun =
    one_more f together limit (head ++ run) later (k + 1) count (run_cost f limit (k + 1) head run (omega arith) short holds kept.0) needs begun

-- a number of packets in another form
needs_as : (f : Format) (together : List (List ℕ) → Bool) (limit : ℕ) (units : List (List ℕ)) (a b : ℕ) → a ≤ b → Needs f together limit units a → Needs f together limit units b
needs_as f together limit units a b le needs begun = let h = needs begun in omega (arith, h, le)

-- one packet
step : (f : Format) (may : List ℕ → Bool) (limit : ℕ) → HoldsWhatItBrings f → FitsInPart f → Splits f (go_together f may limit) limit →
    (packet : List ℕ) (reading : Reading) → f.read packet ≡ reading → IsReadWithin f packet reading → length packet ≤ limit → IsShared may reading →
    (run : Option (List ℕ)) (k : ℕ) → Holds f limit k run → (later : List (List ℕ)) (count : ℕ) →
    NeedsBehind f (go_together f may limit) limit (run_after run reading) later count →
    AreSendable f limit (reading_units run reading) →
    Needs f (go_together f may limit) limit (reading_units run reading ++ later) (suc count + k)
step f may limit holds fits splits packet (Single unit don) is room within allowed run k so_far later count needs kept =
    let some : length unit + donl_len f ≤ limit = omega (arith, room, within) in
    let fit : fits_one_packet f limit unit ≡ true = grind (arith, nat_tests, some) in
    let one = cost_one f limit unit fit in
    needs_as f (go_together f may limit) limit (unit ∷ later) (1 + (count + k)) (suc count + k) (omega arith)
    (one_more f (go_together f may limit) limit unit later 1 (count + k) (omega (arith, one)) (needs k so_far))
step f may limit holds fits splits packet (Aggregate units) is room within allowed run k so_far later count needs kept =
    let fit : f.sets_fit limit (map (λ u. u.0) units) ≡ true = fits.wider (length packet) limit (map (λ u. u.0) units) within room in
    needs_as f (go_together f may limit) limit (map (λ u. u.0) units ++ later) (1 + (count + k)) (suc count + k) (omega arith)
    (several f (go_together f may limit) limit splits (map (λ u. u.0) units) later (count + k) (rw (allowed, fit) refl) (needs k so_far))
step f may limit holds fits splits packet (Fragment start true head don body) is room within allowed run k so_far later count needs kept =
    needs_as f (go_together f may limit) limit (run_units head (extended_run start run body) ++ later) ((k + 1) + (count + 0)) (suc count + k) (omega arith)
    (run_brings f (go_together f may limit) limit k (count + 0) head (extended_run start run body) later room
    (holds_more f limit k packet head body start true don run holds is within so_far) (needs 0 tt) kept)
step f may limit holds fits splits packet (Fragment start false head don body) is room within allowed run k so_far later count needs kept =
    needs_as f (go_together f may limit) limit later (count + (k + 1)) (suc count + k) (omega arith)
    (needs (k + 1) (holds_more f limit k packet head body start false don run holds is within so_far))
step f may limit holds fits splits packet (Paci head fields extension body) is room within allowed run k so_far later count needs kept =
    let some : length (head ++ body) + donl_len f ≤ limit = omega (arith, room, within) in
    let fit : fits_one_packet f limit (head ++ body) ≡ true = grind (arith, nat_tests, some) in
    let one = cost_one f limit (head ++ body) fit in
    needs_as f (go_together f may limit) limit ((head ++ body) ∷ later) (1 + (count + k)) (suc count + k) (omega arith)
    (one_more f (go_together f may limit) limit (head ++ body) later 1 (count + k) (omega (arith, one)) (needs k so_far))
step f may limit holds fits splits packet (Refused error) is room within allowed run k so_far later count needs kept =
    needs_as f (go_together f may limit) limit later (1 + (count + k)) (suc count + k) (omega arith)
    (nothing_more f (go_together f may limit) limit later (count + k) (needs k so_far))

-- all packets
bound : (f : Format) (may : List ℕ → Bool) (limit : ℕ) → HoldsWhatItBrings f → FitsInPart f → Splits f (go_together f may limit) limit →
    (packets : List (List ℕ)) (run : Option (List ℕ)) → AllByRecursion IsOfBytes packets → AreWithinLimit limit packets → AllByRecursion (λ packet. IsShared may (f.read packet)) packets →
    AreSendable f limit (readings_units run (map f.read packets)) →
    NeedsBehind f (go_together f may limit) limit run (readings_units run (map f.read packets)) (length packets)
bound f may limit holds fits splits [] run bytes within allowed kept k so_far begun = omega arith
bound f may limit holds fits splits (packet ∷ packets) run bytes within allowed kept k so_far begun =
    let next = run_after run (f.read packet) in
    let later = readings_units next (map f.read packets) in
    let parts = all_parts (λ unit. is_dropped f limit unit ≡ false) (reading_units run (f.read packet)) later kept in
    step f may limit holds fits splits packet (f.read packet) refl (holds.packet packet bytes.0) within.0 allowed.0 run k so_far later (length packets)
    (bound f may limit holds fits splits packets next bytes.1 within.1 allowed.1 parts.1) parts.0 begun

-- how many packets a group takes
abbrev group_cost : Format → ℕ → List (List ℕ) → ℕ
group_cost f limit [] = 0
group_cost f limit (unit ∷ []) = cost f limit unit
group_cost f limit (unit ∷ other ∷ units) = 1

-- a unit alone takes as many packets as it costs
alone_count : (f : Format) (n limit : ℕ) (unit : List ℕ) → length (item_packets f n (Alone limit unit)) ≡ cost f limit unit
alone_count f n limit unit =
    elim (fits_one_packet f limit unit) as (λ b. length (cond b (single_packet f n unit ∷ []) (fragments f n limit unit)) ≡ cond b 1 (fragment_count f limit unit)) [
      | true ↦ refl
      | false ↦ length-map-range_with_len (fragment f n limit unit) 0 (fragment_count f limit unit)
    ]

-- so do a group's packets
group_count : (f : Format) (n limit : ℕ) (group : List (List ℕ)) (items : List Item) → (c : ℕ) →
    ((m : ℕ) → length (plan_packets f m items) ≤ c) →
    length (plan_packets f n (units_items limit group ++ items)) ≤ group_cost f limit group + c
group_count f n limit [] items c few = let a = few n in omega (arith, a)
group_count f n limit (unit ∷ []) items c few =
    let own = alone_count f n limit unit in
    let behind = few (n + length (item_units (Alone limit unit))) in
    let both = length-append (item_packets f n (Alone limit unit)) (plan_packets f (n + length (item_units (Alone limit unit))) items) in
    omega (arith, own, behind, both)
group_count f n limit (unit ∷ other ∷ units) items c few =
    let behind = few (n + length (item_units (Together limit (unit ∷ other ∷ units) unit))) in
    omega (arith, behind)

-- a group with one more unit takes no more packets
joined_cost : (f : Format) (together : List (List ℕ) → Bool) (limit : ℕ) → Splits f together limit → (begun : List (List ℕ)) (unit : List ℕ) → 1 ≤ length begun →
    together (begun ++ unit ∷ []) ≡ true → group_cost f limit (begun ++ unit ∷ []) ≤ group_cost f limit begun
joined_cost f together limit splits [] unit some fit = absurd (omega (arith, some))
joined_cost f together limit splits (first ∷ []) unit some fit =
    let one = cost_one f limit first (splits.alone first (splits.front (first ∷ []) (unit ∷ []) fit)) in
    omega (arith, one)
joined_cost f together limit splits (first ∷ second ∷ begun) unit some fit = omega arith

-- the packets of groups
groups_count : (f : Format) (together : List (List ℕ) → Bool) (limit : ℕ) → Splits f together limit → (begun units : List (List ℕ)) (n : ℕ) → 1 ≤ length begun →
    length (plan_packets f n (flat_map (units_items limit) (groups_from together begun units))) ≤ group_cost f limit begun + more f together limit (Some begun) units
groups_count f together limit splits begun [] n some = group_count f n limit begun [] 0 (λ m. omega arith)
groups_count f together limit splits begun (unit ∷ units) n some =
    elim (together (begun ++ unit ∷ [])) as (λ b. together (begun ++ unit ∷ []) ≡ b →
    length (plan_packets f n (flat_map (units_items limit) (cond b (groups_from together (begun ++ unit ∷ []) units) (begun ∷ groups_from together (unit ∷ []) units))))
    ≤ group_cost f limit begun + cond b (more f together limit (Some (begun ++ unit ∷ [])) units) (cost f limit unit + more f together limit (Some (unit ∷ [])) units)) [
      | true ↦ λ fit.
          let long : length (begun ++ unit ∷ []) ≡ length begun + 1 = length-append begun (unit ∷ []) in
          let less = joined_cost f together limit splits begun unit some fit in
          let a = groups_count f together limit splits (begun ++ unit ∷ []) units n (omega (arith, long, some)) in
          omega (arith, a, less)
      | false ↦ λ unfit.
          group_count f n limit begun (flat_map (units_items limit) (groups_from together (unit ∷ []) units)) (cost f limit unit + more f together limit (Some (unit ∷ [])) units)
          (λ m. groups_count f together limit splits (unit ∷ []) units m (omega arith))
    ] refl

-- what holds of all of two lists holds of each
pub all_of_both : {A : Type 0} (test : A → Bool) (a b : List A) → list_all test (a ++ b) ≡ true → (list_all test a ≡ true) × (list_all test b ≡ true)
all_of_both test [] b all = (refl, all)
all_of_both test (x ∷ a) b all =
    let p = and_parts (test x) (list_all test (a ++ b)) all in
    let q = all_of_both test a b p.1 in
    let here : test x ≡ true = p.0 in
    (rw (here, q.0) refl, q.1)

-- what units that may go together split into
splits_of : (f : Format) → FitsInPart f → (may : List ℕ → Bool) (limit : ℕ) → Splits f (go_together f may limit) limit
splits_of f fits may limit = record {
  front = λ a b both.
      let parts = and_parts (list_all may (a ++ b)) (f.sets_fit limit (a ++ b)) both in
      let may_a = (all_of_both may a b parts.0).0 in let fit_a = fits.front limit a b parts.1 in rw (may_a, fit_a) refl;
  back = λ a b both.
      let parts = and_parts (list_all may (a ++ b)) (f.sets_fit limit (a ++ b)) both in
      let may_b = (all_of_both may a b parts.0).1 in let fit_b = fits.back limit a b parts.1 in rw (may_b, fit_b) refl;
  alone = λ unit one. fits.alone limit unit (and_parts (list_all may (unit ∷ [])) (f.sets_fit limit (unit ∷ [])) one).1;
}

-- no rival has fewer packets
counted : (f : Format) → HoldsWhatItBrings f → FitsInPart f → (may : List ℕ → Bool) (limit n : ℕ) (units packets : List (List ℕ)) → AreSendable f limit units → AllByRecursion IsOfBytes packets →
    AreWithinLimit limit packets → AllByRecursion (λ packet. IsShared may (f.read packet)) packets →
    readings_units None (map f.read packets) ≡ units →
    length (plan_packets f n (every_unit f may limit units)) ≤ length packets
counted f holds fits may limit n [] packets kept bytes within allowed brings = omega arith
counted f holds fits may limit n (unit ∷ units) packets kept bytes within allowed brings =
    let splits = splits_of f fits may limit in
    let kept_too : AreSendable f limit (readings_units None (map f.read packets)) = rw brings kept in
    let needs = bound f may limit holds fits splits packets None bytes within allowed kept_too 0 tt None in
    let needs_these : more f (go_together f may limit) limit None (unit ∷ units) ≤ length packets + 0 = rw brings at needs in
    let count = groups_count f (go_together f may limit) limit splits (unit ∷ []) units n (omega arith) in
    omega (arith, needs_these, count)

pub takes_fewest_packets : (f : Format) → HoldsWhatItBrings f → FitsInPart f → TakesFewestPackets f
takes_fewest_packets f holds fits may limit n units packets kept rival =
    counted f holds fits may limit n units packets kept rival.bytes rival.within rival.shared (sym (after_is_from [] (map f.read packets)) ∙ rival.brings)
