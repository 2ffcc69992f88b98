-- No packet of a plan is longer than the limit of the call that sends it.
use Rattle.std.proofs.Common.{◌≡◌, ℕ, ◌+◌, ◌-◌, ◌*◌, ◌%◌, ◌≤◌, true, false, cond, List, [], ◌∷◌, ◌++◌, refl, ap, ◌∙◌, length, length-append, take, drop, map, arith, min}
use Rattle.std.specs.Prelude.{filter, nat_le, ◌==◌}
use Rattle.std.specs.List.{AllByRecursion, range_with_len, flat_map}
use Rattle.std.proofs.lemmas.List.{length-drop, length-take}
use Rattle.std.proofs.lemmas.Bool.Decides.{nat_tests}
use Rattle.h26x_core.specs.Word.{word}
use Rattle.h26x_core.specs.Kind.{is_other}
use Rattle.h26x_model.specs.Payload.Format.{Format, donl, donl_len, fragment_header_len}
use Rattle.h26x_model.specs.Send.Group.{Entry, Group, split, latest_sets}
use Rattle.h26x_model.specs.Send.Plan.{Alone, Together, fits_one_packet, is_dropped, unit_items, entry_items, sets_items, group_items, plan}
use Rattle.h26x_model.specs.Send.Packets.{single_packet, fragment_room, fragmented_bytes, fragment_count, fragment, fragments}
use Rattle.h26x_model.specs.Send.Limit.{AreWithinLimit, ItemIsWithinLimit}
use Rattle.h26x_model.specs.Payload.Facts.{FitsLimits}

-- what holds of each element of two lists holds of each of both together
pub all_both : {A : Type 0} (P : A → Type 0) (xs ys : List A) → AllByRecursion P xs → AllByRecursion P ys → AllByRecursion P (xs ++ ys)
all_both P [] ys a b = b
all_both P (x ∷ xs) ys (here, later) b = (here, all_both P xs ys later b)

-- what holds of each image holds of each element of a mapped list
all_mapped : {A B : Type 0} (P : B → Type 0) (g : A → B) (xs : List A) → ((x : A) → P (g x)) → AllByRecursion P (map g xs)
all_mapped P g [] each = tt
all_mapped P g (x ∷ xs) each = (each x, all_mapped P g xs each)

-- what holds of each element of each part holds of each of the parts together
pub all_joined : {A B : Type 0} (P : B → Type 0) (g : A → List B) (xs : List A) → ((x : A) → AllByRecursion P (g x)) →
    AllByRecursion P (flat_map g xs)
all_joined P g [] each = tt
all_joined P g (x ∷ xs) each = all_both P (g x) (flat_map g xs) (each x) (all_joined P g xs each)

-- a number has as many bytes as it is counted with
pub number_long : (f : Format) (n : ℕ) → length (donl f n) ≡ donl_len f
number_long f n = elim f.has_donl as (λ b. length (cond b (word (n % 65536)) []) ≡ cond b 2 0) [ true ↦ refl | false ↦ refl ]

-- the header, a number and the unit without its header are no longer than the unit and the number
sum_of_parts : (s h u k : ℕ) → s ≡ (min h u + k) + (u - h) → s ≤ u + k
sum_of_parts s h u k e = omega arith

-- a unit that is sent whole has its own bytes and those of its number at most
single_long : (f : Format) (n : ℕ) (unit : List ℕ) → length (single_packet f n unit) ≤ length unit + donl_len f
single_long f n unit =
    let head = take f.header_len unit in let behind = drop f.header_len unit in
    let whole : length (single_packet f n unit) ≡ (length head + length (donl f n)) + length behind =
    length-append (head ++ donl f n) behind ∙ ap (λ k. k + length behind) (length-append head (donl f n)) in
    sum_of_parts (length (single_packet f n unit)) f.header_len (length unit) (donl_len f)
    (whole ∙ rw (length-take, length-drop, number_long f n) refl)

-- a fragment is no longer than the limit
fragment_long : (f : Format) → FitsLimits f → (n limit : ℕ) (unit : List ℕ) (j : ℕ) → fragment_header_len f ≤ limit →
    length (fragment f n limit unit j) ≤ limit
fragment_long f ok n limit unit j enough =
    let last = j + 1 == fragment_count f limit unit in
    let behind = drop (j * fragment_room f limit) (fragmented_bytes f n unit) in
    let whole = length-append (f.fragment_header unit (j == 0) last) (take (fragment_room f limit) behind) in
    let part = length-take (fragment_room f limit) behind in
    let header = ok.header unit (j == 0) last in
    omega (arith, whole, part, header)

-- the packets of a unit that is not dropped are within the limit
pub alone_within : (f : Format) → FitsLimits f → (limit : ℕ) (unit : List ℕ) → is_dropped f limit unit ≡ false → ItemIsWithinLimit f (Alone limit unit)
alone_within f ok limit unit kept n =
    elim (fits_one_packet f limit unit) as (λ b. fits_one_packet f limit unit ≡ b → cond b false (nat_le limit (fragment_header_len f + donl_len f)) ≡ false →
    AreWithinLimit limit (cond b (single_packet f n unit ∷ []) (fragments f n limit unit))) [
      | true ↦ λ h k.
          let long = single_long f n unit in
          let fit : length unit + donl_len f ≤ limit = grind (arith, nat_tests) in
          (omega (arith, long, fit), tt)
      | false ↦ λ h k.
          let enough : fragment_header_len f ≤ limit = grind (arith, nat_tests) in
          all_mapped (λ packet. length packet ≤ limit) (fragment f n limit unit) (range_with_len 0 (fragment_count f limit unit))
          (λ j. fragment_long f ok n limit unit j enough)
    ] refl kept

-- so are those of any unit, which may be dropped
unit_within : (f : Format) → FitsLimits f → (limit : ℕ) (unit : List ℕ) → AllByRecursion (ItemIsWithinLimit f) (unit_items f limit unit)
unit_within f ok limit unit =
    elim (is_dropped f limit unit) as (λ b. is_dropped f limit unit ≡ b → AllByRecursion (ItemIsWithinLimit f) (cond b [] (Alone limit unit ∷ []))) [
      | true ↦ λ h. tt
      | false ↦ λ h. (alone_within f ok limit unit h, tt)
    ] refl

-- so are those of an entry
entry_within : (f : Format) → FitsLimits f → (e : Entry) → AllByRecursion (ItemIsWithinLimit f) (entry_items f e)
entry_within f ok e = elim (is_other (f.kind e.unit)) as (λ b. AllByRecursion (ItemIsWithinLimit f) (cond b (unit_items f e.limit e.unit) [])) [
  | true ↦ unit_within f ok e.limit e.unit
  | false ↦ tt
]

-- so are those of sets that go alone: only sets that fit do
sets_alone : (f : Format) → FitsLimits f → (limit : ℕ) (sets : List (List ℕ)) →
    AllByRecursion (ItemIsWithinLimit f) (map (Alone limit) (filter (fits_one_packet f limit) sets))
sets_alone f ok limit [] = tt
sets_alone f ok limit (set ∷ sets) =
    elim (fits_one_packet f limit set) as (λ b. fits_one_packet f limit set ≡ b →
    AllByRecursion (ItemIsWithinLimit f) (map (Alone limit) (cond b (set ∷ filter (fits_one_packet f limit) sets) (filter (fits_one_packet f limit) sets)))) [
      | true ↦ λ h. (alone_within f ok limit set (rw h refl), sets_alone f ok limit sets)
      | false ↦ λ h. sets_alone f ok limit sets
    ] refl

-- so are those of sets before a unit
sets_within : (f : Format) → FitsLimits f → (limit : ℕ) (sets : List (List ℕ)) (unit : List ℕ) →
    AllByRecursion (ItemIsWithinLimit f) (sets_items f limit sets unit)
sets_within f ok limit sets unit =
    let alone = map (Alone limit) (filter (fits_one_packet f limit) sets) in
    elim (f.sets_fit limit sets) as (λ b. f.sets_fit limit sets ≡ b →
    AllByRecursion (ItemIsWithinLimit f) (cond b (Together limit sets unit ∷ []) alone)) [
      | true ↦ λ h. ((λ n. (ok.sets limit n sets unit h, tt)), tt)
      | false ↦ λ h. sets_alone f ok limit sets
    ] refl

-- so are those of a group
group_within : (f : Format) → FitsLimits f → (g : Group) → AllByRecursion (ItemIsWithinLimit f) (group_items f g)
group_within f ok g =
    all_both (ItemIsWithinLimit f) (flat_map (entry_items f) g.front ++ sets_items f g.last.limit (latest_sets f g.front) g.last.unit) (entry_items f g.last)
    (all_both (ItemIsWithinLimit f) (flat_map (entry_items f) g.front) (sets_items f g.last.limit (latest_sets f g.front) g.last.unit)
    (all_joined (ItemIsWithinLimit f) (entry_items f) g.front (entry_within f ok))
    (sets_within f ok g.last.limit (latest_sets f g.front) g.last.unit))
    (entry_within f ok g.last)

-- every packet of a plan is within the limit of its call
pub plan_within : (f : Format) → FitsLimits f → (entries : List Entry) → AllByRecursion (ItemIsWithinLimit f) (plan f entries)
plan_within f ok entries =
    all_both (ItemIsWithinLimit f) (flat_map (group_items f) (split f entries).groups) (flat_map (entry_items f) (split f entries).rest)
    (all_joined (ItemIsWithinLimit f) (group_items f) (split f entries).groups (group_within f ok))
    (all_joined (ItemIsWithinLimit f) (entry_items f) (split f entries).rest (entry_within f ok))
