-- The fragments of a unit, place by place.
use Rattle.std.proofs.Common.{◌≡◌, ℕ, zero, suc, ◌+◌, ◌-◌, ◌*◌, ◌<◌, ◌≤◌, Bool, true, false, cond, eqb, List, [], ◌++◌, length, take, drop, min, None, refl, sym, ap, ◌∙◌, subst, append_assoc, arith}
use Rattle.std.specs.Prelude.{IsTrue, ◌&&◌}
use Rattle.std.specs.List.{flat_map, range_with_len}
use Rattle.std.proofs.Math.ListN.{drop_of_length-le}
use Rattle.std.proofs.lemmas.List.{append-nil, length-drop, length-take, take-append-drop, drop-drop, drop_at}
use Rattle.std.proofs.lemmas.Bool.{leb-false}
use Rattle.std.proofs.lemmas.Bool.Decides.{nat_tests}
use Rattle.h26x_model.specs.Payload.Reading.{Fragment}
use Rattle.h26x_model.specs.Payload.Format.{Format, donl, donl_len}
use Rattle.h26x_model.specs.Send.Plan.{fits_one_packet, is_dropped}
use Rattle.h26x_model.specs.Send.Packets.{fragment_count, fragmented_bytes, fragment_body, fragment_room}
use Rattle.h26x_model.specs.Payload.Don.{don_sent}
use Rattle.h26x_model.specs.Payload.Facts.{ReadsWhatItWrites, MarksFragments}
use Rattle.h26x_model.specs.Send.Fragments.{fragment_data, AreFragments, ReadsFragments, AreMarked}
use Rattle.h26x_model.proofs.FewestLemmas.{has_room}
use Rattle.h26x_model.proofs.ReadBackLemmas.{Bounds, bounds, part_by_place, place_below}

-- pieces of c bytes from place j on, and what stands behind them, are all that stands from place j on
pieces_join : (c j m : ℕ) (xs : List ℕ) → flat_map (λ i. take c (drop (i * c) xs)) (range_with_len j m) ++ drop ((j + m) * c) xs ≡ drop (j * c) xs
pieces_join c j zero xs = let e : (j + 0) * c ≡ j * c = omega arith in ap (λ k. drop k xs) e
pieces_join c j (suc m) xs =
    let e : (j + suc m) * c ≡ (j + 1 + m) * c = omega arith in
    let next : (j + 1) * c ≡ j * c + c = omega arith in
    append_assoc (take c (drop (j * c) xs)) (flat_map (λ i. take c (drop (i * c) xs)) (range_with_len (j + 1) m)) (drop ((j + suc m) * c) xs)
    ∙ ap (λ (x : List ℕ). take c (drop (j * c) xs) ++ x) (
    ap (λ k. flat_map (λ i. take c (drop (i * c) xs)) (range_with_len (j + 1) m) ++ drop k xs) e
    ∙ pieces_join c (j + 1) m xs ∙ ap (λ k. drop k xs) next ∙ sym (drop-drop c (j * c) xs))
    ∙ take-append-drop c (drop (j * c) xs)

-- a later fragment has its data and nothing before them
later_part : (f : Format) (n limit : ℕ) (unit : List ℕ) (j : ℕ) → donl_len f ≤ fragment_room f limit → 0 < j → fragment_body f n limit unit j ≡ fragment_data f limit unit j
later_part f n limit unit j large pos =
    let not_first : eqb j 0 ≡ false = grind (arith, nat_tests) in
    let place : j ≡ j - 1 + 1 = omega arith in
    rw not_first (ap (fragment_body f n limit unit) place ∙ (part_by_place f n limit (j - 1) unit large).1)

-- the data of later fragments are all that stands behind their headers
later_joined : (f : Format) (n limit : ℕ) (unit : List ℕ) (j m : ℕ) → donl_len f ≤ fragment_room f limit → 0 < j →
    flat_map (fragment_body f n limit unit) (range_with_len j m) ≡ flat_map (fragment_data f limit unit) (range_with_len j m)
later_joined f n limit unit j zero large pos = refl
later_joined f n limit unit j (suc m) large pos =
    ap (λ (x : List ℕ). x ++ flat_map (fragment_body f n limit unit) (range_with_len (j + 1) m)) (later_part f n limit unit j large pos)
    ∙ ap (λ (x : List ℕ). fragment_data f limit unit j ++ x) (later_joined f n limit unit (j + 1) m large (omega arith))

-- what stands behind the headers of all fragments is the number and the unit without its header
parts_joined : (f : Format) (n limit : ℕ) (unit : List ℕ) → Bounds f n limit unit →
    flat_map (fragment_body f n limit unit) (range_with_len 0 (fragment_count f limit unit)) ≡ fragmented_bytes f n unit
parts_joined f n limit unit b =
    let k = fragment_count f limit unit in
    let all : (0 + k) * fragment_room f limit ≡ k * fragment_room f limit = omega arith in
    let behind : drop ((0 + k) * fragment_room f limit) (fragmented_bytes f n unit) ≡ [] = drop_of_length-le (fragmented_bytes f n unit) (omega (arith, b.upper, all)) in
    sym (append-nil (flat_map (fragment_body f n limit unit) (range_with_len 0 k)))
    ∙ ap (λ (x : List ℕ). flat_map (fragment_body f n limit unit) (range_with_len 0 k) ++ x) (sym behind)
    ∙ pieces_join (fragment_room f limit) 0 k (fragmented_bytes f n unit)
    ∙ (let e : 0 * fragment_room f limit ≡ 0 = omega arith in ap (λ i. drop i (fragmented_bytes f n unit)) e)

-- the data of m + 1 fragments that are all are the unit without its header
data_joined : (f : Format) (n limit : ℕ) (unit : List ℕ) (m : ℕ) → Bounds f n limit unit → suc m ≡ fragment_count f limit unit →
    flat_map (fragment_data f limit unit) (range_with_len 0 (suc m)) ≡ drop f.header_len unit
data_joined f n limit unit m b count =
    let large : donl_len f ≤ fragment_room f limit = omega (arith, b.large) in
    let joined : donl f n ++ flat_map (fragment_data f limit unit) (range_with_len 0 (suc m)) ≡ fragmented_bytes f n unit =
    sym (append_assoc (donl f n) (fragment_data f limit unit 0) (flat_map (fragment_data f limit unit) (range_with_len 1 m)))
    ∙ ap (λ (x : List ℕ). x ++ flat_map (fragment_data f limit unit) (range_with_len 1 m)) (sym (part_by_place f n limit 0 unit large).0)
    ∙ ap (λ (x : List ℕ). fragment_body f n limit unit 0 ++ x) (sym (later_joined f n limit unit 1 m large (omega arith)))
    ∙ ap (λ k. flat_map (fragment_body f n limit unit) (range_with_len 0 k)) count
    ∙ parts_joined f n limit unit b in
    sym (drop_at (donl f n) (flat_map (fragment_data f limit unit) (range_with_len 0 (suc m))) (length (donl f n)) refl)
    ∙ ap (drop (length (donl f n))) joined
    ∙ drop_at (donl f n) (drop f.header_len unit) (length (donl f n)) refl

-- a fragment takes what is left behind its place, as far as it has room
part_length : (f : Format) (n limit : ℕ) (unit : List ℕ) (j : ℕ) → length (fragment_body f n limit unit j) ≡ min (fragment_room f limit) (length (fragmented_bytes f n unit) - j * fragment_room f limit)
part_length f n limit unit j = length-take (fragment_room f limit) (drop (j * fragment_room f limit) (fragmented_bytes f n unit)) ∙ ap (min (fragment_room f limit)) (length-drop (j * fragment_room f limit) (fragmented_bytes f n unit))

-- each fragment but the last is full
part_full : (f : Format) (n limit : ℕ) (unit : List ℕ) (j : ℕ) → Bounds f n limit unit → j + 1 < fragment_count f limit unit → length (fragment_body f n limit unit j) ≡ fragment_room f limit
part_full f n limit unit j b h =
    let next : (j + 1) * fragment_room f limit ≡ j * fragment_room f limit + fragment_room f limit = omega arith in
    let at = place_below (j + 1) (fragment_count f limit unit) (fragment_room f limit) (length (fragmented_bytes f n unit)) (omega arith) b.lower in
    part_length f n limit unit j ∙ omega (arith, at, next)

-- a unit that is fragmented has data for each fragment
data_some : (f : Format) (n limit : ℕ) (unit : List ℕ) (j : ℕ) → fits_one_packet f limit unit ≡ false → is_dropped f limit unit ≡ false → Bounds f n limit unit →
    j < fragment_count f limit unit → 0 < length (fragment_data f limit unit j)
data_some f n limit unit zero unfit kept b h =
    let enough = has_room f limit unit unfit kept in
    let over = leb-false (length unit + donl_len f) limit unfit in
    rw (length-take, length-drop) (omega (arith, b.large, enough, over))
data_some f n limit unit (suc j) unfit kept b h =
    let at = place_below (suc j) (fragment_count f limit unit) (fragment_room f limit) (length (fragmented_bytes f n unit)) (omega arith) b.lower in
    let long = part_length f n limit unit (suc j) in
    let large = b.large in
    let some : 0 < length (fragment_body f n limit unit (suc j)) = omega (arith, at, long) in
    subst (λ (x : List ℕ). 0 < length x) (later_part f n limit unit (suc j) (omega arith) (omega arith)) some

-- the fragments of a unit are as they are told place by place
pub are_fragments : (f : Format) (n limit : ℕ) (unit : List ℕ) → fits_one_packet f limit unit ≡ false → is_dropped f limit unit ≡ false → f.header_len ≤ length unit →
    AreFragments f n limit unit
are_fragments f n limit unit unfit kept header =
    let (b, two) = bounds f n limit unit unfit kept header in
    let large : donl_len f ≤ fragment_room f limit = omega (arith, b.large) in
    let count : suc (fragment_count f limit unit - 1) ≡ fragment_count f limit unit = omega (arith, two) in
    record {
      two = two;
      first = (part_by_place f n limit 0 unit large).0;
      later = λ j pos. later_part f n limit unit j large pos;
      full = λ j h. part_full f n limit unit j b h;
      some = λ j h. data_some f n limit unit j unfit kept b h;
      joined = ap (λ k. flat_map (fragment_data f limit unit) (range_with_len 0 k)) (sym count) ∙ data_joined f n limit unit (fragment_count f limit unit - 1) b count;
    }

-- each fragment is read as one of the unit's header and its data
pub reads_fragments : (f : Format) → ReadsWhatItWrites f → (n limit : ℕ) (unit : List ℕ) → fits_one_packet f limit unit ≡ false → is_dropped f limit unit ≡ false →
    IsTrue (f.carries unit) → ReadsFragments f n limit unit
reads_fragments f sound n limit unit unfit kept carried zero h =
    let are = are_fragments f n limit unit unfit kept (sound.header unit carried) in
    ap (λ (x : List ℕ). f.read (f.fragment_header unit true (eqb (0 + 1) (fragment_count f limit unit)) ++ x)) are.first
    ∙ sound.fragment n unit (fragment_data f limit unit 0) true (eqb (0 + 1) (fragment_count f limit unit)) carried (are.some 0 h)
reads_fragments f sound n limit unit unfit kept carried (suc j) h =
    let are = are_fragments f n limit unit unfit kept (sound.header unit carried) in
    let not_first : eqb (suc j) 0 ≡ false = grind (arith, nat_tests) in
    let body = fragment_data f limit unit (suc j) in
    let last = eqb (suc j + 1) (fragment_count f limit unit) in
    rw (are.later (suc j) (omega arith)) (
    subst (λ (first : Bool). f.read (f.fragment_header unit first last ++ body) ≡ Fragment first last (take f.header_len unit) (cond first (don_sent f n) None) body)
    (sym not_first) (sound.fragment n unit body false last carried (are.some (suc j) h)))

-- of two fragments or more none is the first and the last
first_not_last : (j count : ℕ) → 2 ≤ count → (eqb j 0 && eqb (j + 1) count) ≡ false
first_not_last zero count two = let more : eqb (0 + 1) count ≡ false = grind (arith, nat_tests) in more
first_not_last (suc j) count two = let later : eqb (suc j) 0 ≡ false = grind (arith, nat_tests) in rw later refl

-- the fragments of a unit bear their marks
pub are_marked : (f : Format) → MarksFragments f → (n limit : ℕ) (unit : List ℕ) → fits_one_packet f limit unit ≡ false → is_dropped f limit unit ≡ false → f.header_len ≤ length unit →
    AreMarked f n limit unit
are_marked f marks n limit unit unfit kept header =
    let count = fragment_count f limit unit in
    let two = (are_fragments f n limit unit unfit kept header).two in
    let here = λ (j : ℕ). marks unit (fragment_body f n limit unit j) (eqb j 0) (eqb (j + 1) count) header in
    record {
      two = two;
      start = λ j h. (here j).0;
      end = λ j h. (here j).1;
      apart = λ j h. rw ((here j).0, (here j).1) (first_not_last j count two);
    }
