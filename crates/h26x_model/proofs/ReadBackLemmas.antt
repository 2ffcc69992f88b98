-- The fragments of a unit are read back as this unit, whatever came before.
use Rattle.std.proofs.Common.{◌≡◌, ℕ, zero, suc, ◌+◌, ◌-◌, ◌*◌, ◌%◌, ◌<◌, ◌≤◌, true, false, eqb, List, [], ◌∷◌, ◌++◌, length, map, take, drop, Some, None, refl, sym, ap, ◌∙◌, length-append, arith, eq-eqb}
use Rattle.std.specs.Prelude.{IsTrue}
use Rattle.std.specs.List.{range_with_len}
use Rattle.std.proofs.lemmas.List.{length-drop, length-take, drop-append-le, take-append-drop, take_all, take_at, drop_at, take-take}
use Rattle.std.proofs.Math.Nat.{mul-le-mul_right}
use Rattle.std.proofs.lemmas.Nat.{div-add-mod', mod_below, le-div}
use Rattle.std.proofs.lemmas.Bool.{leb-false}
use Rattle.std.proofs.lemmas.Bool.Decides.{nat_tests}
use Rattle.std.proofs.lemmas.Simd.{map-map}
use Rattle.std.proofs.Math.Seq.{take-add, take-append-add, drop-append-add}
use Rattle.h26x_model.specs.Payload.Reading.{Reading, Fragment}
use Rattle.h26x_model.specs.Payload.Format.{Format, donl, donl_len}
use Rattle.h26x_model.specs.Send.Plan.{fits_one_packet, is_dropped}
use Rattle.h26x_model.specs.Send.Packets.{fragment, fragments, fragment_count, fragmented_bytes, fragment_room, pieces_needed, fragment_body}
use Rattle.h26x_model.specs.Payload.Don.{don_sent}
use Rattle.h26x_model.specs.Receive.Received.{open_run, units_after}
use Rattle.h26x_model.specs.Payload.Facts.{ReadsWhatItWrites}
use Rattle.h26x_model.proofs.LimitLemmas.{number_long}
use Rattle.h26x_model.proofs.FewestLemmas.{has_room}

-- a part of a list behind its first d elements, and the part after it
pub parts : (d c m : ℕ) (xs : List ℕ) → d ≤ m → d ≤ length xs → drop d (take m xs) ++ take c (drop m xs) ≡ drop d (take (m + c) xs)
parts d c m xs h k =
    let long : d ≤ length (take m xs) = simp length-take (omega arith) in
    sym (drop-append-le d (take m xs) (take c (drop m xs)) long) ∙ ap (drop d) (sym (take-add m c xs))

-- a front of the number and data is the number and a front of the data
front_is : (f : Format) (n : ℕ) (unit : List ℕ) (c : ℕ) → donl_len f ≤ c →
    take c (fragmented_bytes f n unit) ≡ donl f n ++ drop (donl_len f) (take c (fragmented_bytes f n unit))
front_is f n unit c h =
    sym (take-append-drop (donl_len f) (take c (fragmented_bytes f n unit)))
    ∙ ap (λ (x : List ℕ). x ++ drop (donl_len f) (take c (fragmented_bytes f n unit)))
    (take-take (donl_len f) c (fragmented_bytes f n unit) h ∙ take_at (donl f n) (drop f.header_len unit) (donl_len f) (number_long f n))

-- a fragment but the first is read as a fragment of the unit's header and its data
pub later_read : (f : Format) (n limit : ℕ) (unit : List ℕ) (j : ℕ) → ReadsWhatItWrites f → IsTrue (f.carries unit) →
    0 < j → 0 < fragment_room f limit → j * fragment_room f limit < length (fragmented_bytes f n unit) →
    f.read (fragment f n limit unit j)
    ≡ Fragment false (eqb (j + 1) (fragment_count f limit unit)) (take f.header_len unit) None (fragment_body f n limit unit j)
later_read f n limit unit j sound carried pos large within =
    let none : eqb j 0 ≡ false = grind (arith, nat_tests) in
    let body = fragment_body f n limit unit j in
    let some : 0 < length body = rw (length-take, length-drop) (omega arith) in
    rw none (sound.fragment n unit body false (eqb (j + 1) (fragment_count f limit unit)) carried some)

-- the first fragment is read as a start, with the number, the unit's header and its data
pub first_read : (f : Format) (n limit : ℕ) (unit : List ℕ) → ReadsWhatItWrites f → IsTrue (f.carries unit) →
    donl_len f < fragment_room f limit → donl_len f < length (fragmented_bytes f n unit) →
    f.read (fragment f n limit unit 0)
    ≡ Fragment true (eqb 1 (fragment_count f limit unit)) (take f.header_len unit) (don_sent f n)
    (drop (donl_len f) (take (fragment_room f limit) (fragmented_bytes f n unit)))
first_read f n limit unit sound carried large within =
    let last = eqb 1 (fragment_count f limit unit) in
    let body = drop (donl_len f) (take (fragment_room f limit) (fragmented_bytes f n unit)) in
    let some : 0 < length body = rw (length-drop, length-take) (omega arith) in
    let start : 0 * fragment_room f limit ≡ 0 = omega arith in
    let whole : fragment_body f n limit unit 0 ≡ donl f n ++ body =
    ap (λ k. take (fragment_room f limit) (drop k (fragmented_bytes f n unit))) start ∙ front_is f n unit (fragment_room f limit) (omega arith) in
    ap (λ (x : List ℕ). f.read (f.fragment_header unit true last ++ x)) whole
    ∙ sound.fragment n unit body true last carried some

-- where a unit's fragments stand: the number and data need all of them, and the first has room for data too
pub record Bounds (f : Format) (n limit : ℕ) (unit : List ℕ) : Type 0 where
  pub large : donl_len f < fragment_room f limit
  pub lower : (fragment_count f limit unit - 1) * fragment_room f limit < length (fragmented_bytes f n unit)
  pub upper : length (fragmented_bytes f n unit) ≤ fragment_count f limit unit * fragment_room f limit
  pub some : donl_len f < length (fragmented_bytes f n unit)

-- where the last of k parts begins within bytes, each of them does
pub place_below : (j k c x : ℕ) → j + 1 ≤ k → (k - 1) * c < x → j * c < x
place_below j k c x h low = let m = mul-le-mul_right c (let e : j ≤ k - 1 = omega arith in e) in omega (arith, m)

-- a part but the first begins behind the room of one
pub places_grow : (j c : ℕ) → 0 < j → c ≤ j * c
places_grow j c pos = let m = mul-le-mul_right c (let e : 1 ≤ j = omega arith in e) in omega (arith, m)

-- the next part begins behind the room of one more
pub next_place : (j c : ℕ) → (j + 1) * c ≡ j * c + c
next_place j c = omega arith

-- the data of the fragments before place j, where there are some
abbrev pub data_before : Format → ℕ → ℕ → List ℕ → ℕ → List ℕ
data_before f n limit unit j = drop (donl_len f) (take (j * fragment_room f limit) (fragmented_bytes f n unit))

-- the header, the data before the last fragment and those of the last are the unit
pub whole_unit : (f : Format) (n limit : ℕ) (unit : List ℕ) (j : ℕ) → Bounds f n limit unit → IsTrue (f.carries unit) → 0 < j →
    j + 1 ≡ fragment_count f limit unit → take f.header_len unit ++ (data_before f n limit unit j ++ fragment_body f n limit unit j) ≡ unit
whole_unit f n limit unit j b carried pos count =
    let c = fragment_room f limit in
    let grown = places_grow j c pos in
    let reach : fragment_count f limit unit * c ≡ j * c + c = sym (ap (λ k. k * c) count) ∙ next_place j c in
    ap (λ (x : List ℕ). take f.header_len unit ++ x) (
    parts (donl_len f) c (j * c) (fragmented_bytes f n unit) (omega (arith, grown, b.large)) (omega (arith, b.some))
    ∙ ap (drop (donl_len f)) (take_all (j * c + c) (fragmented_bytes f n unit) (omega (arith, reach, b.upper)))
    ∙ drop_at (donl f n) (drop f.header_len unit) (donl_len f) (number_long f n))
    ∙ take-append-drop f.header_len unit

-- the fragments from place j on, where the data before them are the open run, bring the unit
pub rest_read : (f : Format) (n limit : ℕ) (unit : List ℕ) (earlier : List Reading) (j m : ℕ) → ReadsWhatItWrites f → IsTrue (f.carries unit) →
    Bounds f n limit unit → 0 < j → j + suc m ≡ fragment_count f limit unit → open_run earlier ≡ Some (data_before f n limit unit j) →
    units_after earlier (map (λ i. f.read (fragment f n limit unit i)) (range_with_len j (suc m))) ≡ unit ∷ []
rest_read f n limit unit earlier j zero sound carried b pos count run =
    let last : eqb (j + 1) (fragment_count f limit unit) ≡ true = eq-eqb (j + 1) (fragment_count f limit unit) (omega arith) in
    let at = place_below j (fragment_count f limit unit) (fragment_room f limit) (length (fragmented_bytes f n unit)) (omega arith) b.lower in
    rw (later_read f n limit unit j sound carried pos (omega arith) at, last, run)
    (ap (λ (x : List ℕ). x ∷ []) (whole_unit f n limit unit j b carried pos (omega arith)))
rest_read f n limit unit earlier j (suc m) sound carried b pos count run =
    let c = fragment_room f limit in
    let more : eqb (j + 1) (fragment_count f limit unit) ≡ false = grind (arith, nat_tests) in
    let at = place_below j (fragment_count f limit unit) c (length (fragmented_bytes f n unit)) (omega arith) b.lower in
    let grown = places_grow j c pos in
    let here = Fragment false false (take f.header_len unit) None (fragment_body f n limit unit j) in
    let carried_on : open_run (here ∷ earlier) ≡ Some (data_before f n limit unit (j + 1)) =
    rw run (ap Some (parts (donl_len f) c (j * c) (fragmented_bytes f n unit) (omega (arith, grown, b.large)) (omega (arith, b.some))
    ∙ ap (λ k. drop (donl_len f) (take k (fragmented_bytes f n unit))) (sym (next_place j c)))) in
    rw (later_read f n limit unit j sound carried pos (omega arith) at, more)
    (rest_read f n limit unit (here ∷ earlier) (j + 1) m sound carried b (omega arith) (omega arith) carried_on)

-- all fragments, of which there are at least two, bring the unit
fragments_from : (f : Format) (n limit : ℕ) (unit : List ℕ) (earlier : List Reading) (m : ℕ) → ReadsWhatItWrites f → IsTrue (f.carries unit) →
    Bounds f n limit unit → suc (suc m) ≡ fragment_count f limit unit →
    units_after earlier (map (λ i. f.read (fragment f n limit unit i)) (range_with_len 0 (suc (suc m)))) ≡ unit ∷ []
fragments_from f n limit unit earlier m sound carried b count =
    let more : eqb 1 (fragment_count f limit unit) ≡ false = grind (arith, nat_tests) in
    let body = drop (donl_len f) (take (fragment_room f limit) (fragmented_bytes f n unit)) in
    let here = Fragment true false (take f.header_len unit) (don_sent f n) body in
    let one : fragment_room f limit ≡ 1 * fragment_room f limit = omega arith in
    let started : open_run (here ∷ earlier) ≡ Some (data_before f n limit unit 1) =
    ap (λ k. Some (drop (donl_len f) (take k (fragmented_bytes f n unit)))) one in
    rw (first_read f n limit unit sound carried b.large b.some, more)
    (rest_read f n limit unit (here ∷ earlier) 1 m sound carried b (omega arith) (omega arith) started)

-- a unit's fragments are read back as the unit, whatever came before
pub fragments_read : (f : Format) (n limit : ℕ) (unit : List ℕ) (earlier : List Reading) → ReadsWhatItWrites f → IsTrue (f.carries unit) →
    Bounds f n limit unit → 2 ≤ fragment_count f limit unit →
    units_after earlier (map f.read (fragments f n limit unit)) ≡ unit ∷ []
fragments_read f n limit unit earlier sound carried b two =
    let count : suc (suc (fragment_count f limit unit - 2)) ≡ fragment_count f limit unit = omega arith in
    ap (units_after earlier) (map-map f.read (fragment f n limit unit) (range_with_len 0 (fragment_count f limit unit)))
    ∙ ap (λ k. units_after earlier (map (λ i. f.read (fragment f n limit unit i)) (range_with_len 0 k))) (sym count)
    ∙ fragments_from f n limit unit earlier (fragment_count f limit unit - 2) sound carried b count

-- the pieces needed hold all bytes
needed_upper : (x c : ℕ) → 0 < c → x ≤ pieces_needed c x * c
needed_upper x c pos =
    let e = div-add-mod' (x + (c - 1)) c in
    let m = mod_below (x + (c - 1)) c pos in
    omega (arith, e, m)

-- a quotient less one, times the divisor, is below what was rounded up
less_one : (q c y r x : ℕ) → 0 < x → q * c + r ≡ y → y < x + c → (q - 1) * c < x
less_one zero c y r x some e h = let z : (0 - 1) * c ≡ 0 = omega arith in omega (arith, z)
less_one (suc q) c y r x some e h = let back : suc q - 1 ≡ q = omega arith in rw back (omega arith)

-- one piece less than needed does not hold all bytes
needed_lower : (x c : ℕ) → 0 < c → 0 < x → (pieces_needed c x - 1) * c < x
needed_lower x c pos some = less_one (pieces_needed c x) c (x + (c - 1)) ((x + (c - 1)) % c) x some (div-add-mod' (x + (c - 1)) c) (omega arith)

-- a unit that is fragmented has its fragments in place, and at least two
pub bounds : (f : Format) (n limit : ℕ) (unit : List ℕ) → fits_one_packet f limit unit ≡ false → is_dropped f limit unit ≡ false → f.header_len ≤ length unit →
    Bounds f n limit unit × (2 ≤ fragment_count f limit unit)
bounds f n limit unit unfit kept header =
    let c = fragment_room f limit in
    let size = donl_len f + (length unit - f.header_len) in
    let room_left = has_room f limit unit unfit kept in
    let over = leb-false (length unit + donl_len f) limit unfit in
    let long : length (fragmented_bytes f n unit) ≡ size =
    length-append (donl f n) (drop f.header_len unit) ∙ rw (number_long f n, length-drop f.header_len unit) refl in
    let up = needed_upper size c (omega arith) in
    let low = needed_lower size c (omega arith) (omega arith) in (
      record { large = omega arith; lower = omega (arith, long, low); upper = omega (arith, long, up); some = omega (arith, long) },
      le-div 2 (size + (c - 1)) c (omega arith) (omega arith),
    )

-- the first fragment has the number and as much data as it leaves room for, each later one the data behind those before it
pub part_by_place : (f : Format) (n limit j : ℕ) (unit : List ℕ) → donl_len f ≤ fragment_room f limit →
    (fragment_body f n limit unit 0 ≡ donl f n ++ take (fragment_room f limit - donl_len f) (drop f.header_len unit))
    × (fragment_body f n limit unit (j + 1) ≡ take (fragment_room f limit) (drop ((fragment_room f limit - donl_len f) + j * fragment_room f limit) (drop f.header_len unit)))
part_by_place f n limit j unit large =
    let c = fragment_room f limit in
    let behind = drop f.header_len unit in
    let len = number_long f n in
    let start : 0 * c ≡ 0 = omega arith in
    let split_room : c ≡ length (donl f n) + (c - donl_len f) = omega (arith, len) in
    let next = next_place j c in
    let place : (j + 1) * c ≡ length (donl f n) + ((c - donl_len f) + j * c) = omega (arith, len, next) in (
      ap (λ k. take c (drop k (fragmented_bytes f n unit))) start
          ∙ ap (λ k. take k (fragmented_bytes f n unit)) split_room ∙ take-append-add (donl f n) behind (c - donl_len f),
      ap (take c) (ap (λ k. drop k (fragmented_bytes f n unit)) place ∙ drop-append-add (donl f n) behind ((c - donl_len f) + j * c)),
    )
