-- A lost packet hurts no item but its own, whatever came before.
use Rattle.std.proofs.Common.{◌≡◌, ℕ, zero, suc, ◌+◌, ◌<◌, ◌≤◌, Bool, true, false, cond, eqb, List, [], ◌∷◌, ◌++◌, length, map, take, drop, Option, Some, None, refl, sym, ap, ◌∙◌, subst, append_assoc, arith, eq-eqb}
use Rattle.std.specs.Prelude.{IsTrue, MatchBool}
use Rattle.std.specs.List.{flat_map, range_with_len, list_all, AllByRecursion}
use Rattle.std.proofs.lemmas.List.{append-nil, length-map, map-append}
use Rattle.std.proofs.lemmas.List.FromFn.{length-range_with_len, length-map-range_with_len}
use Rattle.std.proofs.lemmas.Bool.Decides.{nat_tests}
use Rattle.h26x_model.specs.Payload.Reading.{Reading, Fragment, body_of}
use Rattle.h26x_model.specs.Payload.Format.{Format, donl_len}
use Rattle.h26x_model.specs.Send.Plan.{Item, Alone, Together, fits_one_packet, is_dropped, item_units}
use Rattle.h26x_model.specs.Send.Packets.{single_packet, fragment, fragment_body, fragments, fragment_count, fragmented_bytes, fragment_room, item_packets}
use Rattle.h26x_model.specs.Payload.Don.{don_sent, with_dons}
use Rattle.h26x_model.specs.Receive.Received.{extended_run, open_run, run_units, brought_after, units_after}
use Rattle.h26x_model.specs.Payload.Facts.{ReadsWhatItWrites, CanSend}
use Rattle.h26x_model.specs.Carry.Loss.{keep, keeps_last, AreUnitsLeft, AreAllUnitsLeft, AreMasks, packets_left, incomplete_unit}
use Rattle.h26x_model.proofs.ReadBackLemmas.{Bounds, later_read, first_read, fragments_read, place_below, bounds}

-- a run with more data, if one is open
extended : Option (List ℕ) → List ℕ → Option (List ℕ)
extended None bytes = None
extended (Some run) bytes = Some (run ++ bytes)

-- a fragment's data and then more are added to a run as both at once
extended-continued : (run : Option (List ℕ)) (body bytes : List ℕ) → extended (extended_run false run body) bytes ≡ extended run (body ++ bytes)
unfolding extended
extended-continued None body bytes = refl
extended-continued (Some run) body bytes = ap Some (append_assoc run body bytes)

-- no data leave a run as it is
extended-nil : (run : Option (List ℕ)) → extended run [] ≡ run
unfolding extended
extended-nil None = refl
extended-nil (Some run) = ap Some (append-nil run)

-- the data that packets carry
carried_by : Format → List (List ℕ) → List ℕ
carried_by f packets = flat_map (λ packet. body_of (f.read packet)) packets

-- the units that packets bring after these readings
abbrev brought : Format → List Reading → List (List ℕ) → List (List ℕ)
brought f earlier packets = units_after earlier (map f.read packets)

-- so many fragments of a unit, from place j on
abbrev pub fragments_at : Format → ℕ → ℕ → List ℕ → ℕ → ℕ → List (List ℕ)
fragments_at f n limit unit j count = map (fragment f n limit unit) (range_with_len j count)

-- what is left of the fragments from place j on brings one unit where a run is open and the last is left, and else nothing
later_left : (f : Format) (n limit : ℕ) (unit : List ℕ) (earlier : List Reading) (j m : ℕ) (mask : List Bool) → ReadsWhatItWrites f →
    IsTrue (f.carries unit) → Bounds f n limit unit → 0 < j → j + suc m ≡ fragment_count f limit unit → length mask ≡ suc m →
    brought f earlier (keep mask (fragments_at f n limit unit j (suc m)))
    ≡ cond (keeps_last mask)
    (run_units (take f.header_len unit) (extended (open_run earlier) (carried_by f (keep mask (fragments_at f n limit unit j (suc m)))))) []
unfolding carried_by
later_left f n limit unit earlier j m [] sound carried b pos count long = absurd (omega arith)
later_left f n limit unit earlier j zero (true ∷ []) sound carried b pos count long =
    let last : eqb (j + 1) (fragment_count f limit unit) ≡ true = eq-eqb (j + 1) (fragment_count f limit unit) (omega arith) in
    let at = place_below j (fragment_count f limit unit) (fragment_room f limit) (length (fragmented_bytes f n unit)) (omega arith) b.lower in
    let head = take f.header_len unit in
    let body = fragment_body f n limit unit j in
    let run = extended_run false (open_run earlier) body in
    rw (later_read f n limit unit j sound carried pos (omega arith) at, last) (
    append-nil (run_units head run)
    ∙ ap (run_units head) (sym (extended-nil run) ∙ extended-continued (open_run earlier) body []))
later_left f n limit unit earlier j zero (false ∷ []) sound carried b pos count long = refl
later_left f n limit unit earlier j zero (x ∷ y ∷ mask) sound carried b pos count long = absurd (omega arith)
later_left f n limit unit earlier j (suc m) (x ∷ []) sound carried b pos count long = absurd (omega arith)
later_left f n limit unit earlier j (suc m) (false ∷ y ∷ mask) sound carried b pos count long =
    later_left f n limit unit earlier (j + 1) m (y ∷ mask) sound carried b (omega arith) (omega arith) (omega arith)
later_left f n limit unit earlier j (suc m) (true ∷ y ∷ mask) sound carried b pos count long =
    let more : eqb (j + 1) (fragment_count f limit unit) ≡ false = grind (arith, nat_tests) in
    let at = place_below j (fragment_count f limit unit) (fragment_room f limit) (length (fragmented_bytes f n unit)) (omega arith) b.lower in
    let head = take f.header_len unit in
    let body = fragment_body f n limit unit j in
    let here = Fragment false false head None body in
    let behind = carried_by f (keep (y ∷ mask) (fragments_at f n limit unit (j + 1) (suc m))) in
    let next = later_left f n limit unit (here ∷ earlier) (j + 1) m (y ∷ mask) sound carried b (omega arith) (omega arith) (omega arith) in
    rw (later_read f n limit unit j sound carried pos (omega arith) at, more) (
    next ∙ ap (λ r. cond (keeps_last (y ∷ mask)) (run_units head r) []) (extended-continued (open_run earlier) body behind))

-- with the first fragment, what is left brings the header and the data left, if the last is left, and else nothing
with_first : (f : Format) (n limit : ℕ) (unit : List ℕ) (earlier : List Reading) (m : ℕ) (mask : List Bool) → ReadsWhatItWrites f →
    IsTrue (f.carries unit) → Bounds f n limit unit → suc (suc m) ≡ fragment_count f limit unit → length mask ≡ suc m →
    brought f earlier (keep (true ∷ mask) (fragments_at f n limit unit 0 (suc (suc m))))
    ≡ cond (keeps_last mask)
    ((take f.header_len unit ++ carried_by f (keep (true ∷ mask) (fragments_at f n limit unit 0 (suc (suc m))))) ∷ []) []
unfolding carried_by extended
with_first f n limit unit earlier m mask sound carried b count long =
    let more : eqb 1 (fragment_count f limit unit) ≡ false = grind (arith, nat_tests) in
    let body = drop (donl_len f) (take (fragment_room f limit) (fragmented_bytes f n unit)) in
    let here = Fragment true false (take f.header_len unit) (don_sent f n) body in
    rw (first_read f n limit unit sound carried b.large b.some, more)
    (later_left f n limit unit (here ∷ earlier) 1 m mask sound carried b (omega arith) (omega arith) long)

-- a run brings at most one unit
one_at_most : (b : Bool) (head : List ℕ) (run : Option (List ℕ)) → length (cond b (run_units head run) []) ≤ 1
one_at_most false head run = omega arith
one_at_most true head None = omega arith
one_at_most true head (Some run) = omega arith

-- a mask that keeps each element keeps the list
all_kept : {A : Type 0} (mask : List Bool) (xs : List A) → list_all (λ b. b) mask ≡ true → length mask ≡ length xs → keep mask xs ≡ xs
all_kept [] [] all long = refl
all_kept [] (x ∷ xs) all long = absurd (omega arith)
all_kept (b ∷ mask) [] all long = absurd (omega arith)
all_kept (true ∷ mask) (x ∷ xs) all long = ap (λ ys. x ∷ ys) (all_kept mask xs all (omega arith))
all_kept (false ∷ mask) (x ∷ xs) all long = absurd cc

-- what is written of a unit not all of whose fragments are left, by whether the last and the first are
abbrev AreWritten : Bool → Bool → List (List ℕ) → List ℕ → Type 0
AreWritten last first units patch = MatchBool last (MatchBool first (units ≡ patch ∷ []) (length units ≤ 1)) (units ≡ [])

-- so it is where the first brings what is left if the last is too, where there is at most one unit, and none without both
by_last : (last first : Bool) (units : List (List ℕ)) (patch : List ℕ) → (first ≡ true → units ≡ cond last (patch ∷ []) []) →
    (length units ≤ 1) → (first ≡ false → last ≡ false → units ≡ []) → AreWritten last first units patch
by_last true true units patch h few none = h refl
by_last true false units patch h few none = few
by_last false true units patch h few none = h refl
by_last false false units patch h few none = none refl refl

-- a fact for where a test holds, and another one that holds anyway
by_all : (all : Bool) (P Q : Type 0) → (all ≡ true → P) → Q → MatchBool all P Q
by_all true P Q p q = p refl
by_all false P Q p q = q

-- a unit's fragments, of which there are at least two
listed : Format → ℕ → ℕ → List ℕ → ℕ → List (List ℕ)
listed f n limit unit m = fragments_at f n limit unit 0 (suc (suc m))

-- what is left of a unit's fragments is written as it should be where not all are left
some_left : (f : Format) (n limit : ℕ) (unit : List ℕ) (earlier : List Reading) (m : ℕ) (first second : Bool) (mask : List Bool) →
    ReadsWhatItWrites f → IsTrue (f.carries unit) → Bounds f n limit unit →
    suc (suc m) ≡ fragment_count f limit unit → length (second ∷ mask) ≡ suc m →
    AreWritten (keeps_last (second ∷ mask)) first (brought f earlier (keep (first ∷ second ∷ mask) (listed f n limit unit m)))
    (incomplete_unit f (Alone limit unit) (keep (first ∷ second ∷ mask) (listed f n limit unit m)))
unfolding listed carried_by
some_left f n limit unit earlier m true second mask sound carried b count long =
    let left = keep (true ∷ second ∷ mask) (listed f n limit unit m) in
    let last = keeps_last (second ∷ mask) in
    let e = with_first f n limit unit earlier m (second ∷ mask) sound carried b count long in
    by_last last true (brought f earlier left) (incomplete_unit f (Alone limit unit) left) (λ _. e)
    (subst (λ (us : List (List ℕ)). length us ≤ 1) (sym e) (one_at_most last (take f.header_len unit) (Some (carried_by f left))))
    (λ h. absurd cc)
some_left f n limit unit earlier m false second mask sound carried b count long =
    let left = keep (false ∷ second ∷ mask) (listed f n limit unit m) in
    let last = keeps_last (second ∷ mask) in
    let e = later_left f n limit unit earlier 1 m (second ∷ mask) sound carried b (omega arith) (omega arith) long in
    by_last last false (brought f earlier left) (incomplete_unit f (Alone limit unit) left) (λ h. absurd cc)
    (subst (λ (us : List (List ℕ)). length us ≤ 1) (sym e) (one_at_most last (take f.header_len unit) _))
    (λ _ h. e ∙ rw h refl)

-- what is left of a unit's fragments is written as it should be, whatever came before
pub fragments_left : (f : Format) (n limit : ℕ) (unit : List ℕ) (earlier : List Reading) (m : ℕ) (first second : Bool) (mask : List Bool) →
    ReadsWhatItWrites f → IsTrue (f.carries unit) → Bounds f n limit unit →
    fits_one_packet f limit unit ≡ false → suc (suc m) ≡ fragment_count f limit unit → length (second ∷ mask) ≡ suc m →
    AreUnitsLeft f n (Alone limit unit) (first ∷ second ∷ mask)
    (units_after earlier (map f.read (keep (first ∷ second ∷ mask) (item_packets f n (Alone limit unit)))))
unfolding listed
fragments_left f n limit unit earlier m first second mask sound carried b unfit count long =
    let left = first ∷ second ∷ mask in
    let whole : fragments f n limit unit ≡ listed f n limit unit m = ap (fragments_at f n limit unit 0) (sym count) in
    let same : item_packets f n (Alone limit unit) ≡ listed f n limit unit m = rw unfit whole in
    let lengths : length left ≡ length (listed f n limit unit m) = simp (length-map, length-range_with_len) (omega arith) in
    let P : List (List ℕ) → Type 0 = λ ps.
    MatchBool (list_all (λ b. b) left) (brought f earlier (keep left ps) ≡ unit ∷ [])
    (AreWritten (keeps_last (second ∷ mask)) first (brought f earlier (keep left ps)) (incomplete_unit f (Alone limit unit) (keep left ps))) in
    subst P (sym same) (by_all (list_all (λ b. b) left) _ _
    (λ all. ap (brought f earlier) (all_kept left (listed f n limit unit m) all lengths ∙ sym whole)
    ∙ fragments_read f n limit unit earlier sound carried b (omega arith))
    (some_left f n limit unit earlier m first second mask sound carried b count long))

-- numbered units without their numbers are the units
pub numbered_back : (f : Format) (n : ℕ) (sets : List (List ℕ)) → map (λ (u : List ℕ × Option ℕ). u.0) (with_dons f n sets) ≡ sets
numbered_back f n [] = refl
numbered_back f n (set ∷ sets) = ap (λ (x : List (List ℕ)). set ∷ x) (numbered_back f (n + 1) sets)

-- an item of one packet is written whole, or not at all where its packet is lost
one_packet : (f : Format) (n : ℕ) (item : Item) (packet : List ℕ) (earlier : List Reading) (mask : List Bool) →
    item_packets f n item ≡ packet ∷ [] → brought_after (f.read packet) earlier ≡ item_units item →
    length mask ≡ 1 → AreUnitsLeft f n item mask (brought f earlier (keep mask (item_packets f n item)))
one_packet f n item packet earlier [] one units long = absurd (omega arith)
one_packet f n item packet earlier (x ∷ y ∷ mask) one units long = absurd (omega arith)
one_packet f n item packet earlier (true ∷ []) one units long = rw one (append-nil (brought_after (f.read packet) earlier) ∙ units)
one_packet f n item packet earlier (false ∷ []) one units long = rw one refl

-- so is what any mask leaves of a unit that is fragmented
unit_left : (f : Format) (n limit : ℕ) (unit : List ℕ) (earlier : List Reading) (mask : List Bool) → ReadsWhatItWrites f → IsTrue (f.carries unit) →
    is_dropped f limit unit ≡ false → fits_one_packet f limit unit ≡ false → length mask ≡ fragment_count f limit unit →
    AreUnitsLeft f n (Alone limit unit) mask (brought f earlier (keep mask (item_packets f n (Alone limit unit))))
unit_left f n limit unit earlier [] sound carried remains unfit long =
    let b = bounds f n limit unit unfit remains (sound.header unit carried) in absurd (omega (arith, b.1, long))
unit_left f n limit unit earlier (x ∷ []) sound carried remains unfit long =
    let b = bounds f n limit unit unfit remains (sound.header unit carried) in absurd (omega (arith, b.1, long))
unit_left f n limit unit earlier (x ∷ y ∷ mask) sound carried remains unfit long =
    let b = bounds f n limit unit unfit remains (sound.header unit carried) in
    fragments_left f n limit unit earlier (length mask) x y mask sound carried b.0 unfit long refl

-- what is left of any item is written as it should be, whatever came before
item_left : (f : Format) (n : ℕ) (item : Item) (earlier : List Reading) (mask : List Bool) → ReadsWhatItWrites f → CanSend f item →
    length mask ≡ length (item_packets f n item) → AreUnitsLeft f n item mask (brought f earlier (keep mask (item_packets f n item)))
item_left f n (Together limit sets unit) earlier mask sound send long =
    one_packet f n (Together limit sets unit) (f.sets_packet n sets unit) earlier mask refl
    (ap (λ r. brought_after r earlier) (send n) ∙ numbered_back f n sets) long
item_left f n (Alone limit unit) earlier mask sound send long =
    elim (fits_one_packet f limit unit) as (λ b. fits_one_packet f limit unit ≡ b →
    AreUnitsLeft f n (Alone limit unit) mask (brought f earlier (keep mask (item_packets f n (Alone limit unit))))) [
      | true ↦ λ e.
          let one : item_packets f n (Alone limit unit) ≡ single_packet f n unit ∷ [] = rw e refl in
          one_packet f n (Alone limit unit) (single_packet f n unit) earlier mask one
          (ap (λ r. brought_after r earlier) (sound.single n unit send.0)) (long ∙ ap length one)
      | false ↦ λ e.
          let all : item_packets f n (Alone limit unit) ≡ fragments f n limit unit = rw e refl in
          let count = length-map-range_with_len (fragment f n limit unit) 0 (fragment_count f limit unit) in
          unit_left f n limit unit earlier mask sound send.0 send.1 e (long ∙ ap length all ∙ count)
    ] refl

-- the readings so far, the latest first
pushed : List Reading → List Reading → List Reading
pushed earlier [] = earlier
pushed earlier (r ∷ readings) = pushed (r ∷ earlier) readings

-- what two lists of readings bring: the second after what the first brought
units_after-append : (earlier xs ys : List Reading) → units_after earlier (xs ++ ys) ≡ units_after earlier xs ++ units_after (pushed earlier xs) ys
unfolding pushed
units_after-append earlier [] ys = refl
units_after-append earlier (x ∷ xs) ys =
    ap (λ (us : List (List ℕ)). brought_after x earlier ++ us) (units_after-append (x ∷ earlier) xs ys)
    ∙ sym (append_assoc (brought_after x earlier) (units_after (x ∷ earlier) xs) (units_after (pushed (x ∷ earlier) xs) ys))

-- what is left is written as it should be, item by item, whatever came before
pub items_left : (f : Format) (n : ℕ) (items : List Item) (masks : List (List Bool)) (earlier : List Reading) → ReadsWhatItWrites f →
    AllByRecursion (CanSend f) items → AreMasks f n items masks →
    (written : List (List (List ℕ))) × AreAllUnitsLeft f n items masks written
    × (units_after earlier (map f.read (packets_left f n items masks)) ≡ flat_map (λ units. units) written)
items_left f n [] [] earlier sound send fit = ([], tt, refl)
items_left f n [] (mask ∷ masks) earlier sound send fit = absurd fit
items_left f n (item ∷ items) [] earlier sound send fit = absurd fit
items_left f n (item ∷ items) (mask ∷ masks) earlier sound send fit =
    let here = keep mask (item_packets f n item) in
    let next = n + length (item_units item) in
    let behind = packets_left f next items masks in
    let (written, left, same) = items_left f next items masks (pushed earlier (map f.read here)) sound send.1 fit.1 in (
      brought f earlier here ∷ written,
      (item_left f n item earlier mask sound send.0 fit.0, left),
      ap (units_after earlier) (map-append f.read here behind) ∙ units_after-append earlier (map f.read here) (map f.read behind)
          ∙ ap (λ (us : List (List ℕ)). brought f earlier here ++ us) same,
    )
