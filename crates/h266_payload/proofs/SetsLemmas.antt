-- Aggregates of sets: that they are read back, and that they are not detected.
use Rattle.std.proofs.Common.{◌≡◌, ℕ, zero, suc, ◌+◌, ◌*◌, ◌/◌, ◌%◌, ◌<◌, ◌≤◌, Bool, true, false, cond, List, [], ◌∷◌, ◌++◌, length, Option, Some, None, refl, ap, ◌∙◌, arith, length-append}
use Rattle.std.specs.Prelude.{IsTrue, max, Ok}
use Rattle.std.specs.List.{flat_map, list_any, AllByRecursion}
use Rattle.std.proofs.lemmas.Bool.Decides.{nat_tests}
use Rattle.h26x_core.specs.Word.{is_set, word}
use Rattle.h26x_core.specs.H266Unit.{type_of, is_key}
use Rattle.h26x_model.specs.Payload.Reading.{Aggregate}
use Rattle.h26x_model.specs.Payload.Format.{IsLimit}
use Rattle.h26x_model.specs.Payload.Don.{with_dons}
use Rattle.h26x_core.specs.Pieces.{piece}
use Rattle.h26x_model.specs.Payload.Facts.{AreCarried}
use Rattle.h26x_core.proofs.PieceLemmas.{word_back, number_back}
use Rattle.h26x_model.proofs.SetsLemmas.{FitIsWithin, sets_short, plain_numbers, next_number}
use Rattle.h26x_model.proofs.TwoByteLemmas.{of_carried, header_there, aggregate_read, sets_undetected}
use Rattle.h266_payload.specs.CodecFacts.{fit_within}
use Rattle.h26x_model.specs.Payload.TwoBytes.{two_byte_carries, two_byte_detects}
use Rattle.h266_payload.specs.H266.{h266, h266_rules, read, sets_fit, sets_packet, has_forbidden_bit, layer_of, temporal_of, least}
use Rattle.h266_payload.specs.H266.{has_packet_type, with_unit, units_within, units_with_dons, two_or_more, aggregate_of, h266_header}
use Rattle.h266_payload.proofs.HeaderLemmas.{is_two_bytes, aggregate_type}
use Rattle.h266_payload.proofs.WithinLemmas.{unit_within}

-- sets that fit an aggregate are within the limit
pub fit_is_within : (has_donl : Bool) → FitIsWithin (h266 has_donl)
fit_is_within has_donl limit sets some fit = fit_within has_donl limit sets fit

-- no carried unit has F set
unmarked : (has_donl : Bool) (unit : List ℕ) → IsTrue (two_byte_carries h266_header unit) → has_forbidden_bit unit ≡ false
unmarked has_donl = of_carried has_donl (h266_rules has_donl) (is_two_bytes has_donl) _ (λ high low b unit c. c.clear)

-- none of carried sets has F set
none_marked : (has_donl : Bool) (sets : List (List ℕ)) → AreCarried (h266 has_donl) sets → list_any has_forbidden_bit sets ≡ false
none_marked has_donl [] carried = refl
none_marked has_donl (set ∷ sets) (here, later) = rw (unmarked has_donl set here) (none_marked has_donl sets later)

-- no carried unit is an aggregate or a fragment
allowed : (has_donl : Bool) (unit : List ℕ) → IsTrue (two_byte_carries h266_header unit) → has_packet_type unit ≡ false
allowed has_donl = of_carried has_donl (h266_rules has_donl) (is_two_bytes has_donl) _ (λ high low b unit c. rw (c.no_aggregate, c.no_fragment) refl)

-- the least of values below a bound is below it
least_below : (bound : ℕ) (value : List ℕ → ℕ) → 0 < bound → ((unit : List ℕ) → value unit < bound) → (sets : List (List ℕ)) → least value sets < bound
least_below bound value some each [] = some
least_below bound value some each (set ∷ []) = each set
least_below bound value some each (set ∷ second ∷ sets) = let h = each set in omega (arith, h)

-- a layer has six bits
layer_below : (unit : List ℕ) → layer_of unit < 64
layer_below [] = omega arith
layer_below (high ∷ unit) = omega arith

-- a temporal id has three bits
temporal_below : (unit : List ℕ) → temporal_of unit < 8
temporal_below [] = omega arith
temporal_below (high ∷ []) = omega arith
temporal_below (high ∷ low ∷ unit) = omega arith

-- the header of an aggregate of carried sets has F clear
sets_clear : (has_donl : Bool) (sets : List (List ℕ)) → AreCarried (h266 has_donl) sets → is_set (cond (list_any has_forbidden_bit sets) 0x80 0 + least layer_of sets) 7 ≡ false
sets_clear has_donl sets carried =
    let below = least_below 64 layer_of (omega arith) layer_below sets in
    rw (none_marked has_donl sets carried) (grind (arith, nat_tests))

-- an aggregate of sets has type 28
pub sets_type : (sets : List (List ℕ)) → type_of (28 * 8 + max 1 (least temporal_of sets)) ≡ 28
sets_type sets = aggregate_type (least temporal_of sets) (least_below 8 temporal_of (omega arith) temporal_below sets)

-- carried sets behind their lengths are found again
sets_within : (has_donl : Bool) (most : ℕ) (sets : List (List ℕ)) → length (flat_map piece sets) ≤ most → AllByRecursion (λ set. length set < 65536) sets →
    AreCarried (h266 has_donl) sets → units_within most (flat_map piece sets) ≡ Ok sets
sets_within has_donl most [] few short carried = refl
sets_within has_donl zero (set ∷ sets) few short carried = absurd (omega arith)
sets_within has_donl (suc most) (set ∷ sets) few (here, others) (is, later) =
    let l : length (set ++ flat_map piece sets) ≡ length set + length (flat_map piece sets) = length-append set (flat_map piece sets) in
    let whole : suc (suc (length (set ++ flat_map piece sets))) ≤ suc most = few in
    unit_within most (length set / 256 % 256) (length set % 256) set (flat_map piece sets)
    (header_there has_donl (h266_rules has_donl) (is_two_bytes has_donl) set is) (word_back (length set) here) (allowed has_donl set is)
    ∙ ap (with_unit set) (sets_within has_donl most sets (omega (arith, l, whole)) others later)

-- units with numbers are read with those that they are sent with
borne_numbers : (n : ℕ) (units : List (List ℕ)) → units_with_dons (Some (n % 65536)) units ≡ with_dons (h266 true) n units
borne_numbers n [] = refl
borne_numbers n (unit ∷ units) = ap (λ (us : List (List ℕ × Option ℕ)). (unit, Some (n % 65536)) ∷ us) (rw (next_number n) (borne_numbers (n + 1) units))

-- the header of an aggregate of carried sets is read as one
sets_read : (has_donl : Bool) (sets : List (List ℕ)) (bytes : List ℕ) → 1 ≤ length bytes → AreCarried (h266 has_donl) sets →
    read has_donl ((cond (list_any has_forbidden_bit sets) 0x80 0 + least layer_of sets) ∷ (28 * 8 + max 1 (least temporal_of sets)) ∷ bytes) ≡ aggregate_of has_donl bytes
sets_read has_donl sets bytes some carried =
    aggregate_read (h266_rules has_donl) (cond (list_any has_forbidden_bit sets) 0x80 0 + least layer_of sets) (28 * 8 + max 1 (least temporal_of sets)) bytes some
    (sets_clear has_donl sets carried) (sets_type sets)

-- sets that fit one packet at a call's limit are found again behind their lengths
sets_found : (has_donl : Bool) (limit : ℕ) (sets : List (List ℕ)) → IsLimit (h266 has_donl) limit → sets_fit has_donl limit sets ≡ true → AreCarried (h266 has_donl) sets →
    units_within (length (flat_map piece sets)) (flat_map piece sets) ≡ Ok sets
sets_found has_donl limit sets is fit carried =
    sets_within has_donl (length (flat_map piece sets)) sets (omega arith) (sets_short (h266 has_donl) (fit_is_within has_donl) limit sets (is refl) fit) carried

-- sets that fit one packet at a call's limit are read back from it
pub sets_back : (has_donl : Bool) (n limit : ℕ) (sets : List (List ℕ)) (unit : List ℕ) → IsLimit (h266 has_donl) limit → sets_fit has_donl limit sets ≡ true → 2 ≤ length sets →
    AreCarried (h266 has_donl) sets → read has_donl (sets_packet has_donl n sets unit) ≡ Aggregate (with_dons (h266 has_donl) n sets)
sets_back has_donl n limit [] unit is fit many carried = absurd (omega arith)
sets_back has_donl n limit (first ∷ []) unit is fit many carried = absurd (omega arith)
sets_back false n limit (first ∷ second ∷ sets) unit is fit many carried =
    let all = first ∷ second ∷ sets in
    sets_read false all (flat_map piece all) (omega arith) carried
    ∙ ap (two_or_more None) (sets_found false limit all is fit carried)
    ∙ ap Aggregate (plain_numbers (h266 false) refl n all)
sets_back true n limit (first ∷ second ∷ sets) unit is fit many carried =
    let all = first ∷ second ∷ sets in
    sets_read true all (word (n % 65536) ++ flat_map piece all) (omega arith) carried
    ∙ ap (two_or_more (Some (n % 65536 / 256 % 256 * 256 + n % 65536 % 256))) (sets_found true limit all is fit carried)
    ∙ ap Aggregate (rw (number_back n) (borne_numbers n all))

-- an aggregate of sets without numbers is not detected
pub undetected : (has_donl : Bool) (n limit : ℕ) (sets : List (List ℕ)) (unit : List ℕ) → has_donl ≡ false → IsLimit (h266 has_donl) limit →
    sets_fit has_donl limit sets ≡ true → AllByRecursion (λ set. is_key set ≡ false) sets → two_byte_detects h266_header (sets_packet has_donl n sets unit) ≡ false
undetected true n limit sets unit none is fit each = absurd cc
undetected false n limit sets unit none is fit each =
    sets_undetected false (h266_rules false) (is_two_bytes false) (cond (list_any has_forbidden_bit sets) 0x80 0 + least layer_of sets) (28 * 8 + max 1 (least temporal_of sets)) sets (sets_type sets)
    (sets_short (h266 false) (fit_is_within false) limit sets (is refl) fit) each
