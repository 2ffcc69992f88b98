-- Aggregates of parameter sets: that they are read back, and that they are not detected.
use Rattle.std.proofs.Common.{◌≡◌, ℕ, zero, suc, ◌+◌, ◌*◌, ◌/◌, ◌%◌, ◌<◌, ◌≤◌, Bool, true, false, List, [], ◌∷◌, ◌++◌, length, Option, Some, refl, ap, arith, length-append}
use Rattle.std.specs.Prelude.{IsTrue}
use Rattle.std.specs.List.{flat_map, AllByRecursion}
use Rattle.std.proofs.lemmas.List.{take_at, drop_at}
use Rattle.std.proofs.Math.Nat.{add-zero}
use Rattle.h26x_core.specs.H265Unit.{type_of, is_key}
use Rattle.h26x_model.specs.Payload.Reading.{Aggregate}
use Rattle.h26x_model.specs.Payload.Format.{IsLimit}
use Rattle.h26x_model.specs.Payload.Don.{with_dons}
use Rattle.h26x_core.specs.Pieces.{piece}
use Rattle.h26x_core.proofs.PieceLemmas.{word_back, pieces_back, enough, number_back}
use Rattle.h26x_model.proofs.SetsLemmas.{FitIsWithin, sets_short, plain_numbers, next_number}
use Rattle.h26x_model.proofs.TwoByteLemmas.{IsCarried, of_carried, sets_undetected}
use Rattle.h265_payload.specs.CodecFacts.{fit_within, further_long}
use Rattle.h26x_model.specs.Payload.TwoBytes.{two_byte_carries, two_byte_detects}
use Rattle.h265_payload.specs.H265.{h265, h265_rules, read, sets_fit, sets_packet, with_type_and_f, further_set, further_units, units_behind_donl, two_or_more, h265_header}
use Rattle.h265_payload.proofs.HeaderLemmas.{is_two_bytes, clear_as}

-- the number of a first set takes no more
pub fit_is_within : (has_donl : Bool) → FitIsWithin (h265 has_donl)
fit_is_within true limit sets some fit = let w = fit_within true limit sets fit in omega (arith, w)
fit_is_within false limit sets some fit = let w = fit_within false limit sets fit in omega (arith, w)

-- sets behind their differences are read with the numbers that they were sent with
further_back : (most n : ℕ) (sets : List (List ℕ)) → length sets ≤ most → AllByRecursion (λ set. length set < 65536) sets →
    further_units most (n % 65536) (flat_map (further_set true) sets) ≡ with_dons (h265 true) (n + 1) sets
further_back zero n [] few fit = refl
further_back zero n (set ∷ sets) few fit = absurd (omega arith)
further_back (suc most) n [] few fit = refl
further_back (suc most) n (set ∷ sets) few (fits, others) =
    let l : length set / 256 % 256 * 256 + length set % 256 ≡ length set = word_back (length set) fits in
    rw (
      l,
      add-zero (n % 65536),
      next_number n,
      enough (length set) set (flat_map (further_set true) sets) refl,
      take_at set (flat_map (further_set true) sets) (length set) refl,
      drop_at set (flat_map (further_set true) sets) (length set) refl,
    )
    (ap (λ (x : List (List ℕ × Option ℕ)). (set, Some ((n + 1) % 65536)) ∷ x) (further_back most (n + 1) sets (omega arith) others))

-- there are no more sets than bytes
many : (sets : List (List ℕ)) → length sets ≤ length (flat_map (further_set true) sets)
many sets = let h = further_long true sets in omega (arith, h)

-- the sets behind an aggregate's number are read with their numbers
pub units_back : (n : ℕ) (set : List ℕ) (sets : List (List ℕ)) → AllByRecursion (λ set. length set < 65536) (set ∷ sets) →
    units_behind_donl (n % 65536) (piece set ++ flat_map (further_set true) sets) ≡ with_dons (h265 true) n (set ∷ sets)
units_back n set sets (fits, others) =
    let l : length set / 256 % 256 * 256 + length set % 256 ≡ length set = word_back (length set) fits in
    let t = length-append set (flat_map (further_set true) sets) in
    let m = many sets in
    rw (l, enough (length set) set (flat_map (further_set true) sets) refl, take_at set (flat_map (further_set true) sets) (length set) refl, drop_at set (flat_map (further_set true) sets) (length set) refl)
    (ap (λ (x : List (List ℕ × Option ℕ)). (set, Some (n % 65536)) ∷ x) (further_back (length (set ++ flat_map (further_set true) sets)) n sets (omega (arith, t, m)) others))

-- the header of an aggregate has type 48
pub sets_type : (high : ℕ) → type_of (with_type_and_f high 48) ≡ 48
sets_type high = omega arith

-- an aggregate before a unit with these bytes is read back
aggregate_back : (has_donl : Bool) (n : ℕ) (sets : List (List ℕ)) (high low : ℕ) (unit : List ℕ) → IsCarried has_donl (h265_rules has_donl) high low →
    2 ≤ length sets → AllByRecursion (λ set. length set < 65536) sets →
    read has_donl (sets_packet has_donl n sets (high ∷ low ∷ unit)) ≡ Aggregate (with_dons (h265 has_donl) n sets)
aggregate_back has_donl n [] high low unit c two short = absurd (omega arith)
aggregate_back has_donl n (set ∷ []) high low unit c two short = absurd (omega arith)
aggregate_back false n (set ∷ second ∷ sets) high low unit c two short =
    let all = set ∷ second ∷ sets in
    rw (clear_as high 48 c.clear (omega arith), sets_type high, pieces_back all short) (ap Aggregate (plain_numbers (h265 false) refl n all))
aggregate_back true n (set ∷ second ∷ sets) high low unit c two short =
    rw (clear_as high 48 c.clear (omega arith), sets_type high, number_back n) (ap two_or_more (units_back n set (second ∷ sets) short))

-- two sets or more that fit an aggregate are read back with their numbers
pub sets_back : (has_donl : Bool) (n limit : ℕ) (sets : List (List ℕ)) (unit : List ℕ) → IsLimit (h265 has_donl) limit → sets_fit has_donl limit sets ≡ true → 2 ≤ length sets →
    IsTrue (two_byte_carries h265_header unit) → read has_donl (sets_packet has_donl n sets unit) ≡ Aggregate (with_dons (h265 has_donl) n sets)
sets_back has_donl n limit sets unit is fit many h = of_carried has_donl (h265_rules has_donl) (is_two_bytes has_donl)
    (λ unit. read has_donl (sets_packet has_donl n sets unit) ≡ Aggregate (with_dons (h265 has_donl) n sets))
    (λ high low b unit c. aggregate_back has_donl n sets high low (b ∷ unit) c many (sets_short (h265 has_donl) (fit_is_within has_donl) limit sets (is refl) fit)) unit h

-- an aggregate of sets without numbers is not detected
pub undetected : (has_donl : Bool) (n limit : ℕ) (sets : List (List ℕ)) (unit : List ℕ) → has_donl ≡ false → IsLimit (h265 has_donl) limit →
    sets_fit has_donl limit sets ≡ true → IsTrue (two_byte_carries h265_header unit) → AllByRecursion (λ set. is_key set ≡ false) sets → two_byte_detects h265_header (sets_packet has_donl n sets unit) ≡ false
undetected true n limit sets unit none is fit h all = absurd cc
undetected false n limit [] unit none is fit h all = refl
undetected false n limit (set ∷ sets) unit none is fit h all =
    of_carried false (h265_rules false) (is_two_bytes false) (λ unit. two_byte_detects h265_header (sets_packet false n (set ∷ sets) unit) ≡ false)
    (λ high low b unit c. sets_undetected false (h265_rules false) (is_two_bytes false) (with_type_and_f high 48) low (set ∷ sets) (sets_type high)
    (sets_short (h265 false) (fit_is_within false) limit (set ∷ sets) (is refl) fit) all) unit h
