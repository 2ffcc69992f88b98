-- What a packetizer asks of H.265's format.
use Rattle.std.specs.Prelude.{◌≡◌, ℕ, ◌+◌, ◌≤◌, ◌%◌, Bool, true, false, List, [], ◌∷◌, ◌++◌, length, refl}
use Rattle.std.specs.List.{flat_map}
use Rattle.std.proofs.Common.{arith, cond, length-append}
use Rattle.std.proofs.lemmas.Bool.Decides.{nat_tests}
use Rattle.std.proofs.Math.Nat.{mod-mod}
use Rattle.h26x_core.specs.Kind.{is_other}
use Rattle.h26x_core.specs.H265Unit.{kind, is_key}
use Rattle.h26x_model.specs.Payload.Facts.{FitsLimits, DonlHasTwoBytes}
use Rattle.h26x_model.proofs.SetsLemmas.{room_of, room_of-cons}
use Rattle.h26x_model.proofs.TwoByteLemmas as two_byte
use Rattle.h265_payload.specs.H265.{h265, h265_header, sets_fit, sets_packet, further_set}

-- an other unit has a whole header
pub has_header : (unit : List ℕ) → is_other (kind unit) ≡ true → 2 ≤ length unit
has_header = two_byte.has_header h265_header

-- a header tells whether its unit is a key unit
pub header_tells : (head rest : List ℕ) → length head ≡ 2 → is_key (head ++ rest) ≡ is_key head
header_tells = two_byte.header_tells h265_header

-- sets that fit an aggregate are within the limit
pub fit_within : (has_donl : Bool) (limit : ℕ) (sets : List (List ℕ)) →
    sets_fit has_donl limit sets ≡ true →
    2 + cond has_donl (length sets + 1) 0 + room_of sets ≤ limit
fit_within has_donl limit sets h = grind (arith, nat_tests)

-- the further sets take one byte more each where they bear numbers
pub further_long : (has_donl : Bool) (sets : List (List ℕ)) →
    length (flat_map (further_set has_donl) sets) ≡ cond has_donl (length sets) 0 + room_of sets
further_long true [] = omega arith
further_long false [] = omega arith
further_long true (set ∷ sets) =
    let h = further_long true sets in let l = length-append set (flat_map (further_set true) sets) in
    let s = room_of-cons set sets in omega (arith, h, l, s)
further_long false (set ∷ sets) =
    let h = further_long false sets in let l = length-append set (flat_map (further_set false) sets) in
    let s = room_of-cons set sets in omega (arith, h, l, s)

-- an aggregate of sets that fit is within the limit
sets_within : (has_donl : Bool) (limit n : ℕ) (sets : List (List ℕ)) (unit : List ℕ) →
    sets_fit has_donl limit sets ≡ true → length (sets_packet has_donl n sets unit) ≤ limit
sets_within has_donl limit n [] unit fit = omega arith
sets_within has_donl limit n (set ∷ sets) [] fit = omega arith
sets_within has_donl limit n (set ∷ sets) (high ∷ []) fit = omega arith
sets_within true limit n (set ∷ sets) (high ∷ low ∷ unit) fit =
    let w = fit_within true limit (set ∷ sets) fit in
    let h = further_long true sets in let l = length-append set (flat_map (further_set true) sets) in
    let s = room_of-cons set sets in omega (arith, w, h, l, s)
sets_within false limit n (set ∷ sets) (high ∷ low ∷ unit) fit =
    let w = fit_within false limit (set ∷ sets) fit in
    let h = further_long false sets in let l = length-append set (flat_map (further_set false) sets) in
    let s = room_of-cons set sets in omega (arith, w, h, l, s)

-- headers are as long as they are counted, and aggregates are within the limit
pub fits_limits : (has_donl : Bool) → FitsLimits (h265 has_donl)
fits_limits has_donl = record {
  header = two_byte.fragment_header_long h265_header;
  sets = sets_within has_donl;
}

-- a number counts by its two bytes
two_number_bytes : (has_donl : Bool) (n : ℕ) (sets : List (List ℕ)) (unit : List ℕ) →
    sets_packet has_donl (n % 65536) sets unit ≡ sets_packet has_donl n sets unit
two_number_bytes has_donl n [] unit = refl
two_number_bytes has_donl n (set ∷ sets) [] = refl
two_number_bytes has_donl n (set ∷ sets) (high ∷ []) = refl
two_number_bytes has_donl n (set ∷ sets) (high ∷ low ∷ unit) = rw (mod-mod n 65536) refl

-- an aggregate bears a number in two bytes, or none
pub aggregate_numbers : (has_donl : Bool) → DonlHasTwoBytes (h265 has_donl)
aggregate_numbers has_donl = record {
  sets = two_number_bytes has_donl;
  none = λ none n m sets unit. rw none refl;
}
