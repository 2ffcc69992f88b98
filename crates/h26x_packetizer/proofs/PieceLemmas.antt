-- Units behind their lengths, as they are written one by one.
use Rattle.std.proofs.Common.{◌≡◌, ℕ, ◌+◌, ◌≤◌, List, [], ◌∷◌, ◌++◌, suc, length, drop, get_or, refl, ap, arith, length-append, ◌<◌, min}
use Rattle.std.specs.List.{flat_map}
use Rattle.std.specs.Borrow.{Bor}
use Rattle.std.proofs.lemmas.List.{drop_more, nil_from_length, length-drop}
use Rattle.h26x_core.specs.Pieces.{piece}
use Rattle.h26x_payload.specs.Sets.{sets_behind_lengths}
use Rattle.h26x_packetizer.specs.Group.{lent_units, behind_leads}

gaps_are : (gap : List ℕ) (units : List (List ℕ)) → behind_leads gap gap units ≡ flat_map (λ other. gap ++ piece other) units
gaps_are gap [] = refl
gaps_are gap (unit ∷ units) = ap (λ (l : List ℕ). (gap ++ piece unit) ++ l) (gaps_are gap units)

-- the first stands behind nothing more
pub leads_are : (gap : List ℕ) (units : List (List ℕ)) → behind_leads [] gap units ≡ sets_behind_lengths gap units
leads_are gap [] = refl
leads_are gap (unit ∷ units) = ap (λ (l : List ℕ). piece unit ++ l) (gaps_are gap units)

-- the units that are left: one and the others, or none
pub one_left : (lead gap : List ℕ) (units : List (Bor (List ℕ))) (i : ℕ) (d : Bor (List ℕ)) → i < length units →
    behind_leads lead gap (lent_units (drop i units)) ≡ (lead ++ piece (get_or units i d).now) ++ behind_leads gap gap (lent_units (drop (i + 1) units))
one_left lead gap units i d there = rw (drop_more units i d there) refl

pub none_left : (lead gap : List ℕ) (units : List (Bor (List ℕ))) (i : ℕ) → length units ≤ i → behind_leads lead gap (lent_units (drop i units)) ≡ []
none_left lead gap units i past = let none : drop i units ≡ [] = nil_from_length (drop i units) (let l = length-drop i units in omega (arith, l, past)) in rw none refl

-- how long a unit behind its length is
pub piece_long : (lead unit : List ℕ) → length (lead ++ piece unit) ≡ length lead + (2 + length unit)
piece_long lead unit = let l : length (lead ++ piece unit) ≡ length lead + suc (suc (length unit)) = length-append lead (piece unit) in omega (arith, l)

-- sums up to a greatest number
pub up_to : (a b c d e m : ℕ) → min (min (min (min (a + b) m + c) m + d) m + e) m ≡ min (a + (b + (c + d)) + e) m
up_to a b c d e m = omega arith
