-- What a packetizer of every unit asks of H.265's format.
use Rattle.std.specs.Prelude.{◌≡◌, ℕ, ◌+◌, ◌≤◌, ◌%◌, nat_le, Bool, true, false, List, [], ◌∷◌, length, refl}
use Rattle.std.proofs.Common.{arith, ap}
use Rattle.std.proofs.Math.Nat.{mod-mod}
use Rattle.std.specs.List.{sum_by}
use Rattle.h26x_model.specs.Payload.Facts.{FitsLimits, DonlHasTwoBytes}
use Rattle.h26x_model.specs.Send.Every.{FitsBySum}
use Rattle.h26x_model.proofs.PieceRoomLemmas.{behind, by_sum, one_more_each}
use Rattle.h26x_payload.specs.Sets.{sets_gap}
use Rattle.h265_payload.specs.H265.{sets_fit}
use Rattle.h265_payload.specs.CodecFacts.{fits_limits}
use Rattle.h265_payload.specs.EveryUnit.{h265_every, own_aggregate, units_start}

-- an aggregate of units that fit is within the limit: it is as long as that of sets
units_within : (has_donl : Bool) (limit n : ℕ) (units : List (List ℕ)) (other : List ℕ) →
    sets_fit has_donl limit units ≡ true → length (own_aggregate has_donl n units) ≤ limit
units_within has_donl limit n [] other fit = omega arith
units_within has_donl limit n (unit ∷ units) other fit =
    (fits_limits has_donl).sets limit n (unit ∷ units) (0 ∷ 0 ∷ []) fit

-- headers are as long as they are counted, and aggregates are within the limit
pub fits_every : (has_donl : Bool) → FitsLimits (h265_every has_donl)
fits_every has_donl = record {
  header = (fits_limits has_donl).header;
  sets = units_within has_donl;
}

-- a number counts by its two bytes
two_bytes : (has_donl : Bool) (n : ℕ) (units : List (List ℕ)) →
    own_aggregate has_donl (n % 65536) units ≡ own_aggregate has_donl n units
two_bytes has_donl n [] = refl
two_bytes has_donl n (unit ∷ units) = rw (mod-mod n 65536) refl

-- an aggregate bears a number in two bytes, or none
no_number : (has_donl : Bool) (n m : ℕ) (units : List (List ℕ)) → has_donl ≡ false →
    own_aggregate has_donl n units ≡ own_aggregate has_donl m units
no_number has_donl n m [] none = refl
no_number has_donl n m (unit ∷ units) none = rw none refl

pub every_numbers : (has_donl : Bool) → DonlHasTwoBytes (h265_every has_donl)
every_numbers has_donl = record {
  sets = λ n units unit. two_bytes has_donl n units;
  none = λ none n m units unit. no_number has_donl n m units none;
}

-- units fit an aggregate by the sum of their lengths
sum_is : (has_donl : Bool) (limit : ℕ) (units : List (List ℕ)) → 1 ≤ length units →
    sets_fit has_donl limit units ≡ nat_le (units_start has_donl + sum_by
    (behind (2 + length (sets_gap has_donl))) units) limit
sum_is true limit units some =
    let h = one_more_each units in ap (λ n. nat_le n limit) (omega (arith, h))
sum_is false limit units some = refl

pub every_by_sum : (has_donl : Bool) → FitsBySum (h265_every has_donl) (units_start has_donl)
    (2 + length (sets_gap has_donl))
every_by_sum has_donl = by_sum (h265_every has_donl) (units_start has_donl)
    (2 + length (sets_gap has_donl)) refl (sum_is has_donl)
