-- What a packetizer of every unit asks of H.266's format.
use Rattle.std.specs.Prelude.{◌≡◌, ℕ, ◌+◌, ◌≤◌, nat_le, Bool, true, false, List, [], length, refl}
use Rattle.std.specs.List.{sum_by}
use Rattle.h26x_model.specs.Payload.Facts.{FitsLimits, DonlHasTwoBytes}
use Rattle.h26x_model.specs.Send.Every.{FitsBySum}
use Rattle.h26x_model.proofs.PieceRoomLemmas.{behind, by_sum}
use Rattle.h266_payload.specs.H266.{sets_fit}
use Rattle.h266_payload.specs.CodecFacts.{fits_limits, aggregate_numbers}
use Rattle.h266_payload.specs.EveryUnit.{h266_every, units_start}

-- headers are as long as they are counted, and aggregates are within the limit
pub fits_every : (has_donl : Bool) → FitsLimits (h266_every has_donl)
fits_every has_donl = record {
  header = (fits_limits has_donl).header;
  sets = λ limit n units unit. (fits_limits has_donl).sets limit n units [];
}

-- an aggregate bears a number in two bytes, or none
pub every_numbers : (has_donl : Bool) → DonlHasTwoBytes (h266_every has_donl)
every_numbers has_donl = record {
  sets = λ n units unit. (aggregate_numbers has_donl).sets n units [];
  none = λ none n m units unit. (aggregate_numbers has_donl).none none n m units [];
}

-- units fit an aggregate by the sum of their lengths
sum_is : (has_donl : Bool) (limit : ℕ) (units : List (List ℕ)) → 1 ≤ length units →
    sets_fit has_donl limit units
    ≡ nat_le (units_start has_donl + sum_by (behind 2) units) limit
sum_is true limit units some = refl
sum_is false limit units some = refl

pub every_by_sum : (has_donl : Bool) → FitsBySum (h266_every has_donl) (units_start has_donl) 2
every_by_sum has_donl = by_sum (h266_every has_donl) (units_start has_donl) 2 refl (sum_is has_donl)
