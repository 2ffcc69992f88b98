-- What a packetizer of every unit asks of H.264's format.
use Rattle.std.specs.Prelude.{◌≡◌, ℕ, ◌+◌, ◌≤◌, nat_le, nat_lt, true, List, length, refl}
use Rattle.std.specs.List.{list_all, sum_by}
use Rattle.std.proofs.Common.{arith}
use Rattle.std.proofs.lemmas.Bool.{and_parts}
use Rattle.std.proofs.lemmas.Bool.Decides.{nat_tests}
use Rattle.h26x_core.proofs.PieceLemmas.{pieces_long}
use Rattle.h26x_model.specs.Payload.Facts.{FitsLimits, DonlHasTwoBytes}
use Rattle.h26x_model.specs.Send.Every.{FitsBySum}
use Rattle.h264_payload.specs.H264.{sets_fit}
use Rattle.h264_payload.specs.CodecFacts.{fits_limits}
use Rattle.h264_payload.specs.EveryUnit.{h264_every, own_aggregate}

-- a STAP-A of units that fit is within the limit
units_within : (limit n : ℕ) (units : List (List ℕ)) (unit : List ℕ) → sets_fit limit units ≡ true →
    length (own_aggregate n units) ≤ limit
units_within limit n units unit fit =
    let h : nat_le (1 + sum_by (λ (set : List ℕ). 2 + length set) units) limit ≡ true =
    (and_parts (nat_le (1 + sum_by (λ (set : List ℕ). 2 + length set) units) limit)
    (list_all (λ (set : List ℕ). nat_lt (length set) 65536) units) fit).0 in
    rw (pieces_long units) (grind (arith, nat_tests))

-- headers are as long as they are counted, and STAP-As are within the limit
pub fits_every : FitsLimits h264_every
fits_every = record { header = fits_limits.header; sets = units_within }

-- a STAP-A bears no number
pub every_numbers : DonlHasTwoBytes h264_every
every_numbers = record { sets = λ n sets unit. refl; none = λ none n m sets unit. refl }

-- units fit a STAP-A by the sum of their lengths
pub every_by_sum : FitsBySum h264_every 1 2
every_by_sum limit units is some = refl
