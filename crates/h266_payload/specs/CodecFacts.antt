-- What a packetizer asks of H.266's format.
use Rattle.std.specs.Prelude.{◌≡◌, ℕ, ◌+◌, ◌≤◌, Bool, true, false, List, ◌++◌, length, refl}
use Rattle.std.proofs.Common.{arith, cond}
use Rattle.std.proofs.lemmas.Bool.Decides.{nat_tests}
use Rattle.std.proofs.Math.Nat.{mod-mod}
use Rattle.h26x_core.specs.Kind.{is_other}
use Rattle.h26x_core.specs.H266Unit.{kind, is_key}
use Rattle.h26x_model.specs.Payload.Facts.{FitsLimits, DonlHasTwoBytes}
use Rattle.h26x_core.proofs.PieceLemmas.{pieces_long}
use Rattle.h26x_model.proofs.SetsLemmas.{room_of}
use Rattle.h26x_model.proofs.TwoByteLemmas as two_byte
use Rattle.h266_payload.specs.H266.{h266, h266_header, sets_fit, sets_packet}

-- an other unit has a whole header
pub has_header : (unit : List ℕ) → is_other (kind unit) ≡ true → 2 ≤ length unit
has_header = two_byte.has_header h266_header

-- a header tells whether its unit is a key unit
pub header_tells : (head rest : List ℕ) → length head ≡ 2 → is_key (head ++ rest) ≡ is_key head
header_tells = two_byte.header_tells h266_header

-- sets that fit an aggregate are within the limit
pub fit_within : (has_donl : Bool) (limit : ℕ) (sets : List (List ℕ)) →
    sets_fit has_donl limit sets ≡ true → 2 + cond has_donl 2 0 + room_of sets ≤ limit
fit_within has_donl limit sets fit = grind (arith, nat_tests)

-- and so is the aggregate
sets_within : (has_donl : Bool) (limit n : ℕ) (sets : List (List ℕ)) (unit : List ℕ) →
    sets_fit has_donl limit sets ≡ true → length (sets_packet has_donl n sets unit) ≤ limit
sets_within false limit n sets unit fit =
    let h = pieces_long sets in let w = fit_within false limit sets fit in omega (arith, h, w)
sets_within true limit n sets unit fit =
    let h = pieces_long sets in let w = fit_within true limit sets fit in omega (arith, h, w)

-- headers are as long as they are counted, and aggregates are within the limit
pub fits_limits : (has_donl : Bool) → FitsLimits (h266 has_donl)
fits_limits has_donl = record {
  header = two_byte.fragment_header_long h266_header;
  sets = sets_within has_donl;
}

-- an aggregate bears a number in two bytes, or none
pub aggregate_numbers : (has_donl : Bool) → DonlHasTwoBytes (h266 has_donl)
aggregate_numbers has_donl = record {
  sets = λ n sets unit. rw (mod-mod n 65536) refl;
  none = λ none n m sets unit. rw none refl;
}
