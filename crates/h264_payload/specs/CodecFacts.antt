-- What a packetizer asks of H.264's format.
use Rattle.std.specs.Prelude.{◌≡◌, ℕ, ◌+◌, ◌≤◌, nat_le, nat_lt, Bool, true, List, [], ◌∷◌, ◌++◌, length, refl}
use Rattle.std.specs.List.{list_all, sum_by}
use Rattle.std.proofs.Common.{arith}
use Rattle.std.proofs.lemmas.Bool.{and_parts}
use Rattle.std.proofs.lemmas.Bool.Decides.{nat_tests}
use Rattle.h26x_core.specs.Kind.{is_other}
use Rattle.h26x_core.specs.H264Unit.{kind, is_key}
use Rattle.h26x_model.specs.Payload.Facts.{FitsLimits, DonlHasTwoBytes}
use Rattle.h26x_core.proofs.PieceLemmas.{pieces_long}
use Rattle.h264_payload.specs.H264.{h264, fragment_header, sets_fit, sets_packet}

-- an other unit has a header
pub has_header : (unit : List ℕ) → is_other (kind unit) ≡ true → 1 ≤ length unit
has_header [] is = absurd cc
has_header (first ∷ unit) is = omega arith

-- a header tells whether its unit is a key unit
pub header_tells : (head rest : List ℕ) → length head ≡ 1 → is_key (head ++ rest) ≡ is_key head
header_tells [] rest one = absurd (omega arith)
header_tells (first ∷ head) rest one = refl

-- a fragment's header has two bytes at most
header_long : (unit : List ℕ) (start end : Bool) → length (fragment_header unit start end) ≤ 2
header_long [] start end = omega arith
header_long (first ∷ unit) start end = omega arith

-- a STAP-A of sets that fit is within the limit
sets_within : (limit n : ℕ) (sets : List (List ℕ)) (unit : List ℕ) → sets_fit limit sets ≡ true →
    length (sets_packet n sets unit) ≤ limit
sets_within limit n sets unit fit =
    let h : nat_le (1 + sum_by (λ (set : List ℕ). 2 + length set) sets) limit ≡ true =
    (and_parts (nat_le (1 + sum_by (λ (set : List ℕ). 2 + length set) sets) limit)
    (list_all (λ (set : List ℕ). nat_lt (length set) 65536) sets) fit).0 in
    rw (pieces_long sets) (grind (arith, nat_tests))

-- headers are as long as they are counted, and STAP-As are within the limit
pub fits_limits : FitsLimits h264
fits_limits = record { header = header_long; sets = sets_within }

-- a STAP-A bears no number
pub no_numbers : DonlHasTwoBytes h264
no_numbers = record { sets = λ n sets unit. refl; none = λ none n m sets unit. refl }
