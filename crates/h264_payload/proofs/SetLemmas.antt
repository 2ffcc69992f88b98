-- Parameter sets that fit a STAP-A.
use Rattle.std.proofs.Common.{◌≡◌, ℕ, ◌+◌, ◌<◌, ◌≤◌, true, false, List, [], ◌∷◌, length, refl, ap, arith}
use Rattle.std.specs.Prelude.{nat_le, nat_lt, filter}
use Rattle.std.specs.List.{flat_map, list_all, sum_by, AllByRecursion}
use Rattle.std.proofs.lemmas.Bool.{and_parts}
use Rattle.std.proofs.lemmas.Bool.Decides.{nat_tests}
use Rattle.h26x_core.specs.ByteStream.{is_not_empty}
use Rattle.h26x_core.specs.Pieces.{piece}
use Rattle.h26x_model.specs.Payload.Facts.{AreCarried}
use Rattle.h26x_core.proofs.PieceLemmas.{pieces_long}
use Rattle.h264_payload.specs.H264.{h264, sets_fit}

-- sets that are tested to be shorter than 65536 bytes are
sets_short : (sets : List (List ℕ)) → list_all (λ set. nat_lt (length set) 65536) sets ≡ true → AllByRecursion (λ set. length set < 65536) sets
sets_short [] h = tt
sets_short (set ∷ sets) h =
    let p = and_parts (nat_lt (length set) 65536) (list_all (λ (s : List ℕ). nat_lt (length s) 65536) sets) h in
    let short : nat_lt (length set) 65536 ≡ true = p.0 in
    (grind (arith, nat_tests), sets_short sets p.1)

-- what it means that sets fit: with the STAP-A's header they are within the limit, and two bytes hold each length
pub fit_parts : (limit : ℕ) (sets : List (List ℕ)) → sets_fit limit sets ≡ true → (1 + length (flat_map piece sets) ≤ limit) × AllByRecursion (λ set. length set < 65536) sets
fit_parts limit sets fit =
    let p = and_parts (nat_le (1 + sum_by (λ (set : List ℕ). 2 + length set) sets) limit) (list_all (λ (set : List ℕ). nat_lt (length set) 65536) sets) fit in
    let h : nat_le (1 + sum_by (λ (set : List ℕ). 2 + length set) sets) limit ≡ true = p.0 in
    (rw (pieces_long sets) (grind (arith, nat_tests)), sets_short sets p.1)

-- units that are carried are not empty
pub none_is_empty : (sets : List (List ℕ)) → AreCarried h264 sets → filter is_not_empty sets ≡ sets
none_is_empty [] h = refl
none_is_empty ([] ∷ sets) h = let e : false ≡ true = h.0 in absurd cc
none_is_empty ((first ∷ set) ∷ sets) h = ap (λ (x : List (List ℕ)). (first ∷ set) ∷ x) (none_is_empty sets h.1)
