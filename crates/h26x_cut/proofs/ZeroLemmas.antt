-- Runs of places that are tested at once for two zeros: a lane is 0 where they stand.
use Rattle.std.proofs.Common.{◌≡◌, ℕ, suc, ◌+◌, ◌*◌, ◌-◌, ◌<◌, ◌≤◌, ◌%◌, ◌^◌, List, [], ◌∷◌, Bool, true, false, not, cond, eqb, length, get_or, map, replicate, refl, sym, ap, subst, ◌∙◌, arith, w8, bit_or, Some}
use Rattle.std.specs.List.{prefix_len}
use Rattle.std.specs.Int.Count.{count_trailing_zeros}
use Rattle.std.specs.Simd.Lanes.{zip2, chunk, mask_l, top}
use Rattle.std.proofs.lemmas.Nat.{le_or_l, le_or_r}
use Rattle.std.proofs.lemmas.Bool.{eqb-true, not-true, not-false}
use Rattle.std.proofs.lemmas.List.Sums.{prefix_len_passes, prefix_len_stops}
use Rattle.std.proofs.lemmas.Simd.{length-chunk, get_or-chunk, length-zip2, get_or-zip2, bitmask_splat, leading_from_mask_l, trailing_mask_l}
use Rattle.h26x_cut.specs.Search.{AreZeros, HasNoCode, HasNoZeros, IsFirstZeros}

-- the lanes of n places
abbrev pub places_lanes : ℕ → ℕ → List ℕ → List ℕ
places_lanes n place bytes = zip2 bit_or (chunk place n bytes) (chunk (place + 1) n bytes)

long_places : (n place : ℕ) (bytes : List ℕ) → place + n + 1 ≤ length bytes → length (places_lanes n place bytes) ≡ n
long_places n place bytes room =
    let first = length-chunk place n bytes (omega arith) in
    let second = length-chunk (place + 1) n bytes (omega arith) in
    length-zip2 bit_or (chunk place n bytes) (chunk (place + 1) n bytes) (first ∙ sym second) ∙ first

-- a lane of n places
lane_of_places : (n place : ℕ) (bytes : List ℕ) (k : ℕ) → place + n + 1 ≤ length bytes → k < n →
    get_or (places_lanes n place bytes) k 0 ≡ bit_or (get_or bytes (place + k) 0) (get_or bytes (place + k + 1) 0)
lane_of_places n place bytes k room within =
    let first = length-chunk place n bytes (omega arith) in
    let second = length-chunk (place + 1) n bytes (omega arith) in
    let at_first : get_or (chunk place n bytes) k 0 ≡ get_or bytes (place + k) 0 = get_or-chunk place n bytes k 0 within in
    let at_second : get_or (chunk (place + 1) n bytes) k 0 ≡ get_or bytes (place + k + 1) 0 = get_or-chunk (place + 1) n bytes k 0 within ∙ ap (λ j. get_or bytes j 0) (omega arith) in
    get_or-zip2 bit_or (chunk place n bytes) (chunk (place + 1) n bytes) k 0 0 0 (omega arith) (omega arith)
    ∙ (λ i. bit_or (at_first i) (at_second i))

-- a lane that is 0 tells of two zeros, and that of two zeros is 0
lane_is_zeros : (n place : ℕ) (bytes : List ℕ) (k : ℕ) → place + n + 1 ≤ length bytes → k < n → get_or (places_lanes n place bytes) k 0 ≡ 0 → AreZeros bytes (place + k)
lane_is_zeros n place bytes k room within e =
    let none = sym (lane_of_places n place bytes k room within) ∙ e in
    let first = le_or_l (get_or bytes (place + k) 0) (get_or bytes (place + k + 1) 0) in
    let second = le_or_r (get_or bytes (place + k) 0) (get_or bytes (place + k + 1) 0) in
    (omega (arith, none, first), omega (arith, none, second))

zeros_are_lane : (n place : ℕ) (bytes : List ℕ) (k : ℕ) → place + n + 1 ≤ length bytes → k < n → AreZeros bytes (place + k) → get_or (places_lanes n place bytes) k 0 ≡ 0
zeros_are_lane n place bytes k room within (first, second) = lane_of_places n place bytes k room within ∙ (λ i. bit_or (first i) (second i))

-- whether a lane is 0
abbrev pub is_zero : ℕ → Bool
is_zero x = eqb x 0

-- a lane before others: where it is 0, or one of the others is, the first that is stands among them
one_more : (b : Bool) (mask count long : ℕ) → (cond b 1 0 + 2 * mask ≡ 0 → ⊥) → ((mask ≡ 0 → ⊥) → count < long) → cond (not b) (1 + count) 0 < suc long
one_more true mask count long some rest = omega arith
one_more false mask count long some rest = let more = rest (λ none. some (ap (λ m. 0 + 2 * m) none)) in omega (arith, more)

-- where some lane is 0 the first that is stands among the lanes
first_within : (xs : List ℕ) → (mask_l (map is_zero xs) ≡ 0 → ⊥) → prefix_len (λ x. not (is_zero x)) xs < length xs
first_within [] some = absurd (some refl)
first_within (x ∷ xs) some = one_more (is_zero x) (mask_l (map is_zero xs)) (prefix_len (λ x. not (is_zero x)) xs) (length xs) some (first_within xs)

-- the lanes before the first that is 0
none_before : (n place : ℕ) (bytes : List ℕ) (count : ℕ) → place + n + 1 ≤ length bytes → count ≤ n →
    ((k : ℕ) → k < count → is_zero (get_or (places_lanes n place bytes) k 0) ≡ false) → HasNoZeros bytes place (place + count)
none_before n place bytes count room within fails at from to are =
    let same : at ≡ place + (at - place) = omega arith in
    let zero_there = zeros_are_lane n place bytes (at - place) room (omega arith) (subst (AreZeros bytes) same are) in
    let e : true ≡ false = sym (ap is_zero zero_there) ∙ fails (at - place) (omega arith) in
    absurd cc

-- the mask of n places: bits of the lanes that are 0
abbrev pub places_mask : ℕ → ℕ → List ℕ → ℕ
places_mask n place bytes = mask_l (map (top 7) (zip2 (λ a b. cond (eqb a b) 255 0) (places_lanes n place bytes) (replicate n 0))) % 2 ^ 64

mask_is : (n place : ℕ) (bytes : List ℕ) → place + n + 1 ≤ length bytes → n ≤ 64 → places_mask n place bytes ≡ mask_l (map is_zero (places_lanes n place bytes))
mask_is n place bytes room few = bitmask_splat w8 eqb (places_lanes n place bytes) n 0 (long_places n place bytes room) few

-- no bit is set: no two zeros stand there
pub none_in_places : (n place : ℕ) (bytes : List ℕ) → place + n + 1 ≤ length bytes → n ≤ 64 → places_mask n place bytes ≡ 0 → HasNoZeros bytes place (place + n)
none_in_places n place bytes room few none =
    let xs = places_lanes n place bytes in
    let long = long_places n place bytes room in
    let all = leading_from_mask_l is_zero xs (sym (mask_is n place bytes room few) ∙ none) in
    none_before n place bytes n room (omega arith) (λ k within. not-true _ (prefix_len_passes (λ x. not (is_zero x)) xs k 0 (omega (arith, within, all, long))))

-- the lowest bit is where the first two zeros stand
pub first_in_places : (n place : ℕ) (bytes : List ℕ) → place + n + 1 ≤ length bytes → n ≤ 64 → (places_mask n place bytes ≡ 0 → ⊥) →
    IsFirstZeros bytes place (place + n) (Some (place + count_trailing_zeros 64 (places_mask n place bytes)))
first_in_places n place bytes room few some =
    let xs = places_lanes n place bytes in
    let long = long_places n place bytes room in
    let mask = mask_is n place bytes room few in
    let more = first_within xs (λ none. some (mask ∙ none)) in
    let count = prefix_len (λ x. not (is_zero x)) xs in
    let positive : 0 < mask_l (map is_zero xs) = omega (arith, λ (none : mask_l (map is_zero xs) ≡ 0). some (mask ∙ none)) in
    let is : count_trailing_zeros 64 (places_mask n place bytes) ≡ count = ap (count_trailing_zeros 64) mask ∙ trailing_mask_l is_zero 64 xs (omega (arith, long, few)) positive in
    subst (λ t. IsFirstZeros bytes place (place + n) (Some (place + t))) (sym is) (
      omega arith,
      omega (arith, more, long),
      lane_is_zeros n place bytes count room (omega (arith, more, long)) (eqb-true _ _ (not-false _ (prefix_len_stops (λ x. not (is_zero x)) xs 0 more))),
      none_before n place bytes count room (omega (arith, more, long)) (λ k within. not-true _ (prefix_len_passes (λ x. not (is_zero x)) xs k 0 within)),
    )

-- where no two zeros stand no start code does
pub no_code_without_zeros : (bytes : List ℕ) (from to : ℕ) → HasNoZeros bytes from to → HasNoCode bytes from to
no_code_without_zeros bytes from to none k low high is = none k low high (is.first, is.second)
