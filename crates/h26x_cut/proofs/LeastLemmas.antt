-- The least bytes of a block, by lanes: none of its pairs may be a start code's where no pair of
-- lanes may.
use Rattle.std.proofs.Common.{◌≡◌, ℕ, zero, suc, ◌+◌, ◌*◌, ◌-◌, ◌/◌, ◌<◌, ◌≤◌, ◌%◌, ◌^◌, List, [], ◌∷◌, Bool, true, false, not, cond, eqb, length, get_or, map, replicate, refl, sym, ap, ◌∙◌, arith, bit_and, take, w8, w16, ltb, ⊎_elim}
use Rattle.std.specs.Simd.Lanes.{zip2, chunk, sel_l, top, number_l, digits_l, mask_l, Each1}
use Rattle.std.proofs.lemmas.Bool.{ltb-true, ltb-false, cases_lt, not-true}
use Rattle.std.proofs.lemmas.List.Sums.{prefix_len_passes}
use Rattle.std.proofs.lemmas.Simd.{length-chunk, get_or-chunk, length-zip2, get_or-zip2, length-sel_l, get_or-sel_l, tops_compared, get_or_wider, get_or-replicate, length-replicate, bitmask_splat, leading_from_mask_l}
use Rattle.std.proofs.lemmas.List.{drop_more}
use Rattle.h26x_cut.specs.declared.blocks.TheConstants.{LANES, BLOCK, PAIR_MASK}
use Rattle.h26x_cut.specs.Search.{HasNoCode, AreLeast}

-- a load
pub loaded : (bytes : List ℕ) (place : ℕ) → place + LANES ≤ length bytes → AreLeast bytes place LANES (chunk place LANES bytes)
loaded bytes place room = record {
  long = length-chunk place 16 bytes room;
  low = λ k within.
      let same : k % 16 ≡ k = omega arith in
      let is = get_or-chunk place 16 bytes k 0 within in
      let at : get_or (chunk place 16 bytes) (k % 16) 0 ≡ get_or (chunk place 16 bytes) k 0 = ap (λ j. get_or (chunk place 16 bytes) j 0) same in
      omega (arith, is, at);
}

-- of two numbers the lower is at most each
lower_is : (t : Bool) (a b : ℕ) → ltb a b ≡ t → (cond t a b ≤ a) × (cond t a b ≤ b)
lower_is true a b e = let less = ltb-true a b e in (omega arith, omega (arith, less))
lower_is false a b e = let more = ltb-false a b e in (omega (arith, more), omega arith)

-- the lanes of the lower of two vectors
abbrev pub lower_lanes : List ℕ → List ℕ → List ℕ
lower_lanes front back = sel_l (map (top 7) (zip2 (λ a b. cond (ltb a b) 255 0) front back)) front back

chosen : (front back : List ℕ) → lower_lanes front back ≡ sel_l (zip2 ltb front back) front back
chosen front back = ap (λ ts. sel_l ts front back) (tops_compared w8 ltb front back)

-- a lane of it
lane_of_lower : (front back : List ℕ) (j : ℕ) → length front ≡ 16 → length back ≡ 16 → j < 16 →
    (get_or (lower_lanes front back) j 0 ≤ get_or front j 0) × (get_or (lower_lanes front back) j 0 ≤ get_or back j 0)
lane_of_lower front back j long same within =
    let tests : length (zip2 ltb front back) ≡ 16 = length-zip2 ltb front back (long ∙ sym same) ∙ long in
    let test : get_or (zip2 ltb front back) j false ≡ ltb (get_or front j 0) (get_or back j 0) = get_or-zip2 ltb front back j 0 0 false (omega arith) (omega arith) in
    let is : get_or (lower_lanes front back) j 0 ≡ cond (ltb (get_or front j 0) (get_or back j 0)) (get_or front j 0) (get_or back j 0) =
    ap (λ (x : List ℕ). get_or x j 0) (chosen front back)
    ∙ get_or-sel_l (zip2 ltb front back) front back j 0 (omega arith) (omega arith) (omega arith)
    ∙ ap (λ t. cond t (get_or front j 0) (get_or back j 0)) test in
    let both = lower_is _ (get_or front j 0) (get_or back j 0) refl in
    (omega (arith, is, both.0), omega (arith, is, both.1))

long_lower : (front back : List ℕ) → length front ≡ 16 → length back ≡ 16 → length (lower_lanes front back) ≡ 16
long_lower front back long same =
    let tests : length (zip2 ltb front back) ≡ 16 = length-zip2 ltb front back (long ∙ sym same) ∙ long in
    ap length (chosen front back) ∙ length-sel_l (zip2 ltb front back) front back (tests ∙ sym long) (tests ∙ sym same) ∙ tests

-- the lower lanes of two lists of bytes that follow each other
pub lowered : (bytes : List ℕ) (place next n : ℕ) (front back : List ℕ) → AreLeast bytes place (LANES * n) front → AreLeast bytes next (LANES * n) back → next ≡ place + LANES * n →
    AreLeast bytes place (2 * LANES * n) (lower_lanes front back)
lowered bytes place next n front back ahead behind follows = record {
  long = long_lower front back ahead.long behind.long;
  low = λ k within.
      let lanes = lane_of_lower front back (k % 16) ahead.long behind.long (omega arith) in
      ⊎_elim
      (λ (near : k < 16 * n). let least = ahead.low k near in omega (arith, lanes.0, least))
      (λ (far : 16 * n ≤ k).
      let same : (k - 16 * n) % 16 ≡ k % 16 = omega arith in
      let there : next + (k - 16 * n) ≡ place + k = omega arith in
      let least = behind.low (k - 16 * n) (omega arith) in
      let lane = ap (λ j. get_or back j 0) same in
      let byte = ap (λ j. get_or bytes j 0) there in
      omega (arith, lanes.1, least, lane, byte))
      (cases_lt k (16 * n));
}

-- two bytes as the lane of a wider vector
pair_of : (xs : List ℕ) (j : ℕ) → j + 2 ≤ length xs → number_l 256 (chunk j 2 xs) ≡ get_or xs j 0 + 256 * get_or xs (j + 1) 0
pair_of xs j within =
    let two : chunk j 2 xs ≡ get_or xs j 0 ∷ get_or xs (j + 1) 0 ∷ [] =
    ap (take 2) (drop_more xs j 0 (omega arith)) ∙ ap (λ (rest : List ℕ). get_or xs j 0 ∷ take 1 rest) (drop_more xs (j + 1) 0 (omega arith)) in
    ap (number_l 256) two ∙ omega arith

-- what may be two bytes of a start code is 0 but for the low bit of the second
masked : (low high : ℕ) → low ≡ 0 → high ≤ 1 → bit_and (low + 256 * high) PAIR_MASK ≡ 0
masked low zero none small = let is : low + 256 * 0 ≡ 0 = omega (arith, none) in ap (λ n. bit_and n PAIR_MASK) is
masked low (suc zero) none small = let is : low + 256 * 1 ≡ 256 = omega (arith, none) in ap (λ n. bit_and n PAIR_MASK) is
masked low (suc (suc high)) none small = absurd (omega arith)

-- as many digits as are asked for
length_digits : (q n x : ℕ) → length (digits_l q n x) ≡ n
length_digits q zero x = refl
length_digits q (suc n) x = ap suc (length_digits q n (x / q))

-- the lanes of pairs, without the low bit of each second byte
abbrev pub pair_lanes : List ℕ → List ℕ
pair_lanes lanes = zip2 bit_and (digits_l 65536 8 (number_l 256 lanes)) (replicate 8 PAIR_MASK)

-- a lane of a pair that may be a start code's is 0
pair_is_zero : (lanes : List ℕ) (i : ℕ) → length lanes ≡ 16 → Each1 (λ x. x < 256) lanes → i < 8 →
    get_or lanes (2 * i) 0 ≡ 0 → get_or lanes (2 * i + 1) 0 ≤ 1 → get_or (pair_lanes lanes) i 0 ≡ 0
pair_is_zero lanes i long bytes within low high =
    let wide : get_or (digits_l 65536 8 (number_l 256 lanes)) i 0 ≡ get_or lanes (2 * i) 0 + 256 * get_or lanes (2 * i + 1) 0 =
    get_or_wider 256 2 65536 8 lanes i refl bytes within ∙ pair_of lanes (2 * i) (omega arith) in
    let all : length (digits_l 65536 8 (number_l 256 lanes)) ≡ 8 = length_digits 65536 8 (number_l 256 lanes) in
    let masks : length (replicate {A = ℕ} 8 PAIR_MASK) ≡ 8 = length-replicate {A = ℕ} 8 PAIR_MASK in
    get_or-zip2 bit_and (digits_l 65536 8 (number_l 256 lanes)) (replicate 8 PAIR_MASK) i 0 0 0 (omega arith) (omega arith)
    ∙ (λ t. bit_and (wide t) (get_or-replicate 8 i PAIR_MASK 0 within t))
    ∙ masked (get_or lanes (2 * i) 0) (get_or lanes (2 * i + 1) 0) low high

long_pairs : (lanes : List ℕ) → length (pair_lanes lanes) ≡ 8
long_pairs lanes =
    let all : length (digits_l 65536 8 (number_l 256 lanes)) ≡ 8 = length_digits 65536 8 (number_l 256 lanes) in
    length-zip2 bit_and (digits_l 65536 8 (number_l 256 lanes)) (replicate 8 PAIR_MASK) all ∙ all

-- the mask of a block: bits of the pairs of lanes that may be a start code's
abbrev pub block_mask : List ℕ → ℕ
block_mask lanes = mask_l (map (top 15) (zip2 (λ a b. cond (eqb a b) 65535 0) (pair_lanes lanes) (replicate 8 0))) % 2 ^ 64

-- where no bit is set no pair of lanes may be a start code's
no_pair : (lanes : List ℕ) (i : ℕ) → length lanes ≡ 16 → Each1 (λ x. x < 256) lanes → block_mask lanes ≡ 0 → i < 8 →
    get_or lanes (2 * i) 0 ≡ 0 → get_or lanes (2 * i + 1) 0 ≤ 1 → ⊥
no_pair lanes i long bytes none within low high =
    let pairs = pair_lanes lanes in
    let eight = long_pairs lanes in
    let mask = bitmask_splat w16 eqb pairs 8 0 eight (omega arith) in
    let all = leading_from_mask_l (λ x. eqb x 0) pairs (sym mask ∙ none) in
    let fails = not-true _ (prefix_len_passes (λ x. not (eqb x 0)) pairs i 0 (omega (arith, all, eight))) in
    let e : true ≡ false = sym (ap (λ x. eqb x 0) (pair_is_zero lanes i long bytes within low high)) ∙ fails in
    absurd cc

-- so none of the block's pairs at even places is
no_pair_at : (bytes lanes : List ℕ) (place r : ℕ) → AreLeast bytes place BLOCK lanes → Each1 (λ x. x < 256) lanes → block_mask lanes ≡ 0 →
    r < BLOCK → r % 2 ≡ 0 → get_or bytes (place + r) 0 ≡ 0 → get_or bytes (place + r + 1) 0 ≤ 1 → ⊥
no_pair_at bytes lanes place r least each none within even low high =
    let i = r % 16 / 2 in
    let first = least.low r within in
    let second = least.low (r + 1) (omega arith) in
    let at : 2 * (r % 16 / 2) ≡ r % 16 = omega arith in
    let next : 2 * (r % 16 / 2) + 1 ≡ (r + 1) % 16 = omega arith in
    let there : place + (r + 1) ≡ place + r + 1 = omega arith in
    let byte = ap (λ j. get_or bytes j 0) there in
    no_pair lanes (r % 16 / 2) least.long each none (omega arith)
    (ap (λ j. get_or lanes j 0) at ∙ omega (arith, first, low))
    (let lane = ap (λ j. get_or lanes j 0) next in omega (arith, lane, second, byte, high))

-- a block that has no such pair has no start code, and neither does the place before it
pub quiet : (bytes lanes : List ℕ) (place : ℕ) → AreLeast bytes place BLOCK lanes → Each1 (λ x. x < 256) lanes → block_mask lanes ≡ 0 →
    HasNoCode bytes (place - 1) (place + (BLOCK - 1))
quiet bytes lanes place least each none at from to is =
    ⊎_elim
    (λ (before : at < place).
    let here : place + 0 ≡ at + 1 = omega arith in
    let then : place + 0 + 1 ≡ at + 2 = omega arith in
    let second = ap (λ j. get_or bytes j 0) here in
    let third = ap (λ j. get_or bytes j 0) then in
    no_pair_at bytes lanes place 0 least each none (omega arith) (omega arith) (second ∙ is.second) (omega (arith, third, is.mark)))
    (λ (inside : place ≤ at).
    ⊎_elim
    (λ (even : (at - place) % 2 < 1).
    let here : place + (at - place) ≡ at = omega arith in
    let then : place + (at - place) + 1 ≡ at + 1 = omega arith in
    let first = ap (λ j. get_or bytes j 0) here in
    let second = ap (λ j. get_or bytes j 0) then in
    no_pair_at bytes lanes place (at - place) least each none (omega arith) (omega arith) (first ∙ is.first) (omega (arith, second, is.second)))
    (λ (odd : 1 ≤ (at - place) % 2).
    let here : place + (at - place + 1) ≡ at + 1 = omega arith in
    let then : place + (at - place + 1) + 1 ≡ at + 2 = omega arith in
    let second = ap (λ j. get_or bytes j 0) here in
    let third = ap (λ j. get_or bytes j 0) then in
    no_pair_at bytes lanes place (at - place + 1) least each none (omega arith) (omega arith) (second ∙ is.second) (omega (arith, third, is.mark)))
    (cases_lt ((at - place) % 2) 1))
    (cases_lt at place)
