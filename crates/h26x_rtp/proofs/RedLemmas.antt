-- The headers and blocks of a redundant payload, one by one.
use Rattle.std.proofs.Common.{◌≡◌, ℕ, ◌+◌, ◌*◌, ◌/◌, ◌%◌, ◌<◌, ◌≤◌, true, false, List, [], ◌∷◌, length, take, drop, Option, Some, None, refl, sym, ap, ◌∙◌, get_or, arith}
use Rattle.std.specs.Prelude.{slice_index, nat_lt}
use Rattle.std.specs.Option.{option_map}
use Rattle.std.proofs.lemmas.List.{drop-drop, length-drop, get_or-drop}
use Rattle.std.proofs.lemmas.Bool.Decides.{nat_tests}
use Rattle.h26x_rtp.specs.Red.{headers_end, blocks_size, blocks_in}

-- a first header with F clear is that of the primary block
pub ends_here : (bytes : List ℕ) → 0 < length bytes → slice_index bytes 0 < 128 → headers_end bytes ≡ Some 0
ends_here [] some h = absurd (omega arith)
ends_here (a ∷ []) some h = let t : nat_lt a 128 ≡ true = grind (arith, nat_tests, h) in rw t refl
ends_here (a ∷ b ∷ []) some h = let t : nat_lt a 128 ≡ true = grind (arith, nat_tests, h) in rw t refl
ends_here (a ∷ b ∷ c ∷ []) some h = let t : nat_lt a 128 ≡ true = grind (arith, nat_tests, h) in rw t refl
ends_here (a ∷ b ∷ c ∷ d ∷ bytes) some h = let t : nat_lt a 128 ≡ true = grind (arith, nat_tests, h) in rw t refl

-- behind one with F set are the others
ends_later : (bytes : List ℕ) → 0 < length bytes → 128 ≤ slice_index bytes 0 → headers_end bytes ≡ option_map (λ n. 4 + n) (headers_end (drop 4 bytes))
ends_later [] some h = absurd (omega arith)
ends_later (a ∷ []) some h = let t : nat_lt a 128 ≡ false = grind (arith, nat_tests, h) in rw t refl
ends_later (a ∷ b ∷ []) some h = let t : nat_lt a 128 ≡ false = grind (arith, nat_tests, h) in rw t refl
ends_later (a ∷ b ∷ c ∷ []) some h = let t : nat_lt a 128 ≡ false = grind (arith, nat_tests, h) in rw t refl
ends_later (a ∷ b ∷ c ∷ d ∷ bytes) some h = let t : nat_lt a 128 ≡ false = grind (arith, nat_tests, h) in rw t refl

-- the same from a place on
pub found_at : (bytes : List ℕ) (end : ℕ) → headers_end bytes ≡ option_map (λ n. end + n) (headers_end (drop end bytes)) → end < length bytes → get_or bytes end 0 < 128 →
    Some end ≡ headers_end bytes
found_at bytes end before within h =
    let l = length-drop end bytes in
    let at : slice_index (drop end bytes) 0 ≡ get_or bytes end 0 = get_or-drop end bytes 0 0 ∙ (let n : end + 0 ≡ end = omega arith in ap (λ k. get_or bytes k 0) n) in
    let here = ends_here (drop end bytes) (omega (arith, l, within)) (omega (arith, at, h)) in
    let n : end + 0 ≡ end = omega arith in
    sym (before ∙ ap (option_map (λ n. end + n)) here ∙ ap Some n)

more_end : (end : ℕ) (o : Option ℕ) → option_map (λ n. end + n) (option_map (λ n. 4 + n) o) ≡ option_map (λ n. end + 4 + n) o
more_end end None = refl
more_end end (Some n) = let same : end + (4 + n) ≡ end + 4 + n = omega arith in ap Some same

pub passed_at : (bytes : List ℕ) (end : ℕ) → headers_end bytes ≡ option_map (λ n. end + n) (headers_end (drop end bytes)) → end < length bytes → 128 ≤ get_or bytes end 0 →
    headers_end bytes ≡ option_map (λ n. end + 4 + n) (headers_end (drop (end + 4) bytes))
passed_at bytes end before within h =
    let l = length-drop end bytes in
    let at : slice_index (drop end bytes) 0 ≡ get_or bytes end 0 = get_or-drop end bytes 0 0 ∙ (let n : end + 0 ≡ end = omega arith in ap (λ k. get_or bytes k 0) n) in
    let later = ends_later (drop end bytes) (omega (arith, l, within)) (omega (arith, at, h)) in
    before ∙ ap (option_map (λ n. end + n)) later ∙ more_end end (headers_end (drop 4 (drop end bytes)))
    ∙ ap (λ b. option_map (λ n. end + 4 + n) (headers_end b)) (drop-drop 4 end bytes)

-- the size of the first block, and of the others
pub size_next : (headers : List ℕ) → 4 ≤ length headers → blocks_size headers ≡ (slice_index headers 2 % 4 * 256 + slice_index headers 3) + blocks_size (drop 4 headers)
size_next [] long = absurd (omega arith)
size_next (a ∷ []) long = absurd (omega arith)
size_next (a ∷ b ∷ []) long = absurd (omega arith)
size_next (a ∷ b ∷ c ∷ []) long = absurd (omega arith)
size_next (a ∷ b ∷ c ∷ d ∷ headers) long = refl

pub size_of_none : (headers : List ℕ) → length headers < 4 → blocks_size headers ≡ 0
size_of_none [] short = refl
size_of_none (a ∷ []) short = refl
size_of_none (a ∷ b ∷ []) short = refl
size_of_none (a ∷ b ∷ c ∷ []) short = refl
size_of_none (a ∷ b ∷ c ∷ d ∷ headers) short = absurd (omega arith)

-- the first block, and the others
pub block_next : (headers bytes : List ℕ) (size : ℕ) → 4 ≤ length headers → size ≡ slice_index headers 2 % 4 * 256 + slice_index headers 3 →
    blocks_in headers bytes ≡ record { payload_type = slice_index headers 0 % 128; offset = slice_index headers 1 * 64 + slice_index headers 2 / 4; bytes = take size bytes }
    ∷ blocks_in (drop 4 headers) (drop size bytes)
block_next [] bytes size long is = absurd (omega arith)
block_next (a ∷ []) bytes size long is = absurd (omega arith)
block_next (a ∷ b ∷ []) bytes size long is = absurd (omega arith)
block_next (a ∷ b ∷ c ∷ []) bytes size long is = absurd (omega arith)
block_next (a ∷ b ∷ c ∷ d ∷ headers) bytes size long is = rw is refl

-- each header has a block
pub block_for_each : (headers bytes : List ℕ) → length headers / 4 ≡ length (blocks_in headers bytes)
block_for_each [] bytes = refl
block_for_each (a ∷ []) bytes = refl
block_for_each (a ∷ b ∷ []) bytes = refl
block_for_each (a ∷ b ∷ c ∷ []) bytes = refl
block_for_each (a ∷ b ∷ c ∷ d ∷ headers) bytes = let more = block_for_each headers (drop (c % 4 * 256 + d) bytes) in omega (arith, more)
