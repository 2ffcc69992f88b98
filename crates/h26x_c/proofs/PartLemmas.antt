-- Entries that are told one after the other, and where the blocks of a redundant payload are.
use Rattle.std.proofs.Common.{◌≡◌, ℕ, zero, suc, ◌+◌, ◌*◌, ◌≤◌, List, [], ◌∷◌, ◌++◌, length, slice_set, refl, sym, ap, ◌∙◌, length-append, arith}
use Rattle.std.specs.List.{flat_map}
use Rattle.h26x_codes.specs.Copies.{with_first}
use Rattle.h26x_c.specs.Parts.{block_place, block_places}
use Rattle.h26x_c.specs.declared.parts.BlockPlace.{BlockPlace}
use Rattle.h26x_rtp.specs.Red.{BlockParts, RedParts, IsRed, block_header, block_bytes}

-- memory of which so many entries are told, with the first of the others behind them
abbrev pub filled : {A : Type 0} → ℕ → List A → List A → List A
filled zero entries room = with_first entries room
filled (suc count) entries [] = []
filled (suc count) entries (r ∷ room) = r ∷ filled count entries room

-- one entry more
pub filled_more : {A : Type 0} → (count : ℕ) (it : A) (entries room : List A) → filled (suc count) entries (slice_set room count it) ≡ filled count (it ∷ entries) room
filled_more zero it entries [] = refl
filled_more (suc count) it entries [] = refl
filled_more zero it entries (r ∷ room) = refl
filled_more (suc count) it entries (r ∷ room) = ap (λ l. r ∷ l) (filled_more count it entries room)

-- all are told
pub filled_all : {A : Type 0} → (count : ℕ) (room : List A) → filled count [] room ≡ room
filled_all zero [] = refl
filled_all zero (r ∷ room) = refl
filled_all (suc count) [] = refl
filled_all (suc count) (r ∷ room) = ap (λ l. r ∷ l) (filled_all count room)

-- there is no more room
pub filled_full : {A : Type 0} → (entries room : List A) → filled (length room) entries room ≡ room
filled_full [] [] = refl
filled_full (it ∷ entries) [] = refl
filled_full entries (r ∷ room) = ap (λ l. r ∷ l) (filled_full entries room)

-- a block more is told
pub told_next : (count begin : ℕ) (block : BlockParts) (left behind : List BlockParts) (place : BlockPlace) (room wanted : List BlockPlace) → left ≡ block ∷ behind →
    place ≡ block_place begin block → filled count (block_places begin left) room ≡ wanted →
    filled (count + 1) (block_places (begin + length block.bytes) behind) (slice_set room count place) ≡ wanted
told_next count begin block left behind place room wanted first is so =
    let entries = block_places (begin + length block.bytes) behind in
    let n : count + 1 ≡ suc count = omega arith in
    ap (λ k. filled k entries (slice_set room count place)) n ∙ filled_more count place entries room ∙ ap (λ p. filled count (p ∷ entries) room) is
    ∙ ap (λ l. filled count (block_places begin l) room) (sym first) ∙ so

-- there is room for no more, or no more is left
pub told_full : (count begin : ℕ) (left : List BlockParts) (room wanted : List BlockPlace) → count ≡ length room → filled count (block_places begin left) room ≡ wanted → room ≡ wanted
told_full count begin left room wanted full so =
    sym (filled_full (block_places begin left) room) ∙ ap (λ k. filled k (block_places begin left) room) (sym full) ∙ so

pub told_all : (count begin : ℕ) (left : List BlockParts) (room wanted : List BlockPlace) → left ≡ [] → filled count (block_places begin left) room ≡ wanted → room ≡ wanted
told_all count begin left room wanted none so = sym (filled_all count room) ∙ ap (λ l. filled count (block_places begin l) room) (sym none) ∙ so

-- the next block begins where the first ends
pub begins_next : (begin total : ℕ) (block : BlockParts) (left behind : List BlockParts) → left ≡ block ∷ behind → begin + length (flat_map block_bytes left) ≡ total →
    begin + length block.bytes + length (flat_map block_bytes behind) ≡ total
begins_next begin total block left behind first fit =
    let a = ap (λ l. length (flat_map block_bytes l)) first in
    let l = length-append block.bytes (flat_map block_bytes behind) in
    omega (arith, a, l, fit)

-- how many bytes the headers of blocks have
headers_size : (blocks : List BlockParts) → length (flat_map block_header blocks) ≡ 4 * length blocks
headers_size [] = refl
headers_size (it ∷ blocks) = let more = headers_size blocks in omega (arith, more)

-- the blocks end within the payload
pub blocks_within : (bytes : List ℕ) (it : RedParts) → IsRed bytes it → 4 * length it.blocks + 1 + length (flat_map block_bytes it.blocks) ≤ length bytes
blocks_within bytes it is =
    let headers = flat_map block_header it.blocks in
    let bodies = flat_map block_bytes it.blocks in
    let all = ap length is.spelled in
    let a = length-append headers (it.payload_type ∷ (bodies ++ it.primary)) in
    let b = length-append bodies it.primary in
    let n = headers_size it.blocks in
    omega (arith, all, a, b, n)
