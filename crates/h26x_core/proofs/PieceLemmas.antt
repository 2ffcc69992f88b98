-- Bytes are pieces behind their lengths, and a rest without a whole piece, in one way; written pieces are found again.
use Rattle.std.proofs.Common.{◌≡◌, ℕ, zero, suc, ◌+◌, ◌-◌, ◌*◌, ◌/◌, ◌%◌, ◌<◌, ◌≤◌, true, false, cond, List, [], ◌∷◌, ◌++◌, length, take, drop, refl, sym, ap, ◌∙◌, length-append, arith, get_or}
use Rattle.std.specs.Prelude.{nat_le}
use Rattle.std.specs.List.{flat_map, AllByRecursion, sum_by}
use Rattle.std.proofs.lemmas.List.{take_at, drop_at, take_all, length-drop, length-take, take-append-drop}
use Rattle.std.proofs.lemmas.Nat.{div-add-mod', div_below, mod_below}
use Rattle.std.proofs.lemmas.List.Sums.{sum_by-cons}
use Rattle.std.proofs.lemmas.Bool.Decides.{nat_tests}
use Rattle.h26x_core.specs.Pieces.{ArePieces, HasNoPiece, Pieces, with_piece, pieces_within, pieces_of, piece}

-- a number below 65536 is what its word says
pub word_back : (n : ℕ) → n < 65536 → n / 256 % 256 * 256 + n % 256 ≡ n
word_back n h =
    let high : n / 256 < 256 = div_below n 256 256 (omega arith) (omega arith) in
    let same : n / 256 % 256 ≡ n / 256 = omega arith in
    rw same (div-add-mod' n 256)

-- a front of bytes is no longer than all of them
pub enough : (n : ℕ) (xs ys : List ℕ) → length xs ≡ n → nat_le n (length (xs ++ ys)) ≡ true
enough n xs ys e = let l = length-append xs ys in let h : n ≤ length (xs ++ ys) = omega (arith, l, e) in grind (arith, nat_tests)

-- sets behind their lengths are found again, where at least as many pieces are allowed as there are sets
pieces_read : (most : ℕ) (sets : List (List ℕ)) → length sets ≤ most → AllByRecursion (λ set. length set < 65536) sets →
    pieces_within most (flat_map piece sets) ≡ record { whole = sets; left = [] }
pieces_read zero [] few fit = refl
pieces_read zero (set ∷ sets) few fit = absurd (omega arith)
pieces_read (suc most) [] few fit = refl
pieces_read (suc most) (set ∷ sets) few (fits, others) =
    let n : length set / 256 % 256 * 256 + length set % 256 ≡ length set = word_back (length set) fits in
    let size = length set in let rest = flat_map piece sets in
    rw (n, enough size set rest refl, take_at set rest size refl, drop_at set rest size refl, pieces_read most sets (omega arith) others) refl

-- sets behind their lengths have at least as many bytes as there are sets
at_least : (sets : List (List ℕ)) → length sets ≤ length (flat_map piece sets)
at_least [] = omega arith
at_least (set ∷ sets) = let h = at_least sets in let l = length-append (piece set) (flat_map piece sets) in omega (arith, h, l)

-- sets behind their lengths are found again, and nothing is left
pub pieces_back : (sets : List (List ℕ)) → AllByRecursion (λ set. length set < 65536) sets →
    pieces_of (flat_map piece sets) ≡ record { whole = sets; left = [] }
pieces_back sets fit = pieces_read (length (flat_map piece sets)) sets (at_least sets) fit

-- allowing more pieces than there are bytes changes nothing
fuel : (m k : ℕ) (bytes : List ℕ) → length bytes ≤ m → length bytes ≤ k → pieces_within m bytes ≡ pieces_within k bytes
fuel zero zero bytes a b = refl
fuel zero (suc k) [] a b = refl
fuel zero (suc k) (x ∷ bytes) a b = absurd (omega arith)
fuel (suc m) zero [] a b = refl
fuel (suc m) zero (x ∷ bytes) a b = absurd (omega arith)
fuel (suc m) (suc k) [] a b = refl
fuel (suc m) (suc k) (x ∷ []) a b = refl
fuel (suc m) (suc k) (high ∷ low ∷ bytes) a b =
    let n = high * 256 + low in
    let len = length-drop n bytes in
    ap (λ (p : Pieces). cond (nat_le n (length bytes)) (with_piece (take n bytes) p) (record { whole = []; left = high ∷ low ∷ bytes }))
    (fuel m k (drop n bytes) (omega (arith, len)) (omega (arith, len)))

-- whole pieces one by one: the first, and then those of the bytes behind it
pub pieces_next : (bytes : List ℕ) (n : ℕ) → 2 ≤ length bytes → n ≡ get_or bytes 0 0 * 256 + get_or bytes 1 0 → n ≤ length (drop 2 bytes) →
    pieces_of bytes ≡ with_piece (take n (drop 2 bytes)) (pieces_of (drop n (drop 2 bytes)))
pieces_next [] n long is within = absurd (omega arith)
pieces_next (x ∷ []) n long is within = absurd (omega arith)
pieces_next (high ∷ low ∷ bytes) n long is within =
    let fits : nat_le n (length bytes) ≡ true = grind (arith, nat_tests) in
    let len = length-drop n bytes in
    rw (← is, fits, fuel (suc (length bytes)) (length (drop n bytes)) (drop n bytes) (omega (arith, len)) (omega arith)) refl

-- where there are not even two bytes there is no piece, and all is left
pub pieces_short : (bytes : List ℕ) → length bytes < 2 → pieces_of bytes ≡ record { whole = []; left = bytes }
pieces_short [] short = refl
pieces_short (x ∷ []) short = refl
pieces_short (x ∷ y ∷ bytes) short = absurd (omega arith)

-- whole pieces one by one, the parts as slices give them
pub pieces_sliced : (bytes : List ℕ) (n : ℕ) → 2 ≤ length bytes → n ≡ get_or bytes 0 0 * 256 + get_or bytes 1 0 →
    n ≤ length (take (length bytes - 2) (drop 2 bytes)) →
    pieces_of bytes ≡ with_piece (take n (take (length bytes - 2) (drop 2 bytes)))
    (pieces_of (take (length (take (length bytes - 2) (drop 2 bytes)) - n) (drop n (take (length bytes - 2) (drop 2 bytes)))))
pieces_sliced bytes n long is within =
    let all = take_all (length bytes - 2) (drop 2 bytes) (simp length-drop (omega arith)) in
    let rest = take_all (length (drop 2 bytes) - n) (drop n (drop 2 bytes)) (simp length-drop (omega arith)) in
    rw (all, rest) (pieces_next bytes n long is (rw all at within))

-- no byte begins no piece
pub none_of_none : HasNoPiece []
none_of_none high low piece behind same long = cc

-- nor does one byte
pub none_of_one : (x : ℕ) → HasNoPiece (x ∷ [])
none_of_one x high low piece behind same long = cc

-- a length that passes the end begins no piece
pub none_past : (high low : ℕ) (bytes : List ℕ) → length bytes < high * 256 + low → HasNoPiece (high ∷ low ∷ bytes)
none_past high low bytes past h l piece behind same long =
    let first : high ≡ h = cc in let second : low ≡ l = cc in let rest : bytes ≡ piece ++ behind = cc in
    let whole = length-append piece behind in
    let size : length bytes ≡ length piece + length behind = ap length rest ∙ whole in
    let count : high * 256 + low ≡ length piece = rw (first, second) long in
    absurd (omega arith)

-- a list is its first n elements, which are n, and those behind them
pub split_at : (n : ℕ) (bytes : List ℕ) → n ≤ length bytes → (bytes ≡ take n bytes ++ drop n bytes) × (n ≡ length (take n bytes))
split_at n bytes h = (sym (take-append-drop n bytes), let e = length-take n bytes in omega (arith, e))

-- where at least as many pieces are allowed as there are bytes, the bytes are those found, and no piece is left
pieces_are_within : (most : ℕ) (bytes : List ℕ) → length bytes ≤ most →
    ArePieces bytes (pieces_within most bytes).whole (pieces_within most bytes).left × HasNoPiece (pieces_within most bytes).left
pieces_are_within zero [] few = (refl, none_of_none)
pieces_are_within zero (x ∷ bytes) few = absurd (omega arith)
pieces_are_within (suc most) [] few = (refl, none_of_none)
pieces_are_within (suc most) (x ∷ []) few = (refl, none_of_one x)
pieces_are_within (suc most) (high ∷ low ∷ bytes) few =
    let n = high * 256 + low in
    let len = length-drop n bytes in
    let next = pieces_are_within most (drop n bytes) (omega (arith, len)) in
    let more = with_piece (take n bytes) (pieces_within most (drop n bytes)) in
    let stop : Pieces = record { whole = []; left = high ∷ low ∷ bytes } in
    elim (nat_le n (length bytes)) as (λ b. nat_le n (length bytes) ≡ b →
    ArePieces (high ∷ low ∷ bytes) (cond b more stop).whole (cond b more stop).left × HasNoPiece (cond b more stop).left) [
      | true ↦ λ h.
          let within : n ≤ length bytes = grind (arith, nat_tests) in
          let s = split_at n bytes within in
          ((high, low, drop n bytes, ap (λ (x : List ℕ). high ∷ low ∷ x) s.0, s.1, next.0), next.1)
      | false ↦ λ h.
          let past : length bytes < n = grind (arith, nat_tests) in
          (refl, none_past high low bytes past)
    ] refl

-- a number of two bytes, read back
pub number_back : (n : ℕ) → n % 65536 / 256 % 256 * 256 + n % 65536 % 256 ≡ n % 65536
number_back n = word_back (n % 65536) (mod_below n 65536 (omega arith))

-- pieces behind their lengths take two bytes more each
pub pieces_long : (sets : List (List ℕ)) → length (flat_map piece sets) ≡ sum_by (λ set. 2 + length set) sets
pieces_long [] = refl
pieces_long (set ∷ sets) =
    let h = pieces_long sets in
    let l : length (set ++ flat_map piece sets) ≡ length set + length (flat_map piece sets) = length-append set (flat_map piece sets) in
    let s : sum_by (λ (x : List ℕ). 2 + length x) (set ∷ sets) ≡ (2 + length set) + sum_by (λ (x : List ℕ). 2 + length x) sets = sum_by-cons (λ (x : List ℕ). 2 + length x) set sets in
    omega (arith, h, l, s)

-- what is computed are the pieces, and no piece is left
pub pieces_are : (bytes : List ℕ) → ArePieces bytes (pieces_of bytes).whole (pieces_of bytes).left × HasNoPiece (pieces_of bytes).left
pieces_are bytes = pieces_are_within (length bytes) bytes (omega arith)

-- bytes that begin no piece are left whole
none_within : (most : ℕ) (bytes : List ℕ) → HasNoPiece bytes → pieces_within most bytes ≡ record { whole = []; left = bytes }
none_within zero bytes none = refl
none_within (suc most) [] none = refl
none_within (suc most) (x ∷ []) none = refl
none_within (suc most) (high ∷ low ∷ bytes) none =
    let n = high * 256 + low in
    let stop : Pieces = record { whole = []; left = high ∷ low ∷ bytes } in
    elim (nat_le n (length bytes)) as (λ b. nat_le n (length bytes) ≡ b →
    cond b (with_piece (take n bytes) (pieces_within most (drop n bytes))) stop ≡ stop) [
      | true ↦ λ h.
          let within : n ≤ length bytes = grind (arith, nat_tests) in
          let s = split_at n bytes within in
          absurd (none high low (take n bytes) (drop n bytes) (ap (λ (x : List ℕ). high ∷ low ∷ x) s.0) s.1)
      | false ↦ λ h. refl
    ] refl

-- where at least as many pieces are allowed as there are bytes, pieces with no piece left behind them are those found
only_within : (most : ℕ) (bytes : List ℕ) (pieces : List (List ℕ)) (left : List ℕ) → length bytes ≤ most → ArePieces bytes pieces left →
    HasNoPiece left → pieces_within most bytes ≡ record { whole = pieces; left = left }
only_within most bytes [] left few same none = rw same (none_within most left none)
only_within zero [] (piece ∷ pieces) left few (high, low, behind, same, long, later) none = absurd cc
only_within zero (x ∷ bytes) (piece ∷ pieces) left few are none = absurd (omega arith)
only_within (suc most) bytes (piece ∷ pieces) left few (high, low, behind, same, long, later) none =
    let size : length bytes ≡ suc (suc (length piece + length behind)) = ap length same ∙ ap (λ k. suc (suc k)) (length-append piece behind) in
    let n = length piece in
    rw (
      same,
      long,
      enough n piece behind refl,
      take_at piece behind n refl,
      drop_at piece behind n refl,
      only_within most behind pieces left (omega arith) later none,
    ) refl

-- and there are no others
pub only_pieces : (bytes : List ℕ) (pieces : List (List ℕ)) (left : List ℕ) → ArePieces bytes pieces left → HasNoPiece left →
    pieces_of bytes ≡ record { whole = pieces; left = left }
only_pieces bytes pieces left are none = only_within (length bytes) bytes pieces left (omega arith) are none
