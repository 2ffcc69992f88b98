-- Bytes written as digits, 16 at a time.
use Rattle.std.proofs.Common.{◌≡◌, ℕ, ◌+◌, ◌*◌, ◌/◌, ◌%◌, ◌-◌, ◌<◌, ◌≤◌, List, [], ◌∷◌, ◌++◌, map, length, get_or, take, drop, replicate, slice_index, refl, sym, ap, ◌∙◌, subst, arith, w8, Fits, rules}
use Rattle.std.specs.Prelude.{IsOk, OnOk, Result, Ok, Err}
use borrow.Rule.Slice.PartMut.{put_mid, post_of}
use Rattle.std.proofs.lemmas.List.{append_assoc, append-nil, ext_get_or, get_or-map, length-map, nil_from_length, take-append-drop}
use Rattle.std.proofs.lemmas.Simd.{Each1-weaker, Each1-zip2, Each2-splat, below_from_Fits, length-zip2, swz_l, SwzOk, SwzOk-from_below, length-swz_l, get_or-swz_l_below, Each1-get_or, pick_l_whole, zip2_splat, length-put_chunk, take_more_put_chunk}
use Rattle.std.proofs.lemmas.Slice.{overwrites}
use lib.Lanes.{zip2, Each1, pick_l, chunk, put_chunk}
use Rattle.h26x_lines.proofs.DigitLemmas.{take_plus}
use Rattle.hex.specs.Hex.{encode_with}

abbrev pub IsVector : List ℕ → Type 0
IsVector v = (length v ≡ 16) × Each1 (Fits w8) v

-- the places of digits, from the bytes
pub places_fit : (f : ℕ → ℕ → ℕ) (y : ℕ) → ((x : ℕ) → x < 256 → f x y < 16) → (v : List ℕ) → IsVector v
    → SwzOk w8 16 16 0 (zip2 f v (replicate 16 y))
places_fit f y below v fits =
    let small = Each1-weaker (λ a. a < 256) (λ a. f a y < 16) below v (below_from_Fits w8 v fits.1) in
    SwzOk-from_below w8 16 1 16 0 (zip2 f v (replicate 16 y)) refl (omega (arith, length-zip2 f v (replicate 16 y) fits.0))
    (Each1-zip2 f (λ j. j < 16) v (replicate 16 y) (Each2-splat (λ a b. f a b < 16) v 16 y small))

-- a table t, read at the places f x y
pub looked_up : (t : List ℕ) (f : ℕ → ℕ → ℕ) (y : ℕ) (g : ℕ → ℕ) → ((x : ℕ) → x < 256 → f x y < 16) → ((x : ℕ) → f x y ≡ g x)
    → (v : List ℕ) → IsVector v → swz_l w8 16 t 0 (zip2 f v (replicate 16 y)) ≡ map (λ x. get_or t (g x) 0) v
looked_up t f y g below same v fits =
    let js : List ℕ = zip2 f v (replicate 16 y) in
    let e : js ≡ map (λ x. f x y) v = zip2_splat f v 16 y fits.0 in
    let long : length js ≡ 16 = length-zip2 f v (replicate 16 y) fits.0 ∙ fits.0 in
    ext_get_or 0 _ _ (length-swz_l w8 16 t 0 js ∙ long ∙ sym (length-map v (λ x. get_or t (g x) 0) ∙ fits.0)) (λ i h.
    let lt : i < 16 = omega (arith, length-swz_l w8 16 t 0 js) in
    let within : i < length v = omega (arith, fits.0) in
    let is : get_or js i 0 ≡ f (get_or v i 0) y = ap (λ l. get_or l i 0) e ∙ get_or-map (λ x. f x y) v i 0 0 within in
    let fit : get_or v i 0 < 256 = Each1-get_or (λ x. x < 256) v i 0 within (below_from_Fits w8 v fits.1) in
    let small : get_or js i 0 < 16 = omega (arith, below (get_or v i 0) fit) in
    let block : 16 * ((0 + i) / 16) + get_or js i 0 ≡ g (get_or v i 0) = omega (arith, same (get_or v i 0)) in
    get_or-swz_l_below w8 16 t 0 js i (omega arith) small ∙ ap (λ k. get_or t k 0) block ∙ sym (get_or-map (λ x. get_or t (g x) 0) v i 0 0 within))

-- the digits of high halves and of low ones, by turns
pub by_turns : (t v : List ℕ) → length v ≡ 16
    → pick_l 0 (map (λ x. slice_index t (x / 16)) v ++ map (λ x. slice_index t (x % 16)) v)
    (0 ∷ 16 ∷ 1 ∷ 17 ∷ 2 ∷ 18 ∷ 3 ∷ 19 ∷ 4 ∷ 20 ∷ 5 ∷ 21 ∷ 6 ∷ 22 ∷ 7 ∷ 23 ∷ 8 ∷ 24 ∷ 9 ∷ 25 ∷ 10 ∷ 26 ∷ 11 ∷ 27 ∷ 12 ∷ 28 ∷ 13 ∷ 29 ∷ 14 ∷ 30 ∷ 15 ∷ 31 ∷ [])
    ≡ encode_with t v
unfolding encode_with
by_turns t v long =
    subst (λ (u : List ℕ). pick_l 0 (map (λ x. slice_index t (x / 16)) u ++ map (λ x. slice_index t (x % 16)) u)
    (0 ∷ 16 ∷ 1 ∷ 17 ∷ 2 ∷ 18 ∷ 3 ∷ 19 ∷ 4 ∷ 20 ∷ 5 ∷ 21 ∷ 6 ∷ 22 ∷ 7 ∷ 23 ∷ 8 ∷ 24 ∷ 9 ∷ 25 ∷ 10 ∷ 26 ∷ 11 ∷ 27 ∷ 12 ∷ 28 ∷ 13 ∷ 29 ∷ 14 ∷ 30 ∷ 15 ∷ 31 ∷ [])
    ≡ encode_with t u) (pick_l_whole 0 v 16 long) refl

pub encode_with-append : (t xs ys : List ℕ) → encode_with t (xs ++ ys) ≡ encode_with t xs ++ encode_with t ys
unfolding encode_with
encode_with-append t [] ys = refl
encode_with-append t (b ∷ rest) ys = ap (λ l. slice_index t (b / 16) ∷ slice_index t (b % 16) ∷ l) (encode_with-append t rest ys)

-- 16 bytes more are written
pub next_digits : (t bytes digits first second : List ℕ) (at : ℕ) → at + 16 ≤ length bytes → length digits ≡ 2 * length bytes
    → length first ≡ 16 → length second ≡ 16 → first ++ second ≡ encode_with t (chunk at 16 bytes)
    → take (2 * at) digits ≡ encode_with t (take at bytes)
    → take (2 * (at + 16)) (put_chunk (2 * at + 16) (put_chunk (2 * at) digits first) second) ≡ encode_with t (take (at + 16) bytes)
next_digits t bytes digits first second at fits long l1 l2 is so_far =
    let same = length-put_chunk (2 * at) digits first in
    take_more_put_chunk (2 * at + 16) (put_chunk (2 * at) digits first) second (2 * (at + 16)) (omega arith) (omega arith)
    ∙ rw (take_more_put_chunk (2 * at) digits first (2 * at + 16) (omega arith) (omega arith), append_assoc, so_far, is, take_plus at 16 bytes)
    (sym (encode_with-append t (take at bytes) (chunk at 16 bytes)))

-- the rest is written
pub last_digits : (t bytes digits rest : List ℕ) (at k : ℕ) → at ≤ length bytes → length digits ≡ 2 * length bytes
    → k ≡ length digits - 2 * at → rest ≡ encode_with t (drop at bytes) → take (2 * at) digits ≡ encode_with t (take at bytes)
    → put_mid (2 * at) k digits rest ≡ encode_with t bytes
last_digits t bytes digits rest at k fits long ek is so_far =
    let none : post_of (2 * at) k digits ≡ [] = nil_from_length _ (search (rules, overwrites)) in
    rw (none, append-nil, so_far, is, ← encode_with-append t (take at bytes) (drop at bytes), take-append-drop at bytes) refl

pub on_ok : {A E : Type 0} (r : Result A E) (P : Type 0) → IsOk r → OnOk r P → P
on_ok (Ok x) P ok h = h
on_ok (Err e) P ok h = cc
