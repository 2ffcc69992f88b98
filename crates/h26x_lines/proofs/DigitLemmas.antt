-- Bytes read from digits, 32 at a time.
use Rattle.std.proofs.Common.{◌≡◌, ℕ, zero, suc, ◌+◌, ◌*◌, ◌%◌, ◌^◌, ◌-◌, ◌<◌, ◌≤◌, Bool, true, false, ◌&&◌, cond, ltb, eqb, List, [], ◌∷◌, ◌++◌, map, length, take, drop, bit_and, bit_or, refl, sym, ap, ◌∙◌, subst, arith, w8, Fits, min}
use Rattle.std.proofs.Math.Bool.{and-true, and_assoc}
use Rattle.std.proofs.lemmas.Bool.{and_parts}
use Rattle.std.proofs.lemmas.Bool.Decides.{Decides-below_and, Decides-eqb}
use Rattle.std.proofs.lemmas.Grind.{common_steps}
use Rattle.std.proofs.lemmas.List.{map-append, take-append-drop, take-take, drop-drop, drop-take, length-take-le, length-map}
use Rattle.std.proofs.lemmas.Nat.{le_or_l, le_or_r, or_lt, or_shifted}
use Rattle.std.proofs.lemmas.Simd.{length-zip2, take_more_put_chunk, pick_l_whole}
use lib.Lanes.{zip2, Each1, fold_l, top, chunk, put_chunk, pick_l}
use Rattle.h26x_lines.specs.Digits.{are_digits, are_values, bytes_of, digit_value, joined}

-- ---- a lane

abbrev below_mask : ℕ → ℕ → ℕ
below_mask a b = cond (ltb a b) 255 0

abbrev least : ℕ → ℕ → ℕ
least a b = cond (top 7 (below_mask a b)) a b

abbrev less : ℕ → ℕ → ℕ
less a b = (a + (2 ^ 8 - b)) % 2 ^ 8

abbrev more : ℕ → ℕ → ℕ
more a b = (a + b) % 2 ^ 8

-- what the steps make of a byte
abbrev pub lane : ℕ → ℕ
lane c =
    let at_top = less c 58 in
    let from_a = less (bit_and c 223) 65 in
    least (less (less (cond (top 7 (below_mask at_top 6)) 6 at_top) 6) 240) (more (least from_a 245) 10)

abbrev pub capped : ℕ → ℕ
capped value = min value 16

abbrev agree : ℕ → Bool
agree c = eqb (capped (lane c)) (digit_value c)

-- a test of each number below another
abbrev pub all_below : (ℕ → Bool) → ℕ → Bool
all_below test zero = true
all_below test (suc n) = test n && all_below test n

pub lane_is : (c : ℕ) → c < 256 → capped (lane c) ≡ digit_value c
lane_is =
    (Decides-below_and agree (λ c. capped (lane c) ≡ digit_value c) (all_below agree) (λ c. Decides-eqb (capped (lane c)) (digit_value c)) refl (λ _. refl) 256).0 refl

pub map_same : (f g : ℕ → ℕ) → ((x : ℕ) → x < 256 → f x ≡ g x) → (v : List ℕ) → Each1 (Fits w8) v → map f v ≡ map g v
map_same f g same [] fits = refl
map_same f g same (x ∷ v) fits = rw (same x fits.0.fits, map_same f g same v fits.1) refl

-- ---- whether values are those of digits

and_swap : (a b c d : Bool) → ((a && b) && (c && d)) ≡ ((a && c) && (b && d))
and_swap true true c d = refl
and_swap true false true d = refl
and_swap true false false d = refl
and_swap false b c d = refl

pub small_or : (x y : ℕ) → ltb (bit_or x y) 16 ≡ (ltb x 16 && ltb y 16)
small_or x y = grind (arith, common_steps, le_or_l x y, le_or_r x y, or_lt 4 x y)

small_capped : (x : ℕ) → ltb (capped x) 16 ≡ ltb x 16
small_capped x = grind (arith, common_steps)

pub values_of_or : (xs ys : List ℕ) → length xs ≡ length ys → are_values (zip2 bit_or xs ys) ≡ (are_values xs && are_values ys)
values_of_or [] [] e = refl
values_of_or [] (y ∷ ys) e = absurd (omega arith)
values_of_or (x ∷ xs) [] e = absurd (omega arith)
values_of_or (x ∷ xs) (y ∷ ys) e =
    rw (small_or x y, values_of_or xs ys (omega arith)) (and_swap (ltb x 16) (ltb y 16) (are_values xs) (are_values ys))

pub values_of_append : (xs ys : List ℕ) → are_values (xs ++ ys) ≡ (are_values xs && are_values ys)
values_of_append [] ys = refl
values_of_append (x ∷ xs) ys = rw (values_of_append xs ys) (sym (and_assoc (ltb x 16) (are_values xs) (are_values ys)))

pub values_of_fold : (a : ℕ) (xs : List ℕ) → ltb (fold_l bit_or a xs) 16 ≡ (ltb a 16 && are_values xs)
values_of_fold a [] = sym (and-true (ltb a 16))
values_of_fold a (x ∷ xs) =
    values_of_fold (bit_or a x) xs ∙ rw (small_or a x) (and_assoc (ltb a 16) (ltb x 16) (are_values xs))

pub values_of_capped : (xs : List ℕ) → are_values (map capped xs) ≡ are_values xs
values_of_capped [] = refl
values_of_capped (x ∷ xs) = rw (small_capped x, values_of_capped xs) refl

pub capped_values : (xs : List ℕ) → are_values xs ≡ true → map capped xs ≡ xs
capped_values [] e = refl
capped_values (x ∷ xs) e =
    let parts = and_parts (ltb x 16) (are_values xs) e in
    let small : capped x ≡ x = grind (arith, common_steps, parts.0) in
    rw (small, capped_values xs parts.1) refl

-- ---- bytes of two values each

-- the same, by bits
abbrev pub joined_bits : List ℕ → List ℕ
joined_bits [] = []
joined_bits (value ∷ []) = []
joined_bits (high ∷ low ∷ rest) = bit_or (high * 16 % 256) low ∷ joined_bits rest

pub one_byte : (high low : ℕ) → high < 16 → low < 16 → bit_or (high * 16 % 256) low ≡ 16 * high + low
one_byte high low h l =
    let whole : high * 16 % 256 ≡ high * 2 ^ 4 = omega arith in
    rw whole (or_shifted high 4 low l ∙ omega arith)

pub joined_by_bits : (xs : List ℕ) → are_values xs ≡ true → joined_bits xs ≡ joined xs
unfolding joined
joined_by_bits [] e = refl
joined_by_bits (value ∷ []) e = refl
joined_by_bits (high ∷ low ∷ rest) e =
    let a = and_parts (ltb high 16) (are_values (low ∷ rest)) e in
    let b = and_parts (ltb low 16) (are_values rest) a.1 in
    let h : high < 16 = grind (arith, common_steps, a.0) in
    let l : low < 16 = grind (arith, common_steps, b.0) in
    rw (one_byte high low h l, joined_by_bits rest b.1) refl

pub joined-append : (n : ℕ) (xs ys : List ℕ) → length xs ≡ 2 * n → joined (xs ++ ys) ≡ joined xs ++ joined ys
unfolding joined
joined-append n [] ys e = refl
joined-append n (value ∷ []) ys e = absurd (omega arith)
joined-append n (high ∷ low ∷ rest) ys e = ap (λ l. (16 * high + low) ∷ l) (joined-append (n - 1) rest ys (omega arith))

-- the values of two vectors, by turns
pub two_by_two : (xs : List ℕ) → length xs ≡ 32 → are_values xs ≡ true
    → zip2 bit_or (map (λ x. x * 16 % 256)
    (pick_l 0 xs (0 ∷ 2 ∷ 4 ∷ 6 ∷ 8 ∷ 10 ∷ 12 ∷ 14 ∷ 16 ∷ 18 ∷ 20 ∷ 22 ∷ 24 ∷ 26 ∷ 28 ∷ 30 ∷ [])))
    (pick_l 0 xs (1 ∷ 3 ∷ 5 ∷ 7 ∷ 9 ∷ 11 ∷ 13 ∷ 15 ∷ 17 ∷ 19 ∷ 21 ∷ 23 ∷ 25 ∷ 27 ∷ 29 ∷ 31 ∷ []))
    ≡ joined xs
two_by_two xs long e = subst (λ (ys : List ℕ).
    zip2 bit_or (map (λ x. x * 16 % 256)
    (pick_l 0 xs (0 ∷ 2 ∷ 4 ∷ 6 ∷ 8 ∷ 10 ∷ 12 ∷ 14 ∷ 16 ∷ 18 ∷ 20 ∷ 22 ∷ 24 ∷ 26 ∷ 28 ∷ 30 ∷ [])))
    (pick_l 0 xs (1 ∷ 3 ∷ 5 ∷ 7 ∷ 9 ∷ 11 ∷ 13 ∷ 15 ∷ 17 ∷ 19 ∷ 21 ∷ 23 ∷ 25 ∷ 27 ∷ 29 ∷ 31 ∷ []))
    ≡ joined_bits ys) (pick_l_whole 0 xs 32 long) refl ∙ joined_by_bits xs e

-- ---- a step of the loop

pub take_plus : (n m : ℕ) (xs : List ℕ) → take (n + m) xs ≡ take n xs ++ take m (drop n xs)
take_plus n m xs =
    sym (take-append-drop n (take (n + m) xs)) ∙ rw (take-take n (n + m) xs (omega arith), drop-take n m xs) refl

pub next_text : (text : List ℕ) (at : ℕ)
    → take (2 * (at + 16)) text ≡ take (2 * at) text ++ (chunk (2 * at) 16 text ++ chunk (2 * at + 16) 16 text)
next_text text at =
    let more : 2 * (at + 16) ≡ 2 * at + 32 = omega arith in
    rw (more, take_plus (2 * at) 32 text)
    (ap (λ l. take (2 * at) text ++ l)
    (take_plus 16 16 (drop (2 * at) text) ∙ ap (λ l. take 16 (drop (2 * at) text) ++ take 16 l) (drop-drop 16 (2 * at) text)))

module _ (text : List ℕ) (at : ℕ) (room : 2 * at + 32 ≤ length text) (first second : List ℕ) (l1 : length first ≡ 16) (l2 : length second ≡ 16)
    (e1 : map capped first ≡ map digit_value (chunk (2 * at) 16 text)) (e2 : map capped second ≡ map digit_value (chunk (2 * at + 16) 16 text)) where
  abbrev before : List ℕ
  before = take (2 * at) text

  are_next : are_digits (take (2 * (at + 16)) text) ≡ (are_digits before && (are_values first && are_values second))
  are_next =
      let one = sym (ap are_values e1) ∙ values_of_capped first in
      let two = sym (ap are_values e2) ∙ values_of_capped second in
      rw (next_text text at, map-append digit_value before, map-append digit_value (chunk (2 * at) 16 text), values_of_append (map digit_value before), values_of_append (map digit_value (chunk (2 * at) 16 text)), one, two) refl

  pub next_seen : (seen : List ℕ) → length seen ≡ 16 → are_values seen ≡ are_digits before
      → are_values (zip2 bit_or seen (zip2 bit_or first second)) ≡ are_digits (take (2 * (at + 16)) text)
  next_seen seen l e =
      values_of_or seen (zip2 bit_or first second) (l ∙ sym (length-zip2 bit_or first second (l1 ∙ sym l2) ∙ l1))
      ∙ rw (values_of_or first second (l1 ∙ sym l2), e) (sym are_next)

  pub next_bytes : (bytes read : List ℕ) → at + 16 ≤ length bytes → length read ≡ 16 → (are_values (first ++ second) ≡ true → read ≡ joined (first ++ second))
      → (are_digits before ≡ true → take at bytes ≡ bytes_of before) → are_digits (take (2 * (at + 16)) text) ≡ true
      → take (at + 16) (put_chunk at bytes read) ≡ bytes_of (take (2 * (at + 16)) text)
  next_bytes bytes read fits long is so_far all =
      let parts = and_parts (are_digits before) (are_values first && are_values second) (sym are_next ∙ all) in
      let both = and_parts (are_values first) (are_values second) parts.1 in
      let one : first ≡ map digit_value (chunk (2 * at) 16 text) = sym (capped_values first both.0) ∙ e1 in
      let two : second ≡ map digit_value (chunk (2 * at + 16) 16 text) = sym (capped_values second both.1) ∙ e2 in
      let len : length (map digit_value before) ≡ 2 * at = length-map before digit_value ∙ length-take-le (2 * at) text (omega arith) in
      let whole : map digit_value (take (2 * (at + 16)) text) ≡ map digit_value before ++ (first ++ second) =
      rw (next_text text at, map-append digit_value before, map-append digit_value (chunk (2 * at) 16 text), one, two) refl in
      take_more_put_chunk at bytes read (at + 16) (omega arith) fits
      ∙ rw (so_far parts.0, is (values_of_append first second ∙ parts.1), whole) (sym (joined-append at (map digit_value before) (first ++ second) len))
