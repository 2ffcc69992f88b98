-- Bytes read from digits by a table, two digits at a time.
use Rattle.std.proofs.Common.{◌≡◌, ℕ, suc, ◌+◌, ◌*◌, ◌%◌, ◌<◌, ◌≤◌, Bool, true, ◌&&◌, cond, ltb, List, [], ◌∷◌, ◌++◌, map, replicate, Option, Some, None, unwrap_or, length, take, drop, get_or, set, bit_and, bit_or, refl, sym, ap, ◌∙◌, arith}
use Rattle.std.proofs.Math.Bool.{and-true}
use Rattle.std.proofs.lemmas.Bool.{and_parts}
use Rattle.std.proofs.lemmas.Bool.Decides.{Decides-below_and}
use Rattle.std.proofs.lemmas.Grind.{common_steps}
use Rattle.std.proofs.lemmas.List.{append_assoc, length-map, length-take-le, map-append, take-append-drop, take_more_set}
use Rattle.std.proofs.lemmas.List.FromFn.{get_or-map-range_with_len}
use Rattle.std.proofs.lemmas.Nat.{and_mask}
use Rattle.std.proofs.Math.Seq.{take-suc}
use Rattle.std.proofs.lemmas.Slice.Eq.{bytes_eq-Decides}
use Rattle.std.specs.List.{range_with_len}
use Rattle.std.specs.Str.{bytes_eq}
use Rattle.hex.specs.Hex.{hex_digit_value, lower_digits, upper_digits}
use Rattle.h26x_lines.specs.Digits.{are_digits, bytes_of, digit_table, digit_value, joined}
use Rattle.h26x_lines.proofs.DigitLemmas.{all_below, joined-append, one_byte, small_or, values_of_append}

-- ---- the table

-- of each byte its value as a digit where that is less than n, and 240 where it is not
unfoldable pub values_below : ℕ → List ℕ
values_below n = map (λ c. cond (ltb (digit_value c) n) (digit_value c) 240) (range_with_len 0 256)

-- one more digit, in either case
abbrev with_next : ℕ → List ℕ
with_next n = set (set (values_below n) (get_or lower_digits n 0) n) (get_or upper_digits n 0) n

abbrev is_next : ℕ → Bool
is_next n = bytes_eq (with_next n) (values_below (suc n))

all_next : all_below is_next 16 ≡ true
unfolding values_below
all_next = refl

pub next_values : (k : ℕ) → k < 16 → with_next k ≡ values_below (k + 1)
next_values k l =
    (Decides-below_and is_next (λ n. with_next n ≡ values_below (suc n)) (all_below is_next) (λ n. bytes_eq-Decides (with_next n) (values_below (suc n))) refl (λ _. refl) 16).0 all_next k l
    ∙ ap values_below (omega arith)

pub no_values : values_below 0 ≡ replicate 256 240
unfolding values_below
no_values = refl

pub all_values : values_below 16 ≡ digit_table
unfolding values_below digit_table
all_values = refl

in_table : (c : ℕ) → c < 256 → get_or digit_table c 0 ≡ unwrap_or (hex_digit_value c) 240
unfolding digit_table
in_table c l = get_or-map-range_with_len (λ k. unwrap_or (hex_digit_value k) 240) 0 256 c c 0 l (omega arith)

small_or_none : (v : Option ℕ) → ltb (unwrap_or v 240) 16 ≡ ltb (unwrap_or v 16) 16
small_or_none None = refl
small_or_none (Some v) = refl

same_if_small : (v : Option ℕ) → ltb (unwrap_or v 16) 16 ≡ true → unwrap_or v 240 ≡ unwrap_or v 16
same_if_small None e = cc
same_if_small (Some v) e = refl

is_digit : (c : ℕ) → c < 256 → ltb (get_or digit_table c 0) 16 ≡ ltb (digit_value c) 16
is_digit c l = ap (λ v. ltb v 16) (in_table c l) ∙ small_or_none (hex_digit_value c)

value_of : (c : ℕ) → c < 256 → ltb (digit_value c) 16 ≡ true → get_or digit_table c 0 ≡ digit_value c
value_of c l e = in_table c l ∙ same_if_small (hex_digit_value c) e

-- ---- two digits more

pub next_pair : (text : List ℕ) (at : ℕ) → 2 * at + 2 ≤ length text
    → take (2 * (at + 1)) text ≡ take (2 * at) text ++ get_or text (2 * at) 0 ∷ get_or text (2 * at + 1) 0 ∷ []
next_pair text at room =
    let more : 2 * (at + 1) ≡ suc (suc (2 * at)) = omega arith in
    let one : 2 * at + 1 ≡ suc (2 * at) = omega arith in
    rw (more, one, take-suc text (suc (2 * at)) 0 (omega arith), take-suc text (2 * at) 0 (omega arith))
    (append_assoc (take (2 * at) text) (get_or text (2 * at) 0 ∷ []) (get_or text (suc (2 * at)) 0 ∷ []))

module _ (text : List ℕ) (at high low : ℕ) (h : high < 256) (l : low < 256)
    (next : take (2 * (at + 1)) text ≡ take (2 * at) text ++ high ∷ low ∷ []) where
  abbrev before : List ℕ
  before = take (2 * at) text

  are_next : are_digits (take (2 * (at + 1)) text) ≡ (are_digits before && (ltb (digit_value high) 16 && ltb (digit_value low) 16))
  are_next =
      rw (next, map-append digit_value before (high ∷ low ∷ []), values_of_append (map digit_value before) (digit_value high ∷ digit_value low ∷ []), and-true (ltb (digit_value low) 16)) refl

  pub pair_seen : (all : ℕ) → ltb all 16 ≡ are_digits before
      → ltb (bit_or all (bit_or (get_or digit_table high 0) (get_or digit_table low 0))) 16 ≡ are_digits (take (2 * (at + 1)) text)
  pair_seen all e =
      small_or all (bit_or (get_or digit_table high 0) (get_or digit_table low 0))
      ∙ rw (small_or (get_or digit_table high 0) (get_or digit_table low 0), e, is_digit high h, is_digit low l) (sym are_next)

  pub pair_bytes : (bytes : List ℕ) → at < length bytes → 2 * at ≤ length text → (are_digits before ≡ true → take at bytes ≡ bytes_of before)
      → are_digits (take (2 * (at + 1)) text) ≡ true
      → take (at + 1) (set bytes at (bit_or (get_or digit_table high 0 * 16 % 256) (bit_and (get_or digit_table low 0) 15)))
      ≡ bytes_of (take (2 * (at + 1)) text)
  unfolding joined
  pair_bytes bytes fits room so_far all =
      let parts = and_parts (are_digits before) (ltb (digit_value high) 16 && ltb (digit_value low) 16) (sym are_next ∙ all) in
      let both = and_parts (ltb (digit_value high) 16) (ltb (digit_value low) 16) parts.1 in
      let a : digit_value high < 16 = grind (arith, common_steps, both.0) in
      let b : digit_value low < 16 = grind (arith, common_steps, both.1) in
      let mask = and_mask (digit_value low) 4 in
      let half : bit_and (digit_value low) 15 ≡ digit_value low = omega (arith, mask, b) in
      let len : length (map digit_value before) ≡ 2 * at = length-map before digit_value ∙ length-take-le (2 * at) text (omega arith) in
      take_more_set bytes at (bit_or (get_or digit_table high 0 * 16 % 256) (bit_and (get_or digit_table low 0) 15)) fits
      ∙ rw (so_far parts.0, value_of high h both.0, value_of low l both.1, half, one_byte (digit_value high) (digit_value low) a b, next, map-append digit_value before (high ∷ low ∷ []))
      (sym (joined-append at (map digit_value before) (digit_value high ∷ digit_value low ∷ []) len))

-- ---- a text in two parts

pub are_split : (n : ℕ) (text : List ℕ) → are_digits text ≡ (are_digits (take n text) && are_digits (drop n text))
are_split n text =
    ap are_digits (sym (take-append-drop n text))
    ∙ rw (map-append digit_value (take n text) (drop n text)) (values_of_append (map digit_value (take n text)) (map digit_value (drop n text)))

pub bytes_split : (n : ℕ) (text : List ℕ) → 2 * n ≤ length text → bytes_of text ≡ bytes_of (take (2 * n) text) ++ bytes_of (drop (2 * n) text)
bytes_split n text room =
    let len : length (map digit_value (take (2 * n) text)) ≡ 2 * n = length-map (take (2 * n) text) digit_value ∙ length-take-le (2 * n) text room in
    ap bytes_of (sym (take-append-drop (2 * n) text))
    ∙ rw (map-append digit_value (take (2 * n) text) (drop (2 * n) text)) (joined-append n (map digit_value (take (2 * n) text)) (map digit_value (drop (2 * n) text)) len)
