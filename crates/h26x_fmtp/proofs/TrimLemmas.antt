-- White space at the ends of a text.
use Rattle.std.proofs.Common.{◌≡◌, ℕ, suc, ◌+◌, ◌-◌, ◌<◌, ◌≤◌, true, false, List, [], ◌∷◌, ◌++◌, length, take, drop, get_or, refl, sym, ap, ◌∙◌, arith, ⊎_elim}
use Rattle.std.specs.Prelude.{filter}
use mathlib.Core.List.{reverse}
use Rattle.std.specs.List.{prefix_len, suffix_len}
use Rattle.std.specs.Char.{is_ascii_whitespace}
use Rattle.std.proofs.lemmas.Bool.{cases_lt}
use Rattle.std.proofs.lemmas.Bool.Decides.{nat_tests}
use Rattle.std.proofs.lemmas.List.{get_or-take, get_or-drop, get_or-reverse, length-take-le, length-drop, length-reverse, take-append-drop, take_all, append-nil}
use Rattle.std.proofs.lemmas.List.Sums.{prefix_len_passes, prefix_len_stops, prefix_len-le-length, suffix_len-le-length}
use Rattle.std.proofs.lemmas.List.Elements.{filter-append}
use Rattle.std.proofs.lemmas.Str.Ascii.{trim_ascii_is}
use Rattle.h26x_fmtp.specs.Pairs.{trim_ascii}
use Rattle.h26x_fmtp.specs.Written.{IsTrimmed}
use Rattle.h26x_fmtp.specs.Parameters.{is_mark}

-- a text without white space at its ends stays
pub trimmed_same : (text : List ℕ) → IsTrimmed text → trim_ascii text ≡ text
trimmed_same text h =
    sym (trim_ascii_is text text (drop (prefix_len is_ascii_whitespace text) text) refl
    (0, sym (take_all (length text) text (omega arith)), (λ i l. absurd (omega arith)), (λ l. h.start), (λ i a b. absurd (omega arith)), (λ l. h.end)))

-- behind the last byte that is none, all are white space
space_behind : (xs : List ℕ) (j : ℕ) → length xs - suffix_len is_ascii_whitespace xs ≤ j → j < length xs → is_ascii_whitespace (get_or xs j 0) ≡ true
space_behind xs j low high =
    let bound = suffix_len-le-length is_ascii_whitespace xs in
    let k : ℕ = length xs - 1 - j in
    let small : k < suffix_len is_ascii_whitespace xs = omega arith in
    let same = get_or-reverse xs k 0 (omega arith) in
    let place : length xs - 1 - k ≡ j = omega arith in
    ap is_ascii_whitespace (sym (same ∙ ap (λ n. get_or xs n 0) place)) ∙ prefix_len_passes is_ascii_whitespace (reverse xs) k 0 small

-- and the last one before isn't
none_before : (xs : List ℕ) (m : ℕ) → m ≡ length xs - suffix_len is_ascii_whitespace xs → 0 < m → is_ascii_whitespace (get_or xs (m - 1) 0) ≡ false
none_before xs m e some =
    let k : ℕ = suffix_len is_ascii_whitespace xs in
    let same = get_or-reverse xs k 0 (omega arith) in
    let place : length xs - 1 - k ≡ m - 1 = omega arith in
    ap is_ascii_whitespace (sym (same ∙ ap (λ n. get_or xs n 0) place)) ∙ prefix_len_stops is_ascii_whitespace (reverse xs) 0 (omega (arith, length-reverse xs))

-- a front that ends in no white space, of bytes that begin with none
front_is_trimmed : (xs : List ℕ) (m : ℕ) → m ≤ length xs → (0 < m → is_ascii_whitespace (get_or xs 0 0) ≡ false) → (0 < m → is_ascii_whitespace (get_or xs (m - 1) 0) ≡ false) → IsTrimmed (take m xs)
front_is_trimmed xs m within first last = ⊎_elim (λ some. record {
  start = ap is_ascii_whitespace (get_or-take m xs 0 0 some) ∙ first some;
  end = ap (λ n. is_ascii_whitespace (get_or (take m xs) (n - 1) 0)) (length-take-le m xs within) ∙ ap is_ascii_whitespace (get_or-take m xs (m - 1) 0 (omega arith)) ∙ last some;
}) (λ none. empty (take m xs) (omega (arith, length-take-le m xs within))) (cases_lt 0 m)
  where
    empty : (ys : List ℕ) → length ys ≤ 0 → IsTrimmed ys
    empty [] h = record { start = refl; end = refl }
    empty (y ∷ ys) h = absurd (omega arith)

-- what is left is trimmed
pub trimmed_is : (text : List ℕ) → IsTrimmed (trim_ascii text)
trimmed_is text =
    let n : ℕ = prefix_len is_ascii_whitespace text in
    let rest : List ℕ = drop n text in
    let m : ℕ = length rest - suffix_len is_ascii_whitespace rest in
    let long = length-drop n text in
    let first : 0 < m → is_ascii_whitespace (get_or rest 0 0) ≡ false = λ some.
    ap is_ascii_whitespace (get_or-drop n text 0 0 ∙ ap (λ k. get_or text k 0) (omega arith)) ∙ prefix_len_stops is_ascii_whitespace text 0 (omega arith) in
    front_is_trimmed rest m (omega arith) first (λ some. none_before rest m refl some)

space_no_mark : (byte : ℕ) → is_ascii_whitespace byte ≡ true → is_mark byte ≡ false
space_no_mark byte space = grind (arith, nat_tests, space)

-- white space has none
no_marks : (xs : List ℕ) → ((k : ℕ) → k < length xs → is_ascii_whitespace (get_or xs k 0) ≡ true) → filter is_mark xs ≡ []
no_marks [] h = refl
no_marks (x ∷ xs) h =
    let first = space_no_mark x (h 0 (omega arith)) in
    rw first (no_marks xs (λ k l. h (suc k) (omega arith)))

-- trimming leaves the marks
pub marks_trimmed : (text : List ℕ) → filter is_mark (trim_ascii text) ≡ filter is_mark text
marks_trimmed text =
    let n : ℕ = prefix_len is_ascii_whitespace text in
    let rest : List ℕ = drop n text in
    let m : ℕ = length rest - suffix_len is_ascii_whitespace rest in
    let within = prefix_len-le-length is_ascii_whitespace text in
    let front : filter is_mark (take n text) ≡ [] = no_marks (take n text) (λ k l.
    let low : k < n = omega (arith, length-take-le n text within) in
    ap is_ascii_whitespace (get_or-take n text k 0 low) ∙ prefix_len_passes is_ascii_whitespace text k 0 low) in
    let behind : filter is_mark (drop m rest) ≡ [] = no_marks (drop m rest) (λ k l.
    ap is_ascii_whitespace (get_or-drop m rest k 0) ∙ space_behind rest (m + k) (omega arith) (omega (arith, length-drop m rest))) in
    let of_rest : filter is_mark rest ≡ filter is_mark (take m rest) =
    ap (filter is_mark) (sym (take-append-drop m rest)) ∙ filter-append is_mark (take m rest) (drop m rest)
    ∙ ap (λ l. filter is_mark (take m rest) ++ l) behind ∙ append-nil _ in
    let of_text : filter is_mark text ≡ filter is_mark rest =
    ap (filter is_mark) (sym (take-append-drop n text)) ∙ filter-append is_mark (take n text) rest ∙ ap (λ l. l ++ filter is_mark rest) front in
    sym (of_text ∙ of_rest)
