-- The parts of a text, from the front on.
use Rattle.std.proofs.Common.{◌≡◌, ℕ, ◌+◌, ◌<◌, ◌≤◌, Bool, true, false, not, cond, List, [], ◌∷◌, ◌++◌, length, take, drop, get_or, Option, Some, None, refl, sym, ap, ◌∙◌, arith}
use Rattle.std.specs.Prelude.{unwrap_or, ◌==◌}
use Rattle.std.specs.List.{onto_first, position_or_len, before_first, after_first, filter_map, cons_option}
use Rattle.std.proofs.lemmas.List.{append-nil, append_assoc, drop_more, drop_all, take_all, take_more}
use Rattle.std.proofs.lemmas.List.Sums.{prefix_len_is}
use Rattle.std.proofs.lemmas.Bool.{not_from_true, not_from_false, false_from_ne_true}
use Rattle.memchr.specs.Find.{IsFirstByte, is_byte}
use Rattle.h26x_fmtp.specs.Pairs.{ends_part, is_inside, parts_from, parts, closes_from, pair_in, pairs}

-- by what a test says
pub by_test : {P : Type 0} (b : Bool) → (b ≡ true → P) → (b ≡ false → P) → P
by_test {P} b passes fails = elim b as (λ t. b ≡ t → P) [ true ↦ passes | false ↦ fails ] refl

-- parts with a text before the first
abbrev pub with_front : List ℕ → List (List ℕ) → List (List ℕ)
with_front front [] = front ∷ []
with_front front (part ∷ rest) = (front ++ part) ∷ rest

front_more : (front : List ℕ) (byte : ℕ) (ps : List (List ℕ)) → with_front front (onto_first byte ps) ≡ with_front (front ++ byte ∷ []) ps
front_more front byte [] = refl
front_more front byte (p ∷ ps) = ap (λ (l : List ℕ). l ∷ ps) (sym (append_assoc front (byte ∷ []) p))

parts_in_front : (s : Bool) (byte : ℕ) (rest : List ℕ) → with_front [] (parts_from s (byte ∷ rest)) ≡ parts_from s (byte ∷ rest)
parts_in_front s byte rest = nothing_in_front byte (ends_part s byte) (parts_from false rest) (parts_from (is_inside s byte) rest)
  where
    nothing_in_front : (byte : ℕ) (t : Bool) (ps qs : List (List ℕ)) → with_front [] (cond t ([] ∷ ps) (onto_first byte qs)) ≡ cond t ([] ∷ ps) (onto_first byte qs)
    nothing_in_front byte true ps qs = refl
    nothing_in_front byte false ps [] = refl
    nothing_in_front byte false ps (q ∷ qs) = refl

-- the parts of a text, with nothing before the first
pub front_of_none : (text : List ℕ) → parts text ≡ with_front [] (parts_from false text)
front_of_none [] = refl
front_of_none (byte ∷ rest) = sym (parts_in_front false byte rest)

-- a byte that ends no part
pub parts_on : (s : Bool) (byte : ℕ) (rest : List ℕ) → ends_part s byte ≡ false → parts_from s (byte ∷ rest) ≡ onto_first byte (parts_from (is_inside s byte) rest)
parts_on s byte rest e = ap (λ t. cond t ([] ∷ parts_from false rest) (onto_first byte (parts_from (is_inside s byte) rest))) e

-- a byte that ends one
pub parts_end : (s : Bool) (byte : ℕ) (rest : List ℕ) → ends_part s byte ≡ true → parts_from s (byte ∷ rest) ≡ [] ∷ parts_from false rest
parts_end s byte rest e = ap (λ t. cond t ([] ∷ parts_from false rest) (onto_first byte (parts_from (is_inside s byte) rest))) e

-- the first part goes on at a place
pub part_goes_on : (text : List ℕ) (s : Bool) (i : ℕ) → i < length text → ends_part s (get_or text i 0) ≡ false
    → parts text ≡ with_front (take i text) (parts_from s (drop i text))
    → parts text ≡ with_front (take (i + 1) text) (parts_from (is_inside s (get_or text i 0)) (drop (i + 1) text))
part_goes_on text s i within e so_far =
    so_far
    ∙ ap (λ l. with_front (take i text) (parts_from s l)) (drop_more text i 0 within)
    ∙ ap (with_front (take i text)) (parts_on s (get_or text i 0) (drop (i + 1) text) e)
    ∙ front_more (take i text) (get_or text i 0) (parts_from (is_inside s (get_or text i 0)) (drop (i + 1) text))
    ∙ ap (λ (l : List ℕ). with_front l (parts_from (is_inside s (get_or text i 0)) (drop (i + 1) text))) (sym (take_more text i 0 within))

-- the first part ends at a place
pub part_ends : (text : List ℕ) (s : Bool) (i : ℕ) → i < length text → ends_part s (get_or text i 0) ≡ true
    → parts text ≡ with_front (take i text) (parts_from s (drop i text))
    → parts text ≡ take i text ∷ parts (drop (i + 1) text)
part_ends text s i within e so_far =
    so_far
    ∙ ap (λ l. with_front (take i text) (parts_from s l)) (drop_more text i 0 within)
    ∙ ap (with_front (take i text)) (parts_end s (get_or text i 0) (drop (i + 1) text) e)
    ∙ ap (λ (l : List ℕ). l ∷ parts (drop (i + 1) text)) (append-nil (take i text))

-- no part ends
pub part_is_all : (text : List ℕ) (s : Bool) (i : ℕ) → length text ≤ i
    → parts text ≡ with_front (take i text) (parts_from s (drop i text)) → parts text ≡ text ∷ []
part_is_all text s i past so_far =
    so_far
    ∙ ap (λ l. with_front (take i text) (parts_from s l)) (drop_all i text past)
    ∙ ap (λ (l : List ℕ). l ∷ []) (append-nil (take i text) ∙ take_all i text past)

-- one byte more stands inside braces, or not
pub closes_on : (text : List ℕ) (s : Bool) (i : ℕ) → i < length text
    → closes_from s (drop i text) ≡ closes_from (is_inside s (get_or text i 0)) (drop (i + 1) text)
closes_on text s i within = ap (closes_from s) (drop_more text i 0 within)

pub closes_end : (text : List ℕ) (s : Bool) (i : ℕ) → length text ≤ i → closes_from s (drop i text) ≡ not s
closes_end text s i past = ap (closes_from s) (drop_all i text past)

-- the parameters of a text of one part, and of the first part and what stands behind it
pub pairs_of_one : (text : List ℕ) → parts text ≡ text ∷ [] → pairs text ≡ cons_option (pair_in text) (pairs [])
pairs_of_one text e = ap (filter_map pair_in) e

pub pairs_of_first : (text part rest : List ℕ) → parts text ≡ part ∷ parts rest → pairs text ≡ cons_option (pair_in part) (pairs rest)
pairs_of_first text part rest e = ap (filter_map pair_in) e

-- where `memchr` finds the first byte of a value
pub first_at : (c : ℕ) (part : List ℕ) (r : Option ℕ) → IsFirstByte (is_byte c) part r → unwrap_or r (length part) ≡ position_or_len (λ b. b == c) part
first_at c part None none =
    sym (prefix_len_is (λ b. not (b == c)) part (length part) 0 (omega arith)
    (λ k l. not_from_false (get_or part k 0 == c) (false_from_ne_true _ (none k (omega arith) l)))
    (λ l. absurd (omega arith)))
first_at c part (Some k) (before, here) =
    sym (prefix_len_is (λ b. not (b == c)) part k 0 (omega (arith, before.high))
    (λ j l. not_from_false (get_or part j 0 == c) (false_from_ne_true _ (before.before j (omega arith) l)))
    (λ l. not_from_true (get_or part k 0 == c) here))

-- what stands before it and behind it, and where there is none
pub cut_at : (c : ℕ) (text : List ℕ) (k : ℕ) → IsFirstByte (is_byte c) text (Some k) → (take k text ≡ before_first (λ b. b == c) text) × (drop (k + 1) text ≡ after_first (λ b. b == c) text)
cut_at c text k first =
    let place = first_at c text (Some k) first in
    (ap (λ n. take n text) place, ap (λ n. drop (n + 1) text) place)

pub cut_nowhere : (c : ℕ) (text : List ℕ) → IsFirstByte (is_byte c) text None → (text ≡ before_first (λ b. b == c) text) × ([] ≡ after_first (λ b. b == c) text)
cut_nowhere c text first =
    let place = first_at c text None first in (
      sym (take_all (length text) text (omega arith)) ∙ ap (λ n. take n text) place,
      sym (drop_all (length text + 1) text (omega arith)) ∙ ap (λ n. drop (n + 1) text) place,
    )
