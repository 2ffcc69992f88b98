-- Parameters that are written and read again.
use Rattle.std.proofs.Common.{◌≡◌, ℕ, suc, ◌+◌, ◌-◌, ◌<◌, Bool, true, false, not, ◌&&◌, ◌||◌, cond, List, [], ◌∷◌, ◌++◌, length, take, drop, get_or, map, Option, Some, None, refl, sym, ap, ◌∙◌, arith}
use Rattle.std.specs.Prelude.{filter, ◌==◌, IfSome}
use Rattle.std.specs.List.{onto_first, position_or_len, before_first, after_first, filter_map, cons_option, prefix_len, suffix_len, list_all, AllByRecursion, join_with_byte}
use Rattle.std.specs.Char.{is_ascii_whitespace}
use Rattle.std.proofs.lemmas.List.{append-nil, append_assoc, take_at, drop_at, get_or_at, get_or-append-add, length-append, take-append-drop}
use Rattle.std.proofs.lemmas.List.Folds.{list_all-append}
use Rattle.std.proofs.lemmas.List.Elements.{filter-append}
use Rattle.std.proofs.lemmas.Bool.{and_parts, and_from, or_parts, not-true}
use Rattle.std.proofs.lemmas.Bool.Decides.{nat_tests}
use Rattle.h26x_fmtp.specs.Pairs.{Pair, ends_part, is_inside, parts_from, parts, closes_from, closes, is_equals, pair_in, pair_of, pair_unless_empty, pairs, trim_ascii}
use Rattle.h26x_fmtp.specs.Written.{text_of, written, separated, with_pair, is_one_part, IsTrimmed, IsWritable}
use Rattle.h26x_fmtp.proofs.PartLemmas.{by_test, parts_on, parts_end}
use Rattle.h26x_fmtp.proofs.TrimLemmas.{trimmed_same, trimmed_is, marks_trimmed}
use Rattle.h26x_fmtp.specs.Parameters.{is_mark}

-- the parts of a text, joined
join_first : (byte : ℕ) (ps : List (List ℕ)) → join_with_byte 59 (onto_first byte ps) ≡ byte ∷ join_with_byte 59 ps
join_first byte [] = refl
join_first byte (p ∷ []) = refl
join_first byte (p ∷ q ∷ ps) = refl

join_part : (s : Bool) (byte : ℕ) (rest : List ℕ) → join_with_byte 59 ([] ∷ parts_from s (byte ∷ rest)) ≡ 59 ∷ join_with_byte 59 (parts_from s (byte ∷ rest))
join_part s byte rest = behind (ends_part s byte) (parts_from false rest) (parts_from (is_inside s byte) rest)
  where
    behind : (t : Bool) (ps qs : List (List ℕ)) → join_with_byte 59 ([] ∷ cond t ([] ∷ ps) (onto_first byte qs)) ≡ 59 ∷ join_with_byte 59 (cond t ([] ∷ ps) (onto_first byte qs))
    behind true ps qs = refl
    behind false ps [] = refl
    behind false ps (q ∷ qs) = refl

join_behind : (rest : List ℕ) → join_with_byte 59 ([] ∷ parts rest) ≡ 59 ∷ join_with_byte 59 (parts rest)
join_behind [] = refl
join_behind (byte ∷ rest) = join_part false byte rest

is_semicolon : (s : Bool) (byte : ℕ) → ends_part s byte ≡ true → byte ≡ 59
is_semicolon s byte e = grind (arith, nat_tests, and_parts (byte == 59) (not s) e)

pub parts_joined : (s : Bool) (text : List ℕ) → join_with_byte 59 (parts_from s text) ≡ text
parts_joined s [] = refl
parts_joined s (byte ∷ rest) = by_test (ends_part s byte)
    (λ ends. ap (join_with_byte 59) (parts_end s byte rest ends) ∙ join_behind rest ∙ ap (λ l. 59 ∷ l) (parts_joined false rest) ∙ ap (λ (b : ℕ). b ∷ rest) (sym (is_semicolon s byte ends)))
    (λ on. ap (join_with_byte 59) (parts_on s byte rest on) ∙ join_first byte (parts_from (is_inside s byte) rest) ∙ ap (λ l. byte ∷ l) (parts_joined (is_inside s byte) rest))

-- a text of one part, alone and before a `;`
one_alone : (s : Bool) (text : List ℕ) → is_one_part s text ≡ true → parts_from s text ≡ text ∷ []
one_alone s [] h = refl
one_alone s (byte ∷ rest) h =
    let both = and_parts (not (ends_part s byte)) (is_one_part (is_inside s byte) rest) h in
    parts_on s byte rest (not-true (ends_part s byte) both.0) ∙ ap (onto_first byte) (one_alone (is_inside s byte) rest both.1)

one_first : (s : Bool) (text more : List ℕ) → is_one_part s text ≡ true → parts_from s (text ++ 59 ∷ more) ≡ text ∷ parts more
one_first s [] more h = parts_end s 59 more (h)
one_first s (byte ∷ rest) more h =
    let both = and_parts (not (ends_part s byte)) (is_one_part (is_inside s byte) rest) h in
    parts_on s byte (rest ++ 59 ∷ more) (not-true (ends_part s byte) both.0) ∙ ap (onto_first byte) (one_first (is_inside s byte) rest more both.1)

-- the parts of what is written
written_parts : (pair : Pair) (all : List Pair) → AllByRecursion IsWritable (pair ∷ all) → parts (written (pair ∷ all)) ≡ map text_of (pair ∷ all)
written_parts pair [] w = one_alone false (text_of pair) w.0.one_part
written_parts pair (next ∷ all) w = one_first false (text_of pair) (written (next ∷ all)) w.0.one_part ∙ ap (λ l. text_of pair ∷ l) (written_parts next all w.1)

-- the first `=` stands behind the name
equals_behind : (name value : List ℕ) → list_all (λ byte. not (is_equals byte)) name ≡ true → position_or_len is_equals (name ++ 61 ∷ value) ≡ length name
equals_behind [] value h = refl
equals_behind (byte ∷ name) value h =
    let both = and_parts (not (is_equals byte)) (list_all (λ b. not (is_equals b)) name) h in
    rw (both.0) (omega (arith, equals_behind name value both.1))

behind_equals : (name value : List ℕ) → drop (length name + 1) (name ++ 61 ∷ value) ≡ value
behind_equals name value =
    ap (drop (length name + 1)) (sym (append_assoc name (61 ∷ []) value))
    ∙ drop_at (name ++ 61 ∷ []) value (length name + 1) (omega (arith, length-append name (61 ∷ [])))

-- the text of a parameter has no white space at its ends
text_start : (name value : List ℕ) → IsTrimmed name → is_ascii_whitespace (get_or (name ++ 61 ∷ value) 0 0) ≡ false
text_start [] value h = refl
text_start (byte ∷ name) value h = h.start

text_end : (name value : List ℕ) → IsTrimmed value → is_ascii_whitespace (get_or (name ++ 61 ∷ value) (length (name ++ 61 ∷ value) - 1) 0) ≡ false
text_end name [] h =
    let last : length (name ++ 61 ∷ []) - 1 ≡ length name = omega (arith, length-append name (61 ∷ [])) in
    ap (λ k. is_ascii_whitespace (get_or (name ++ 61 ∷ []) k 0)) last ∙ ap is_ascii_whitespace (get_or_at name 61 [] 0 (length name) refl)
text_end name (byte ∷ value) h =
    let last : length (name ++ 61 ∷ byte ∷ value) - 1 ≡ length name + suc (length value) = omega (arith, length-append name (61 ∷ byte ∷ value)) in
    let place : length (byte ∷ value) - 1 ≡ length value = omega arith in
    ap (λ k. is_ascii_whitespace (get_or (name ++ 61 ∷ byte ∷ value) k 0)) last
    ∙ ap is_ascii_whitespace (get_or-append-add name (61 ∷ byte ∷ value) (suc (length value)) 0)
    ∙ ap (λ k. is_ascii_whitespace (get_or (byte ∷ value) k 0)) (sym place) ∙ h.end

-- a text that isn't empty
not_empty : (name value : List ℕ) → pair_unless_empty (name ++ 61 ∷ value) ≡ Some (pair_of (name ++ 61 ∷ value))
not_empty [] value = refl
not_empty (byte ∷ name) value = refl

-- the parameter of its own text
pair_back : (pair : Pair) → IsWritable pair → pair_in (text_of pair) ≡ Some pair
pair_back pair w =
    let name = pair.name in
    let value = pair.value in
    let equals = equals_behind name value w.no_equals in
    let front : before_first is_equals (text_of pair) ≡ name = ap (λ k. take k (text_of pair)) equals ∙ take_at name (61 ∷ value) (length name) refl in
    let behind : after_first is_equals (text_of pair) ≡ value = ap (λ k. drop (k + 1) (text_of pair)) equals ∙ behind_equals name value in
    ap pair_unless_empty (trimmed_same (text_of pair) (record { start = text_start name value w.name; end = text_end name value w.value }))
    ∙ not_empty name value
    ∙ ap (λ (l : List ℕ). Some (record { name = trim_ascii l; value = trim_ascii (after_first is_equals (text_of pair)) })) front
    ∙ ap (λ (l : List ℕ). Some (record { name = trim_ascii name; value = trim_ascii l })) behind
    ∙ ap (λ (l : List ℕ). Some (record { name = l; value = trim_ascii value })) (trimmed_same name w.name)
    ∙ ap (λ (l : List ℕ). Some (record { name = name; value = l })) (trimmed_same value w.value)

pairs_back : (all : List Pair) → AllByRecursion IsWritable all → filter_map pair_in (map text_of all) ≡ all
pairs_back [] w = refl
pairs_back (pair ∷ all) w = ap (λ o. cons_option o (filter_map pair_in (map text_of all))) (pair_back pair w.0) ∙ ap (λ l. pair ∷ l) (pairs_back all w.1)

pub pairs_written : (all : List Pair) → AllByRecursion IsWritable all → pairs (written all) ≡ all
pairs_written [] w = refl
pairs_written (pair ∷ all) w = ap (filter_map pair_in) (written_parts pair all w) ∙ pairs_back (pair ∷ all) w

-- one parameter more
written_more : (first : Pair) (all : List Pair) (pair : Pair) → written ((first ∷ all) ++ pair ∷ []) ≡ written (first ∷ all) ++ 59 ∷ text_of pair
written_more first [] pair = refl
written_more first (next ∷ all) pair = ap (λ l. text_of first ++ 59 ∷ l) (written_more next all pair) ∙ sym (append_assoc (text_of first) (59 ∷ written (next ∷ all)) (59 ∷ text_of pair))

separated_text : (text name value rest : List ℕ) → text ≡ (name ++ 61 ∷ value) ++ rest → separated text ≡ text ++ 59 ∷ []
separated_text text name value rest e = e' (name ++ 61 ∷ value) (some name value) e
  where
    some : (n v : List ℕ) → 0 < length (n ++ 61 ∷ v)
    some n v = omega (arith, length-append n (61 ∷ v))

    whole : (t : List ℕ) → 0 < length t → separated t ≡ t ++ 59 ∷ []
    whole [] h = absurd (omega arith)
    whole (b ∷ t) h = refl

    e' : (front : List ℕ) → 0 < length front → text ≡ front ++ rest → separated text ≡ text ++ 59 ∷ []
    e' front long same = whole text (omega (arith, length-append front rest, ap length same))

written_some : (first : Pair) (all : List Pair) → separated (written (first ∷ all)) ≡ written (first ∷ all) ++ 59 ∷ []
written_some first [] = separated_text (text_of first) first.name first.value [] (sym (append-nil (text_of first)))
written_some first (next ∷ all) = separated_text (written (first ∷ next ∷ all)) first.name first.value (59 ∷ written (next ∷ all)) refl

pub written_behind : (all : List Pair) (pair : Pair) → written (all ++ pair ∷ []) ≡ with_pair (written all) pair
written_behind [] pair = refl
written_behind (first ∷ all) pair =
    written_more first all pair ∙ sym (append_assoc (written (first ∷ all)) (59 ∷ []) (text_of pair)) ∙ ap (λ l. l ++ text_of pair) (sym (written_some first all))

-- one part closes its braces
one_closes : (s : Bool) (text more : List ℕ) → is_one_part s text ≡ true → closes_from s (text ++ more) ≡ closes more
one_closes false [] more h = refl
one_closes true [] more h = grind (arith, h)
one_closes s (byte ∷ rest) more h =
    let both = and_parts (not (ends_part s byte)) (is_one_part (is_inside s byte) rest) h in
    one_closes (is_inside s byte) rest more both.1

pub written_closes : (all : List Pair) → AllByRecursion IsWritable all → closes (written all) ≡ true
written_closes [] w = refl
written_closes (pair ∷ []) w = ap closes (sym (append-nil (text_of pair))) ∙ one_closes false (text_of pair) [] w.0.one_part
written_closes (pair ∷ next ∷ all) w = one_closes false (text_of pair) (59 ∷ written (next ∷ all)) w.0.one_part ∙ written_closes (next ∷ all) w.1

-- the parts of a text that closes its braces
abbrev AreParts : Bool → List (List ℕ) → Type 0
AreParts s [] = Unit {0}
AreParts s (part ∷ rest) = (is_one_part s part ≡ true) × AllByRecursion (λ p. is_one_part false p ≡ true) rest

part_more : (s : Bool) (byte : ℕ) (ps : List (List ℕ)) → ends_part s byte ≡ false → 0 < length ps → AreParts (is_inside s byte) ps → AreParts s (onto_first byte ps)
part_more s byte [] e some h = absurd (omega arith)
part_more s byte (p ∷ ps) e some h = (rw e h.0, h.1)

some_parts : (s : Bool) (text : List ℕ) → 0 < length (parts_from s text)
some_parts s [] = omega arith
some_parts s (byte ∷ rest) = some (ends_part s byte) (parts_from false rest) (parts_from (is_inside s byte) rest)
  where
    some : (t : Bool) (ps qs : List (List ℕ)) → 0 < length (cond t ([] ∷ ps) (onto_first byte qs))
    some true ps qs = omega arith
    some false ps [] = omega arith
    some false ps (q ∷ qs) = omega arith

all_of_parts : (ps : List (List ℕ)) → AreParts false ps → AllByRecursion (λ p. is_one_part false p ≡ true) ps
all_of_parts [] h = tt
all_of_parts (p ∷ ps) h = h

ends_outside : (s : Bool) (byte : ℕ) → ends_part s byte ≡ true → s ≡ false
ends_outside s byte e = not-true s (and_parts (byte == 59) (not s) e).1

inside_behind : (s : Bool) (byte : ℕ) → ends_part s byte ≡ true → is_inside s byte ≡ false
inside_behind s byte e = rw (is_semicolon s byte e, ends_outside s byte e) refl

closed_parts : (s : Bool) (text : List ℕ) → closes_from s text ≡ true → AreParts s (parts_from s text)
closed_parts s [] h = (h, tt)
closed_parts s (byte ∷ rest) h = by_test (ends_part s byte)
    (λ ends. rw (parts_end s byte rest ends) (ap not (ends_outside s byte ends), all_of_parts (parts rest) (closed_parts false rest (ap (λ t. closes_from t rest) (sym (inside_behind s byte ends)) ∙ h))))
    (λ on. rw (parts_on s byte rest on) (part_more s byte (parts_from (is_inside s byte) rest) on (some_parts (is_inside s byte) rest) (closed_parts (is_inside s byte) rest h)))

-- whether a text is one part is seen by its marks
pub by_marks : (s : Bool) (text : List ℕ) → is_one_part s text ≡ is_one_part s (filter is_mark text)
by_marks s [] = refl
by_marks s (byte ∷ rest) = by_test (is_mark byte)
    (λ mark. rw mark (ap (λ t. not (ends_part s byte) && t) (by_marks (is_inside s byte) rest)))
    (λ none.
    let outer = or_parts (byte == 59 || byte == 123) (byte == 125) none in
    let inner = or_parts (byte == 59) (byte == 123) outer.0 in
    rw (none, inner.0, inner.1, outer.1) (by_marks s rest))

-- an `=` is no mark, so that the marks behind it are those from it on
from_equals : (x k : ℕ) (xs : List ℕ) → is_equals x ≡ true → filter is_mark (drop (cond (not (is_equals x)) (1 + k) 0) (x ∷ xs)) ≡ filter is_mark (drop (cond (not (is_equals x)) (1 + k) 0 + 1) (x ∷ xs))
from_equals x k xs e =
    let none : is_mark x ≡ false = grind (arith, nat_tests, e) in
    rw (e, none) refl

past_another : (x k : ℕ) (xs : List ℕ) → is_equals x ≡ false → filter is_mark (drop k xs) ≡ filter is_mark (drop (k + 1) xs)
    → filter is_mark (drop (cond (not (is_equals x)) (1 + k) 0) (x ∷ xs)) ≡ filter is_mark (drop (cond (not (is_equals x)) (1 + k) 0 + 1) (x ∷ xs))
past_another x k xs e rest =
    let one : 1 + k ≡ suc k = omega arith in
    let two : 1 + k + 1 ≡ suc (k + 1) = omega arith in
    ap (λ t. filter is_mark (drop (cond (not t) (1 + k) 0) (x ∷ xs))) e ∙ ap (λ n. filter is_mark (drop n (x ∷ xs))) one ∙ rest
    ∙ ap (λ n. filter is_mark (drop n (x ∷ xs))) (sym two) ∙ ap (λ t. filter is_mark (drop (cond (not t) (1 + k) 0 + 1) (x ∷ xs))) (sym e)

marks_at : (xs : List ℕ) → filter is_mark (drop (position_or_len is_equals xs) xs) ≡ filter is_mark (drop (position_or_len is_equals xs + 1) xs)
marks_at [] = refl
marks_at (x ∷ xs) = by_test (is_equals x) (from_equals x (position_or_len is_equals xs) xs) (λ e. past_another x (position_or_len is_equals xs) xs e (marks_at xs))

-- the marks of a part are those of its parameter's text
marks_of_pair : (part : List ℕ) → filter is_mark (text_of (pair_of part)) ≡ filter is_mark part
marks_of_pair part =
    let k : ℕ = position_or_len is_equals part in
    filter-append is_mark (trim_ascii (take k part)) (61 ∷ trim_ascii (drop (k + 1) part))
    ∙ ap (λ l. l ++ filter is_mark (trim_ascii (drop (k + 1) part))) (marks_trimmed (take k part))
    ∙ ap (λ l. filter is_mark (take k part) ++ l) (marks_trimmed (drop (k + 1) part))
    ∙ ap (λ l. filter is_mark (take k part) ++ l) (sym (marks_at part))
    ∙ sym (filter-append is_mark (take k part) (drop k part))
    ∙ ap (filter is_mark) (take-append-drop k part)

-- what passes in a list passes in its parts
all_in_drop : (p : ℕ → Bool) (n : ℕ) (xs : List ℕ) → list_all p xs ≡ true → list_all p (drop n xs) ≡ true
all_in_drop p n xs h = (and_parts (list_all p (take n xs)) (list_all p (drop n xs)) (sym (list_all-append p (take n xs) (drop n xs)) ∙ ap (list_all p) (take-append-drop n xs) ∙ h)).1

all_in_take : (p : ℕ → Bool) (n : ℕ) (xs : List ℕ) → list_all p xs ≡ true → list_all p (take n xs) ≡ true
all_in_take p n xs h = (and_parts (list_all p (take n xs)) (list_all p (drop n xs)) (sym (list_all-append p (take n xs) (drop n xs)) ∙ ap (list_all p) (take-append-drop n xs) ∙ h)).0

-- no `=` stands before the first
abbrev no_equals : ℕ → Bool
no_equals byte = not (is_equals byte)

none_before_first : (xs : List ℕ) → list_all no_equals (take (prefix_len no_equals xs) xs) ≡ true
none_before_first [] = refl
none_before_first (x ∷ xs) =
    let k : ℕ = prefix_len no_equals xs in
    let one : 1 + k ≡ suc k = omega arith in
    by_test (no_equals x)
    (λ e. ap (λ t. list_all no_equals (take (cond t (1 + k) 0) (x ∷ xs))) e ∙ ap (λ n. list_all no_equals (take n (x ∷ xs))) one ∙ and_from (no_equals x) (list_all no_equals (take k xs)) e (none_before_first xs))
    (λ e. ap (λ t. list_all no_equals (take (cond t (1 + k) 0) (x ∷ xs))) e)

writable_pair : (part : List ℕ) → is_one_part false part ≡ true → IsWritable (pair_of part)
writable_pair part one =
    let name : List ℕ = before_first is_equals part in
    let rest : List ℕ = drop (prefix_len is_ascii_whitespace name) name in
    record {
      name = trimmed_is name;
      value = trimmed_is (after_first is_equals part);
      no_equals = all_in_take no_equals (length rest - suffix_len is_ascii_whitespace rest) rest
          (all_in_drop no_equals (prefix_len is_ascii_whitespace name) name (none_before_first part));
      one_part = by_marks false (text_of (pair_of part)) ∙ ap (is_one_part false) (marks_of_pair part) ∙ sym (by_marks false part) ∙ one;
    }

writable_in : (part : List ℕ) → is_one_part false part ≡ true → IfSome (pair_unless_empty part) IsWritable
writable_in [] one = tt
writable_in (byte ∷ rest) one = writable_pair (byte ∷ rest) one

writable_trimmed : (part : List ℕ) → is_one_part false part ≡ true → IfSome (pair_in part) IsWritable
writable_trimmed part one = writable_in (trim_ascii part) (by_marks false (trim_ascii part) ∙ ap (is_one_part false) (marks_trimmed part) ∙ sym (by_marks false part) ∙ one)

with_option : (o : Option Pair) (all : List Pair) → IfSome o IsWritable → AllByRecursion IsWritable all → AllByRecursion IsWritable (cons_option o all)
with_option None all h w = w
with_option (Some pair) all h w = (h, w)

all_writable : (ps : List (List ℕ)) → AllByRecursion (λ p. is_one_part false p ≡ true) ps → AllByRecursion IsWritable (filter_map pair_in ps)
all_writable [] h = tt
all_writable (p ∷ ps) h = with_option (pair_in p) (filter_map pair_in ps) (writable_trimmed p h.0) (all_writable ps h.1)

pub pairs_writable : (text : List ℕ) → closes text ≡ true → AllByRecursion IsWritable (pairs text)
pairs_writable text h = all_writable (parts text) (all_of_parts (parts text) (closed_parts false text h))
