-- Parameters read and written by a table.
use Rattle.std.proofs.Common.{◌≡◌, ℕ, ◌+◌, ◌<◌, ◌≤◌, false, List, [], ◌∷◌, ◌++◌, length, drop, get_or, map, Option, Some, None, Result, Ok, refl, sym, ap, subst, ◌∙◌, arith}
use Rattle.std.specs.List.{filter_map, cons_option, join_with_byte}
use Rattle.std.proofs.lemmas.List.{append-nil, append_assoc, drop_more, length-append}
use Rattle.h26x_fmtp.specs.Pairs.{Pair, parts, pairs, pair_in}
use Rattle.h26x_fmtp.specs.Written.{written, with_pair}
use Rattle.h26x_fmtp.specs.Tables as table
use Rattle.h26x_fmtp.specs.Parameters.{with_given}
use Rattle.h26x_fmtp.specs.ParametersViews.{value_view, Fails}
use Rattle.h26x_fmtp.specs.TableViews.{row_view}
use Rattle.h26x_fmtp.specs.declared.table.ParameterRow.{ParameterRow}
use Rattle.h26x_fmtp.specs.declared.error.ParametersError.{ParametersError}
use Rattle.h26x_fmtp.specs.declared.error.ParametersError.TheVariants.{OpenBrace, Refused, OutOfMemory}
use Rattle.std.specs.Prelude.{Vec}
use Rattle.std.specs.declared.alloc.Global.{Global}
use Rattle.h26x_fmtp.specs.Reading.{FormatParameters, given_pairs, all_of, reading, none_of, and_then}
use Rattle.h26x_fmtp.specs.Reading as step
use Rattle.h26x_fmtp.proofs.WrittenLemmas.{written_behind, parts_joined}

-- a text with parameters behind it
abbrev pub written_on : List ℕ → List Pair → List ℕ
written_on text [] = text
written_on text (pair ∷ rest) = written_on (with_pair text pair) rest

written_from : (before rest : List Pair) → written_on (written before) rest ≡ written (before ++ rest)
written_from before [] = ap written (sym (append-nil before))
written_from before (pair ∷ rest) =
    ap (λ t. written_on t rest) (sym (written_behind before pair)) ∙ written_from (before ++ pair ∷ []) rest ∙ ap written (append_assoc before (pair ∷ []) rest)

pub written_all : (all : List Pair) → written_on [] all ≡ written all
written_all all = written_from [] all

-- a text has no more parameters than bytes
at_most_one : (o : Option Pair) (rest : List Pair) → length (cons_option o rest) ≤ 1 + length rest
at_most_one None rest = omega arith
at_most_one (Some pair) rest = omega arith

one_part_bound : (part : List ℕ) → length (cons_option (pair_in part) []) ≤ length part
one_part_bound [] = omega arith
one_part_bound (byte ∷ rest) = omega (arith, at_most_one (pair_in (byte ∷ rest)) [])

parts_bound : (ps : List (List ℕ)) → length (filter_map pair_in ps) ≤ length (join_with_byte 59 ps)
parts_bound [] = omega arith
parts_bound (p ∷ []) = one_part_bound p
parts_bound (p ∷ q ∷ ps) =
    omega (arith, at_most_one (pair_in p) (filter_map pair_in (q ∷ ps)), parts_bound (q ∷ ps), length-append p (59 ∷ join_with_byte 59 (q ∷ ps)))

pub pairs_bound : (text : List ℕ) → length (pairs text) ≤ length text
pairs_bound text = omega (arith, parts_bound (parts text), ap length (parts_joined false text))

-- a row's value is written before those behind it
given_first : (text : List ℕ) (row : table.ParameterRow) (rows : List table.ParameterRow) (value : Option (List ℕ)) (values : List (Option (List ℕ))) (others : List Pair)
    → written_on text (given_pairs (row ∷ rows) (value ∷ values) ++ others) ≡ written_on (with_given text row value) (given_pairs rows values ++ others)
given_first text row rows None values others = refl
given_first text row rows (Some value) values others = refl

pub given_next : (text : List ℕ) (rows : List ParameterRow) (values : List (Option (Vec ℕ Global))) (others : List Pair) (i : ℕ) (row : ParameterRow) (value : Option (Vec ℕ Global))
    → i < length rows → i < length values
    → written_on text (given_pairs (map row_view (drop i rows)) (map value_view (drop i values)) ++ others)
    ≡ written_on (with_given text (row_view (get_or rows i row)) (value_view (get_or values i value))) (given_pairs (map row_view (drop (i + 1) rows)) (map value_view (drop (i + 1) values)) ++ others)
given_next text rows values others i row value in_rows in_values =
    ap (λ (l : List ParameterRow). written_on text (given_pairs (map row_view l) (map value_view (drop i values)) ++ others)) (drop_more rows i row in_rows)
    ∙ ap (λ (l : List (Option (Vec ℕ Global))). written_on text (given_pairs (map row_view (get_or rows i row ∷ drop (i + 1) rows)) (map value_view l) ++ others)) (drop_more values i value in_values)
    ∙ given_first text (row_view (get_or rows i row)) (map row_view (drop (i + 1) rows)) (value_view (get_or values i value)) (map value_view (drop (i + 1) values)) others

-- reading goes on behind a parameter that is taken, and stops at one that isn't
pub goes_on : (rows : List table.ParameterRow) (place : ℕ) (so_far next : FormatParameters) (list : List Pair) (pair : Pair) (rest : List Pair) → list ≡ pair ∷ rest
    → step.with_parameter rows place so_far pair ≡ Ok next → reading rows place so_far list ≡ reading rows (place + 1) next rest
unfolding reading
goes_on rows place so_far next list pair rest e taken = ap (reading rows place so_far) e ∙ ap (λ o. and_then o (λ n. reading rows (place + 1) n rest)) taken

stops : (rows : List table.ParameterRow) (place : ℕ) (so_far : FormatParameters) (pair : Pair) (rest : List Pair) (error : ParametersError)
    → Fails error (step.with_parameter rows place so_far pair) → Fails error (reading rows place so_far (pair ∷ rest))
unfolding reading
stops rows place so_far pair rest OutOfMemory h = tt
stops rows place so_far pair rest OpenBrace h = ap (λ o. and_then o (λ n. reading rows (place + 1) n rest)) h
stops rows place so_far pair rest (Refused at fault) h = ap (λ o. and_then o (λ n. reading rows (place + 1) n rest)) h

pub stops_at : (rows : List table.ParameterRow) (place : ℕ) (so_far : FormatParameters) (list : List Pair) (pair : Pair) (rest : List Pair) (error : ParametersError) (whole : Result FormatParameters ParametersError)
    → list ≡ pair ∷ rest → reading rows place so_far list ≡ whole → Fails error (step.with_parameter rows place so_far pair) → Fails error whole
stops_at rows place so_far list pair rest error whole e same h =
    subst (Fails error) (ap (reading rows place so_far) (sym e) ∙ same) (stops rows place so_far pair rest error h)

-- nothing is left to read
pub reads_none : (rows : List table.ParameterRow) (place : ℕ) (so_far : FormatParameters) (list : List Pair) → list ≡ [] → reading rows place so_far list ≡ Ok so_far
unfolding reading
reads_none rows place so_far list e = ap (reading rows place so_far) e
