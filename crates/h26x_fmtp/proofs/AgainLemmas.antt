-- What is written by a table is read by it as the same.
use Rattle.std.proofs.Common.{◌≡◌, ℕ, zero, suc, ◌+◌, ◌-◌, true, false, not, ◌&&◌, cond, List, [], ◌∷◌, ◌++◌, length, get_or, replicate, Option, Some, None, Result, Ok, Err, refl, sym, ap, subst, ◌∙◌, arith}
use Rattle.std.specs.Prelude.{filter, is_some}
use Rattle.std.specs.List.{list_all, AllByRecursion}
use Rattle.std.specs.Char.{is_ascii_whitespace}
use Rattle.std.proofs.lemmas.List.{append-nil, append_assoc, get_or_at, set_at, length-append}
use Rattle.std.proofs.lemmas.List.Elements.{filter-append}
use Rattle.std.proofs.lemmas.Bool.{and_parts, and_from, not-true}
use Rattle.h26x_fmtp.specs.declared.error.Fault.TheVariants.{Twice}
use Rattle.h26x_fmtp.specs.declared.error.ParametersError.{ParametersError}
use Rattle.h26x_fmtp.specs.declared.error.ParametersError.TheVariants.{OpenBrace, Refused}
use Rattle.h26x_fmtp.specs.Pairs.{Pair, pairs, is_equals}
use Rattle.h26x_fmtp.specs.Kinds.{fault_in}
use Rattle.h26x_fmtp.specs.Tables.{ParameterRow, row_of}
use Rattle.h26x_fmtp.specs.Written.{written, is_one_part, IsTrimmed, IsWritable}
use Rattle.h26x_fmtp.specs.Reading.{FormatParameters, given_pairs, all_of, reading, none_of, read_of, with_parameter, with_row, with_value, value_at, and_then}
use Rattle.h26x_fmtp.specs.Parameters.{is_mark, is_plain, AreRows, IsTable, IsValue, AreValues, IsOther, AreParameters}
use Rattle.h26x_fmtp.proofs.WrittenLemmas.{by_marks, pairs_written, written_closes}

-- a plain byte is no white space, no mark and no `=`
pub plain_parts : (byte : ℕ) → is_plain byte ≡ true → (is_ascii_whitespace byte ≡ false) × (is_mark byte ≡ false) × (not (is_equals byte) ≡ true)
plain_parts byte h =
    let outer = and_parts (not (is_ascii_whitespace byte) && not (is_mark byte)) (not (is_equals byte)) h in
    let inner = and_parts (not (is_ascii_whitespace byte)) (not (is_mark byte)) outer.0 in
    (not-true (is_ascii_whitespace byte) inner.0, not-true (is_mark byte) inner.1, outer.1)

-- a plain name: it has no marks, no `=`, and no white space at its ends
plain_no_marks : (name : List ℕ) → list_all is_plain name ≡ true → filter is_mark name ≡ []
plain_no_marks [] h = refl
plain_no_marks (byte ∷ rest) h =
    let both = and_parts (is_plain byte) (list_all is_plain rest) h in
    rw ((plain_parts byte both.0).1) (plain_no_marks rest both.1)

plain_no_equals : (name : List ℕ) → list_all is_plain name ≡ true → list_all (λ byte. not (is_equals byte)) name ≡ true
plain_no_equals [] h = refl
plain_no_equals (byte ∷ rest) h =
    let both = and_parts (is_plain byte) (list_all is_plain rest) h in
    and_from (not (is_equals byte)) (list_all (λ b. not (is_equals b)) rest) (plain_parts byte both.0).2 (plain_no_equals rest both.1)

plain_at : (name : List ℕ) → list_all is_plain name ≡ true → (i : ℕ) → is_ascii_whitespace (get_or name i 0) ≡ false
plain_at [] h i = refl
plain_at (byte ∷ rest) h zero = (plain_parts byte (and_parts (is_plain byte) (list_all is_plain rest) h).0).0
plain_at (byte ∷ rest) h (suc i) = plain_at rest (and_parts (is_plain byte) (list_all is_plain rest) h).1 i

plain_trimmed : (name : List ℕ) → list_all is_plain name ≡ true → IsTrimmed name
plain_trimmed name h = record { start = plain_at name h 0; end = plain_at name h (length name - 1) }

-- behind a name without marks a text is one part as its value is
pub behind_name : (name value : List ℕ) → filter is_mark name ≡ [] → is_one_part false (name ++ 61 ∷ value) ≡ is_one_part false value
behind_name name value none =
    by_marks false (name ++ 61 ∷ value)
    ∙ ap (is_one_part false) (filter-append is_mark name (61 ∷ value) ∙ ap (λ l. l ++ filter is_mark value) none)
    ∙ sym (by_marks false value)

writable_row : (row : ParameterRow) (value : List ℕ) → list_all is_plain row.name ≡ true → IsValue row value → IsWritable (record { name = row.name; value = value })
writable_row row value plain is = record {
  name = plain_trimmed row.name plain;
  value = is.trimmed;
  no_equals = plain_no_equals row.name plain;
  one_part = behind_name row.name value (plain_no_marks row.name plain) ∙ is.one_part;
}

writable_others : (rows : List ParameterRow) (others : List Pair) → AllByRecursion (IsOther rows) others → AllByRecursion IsWritable others
writable_others rows [] h = tt
writable_others rows (pair ∷ rest) h = (h.0.writable, writable_others rows rest h.1)

writable_given : (all rows : List ParameterRow) (place : ℕ) (values : List (Option (List ℕ))) (others : List Pair) → AreRows all place rows → AreValues rows values
    → AllByRecursion IsWritable others → AllByRecursion IsWritable (given_pairs rows values ++ others)
writable_given all [] place [] others table is w = w
writable_given all [] place (value ∷ values) others table is w = absurd is
writable_given all (row ∷ rows) place [] others table is w = absurd is
writable_given all (row ∷ rows) place (None ∷ values) others table is w = writable_given all rows (place + 1) values others table.3 is.1 w
writable_given all (row ∷ rows) place (Some value ∷ values) others table is w =
    (writable_row row value table.1 is.0, writable_given all rows (place + 1) values others table.3 is.1 w)

-- a value is taken where none stands yet
taken : (all : List ParameterRow) (place : ℕ) (before after : List (Option (List ℕ))) (row : ParameterRow) (value : List ℕ)
    → row_of all row.name ≡ Some (length before, row.kind) → fault_in row.kind value ≡ None
    → with_parameter all place (record { values = before ++ None ∷ after; others = [] }) (record { name = row.name; value = value })
    ≡ Ok (record { values = before ++ Some value ∷ after; others = [] })
taken all place before after row value found fits =
    let so_far : FormatParameters = record { values = before ++ None ∷ after; others = [] } in
    let pair : Pair = record { name = row.name; value = value } in
    let vacant : value_at so_far.values (length before) ≡ None = get_or_at before None after None (length before) refl in
    ap (with_row place so_far pair) found
    ∙ ap (λ (o : Option (List ℕ)). cond (is_some o) (Err (Refused place Twice)) (with_value place so_far (length before) value (fault_in row.kind value))) vacant
    ∙ ap (with_value place so_far (length before) value) fits
    ∙ ap (λ (values : List (Option (List ℕ))). Ok (record { values = values; others = [] })) (set_at before None after (Some value) (length before) refl)

-- the given values are read, and what is behind them then
read_given : (all rows : List ParameterRow) (before values : List (Option (List ℕ))) (place : ℕ) (others : List Pair) (r : Result FormatParameters ParametersError)
    → AreRows all (length before) rows → AreValues rows values
    → ((next : ℕ) → reading all next (record { values = before ++ values; others = [] }) others ≡ r)
    → reading all place (record { values = before ++ replicate (length rows) None; others = [] }) (given_pairs rows values ++ others) ≡ r
unfolding reading
read_given all [] before [] place others r table is rest = rest place
read_given all [] before (value ∷ values) place others r table is rest = absurd is
read_given all (row ∷ rows) before [] place others r table is rest = absurd is
read_given all (row ∷ rows) before (None ∷ values) place others r table is rest =
    let long : length (before ++ None ∷ []) ≡ length before + 1 = omega (arith, length-append before (None ∷ [])) in
    ap (λ (l : List (Option (List ℕ))). reading all place (record { values = l; others = [] }) (given_pairs rows values ++ others)) (sym (append_assoc before (None ∷ []) (replicate (length rows) None)))
    ∙ read_given all rows (before ++ None ∷ []) values place others r (subst (λ n. AreRows all n rows) (sym long) table.3) is.1
    (λ next. ap (λ (l : List (Option (List ℕ))). reading all next (record { values = l; others = [] }) others) (append_assoc before (None ∷ []) values) ∙ rest next)
read_given all (row ∷ rows) before (Some value ∷ values) place others r table is rest =
    let long : length (before ++ Some value ∷ []) ≡ length before + 1 = omega (arith, length-append before (Some value ∷ [])) in
    ap (λ o. and_then o (λ next. reading all (place + 1) next (given_pairs rows values ++ others))) (taken all place before (replicate (length rows) None) row value table.0 is.0.fits)
    ∙ ap (λ (l : List (Option (List ℕ))). reading all (place + 1) (record { values = l; others = [] }) (given_pairs rows values ++ others)) (sym (append_assoc before (Some value ∷ []) (replicate (length rows) None)))
    ∙ read_given all rows (before ++ Some value ∷ []) values (place + 1) others r (subst (λ n. AreRows all n rows) (sym long) table.3) is.1
    (λ next. ap (λ (l : List (Option (List ℕ))). reading all next (record { values = l; others = [] }) others) (append_assoc before (Some value ∷ []) values) ∙ rest next)

-- and the others are kept
read_others : (all : List ParameterRow) (place : ℕ) (values : List (Option (List ℕ))) (before others : List Pair) → AllByRecursion (IsOther all) others
    → reading all place (record { values = values; others = before }) others ≡ Ok (record { values = values; others = before ++ others })
unfolding reading
read_others all place values before [] h = ap (λ (l : List Pair). Ok (record { values = values; others = l })) (sym (append-nil before))
read_others all place values before (pair ∷ rest) h =
    ap (λ o. and_then (with_row place (record { values = values; others = before }) pair o) (λ next. reading all (place + 1) next rest)) h.0.unknown
    ∙ read_others all (place + 1) values (before ++ pair ∷ []) rest h.1
    ∙ ap (λ (l : List Pair). Ok (record { values = values; others = l })) (append_assoc before (pair ∷ []) rest)

-- parameters that are written are read as they were
pub read_again : (rows : List ParameterRow) (it : FormatParameters) → IsTable rows → AreParameters rows it → read_of rows (written (all_of rows it)) ≡ Ok it
read_again rows it table are =
    let w = writable_given rows rows 0 it.values it.others table are.values (writable_others rows it.others are.others) in
    ap (λ t. cond t (reading rows 0 (none_of (length rows)) (pairs (written (all_of rows it)))) (Err OpenBrace)) (written_closes (all_of rows it) w)
    ∙ ap (reading rows 0 (none_of (length rows))) (pairs_written (all_of rows it) w)
    ∙ read_given rows rows [] it.values 0 it.others (Ok it) table are.values (λ next. read_others rows next it.values [] it.others are.others)
