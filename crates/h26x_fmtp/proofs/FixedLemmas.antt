-- What a table reads are parameters of it, so that they are read again as they were written.
use Rattle.std.proofs.Common.{◌≡◌, ℕ, suc, ◌+◌, ◌-◌, ◌≤◌, true, false, cond, List, [], ◌∷◌, ◌++◌, length, replicate, set, Option, Some, None, Result, Ok, Err, refl, sym, ap, subst, ◌∙◌, arith}
use Rattle.std.specs.Prelude.{filter, is_some, unwrap_or, nat_lt, ◌==◌}
use Rattle.std.specs.List.{list_all, AllByRecursion}
use Rattle.std.specs.Char.{to_ascii_lowercase}
use Rattle.std.proofs.lemmas.Bool.{and_parts, eqb-true}
use Rattle.std.proofs.lemmas.Bool.Decides.{nat_tests}
use Rattle.h26x_fmtp.specs.declared.kind.Kind.{Kind}
use Rattle.h26x_fmtp.specs.declared.kind.Kind.TheVariants.{Text}
use Rattle.h26x_fmtp.specs.declared.error.Fault.{Fault}
use Rattle.h26x_fmtp.specs.declared.error.Fault.TheVariants.{Twice}
use Rattle.h26x_fmtp.specs.declared.error.ParametersError.{ParametersError}
use Rattle.h26x_fmtp.specs.declared.error.ParametersError.TheVariants.{OpenBrace, Refused}
use Rattle.h26x_fmtp.specs.Pairs.{Pair, pairs, closes}
use Rattle.h26x_fmtp.specs.Kinds.{fault_in}
use Rattle.h26x_fmtp.specs.Tables.{ParameterRow, same_name, row_from, row_of}
use Rattle.h26x_fmtp.specs.Written.{written, IsWritable}
use Rattle.h26x_fmtp.specs.Reading.{FormatParameters, all_of, reading, none_of, read_of, with_parameter, with_row, with_value, value_at, and_then}
use Rattle.h26x_fmtp.specs.Parameters.{is_mark, is_plain, AreRows, IsTable, IsValue, AreValues, IsOther, AreParameters}
use Rattle.h26x_fmtp.proofs.PartLemmas.{by_test}
use Rattle.h26x_fmtp.proofs.WrittenLemmas.{pairs_writable}
use Rattle.h26x_fmtp.proofs.AgainLemmas.{plain_parts, behind_name, read_again}

-- a name that is the same as a plain one has no marks
capital_no_mark : (b : ℕ) → nat_lt b 65 ≡ false → nat_lt b 91 ≡ true → is_mark (b + 32) ≡ is_mark b
capital_no_mark b low high =
    let small : is_mark (b + 32) ≡ false = grind (arith, nat_tests, low, high) in
    let capital : is_mark b ≡ false = grind (arith, nat_tests, low, high) in
    small ∙ sym capital

mark_lower : (b : ℕ) → is_mark (to_ascii_lowercase b) ≡ is_mark b
mark_lower b = by_test (nat_lt b 65)
    (λ low. ap (λ t. is_mark (cond t b (cond (nat_lt b 91) (b + 32) b))) low)
    (λ other. ap (λ t. is_mark (cond t b (cond (nat_lt b 91) (b + 32) b))) other ∙ by_test (nat_lt b 91)
    (λ capital. ap (λ t. is_mark (cond t (b + 32) b)) capital ∙ capital_no_mark b other capital)
    (λ high. ap (λ t. is_mark (cond t (b + 32) b)) high))

same_no_marks : (a b : List ℕ) → same_name a b ≡ true → list_all is_plain a ≡ true → filter is_mark b ≡ []
same_no_marks [] [] same plain = refl
same_no_marks [] (y ∷ ys) same plain = cc same
same_no_marks (x ∷ xs) [] same plain = cc same
same_no_marks (x ∷ xs) (y ∷ ys) same plain =
    let names = and_parts (to_ascii_lowercase x == to_ascii_lowercase y) (same_name xs ys) same in
    let plains = and_parts (is_plain x) (list_all is_plain xs) plain in
    let lower : to_ascii_lowercase x ≡ to_ascii_lowercase y = eqb-true _ _ names.0 in
    let none : is_mark y ≡ false = sym (mark_lower y) ∙ ap is_mark (sym lower) ∙ mark_lower x ∙ (plain_parts x plains.0).1 in
    rw none (same_no_marks xs ys names.1 plains.1)

-- a value is put where its row stands
put_value : (all : List ParameterRow) (place : ℕ) (rows : List ParameterRow) (values : List (Option (List ℕ))) (pair : Pair) (row : ℕ) (kind : Kind)
    → AreRows all place rows → AreValues rows values → row_from place rows pair.name ≡ Some (row, kind) → fault_in kind pair.value ≡ None → IsWritable pair
    → (place ≤ row) × AreValues rows (set values (row - place) (Some pair.value))
put_value all place [] values pair row kind table are found fits w = cc found
put_value all place (r ∷ rows) [] pair row kind table are found fits w = absurd are
put_value all place (r ∷ rows) (value ∷ values) pair row kind table are found fits w = by_test (same_name r.name pair.name)
    (λ same.
    let it : ◌≡◌ {A = Option (ℕ × Kind)} (Some (place, r.kind)) (Some (row, kind)) =
    sym (ap (λ t. cond t (Some (place, r.kind)) (row_from (place + 1) rows pair.name)) same) ∙ found in
    let here : place ≡ row = ap (λ (o : Option (ℕ × Kind)). (unwrap_or o (0, Text)).0) it in
    let of : r.kind ≡ kind = ap (λ (o : Option (ℕ × Kind)). (unwrap_or o (0, Text)).1) it in
    let first : row - place ≡ 0 = omega (arith, here) in
    let is : IsValue r pair.value = record {
      fits = ap (λ k. fault_in k pair.value) of ∙ fits;
      trimmed = w.value;
      one_part = sym (behind_name pair.name pair.value (same_no_marks r.name pair.name same table.1)) ∙ w.one_part;
    } in
    (omega (arith, here), subst (λ n. AreValues (r ∷ rows) (set (value ∷ values) n (Some pair.value))) (sym first) (is, are.1)))
    (λ other.
    let more : row_from (place + 1) rows pair.name ≡ Some (row, kind) =
    sym (ap (λ t. cond t (Some (place, r.kind)) (row_from (place + 1) rows pair.name)) other) ∙ found in
    let rest = put_value all (place + 1) rows values pair row kind table.3 are.1 more fits w in
    let next : row - place ≡ suc (row - (place + 1)) = omega (arith, rest.0) in
    (omega (arith, rest.0), subst (λ n. AreValues (r ∷ rows) (set (value ∷ values) n (Some pair.value))) (sym next) (are.0, rest.1)))

others_more : (rows : List ParameterRow) (others : List Pair) (pair : Pair) → AllByRecursion (IsOther rows) others → IsOther rows pair → AllByRecursion (IsOther rows) (others ++ pair ∷ [])
others_more rows [] pair are is = (is, tt)
others_more rows (first ∷ others) pair are is = (are.0, others_more rows others pair are.1 is)

-- parameters with one more are parameters
put_unless : (rows : List ParameterRow) (place : ℕ) (so_far next : FormatParameters) (pair : Pair) (row : ℕ) (kind : Kind) (fault : Option Fault)
    → IsTable rows → AreParameters rows so_far → IsWritable pair → row_of rows pair.name ≡ Some (row, kind) → fault_in kind pair.value ≡ fault
    → with_value place so_far row pair.value fault ≡ Ok next → AreParameters rows next
put_unless rows place so_far next pair row kind (Some fault) table are w found is h = cc h
put_unless rows place so_far next pair row kind None table are w found fits h =
    let same : record so_far { values = set so_far.values row (Some pair.value) } ≡ next = cc h in
    let here : row - 0 ≡ row = omega arith in
    let put = (put_value rows 0 rows so_far.values pair row kind table are.values found fits w).1 in
    subst (AreParameters rows) same (record {
      values = subst (λ n. AreValues rows (set so_far.values n (Some pair.value))) here put;
      others = are.others;
    })

take_row : (rows : List ParameterRow) (place : ℕ) (so_far next : FormatParameters) (pair : Pair) (found : Option (ℕ × Kind))
    → IsTable rows → AreParameters rows so_far → IsWritable pair → row_of rows pair.name ≡ found
    → with_row place so_far pair found ≡ Ok next → AreParameters rows next
take_row rows place so_far next pair None table are w none h =
    let same : record so_far { others = so_far.others ++ pair ∷ [] } ≡ next = cc h in
    subst (AreParameters rows) same (record {
      values = are.values;
      others = others_more rows so_far.others pair are.others (record { unknown = none; writable = w });
    })
take_row rows place so_far next pair (Some (row, kind)) table are w found h = by_test (is_some (value_at so_far.values row))
    (λ twice.
    let refused : Err (Refused place Twice) ≡ Ok next = sym (ap (λ t. cond t (Err (Refused place Twice)) (with_value place so_far row pair.value (fault_in kind pair.value))) twice) ∙ h in
    cc refused)
    (λ vacant. put_unless rows place so_far next pair row kind (fault_in kind pair.value) table are w found refl
    (sym (ap (λ t. cond t (Err (Refused place Twice)) (with_value place so_far row pair.value (fault_in kind pair.value))) vacant) ∙ h))

and_then_parts : (r : Result FormatParameters ParametersError) (more : FormatParameters → Result FormatParameters ParametersError) (it : FormatParameters)
    → and_then r more ≡ Ok it → (next : FormatParameters) × (r ≡ Ok next) × (more next ≡ Ok it)
and_then_parts (Ok next) more it h = (next, refl, h)
and_then_parts (Err error) more it h = cc h

take_each : (rows : List ParameterRow) (place : ℕ) (so_far it : FormatParameters) (all : List Pair) → IsTable rows → AreParameters rows so_far
    → AllByRecursion IsWritable all → reading rows place so_far all ≡ Ok it → AreParameters rows it
unfolding reading
take_each rows place so_far it [] table are w h = let same : so_far ≡ it = cc h in subst (AreParameters rows) same are
take_each rows place so_far it (pair ∷ rest) table are w h =
    let (next, first, others) = and_then_parts (with_parameter rows place so_far pair) (λ n. reading rows (place + 1) n rest) it h in
    take_each rows (place + 1) next it rest table (take_row rows place so_far next pair (row_of rows pair.name) table are w.0 refl first) w.1 others

no_values : (rows : List ParameterRow) → AreValues rows (replicate (length rows) None)
no_values [] = tt
no_values (row ∷ rows) = (tt, no_values rows)

-- what is read of a text are parameters
pub read_are : (rows : List ParameterRow) (text : List ℕ) (it : FormatParameters) → IsTable rows → read_of rows text ≡ Ok it → AreParameters rows it
read_are rows text it table h = by_test (closes text)
    (λ closed. take_each rows 0 (none_of (length rows)) it (pairs text) table (record { values = no_values rows; others = tt }) (pairs_writable text closed)
    (sym (ap (λ t. cond t (reading rows 0 (none_of (length rows)) (pairs text)) (Err OpenBrace)) closed) ∙ h))
    (λ left.
    let refused : Err OpenBrace ≡ Ok it = sym (ap (λ t. cond t (reading rows 0 (none_of (length rows)) (pairs text)) (Err OpenBrace)) left) ∙ h in
    cc refused)

-- what is read and written is read as the same
pub read_fixed : (rows : List ParameterRow) (text : List ℕ) (it : FormatParameters) → IsTable rows → read_of rows text ≡ Ok it → read_of rows (written (all_of rows it)) ≡ Ok it
read_fixed rows text it table h = read_again rows it table (read_are rows text it table h)
