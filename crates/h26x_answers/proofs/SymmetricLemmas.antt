-- Rows of one configuration, by their places.
use Rattle.std.proofs.Common.{◌≡◌, ℕ, zero, suc, ◌+◌, ◌<◌, true, List, [], ◌∷◌, length, get_or, drop, map, Option, Some, None, refl, sym, ap, ◌∙◌, arith}
use Rattle.std.specs.Prelude.{◌==◌}
use Rattle.std.specs.Char.{to_ascii_lowercase}
use Rattle.std.specs.Option.{option_map, option_and_then, option_or}
use Rattle.std.proofs.lemmas.Bool.{and_parts, eqb-true, eq-eqb}
use Rattle.std.proofs.lemmas.List.{drop_more}
use Rattle.h26x_fmtp.specs.declared.kind.Kind.TheVariants.{Number, Hexadecimal, TxMode, Text}
use Rattle.h26x_answers.specs.declared.answer.Role.{Role}
use Rattle.h26x_answers.specs.declared.answer.Role.TheVariants as role
use Rattle.h26x_fmtp.specs.Kinds.{number_of}
use Rattle.h26x_fmtp.specs.Tables.{ParameterRow, row_at, same_name}
use Rattle.h26x_fmtp.specs.Reading.{value_at}
use Rattle.h26x_answers.specs.Answers.{same_number, same_if_given, is_symmetric_at, are_symmetric}
use Rattle.h26x_fmtp.proofs.TestLemmas.{both_true}

-- each row of one configuration is symmetric
pub symmetric_row : (roles : List Role) (rows : List ParameterRow) (os us : List (Option (List ℕ))) (k : ℕ) → are_symmetric roles rows os us ≡ true
    → length rows ≡ length roles → length os ≡ length roles → length us ≡ length roles → k < length roles
    → is_symmetric_at (get_or roles k role.Own) (row_at rows k) (value_at os k) (value_at us k) ≡ true
symmetric_row [] rows os us k h lr lo lu within = absurd (omega arith)
symmetric_row (r ∷ roles) [] os us k h lr lo lu within = absurd (omega (arith, lr))
symmetric_row (r ∷ roles) (row ∷ rows) [] us k h lr lo lu within = absurd (omega (arith, lo))
symmetric_row (r ∷ roles) (row ∷ rows) (o ∷ os) [] k h lr lo lu within = absurd (omega (arith, lu))
symmetric_row (r ∷ roles) (row ∷ rows) (o ∷ os) (u ∷ us) zero h lr lo lu within =
    (and_parts (is_symmetric_at r row o u) (are_symmetric roles rows os us) h).0
symmetric_row (r ∷ roles) (row ∷ rows) (o ∷ os) (u ∷ us) (suc k) h lr lo lu within =
    symmetric_row roles rows os us k (and_parts (is_symmetric_at r row o u) (are_symmetric roles rows os us) h).1
    (omega (arith, lr)) (omega (arith, lo)) (omega (arith, lu)) (omega arith)

-- what a row of a role asks of two values
abbrev pub AgreesAt : Role → ParameterRow → Option (List ℕ) → Option (List ℕ) → Type 0
AgreesAt role.Configuration row o u = same_if_given row.kind (option_or o row.default) (option_or u row.default) ≡ true
AgreesAt role.Compared row o u = Unit {0}
AgreesAt role.Level row o u = Unit {0}
AgreesAt role.HighestLevel row o u = Unit {0}
AgreesAt role.Asymmetry row o u = Unit {0}
AgreesAt role.Reordering row o u = Unit {0}
AgreesAt role.Sets row o u = Unit {0}
AgreesAt role.LevelSets row o u = Unit {0}
AgreesAt role.Own row o u = Unit {0}
AgreesAt role.OperationPoint row o u = Unit {0}

agrees_symmetric : (r : Role) (row : ParameterRow) (o u : Option (List ℕ)) → AgreesAt r row o u → is_symmetric_at r row o u ≡ true
agrees_symmetric role.Configuration row o u same = same
agrees_symmetric role.Compared row o u same = refl
agrees_symmetric role.Level row o u same = refl
agrees_symmetric role.HighestLevel row o u same = refl
agrees_symmetric role.Asymmetry row o u same = refl
agrees_symmetric role.Reordering row o u same = refl
agrees_symmetric role.Sets row o u same = refl
agrees_symmetric role.LevelSets row o u same = refl
agrees_symmetric role.Own row o u same = refl
agrees_symmetric role.OperationPoint row o u same = refl

-- the same of the rows from a place on
abbrev pub AgreeFrom : List ParameterRow → List (Option (List ℕ)) → List (Option (List ℕ)) → List Role → ℕ → Type 0
AgreeFrom rows os us [] k = Unit {0}
AgreeFrom rows os us (r ∷ roles) k = AgreesAt r (row_at rows k) (value_at os k) (value_at us k) × AgreeFrom rows os us roles (k + 1)

-- what stands where a table has no row
abbrev no_row : ParameterRow
no_row = record { name = []; kind = Text; default = None }

pub agree_symmetric : (rows : List ParameterRow) (os us : List (Option (List ℕ))) (roles : List Role) (k : ℕ)
    → length rows ≡ k + length roles → length os ≡ k + length roles → length us ≡ k + length roles
    → AgreeFrom rows os us roles k → are_symmetric roles (drop k rows) (drop k os) (drop k us) ≡ true
agree_symmetric rows os us [] k lr lo lu agree = refl
agree_symmetric rows os us (r ∷ roles) k lr lo lu agree =
    rw (drop_more rows k no_row (omega (arith, lr)), drop_more os k None (omega (arith, lo)), drop_more us k None (omega (arith, lu)))
    (both_true (is_symmetric_at r (row_at rows k) (value_at os k) (value_at us k)) (are_symmetric roles (drop (k + 1) rows) (drop (k + 1) os) (drop (k + 1) us))
    (agrees_symmetric r (row_at rows k) (value_at os k) (value_at us k) agree.0)
    (agree_symmetric rows os us roles (k + 1) (omega (arith, lr)) (omega (arith, lo)) (omega (arith, lu)) agree.1))

-- one number is said by both
pub number_parts : (x y : Option ℕ) → same_number x y ≡ true → (n : ℕ) × (x ≡ Some n) × (y ≡ Some n)
number_parts None y h = cc h
number_parts (Some a) None h = cc h
number_parts (Some a) (Some b) h = (a, refl, ap Some (sym (eqb-true a b h)))

pub number_same_of : (x y : Option ℕ) (n : ℕ) → x ≡ Some n → y ≡ Some n → same_number x y ≡ true
number_same_of x y n of_x of_y = ap (λ t. same_number t y) of_x ∙ ap (λ t. same_number (Some n) t) of_y ∙ eq-eqb n n refl

abbrev number_with : ℕ → ℕ → List ℕ → Option (List ℕ) → Option ℕ
number_with least most default value = option_and_then (number_of (Number least most)) (option_or value (Some default))

-- two values of a number's row that has a default
pub same_numbers : (least most : ℕ) (default : List ℕ) (o u : Option (List ℕ)) → same_if_given (Number least most) (option_or o (Some default)) (option_or u (Some default)) ≡ true
    → (n : ℕ) × (number_with least most default o ≡ Some n) × (number_with least most default u ≡ Some n)
same_numbers least most default None None h = number_parts (number_of (Number least most) default) (number_of (Number least most) default) h
same_numbers least most default None (Some u) h = number_parts (number_of (Number least most) default) (number_of (Number least most) u) h
same_numbers least most default (Some o) None h = number_parts (number_of (Number least most) o) (number_of (Number least most) default) h
same_numbers least most default (Some o) (Some u) h = number_parts (number_of (Number least most) o) (number_of (Number least most) u) h

pub numbers_same : (least most : ℕ) (default : List ℕ) (o u : Option (List ℕ)) (n : ℕ) → number_with least most default o ≡ Some n → number_with least most default u ≡ Some n
    → same_if_given (Number least most) (option_or o (Some default)) (option_or u (Some default)) ≡ true
numbers_same least most default None None n of_o of_u = number_same_of (number_of (Number least most) default) (number_of (Number least most) default) n of_o of_u
numbers_same least most default None (Some u) n of_o of_u = number_same_of (number_of (Number least most) default) (number_of (Number least most) u) n of_o of_u
numbers_same least most default (Some o) None n of_o of_u = number_same_of (number_of (Number least most) o) (number_of (Number least most) default) n of_o of_u
numbers_same least most default (Some o) (Some u) n of_o of_u = number_same_of (number_of (Number least most) o) (number_of (Number least most) u) n of_o of_u

-- texts that are the same in lower case
pub lower_parts : (a b : List ℕ) → same_name a b ≡ true → map to_ascii_lowercase a ≡ map to_ascii_lowercase b
lower_parts [] [] h = refl
lower_parts [] (b ∷ bs) h = cc h
lower_parts (a ∷ more) [] h = cc h
lower_parts (a ∷ more) (b ∷ bs) h =
    let both = and_parts (to_ascii_lowercase a == to_ascii_lowercase b) (same_name more bs) h in
    ap (λ c. c ∷ map to_ascii_lowercase more) (eqb-true (to_ascii_lowercase a) (to_ascii_lowercase b) both.0)
    ∙ ap (λ cs. to_ascii_lowercase b ∷ cs) (lower_parts more bs both.1)

abbrev head_or : List ℕ → ℕ
head_or [] = 0
head_or (x ∷ xs) = x

abbrev tail_or : List ℕ → List ℕ
tail_or [] = []
tail_or (x ∷ xs) = xs

pub lower_same : (a b : List ℕ) → map to_ascii_lowercase a ≡ map to_ascii_lowercase b → same_name a b ≡ true
lower_same [] [] h = refl
lower_same [] (b ∷ bs) h = cc h
lower_same (a ∷ more) [] h = cc h
lower_same (a ∷ more) (b ∷ bs) h =
    both_true (to_ascii_lowercase a == to_ascii_lowercase b) (same_name more bs)
    (eq-eqb (to_ascii_lowercase a) (to_ascii_lowercase b) (ap head_or h)) (lower_same more bs (ap tail_or h))

abbrev lower_with : List ℕ → Option (List ℕ) → Option (List ℕ)
lower_with default value = option_map (map to_ascii_lowercase) (option_or value (Some default))

-- two values of a row of digits or of a mode that has a default
pub lower_by : (a b : List ℕ) → same_name a b ≡ true → (c : List ℕ) × (option_map (map to_ascii_lowercase) (Some a) ≡ Some c) × (option_map (map to_ascii_lowercase) (Some b) ≡ Some c)
lower_by a b h = (map to_ascii_lowercase a, refl, ap Some (sym (lower_parts a b h)))

pub same_digits : (bytes : ℕ) (default : List ℕ) (o u : Option (List ℕ)) → same_if_given (Hexadecimal bytes) (option_or o (Some default)) (option_or u (Some default)) ≡ true
    → (c : List ℕ) × (lower_with default o ≡ Some c) × (lower_with default u ≡ Some c)
same_digits bytes default None None h = lower_by default default h
same_digits bytes default None (Some u) h = lower_by default u h
same_digits bytes default (Some o) None h = lower_by o default h
same_digits bytes default (Some o) (Some u) h = lower_by o u h

pub same_modes : (default : List ℕ) (o u : Option (List ℕ)) → same_if_given TxMode (option_or o (Some default)) (option_or u (Some default)) ≡ true
    → (c : List ℕ) × (lower_with default o ≡ Some c) × (lower_with default u ≡ Some c)
same_modes default None None h = lower_by default default h
same_modes default None (Some u) h = lower_by default u h
same_modes default (Some o) None h = lower_by o default h
same_modes default (Some o) (Some u) h = lower_by o u h

by_lower : (a b c : List ℕ) → Some (map to_ascii_lowercase a) ≡ Some c → Some (map to_ascii_lowercase b) ≡ Some c → same_name a b ≡ true
by_lower a b c of_a of_b =
    let one : map to_ascii_lowercase a ≡ c = cc of_a in
    let two : map to_ascii_lowercase b ≡ c = cc of_b in
    lower_same a b (one ∙ sym two)

pub digits_same : (bytes : ℕ) (default : List ℕ) (o u : Option (List ℕ)) (c : List ℕ) → lower_with default o ≡ Some c → lower_with default u ≡ Some c
    → same_if_given (Hexadecimal bytes) (option_or o (Some default)) (option_or u (Some default)) ≡ true
digits_same bytes default None None c of_o of_u = by_lower default default c of_o of_u
digits_same bytes default None (Some u) c of_o of_u = by_lower default u c of_o of_u
digits_same bytes default (Some o) None c of_o of_u = by_lower o default c of_o of_u
digits_same bytes default (Some o) (Some u) c of_o of_u = by_lower o u c of_o of_u

pub modes_same : (default : List ℕ) (o u : Option (List ℕ)) (c : List ℕ) → lower_with default o ≡ Some c → lower_with default u ≡ Some c
    → same_if_given TxMode (option_or o (Some default)) (option_or u (Some default)) ≡ true
modes_same default None None c of_o of_u = by_lower default default c of_o of_u
modes_same default None (Some u) c of_o of_u = by_lower default u c of_o of_u
modes_same default (Some o) None c of_o of_u = by_lower o default c of_o of_u
modes_same default (Some o) (Some u) c of_o of_u = by_lower o u c of_o of_u
