-- Answers are parameters of the table, and are answered again.
use Rattle.std.proofs.Common.{◌≡◌, ℕ, ◌<◌, true, false, List, [], ◌∷◌, length, get_or, Option, refl, sym, ap, ◌∙◌, arith, Bool}
use Rattle.std.proofs.lemmas.Bool.{and_parts}
use Rattle.h26x_answers.specs.declared.answer.Role.{Role}
use Rattle.h26x_answers.specs.declared.answer.Role.TheVariants as role
use Rattle.h26x_fmtp.specs.Tables.{ParameterRow}
use Rattle.h26x_fmtp.specs.Parameters.{IsValueIfGiven, AreValues, AreParameters}
use Rattle.h26x_fmtp.specs.Reading.{FormatParameters, value_at}
use Rattle.h26x_answers.specs.Answers.{Terms, Rules, only_if, answered_value, answered_values, answered, is_symmetric_at, are_symmetric}
use Rattle.h26x_fmtp.proofs.TestLemmas.{both_true}
use Rattle.h26x_answers.proofs.AnswersLemmas.{answered_at}

-- the levels of terms are values of their rows
abbrev pub FitsAt : Role → ParameterRow → Terms → Type 0
FitsAt role.Configuration row found = Unit {0}
FitsAt role.Compared row found = Unit {0}
FitsAt role.Level row found = IsValueIfGiven row found.level
FitsAt role.HighestLevel row found = IsValueIfGiven row found.highest
FitsAt role.Asymmetry row found = Unit {0}
FitsAt role.Reordering row found = Unit {0}
FitsAt role.Sets row found = Unit {0}
FitsAt role.LevelSets row found = Unit {0}
FitsAt role.Own row found = Unit {0}
FitsAt role.OperationPoint row found = Unit {0}

abbrev pub LevelsFit : List Role → List ParameterRow → Terms → Type 0
LevelsFit [] rows found = Unit {0}
LevelsFit (r ∷ roles) [] found = Unit {0}
LevelsFit (r ∷ roles) (row ∷ rows) found = FitsAt r row found × LevelsFit roles rows found

only_kept : (belongs : Bool) (row : ParameterRow) (value : Option (List ℕ)) → IsValueIfGiven row value → IsValueIfGiven row (only_if belongs value)
only_kept true row value is = is
only_kept false row value is = tt

value_kept : (r : Role) (row : ParameterRow) (found : Terms) (o u : Option (List ℕ)) → FitsAt r row found → IsValueIfGiven row o → IsValueIfGiven row u
    → IsValueIfGiven row (answered_value r found o u)
value_kept role.Configuration row found o u fits of_o of_u = of_o
value_kept role.Compared row found o u fits of_o of_u = of_o
value_kept role.Level row found o u fits of_o of_u = fits
value_kept role.HighestLevel row found o u fits of_o of_u = fits
value_kept role.Asymmetry row found o u fits of_o of_u = only_kept found.asymmetric row u of_u
value_kept role.Reordering row found o u fits of_o of_u = only_kept found.reorders row u of_u
value_kept role.Sets row found o u fits of_o of_u = only_kept found.sets row u of_u
value_kept role.LevelSets row found o u fits of_o of_u = only_kept found.level_sets row u of_u
value_kept role.Own row found o u fits of_o of_u = of_u
value_kept role.OperationPoint row found o u fits of_o of_u = tt

values_kept : (found : Terms) (roles : List Role) (rows : List ParameterRow) (os us : List (Option (List ℕ))) → length roles ≡ length rows → LevelsFit roles rows found → AreValues rows os → AreValues rows us
    → AreValues rows (answered_values found roles os us)
values_kept found [] [] os us long fits of_os of_us = tt
values_kept found [] (row ∷ rows) os us long fits of_os of_us = absurd (omega (arith, long))
values_kept found (r ∷ roles) [] os us long fits of_os of_us = absurd (omega (arith, long))
values_kept found (r ∷ roles) (row ∷ rows) [] us long fits of_os of_us = absurd of_os
values_kept found (r ∷ roles) (row ∷ rows) (o ∷ os) [] long fits of_os of_us = absurd of_us
values_kept found (r ∷ roles) (row ∷ rows) (o ∷ os) (u ∷ us) long fits of_os of_us =
    (value_kept r row found o u fits.0 of_os.0 of_us.0, values_kept found roles rows os us (omega (arith, long)) fits.1 of_os.1 of_us.1)

-- an answer of parameters is parameters
pub answer_kept : (all : Rules) (offered own : FormatParameters) (found : Terms) → length all.roles ≡ length all.rows → LevelsFit all.roles all.rows found → AreParameters all.rows offered → AreParameters all.rows own
    → AreParameters all.rows (answered all offered own found)
answer_kept all offered own found long fits of_offered of_own = record {
  values = values_kept found all.roles all.rows offered.values own.values long fits of_offered.values of_own.values;
  others = of_own.others;
}

-- the configuration of an answer is ours too
symmetric_at_again : (r : Role) (row : ParameterRow) (found : Terms) (o u : Option (List ℕ)) → is_symmetric_at r row o u ≡ true → is_symmetric_at r row (answered_value r found o u) u ≡ true
symmetric_at_again role.Configuration row found o u same = same
symmetric_at_again role.Compared row found o u same = refl
symmetric_at_again role.Level row found o u same = refl
symmetric_at_again role.HighestLevel row found o u same = refl
symmetric_at_again role.Asymmetry row found o u same = refl
symmetric_at_again role.Reordering row found o u same = refl
symmetric_at_again role.Sets row found o u same = refl
symmetric_at_again role.LevelSets row found o u same = refl
symmetric_at_again role.Own row found o u same = refl
symmetric_at_again role.OperationPoint row found o u same = refl

pub symmetric_again : (found : Terms) (roles : List Role) (rows : List ParameterRow) (os us : List (Option (List ℕ))) → are_symmetric roles rows os us ≡ true
    → are_symmetric roles rows (answered_values found roles os us) us ≡ true
symmetric_again found [] rows os us same = refl
symmetric_again found (r ∷ roles) [] os us same = refl
symmetric_again found (r ∷ roles) (row ∷ rows) [] us same = refl
symmetric_again found (r ∷ roles) (row ∷ rows) (o ∷ os) [] same = refl
symmetric_again found (r ∷ roles) (row ∷ rows) (o ∷ os) (u ∷ us) same =
    let parts = and_parts (is_symmetric_at r row o u) (are_symmetric roles rows os us) same in
    both_true (is_symmetric_at r row (answered_value r found o u) u) (are_symmetric roles rows (answered_values found roles os us) us)
    (symmetric_at_again r row found o u parts.0) (symmetric_again found roles rows os us parts.1)

-- whether a row's value depends on what the other end says of parameter sets
abbrev pub is_sets : Role → Bool
is_sets role.Configuration = false
is_sets role.Compared = false
is_sets role.Level = false
is_sets role.HighestLevel = false
is_sets role.Asymmetry = false
is_sets role.Reordering = false
is_sets role.Sets = true
is_sets role.LevelSets = true
is_sets role.Own = false
is_sets role.OperationPoint = false

-- terms that are the same, but for parameter sets
pub record SameTerms (again found : Terms) : Type 0 where
  pub level : again.level ≡ found.level
  pub highest : again.highest ≡ found.highest
  pub asymmetric : again.asymmetric ≡ found.asymmetric
  pub reorders : again.reorders ≡ found.reorders

pub value_again : (r : Role) (again found : Terms) (o u : Option (List ℕ)) → SameTerms again found → (is_sets r ≡ true → (again.sets ≡ found.sets) × (again.level_sets ≡ found.level_sets))
    → answered_value r again (answered_value r found o u) u ≡ answered_value r found o u
value_again role.Configuration again found o u same sets = refl
value_again role.Compared again found o u same sets = refl
value_again role.Level again found o u same sets = same.level
value_again role.HighestLevel again found o u same sets = same.highest
value_again role.Asymmetry again found o u same sets = ap (λ t. only_if t u) same.asymmetric
value_again role.Reordering again found o u same sets = ap (λ t. only_if t u) same.reorders
value_again role.Sets again found o u same sets = ap (λ t. only_if t u) (sets refl).0
value_again role.LevelSets again found o u same sets = ap (λ t. only_if t u) (sets refl).1
value_again role.Own again found o u same sets = refl
value_again role.OperationPoint again found o u same sets = refl

-- as many values as roles
pub answered_long : (found : Terms) (roles : List Role) (os us : List (Option (List ℕ))) → length os ≡ length roles → length us ≡ length roles → length (answered_values found roles os us) ≡ length roles
answered_long found [] os us lo lu = refl
answered_long found (r ∷ roles) [] us lo lu = absurd (omega (arith, lo))
answered_long found (r ∷ roles) (o ∷ os) [] lo lu = absurd (omega (arith, lu))
answered_long found (r ∷ roles) (o ∷ os) (u ∷ us) lo lu =
    let e = answered_long found roles os us (omega (arith, lo)) (omega (arith, lu)) in omega (arith, e)

pub row_again : (again found : Terms) (roles : List Role) (os us : List (Option (List ℕ))) (k : ℕ) → length os ≡ length roles → length us ≡ length roles → k < length roles → SameTerms again found
    → (is_sets (get_or roles k role.Own) ≡ true → (again.sets ≡ found.sets) × (again.level_sets ≡ found.level_sets))
    → value_at (answered_values again roles (answered_values found roles os us) us) k ≡ value_at (answered_values found roles os us) k
row_again again found roles os us k lo lu within same sets =
    let at = answered_at found roles os us k lo lu within in
    answered_at again roles (answered_values found roles os us) us k (answered_long found roles os us lo lu) lu within
    ∙ ap (λ v. answered_value (get_or roles k role.Own) again v (value_at us k)) at
    ∙ value_again (get_or roles k role.Own) again found (value_at os k) (value_at us k) same sets
    ∙ sym at
