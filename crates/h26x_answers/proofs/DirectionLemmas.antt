-- Answers in a direction, over any rules.
use Rattle.std.proofs.Common.{◌≡◌, ℕ, zero, suc, ◌<◌, Bool, true, false, cond, List, [], ◌∷◌, length, Option, Some, None, slice_index_or, refl, sym, ap, subst, ◌∙◌, arith}
use Rattle.std.specs.Option.{option_map, option_or}
use Rattle.h26x_answers.specs.declared.answer.AnswerConfig.{AnswerConfig}
use Rattle.h26x_answers.specs.declared.answer.Role.{Role}
use Rattle.h26x_answers.specs.declared.answer.Role.TheVariants as role
use Rattle.h26x_answers.specs.declared.direction.Direction.{Direction}
use Rattle.h26x_answers.specs.declared.direction.Direction.TheVariants.{SendRecv, SendOnly, RecvOnly}
use Rattle.h26x_answers.specs.declared.direction.Usage.{Usage}
use Rattle.h26x_answers.specs.declared.direction.Usage.TheVariants.{Always}
use Rattle.h26x_fmtp.specs.Parameters.{AreParameters}
use Rattle.h26x_fmtp.specs.Reading.{FormatParameters, value_at}
use Rattle.h26x_answers.proofs.AnswersH264Lemmas.{long_values}
use Rattle.h26x_answers.specs.Directions.{opposite, is_usable, unsent, usable_value, usable_values}
use Rattle.h26x_answers.specs.Answers.{Terms, Rules, usable_where, usable, heard, answered, answer_by, answer_in, common_terms, known_answer, unless_broken, own_fault, allowed_answer, answer_of}
use Rattle.h26x_answers.specs.DirectionLaws.{usage_at, SaySame, IsDirected, IsByUsable, OfEachAnswerIn, OfEachDirected, IsWholeBothWays}
use Rattle.h26x_answers.specs.AnswerLaws.{OfEachAnswer}
use Rattle.h26x_answers.proofs.AnswersLemmas.{HearsParameters, made_of, answer_parts}
use Rattle.h26x_answers.proofs.KeptLemmas.{answered_long}
use Rattle.h26x_answers.proofs.HeardLemmas.{AreOneTable, TakesUnsent, usable_kept}

-- each row of what is usable is of the row itself
pub usable_at : (direction : Direction) (reorders : Bool) (roles : List Role) (usages : List Usage) (vs : List (Option (List ℕ))) (k : ℕ) → length usages ≡ length roles → length vs ≡ length roles → k < length roles
    → value_at (usable_values direction reorders roles usages vs) k
    ≡ usable_value direction reorders (slice_index_or roles k role.Own) (slice_index_or usages k Always) (value_at vs k)
usable_at direction reorders [] usages vs k lu lv h = absurd (omega arith)
usable_at direction reorders (r ∷ roles) [] vs k lu lv h = absurd (omega (arith, lu))
usable_at direction reorders (r ∷ roles) (u ∷ usages) [] k lu lv h = absurd (omega (arith, lv))
usable_at direction reorders (r ∷ roles) (u ∷ usages) (v ∷ vs) zero lu lv h = refl
usable_at direction reorders (r ∷ roles) (u ∷ usages) (v ∷ vs) (suc k) lu lv h =
    usable_at direction reorders roles usages vs k (omega (arith, lu)) (omega (arith, lv)) (omega arith)

same_if : (is : Bool) (a b other : Option (List ℕ)) → (is ≡ true → a ≡ b) → cond is a other ≡ cond is b other
same_if true a b other same = same refl
same_if false a b other same = refl

-- what is usable of two that say the same where a row is usable is one
same_usable : (direction : Direction) (reorders : Bool) (roles : List Role) (usages : List Usage) (xs ys : List (Option (List ℕ))) → length usages ≡ length roles → length xs ≡ length roles → length ys ≡ length roles
    → ((k : ℕ) → k < length roles → is_usable direction (slice_index_or usages k Always) ≡ true → value_at xs k ≡ value_at ys k)
    → usable_values direction reorders roles usages xs ≡ usable_values direction reorders roles usages ys
same_usable direction reorders [] usages xs ys lu la lb same = refl
same_usable direction reorders (r ∷ roles) [] xs ys lu la lb same = absurd (omega (arith, lu))
same_usable direction reorders (r ∷ roles) (u ∷ usages) [] ys lu la lb same = absurd (omega (arith, la))
same_usable direction reorders (r ∷ roles) (u ∷ usages) (a ∷ xs) [] lu la lb same = absurd (omega (arith, lb))
same_usable direction reorders (r ∷ roles) (u ∷ usages) (a ∷ xs) (b ∷ ys) lu la lb same =
    ap (λ v. v ∷ usable_values direction reorders roles usages xs) (same_if (is_usable direction u) a b (unsent reorders r) (same 0 (omega arith)))
    ∙ ap (λ vs. usable_value direction reorders r u b ∷ vs)
    (same_usable direction reorders roles usages xs ys (omega (arith, lu)) (omega (arith, la)) (omega (arith, lb)) (λ k within. same (suc k) (omega (arith, within))))

-- two lists of xs many values that are the same at each place are one
same_values : (xs ys : List (Option (List ℕ))) → length xs ≡ length ys → ((k : ℕ) → k < length xs → value_at xs k ≡ value_at ys k) → xs ≡ ys
same_values [] [] long same = refl
same_values [] (b ∷ ys) long same = absurd (omega (arith, long))
same_values (a ∷ xs) [] long same = absurd (omega (arith, long))
same_values (a ∷ xs) (b ∷ ys) long same =
    ap (λ v. v ∷ xs) (same 0 (omega arith)) ∙ ap (λ vs. b ∷ vs) (same_values xs ys (omega (arith, long)) (λ k within. same (suc k) (omega (arith, within))))

one_format : (a b : FormatParameters) → a.values ≡ b.values → a.others ≡ b.others → a ≡ b
one_format a b values others =
    ap (λ v. record { values = v; others = a.others }) values ∙ ap (λ o. record { values = b.values; others = o }) others

same_where : (all : Rules) → AreOneTable all → (direction : Direction) (reorders : Bool) (a b : FormatParameters) → AreParameters all.rows a → AreParameters all.rows b → SaySame all direction a b
    → usable_where all.roles all.usages direction reorders a ≡ usable_where all.roles all.usages direction reorders b
same_where all table direction reorders a b of_a of_b same =
    let la = long_values all.rows a.values of_a.values ∙ sym table.roles in
    let lb = long_values all.rows b.values of_b.values ∙ sym table.roles in
    one_format (usable_where all.roles all.usages direction reorders a) (usable_where all.roles all.usages direction reorders b)
    (same_usable direction reorders all.roles all.usages a.values b.values (table.usages ∙ sym table.roles) la lb (λ k within is. same.rows k (omega (arith, within, table.roles)) is))
    same.others

same_one_way : (all : Rules) → AreOneTable all → (direction : Direction) (a b : FormatParameters) → AreParameters all.rows a → AreParameters all.rows b → SaySame all direction a b
    → usable_where all.roles all.usages direction (all.reorders (usable_where all.roles all.usages direction false a)) a
    ≡ usable_where all.roles all.usages direction (all.reorders (usable_where all.roles all.usages direction false b)) b
same_one_way all table direction a b of_a of_b same =
    ap (λ w. usable_where all.roles all.usages direction (all.reorders w) a) (same_where all table direction false a b of_a of_b same)
    ∙ same_where all table direction (all.reorders (usable_where all.roles all.usages direction false b)) a b of_a of_b same

same_heard : (all : Rules) → AreOneTable all → (direction : Direction) (a b : FormatParameters) → AreParameters all.rows a → AreParameters all.rows b → SaySame all direction a b
    → heard all direction a ≡ heard all direction b
same_heard all table SendRecv a b of_a of_b same =
    let la = long_values all.rows a.values of_a.values in
    let lb = long_values all.rows b.values of_b.values in
    one_format a b (same_values a.values b.values (la ∙ sym lb) (λ k within. same.rows k (omega (arith, within, la)) refl)) same.others
same_heard all table SendOnly a b of_a of_b same = same_one_way all table SendOnly a b of_a of_b same
same_heard all table RecvOnly a b of_a of_b same = same_one_way all table RecvOnly a b of_a of_b same

same_answer : (all : Rules) (config : AnswerConfig) (a b : FormatParameters) (ours : List FormatParameters) → heard all (opposite config.direction) a ≡ heard all (opposite config.direction) b
    → answer_of all config a ours ≡ answer_of all config b ours
same_answer all config a b [] same = refl
same_answer all config a b (own ∷ ours) same =
    ap (λ it. option_or (unless_broken (own_fault all config own) (option_map (usable all config.direction) (known_answer all config it (heard all config.direction own)))) (answer_of all config a ours)) same
    ∙ ap (option_or (allowed_answer all config b own)) (same_answer all config a b ours same)

-- what isn't usable in an offer changes nothing in its answer
pub by_usable : (all : Rules) → AreOneTable all → IsByUsable all
by_usable all table config offered other ours of_offered of_other same =
    same_answer all config offered other ours (same_heard all table (opposite config.direction) offered other of_offered of_other same)

-- both ways all is usable
pub whole_both_ways : (all : Rules) → IsWholeBothWays all
whole_both_ways all offered own = all_of_it (answer_by all offered own)
  where
    all_of_it : (found : Option FormatParameters) → option_map (usable all SendRecv) found ≡ found
    all_of_it None = refl
    all_of_it (Some it) = refl

usable_says : (all : Rules) → AreOneTable all → (direction : Direction) (whole : FormatParameters) → length whole.values ≡ length all.roles → (k : ℕ) → k < length all.rows
    → value_at (usable_where all.roles all.usages direction false whole).values k
    ≡ cond (is_usable direction (usage_at all k)) (value_at whole.values k) None
usable_says all table direction whole long k within =
    usable_at direction false all.roles all.usages whole.values k (table.usages ∙ sym table.roles) long (omega (arith, within, table.roles))

if_usable : (is : Bool) (value : Option (List ℕ)) → is ≡ true → cond is value None ≡ value
if_usable true value h = refl
if_usable false value h = cc h

unless_usable : (is : Bool) (value : Option (List ℕ)) → is ≡ false → cond is value None ≡ None
unless_usable true value h = cc h
unless_usable false value h = refl

-- an answer is that to what both are heard to say, where a row is usable
one_way : (all : Rules) → AreOneTable all → (direction : Direction) (offered own whole : FormatParameters) → answer_by all (heard all (opposite direction) offered) (heard all direction own) ≡ Some whole → length whole.values ≡ length all.roles
    → IsDirected all direction offered own (usable_where all.roles all.usages direction false whole)
one_way all table direction offered own whole is long = record {
  whole = whole;
  is = is;
  same = record {
    rows = λ row within used. usable_says all table direction whole long row within ∙ if_usable (is_usable direction (usage_at all row)) (value_at whole.values row) used;
    others = refl;
  };
  nothing_else = λ row within unused. usable_says all table direction whole long row within ∙ unless_usable (is_usable direction (usage_at all row)) (value_at whole.values row) unused;
}

of_whole : (all : Rules) → AreOneTable all → (direction : Direction) (offered own whole : FormatParameters) → answer_by all (heard all (opposite direction) offered) (heard all direction own) ≡ Some whole → length whole.values ≡ length all.roles
    → IsDirected all direction offered own (usable all direction whole)
of_whole all table SendRecv offered own whole is long = record {
  whole = whole;
  is = is;
  same = record { rows = λ row within used. refl; others = refl };
  nothing_else = λ row within unused. cc unused;
}
of_whole all table SendOnly offered own whole is long = one_way all table SendOnly offered own whole is long
of_whole all table RecvOnly offered own whole is long = one_way all table RecvOnly offered own whole is long

-- an answer by parameters of a table is xs long
answer_long : (all : Rules) → AreOneTable all → (theirs ours whole : FormatParameters) → AreParameters all.rows theirs → AreParameters all.rows ours → answer_by all theirs ours ≡ Some whole → length whole.values ≡ length all.roles
answer_long all table theirs ours whole of_theirs of_ours is =
    let (terms, common, made) = answer_parts all theirs ours whole (common_terms all theirs ours) is in
    ap (λ (it : FormatParameters). length it.values) made
    ∙ answered_long terms all.roles theirs.values ours.values (long_values all.rows theirs.values of_theirs.values ∙ sym table.roles) (long_values all.rows ours.values of_ours.values ∙ sym table.roles)

pub directed : (all : Rules) → AreOneTable all → HearsParameters all → OfEachAnswerIn all (IsDirected all)
directed all table hears direction offered own answer of_offered of_own h =
    let theirs = heard all (opposite direction) offered in
    let ours = heard all direction own in
    let (whole, found, is) = made_of (usable all direction) (answer_by all theirs ours) answer h in
    let long = answer_long all table theirs ours whole (hears (opposite direction) offered of_offered) (hears direction own of_own) found in
    subst (IsDirected all direction offered own) (sym is) (of_whole all table direction offered own whole found long)

-- what holds of each answer holds in each direction
pub in_each_direction : (all : Rules) → AreOneTable all → HearsParameters all → (Holds : FormatParameters → FormatParameters → FormatParameters → Type 0) → OfEachAnswer all Holds → OfEachDirected all Holds
in_each_direction all table hears Holds holds direction offered own answer of_offered of_own h =
    let it = directed all table hears direction offered own answer of_offered of_own h in
    (it, holds (heard all (opposite direction) offered) (heard all direction own) it.whole (hears (opposite direction) offered of_offered) (hears direction own of_own) it.is)

-- an answer in a direction is parameters too
pub kept_in_each_direction : (all : Rules) → AreOneTable all → TakesUnsent all.roles all.rows → HearsParameters all → OfEachAnswer all (λ _ _ answer. AreParameters all.rows answer) → OfEachAnswerIn all (λ _ _ _ answer. AreParameters all.rows answer)
kept_in_each_direction all table takes hears kept direction offered own answer of_offered of_own h =
    let theirs = heard all (opposite direction) offered in
    let ours = heard all direction own in
    let (whole, found, is) = made_of (usable all direction) (answer_by all theirs ours) answer h in
    subst (AreParameters all.rows) (sym is) (usable_kept all table takes direction whole (kept theirs ours whole (hears (opposite direction) offered of_offered) (hears direction own of_own) found))
