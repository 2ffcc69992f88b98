-- Answers whose level is a number are those that the RFCs allow.
use Rattle.std.proofs.Common.{◌≡◌, ℕ, ◌<◌, ◌≤◌, true, false, not, ◌&&◌, cond, List, length, Option, Some, None, inl, inr, refl, sym, ap, subst, ◌∙◌, arith, Bool}
use Rattle.std.specs.Prelude.{◌||◌, nat_lt, nat_le, min, max}
use Rattle.std.specs.Option.{option_map, option_and_then, option_or}
use Rattle.std.proofs.lemmas.Bool.{and_parts}
use Rattle.std.proofs.lemmas.Bool.Decides.{nat_tests}
use Rattle.h26x_answers.specs.declared.answer.Role.{Role}
use Rattle.h26x_answers.specs.declared.answer.Role.TheVariants as role
use Rattle.h26x_answers.specs.declared.answer.by_level.Levels.{Levels}
use Rattle.h26x_fmtp.specs.Kinds.{number_of}
use Rattle.h26x_fmtp.specs.Tables.{ParameterRow, row_at}
use Rattle.h26x_fmtp.specs.Parameters.{AreParameters}
use Rattle.h26x_fmtp.specs.Reading.{FormatParameters, value_at, number_at, value_or_default, number_or_default}
use Rattle.h26x_answers.specs.Answers.{Terms, Rules, answered_value, answered, holds}
use Rattle.h26x_answers.specs.AnswersByLevel.{LevelRows, levels_by, levels_of, highest_value, lower_level, lower_highest, is_positive, can_hold, terms_of_levels, terms_if_known, terms_by_level}
use Rattle.h26x_answers.specs.AllowedByLevel.{is_configuration, is_choice, role_at, IsAnswerByLevel, MaySendByLevel}
use Rattle.h26x_fmtp.proofs.PartLemmas.{by_test}
use Rattle.h26x_answers.proofs.AnswersLemmas.{answered_at}
use Rattle.h26x_answers.proofs.AnswersH264Lemmas.{long_values}
use Rattle.h26x_fmtp.proofs.TestLemmas.{both_true}
use Rattle.h26x_answers.proofs.KeptLemmas.{SameTerms}

-- what rows are, of rules whose level is a number
pub record Describes (rules : Rules) (by : LevelRows) : Type 0 where
  pub long : length rules.roles ≡ length rules.rows
  pub level : role_at rules by.level ≡ role.Level
  pub highest : role_at rules by.highest ≡ role.HighestLevel
  pub difference : role_at rules by.difference ≡ role.Own
  pub units : role_at rules by.units ≡ role.Own
  pub need : role_at rules by.need ≡ role.Own
  pub room : role_at rules by.room ≡ role.Own
  pub kind : (row_at rules.rows by.highest).kind ≡ (row_at rules.rows by.level).kind
  pub in_level : by.level < length rules.roles
  pub in_highest : by.highest < length rules.roles
  pub in_difference : by.difference < length rules.roles
  pub in_units : by.units < length rules.roles
  pub in_need : by.need < length rules.roles
  pub in_room : by.room < length rules.roles

-- two formats, their levels, and what they agree on
pub record AgreedByLevel (rows : List ParameterRow) (by : LevelRows) (offered own : FormatParameters) (found : Terms) : Type 0 where
  pub a : Levels
  pub b : Levels
  pub offer_says : levels_of rows by offered ≡ Some a
  pub own_says : levels_of rows by own ≡ Some b
  pub forth : can_hold rows by offered own ≡ true
  pub back : can_hold rows by own offered ≡ true
  pub is : found ≡ terms_of_levels rows by offered own a b

agreed_known : (rows : List ParameterRow) (by : LevelRows) (offered own : FormatParameters) (found : Terms) (x y : Option Levels) → levels_of rows by offered ≡ x → levels_of rows by own ≡ y
    → terms_if_known rows by offered own x y ≡ Some found → AgreedByLevel rows by offered own found
agreed_known rows by offered own found None y ex ey h = cc h
agreed_known rows by offered own found (Some a) None ex ey h = cc h
agreed_known rows by offered own found (Some a) (Some b) ex ey h = by_test (can_hold rows by offered own && can_hold rows by own offered)
    (λ both.
    let e : Some (terms_of_levels rows by offered own a b) ≡ Some found = sym (ap (λ t. cond t (Some (terms_of_levels rows by offered own a b)) None) both) ∙ h in
    let parts = and_parts (can_hold rows by offered own) (can_hold rows by own offered) both in
    record { a = a; b = b; offer_says = ex; own_says = ey; forth = parts.0; back = parts.1; is = cc e })
    (λ other.
    let e : None ≡ Some found = sym (ap (λ t. cond t (Some (terms_of_levels rows by offered own a b)) None) other) ∙ h in
    cc e)

pub agreed_by_level : (rows : List ParameterRow) (by : LevelRows) (offered own : FormatParameters) (found : Terms) → terms_by_level rows by offered own ≡ Some found → AgreedByLevel rows by offered own found
agreed_by_level rows by offered own found h = agreed_known rows by offered own found (levels_of rows by offered) (levels_of rows by own) refl refl h

-- the parts of levels
pub record SaysLevels (number received : Option ℕ) (l : Levels) : Type 0 where
  pub level : number ≡ Some l.level
  pub is : l ≡ levels_by l.level received

pub says_levels : (level received : Option ℕ) (l : Levels) → option_map (λ n. levels_by n received) level ≡ Some l → SaysLevels level received l
says_levels None received l h = cc h
says_levels (Some n) None l h =
    let e : record { level = n; highest = n } ≡ l = cc h in
    subst (SaysLevels (Some n) None) e (record { level = refl; is = refl })
says_levels (Some n) (Some r) l h =
    let e : record { level = n; highest = max n r } ≡ l = cc h in
    subst (SaysLevels (Some n) (Some r)) e (record { level = refl; is = refl })

-- the default level isn't above the highest
pub low_by : (level : ℕ) (received : Option ℕ) (l : Levels) → l ≡ levels_by level received → l.level ≤ l.highest
low_by level None l e =
    let one : l.level ≡ level = ap (λ (x : Levels). x.level) e in
    let two : l.highest ≡ level = ap (λ (x : Levels). x.highest) e in
    omega (arith, one, two)
low_by level (Some r) l e =
    let one : l.level ≡ level = ap (λ (x : Levels). x.level) e in
    let two : l.highest ≡ max level r = ap (λ (x : Levels). x.highest) e in
    omega (arith, one, two)

received_by : (level : ℕ) (received : Option ℕ) (l : Levels) → l ≡ levels_by level received → l.level < l.highest → received ≡ Some l.highest
received_by level None l e less =
    let one : l.level ≡ level = ap (λ (x : Levels). x.level) e in
    let two : l.highest ≡ level = ap (λ (x : Levels). x.highest) e in
    absurd (omega (arith, one, two, less))
received_by level (Some r) l e less =
    let one : l.level ≡ level = ap (λ (x : Levels). x.level) e in
    let two : l.highest ≡ max level r = ap (λ (x : Levels). x.highest) e in
    let top : r ≡ l.highest = omega (arith, one, two, less) in
    ap Some top

lt_true : (a b : ℕ) → nat_lt a b ≡ true → a < b
lt_true a b h = grind (arith, nat_tests, h)

lt_false : (a b : ℕ) → nat_lt a b ≡ false → b ≤ a
lt_false a b h = grind (arith, nat_tests, h)

pub to_true : (a b : ℕ) → a < b → nat_lt a b ≡ true
to_true a b h = grind (arith, nat_tests, h)

pub to_false : (a b : ℕ) → b ≤ a → nat_lt a b ≡ false
to_false a b h = grind (arith, nat_tests, h)

-- what says the highest level is its number
highest_number : (rules : Rules) (by : LevelRows) → Describes rules by → (it : FormatParameters) (l : Levels) → SaysLevels (number_or_default rules.rows it by.level) (number_at rules.rows it by.highest) l
    → option_and_then (number_of (row_at rules.rows by.highest).kind) (highest_value rules.rows by it l) ≡ Some l.highest
highest_number rules by table it l says = by_test (nat_lt l.level l.highest)
    (λ less.
    ap (λ t. option_and_then (number_of (row_at rules.rows by.highest).kind) (cond t (value_at it.values by.highest) (value_or_default rules.rows it by.level))) less
    ∙ received_by l.level (number_at rules.rows it by.highest) l says.is (lt_true l.level l.highest less))
    (λ other.
    let low = low_by l.level (number_at rules.rows it by.highest) l says.is in
    let high = lt_false l.level l.highest other in
    let same : l.level ≡ l.highest = omega (arith, low, high) in
    ap (λ t. option_and_then (number_of (row_at rules.rows by.highest).kind) (cond t (value_at it.values by.highest) (value_or_default rules.rows it by.level))) other
    ∙ ap (λ kind. option_and_then (number_of kind) (value_or_default rules.rows it by.level)) table.kind
    ∙ says.level ∙ ap Some same)

abbrev levels_at : ℕ → ℕ → Levels
levels_at level highest = record { level = level; highest = highest }

-- the lower of both levels
abbrev pub lower_of : Levels → Levels → Levels
lower_of a b = record { level = min a.level b.level; highest = min a.highest b.highest }

answer_level_number : (rows : List ParameterRow) (by : LevelRows) (offered own answer : FormatParameters) (a b : Levels) → number_or_default rows offered by.level ≡ Some a.level → number_or_default rows own by.level ≡ Some b.level
    → value_at answer.values by.level ≡ lower_level by offered own a b → number_or_default rows answer by.level ≡ Some (min a.level b.level)
answer_level_number rows by offered own answer a b of_a of_b here = by_test (nat_lt b.level a.level)
    (λ less.
    let small = lt_true b.level a.level less in
    let least : b.level ≡ min a.level b.level = omega (arith, small) in
    ap (λ v. option_and_then (number_of (row_at rows by.level).kind) (option_or v (row_at rows by.level).default))
    (here ∙ ap (λ t. cond t (value_at own.values by.level) (value_at offered.values by.level)) less)
    ∙ of_b ∙ ap Some least)
    (λ other.
    let small = lt_false b.level a.level other in
    let least : a.level ≡ min a.level b.level = omega (arith, small) in
    ap (λ v. option_and_then (number_of (row_at rows by.level).kind) (option_or v (row_at rows by.level).default))
    (here ∙ ap (λ t. cond t (value_at own.values by.level) (value_at offered.values by.level)) other)
    ∙ of_a ∙ ap Some least)

-- the highest level of the answer is the lower of both, said or not
answer_highest_number : (rules : Rules) (by : LevelRows) → Describes rules by → (offered own answer : FormatParameters) (a b : Levels)
    → SaysLevels (number_or_default rules.rows offered by.level) (number_at rules.rows offered by.highest) a
    → SaysLevels (number_or_default rules.rows own by.level) (number_at rules.rows own by.highest) b
    → value_at answer.values by.highest ≡ lower_highest rules.rows by offered own a b
    → levels_by (min a.level b.level) (number_at rules.rows answer by.highest) ≡ lower_of a b
answer_highest_number rules by table offered own answer a b of_a of_b here =
    let m = min a.level b.level in
    let kind = (row_at rules.rows by.highest).kind in
    let low_a = low_by a.level (number_at rules.rows offered by.highest) a of_a.is in
    let low_b = low_by b.level (number_at rules.rows own by.highest) b of_b.is in
    let inner = cond (nat_lt b.highest a.highest) (highest_value rules.rows by own b) (highest_value rules.rows by offered a) in
    by_test (nat_lt (min a.level b.level) (min a.highest b.highest))
    (λ less.
    let value : value_at answer.values by.highest ≡ inner = here ∙ ap (λ t. cond t inner None) less in
    let above = lt_true (min a.level b.level) (min a.highest b.highest) less in
    let number : option_and_then (number_of kind) inner ≡ Some (min a.highest b.highest) = by_test (nat_lt b.highest a.highest)
    (λ ours.
    let small = lt_true b.highest a.highest ours in
    let least : b.highest ≡ min a.highest b.highest = omega (arith, small) in
    ap (λ t. option_and_then (number_of kind) (cond t (highest_value rules.rows by own b) (highest_value rules.rows by offered a))) ours
    ∙ highest_number rules by table own b of_b ∙ ap Some least)
    (λ theirs.
    let small = lt_false b.highest a.highest theirs in
    let least : a.highest ≡ min a.highest b.highest = omega (arith, small) in
    ap (λ t. option_and_then (number_of kind) (cond t (highest_value rules.rows by own b) (highest_value rules.rows by offered a))) theirs
    ∙ highest_number rules by table offered a of_a ∙ ap Some least) in
    let top : max (min a.level b.level) (min a.highest b.highest) ≡ min a.highest b.highest = omega (arith, above) in
    ap (λ v. levels_by (min a.level b.level) (option_and_then (number_of kind) v)) value
    ∙ ap (levels_by (min a.level b.level)) number
    ∙ ap (levels_at (min a.level b.level)) top)
    (λ other.
    let value : value_at answer.values by.highest ≡ None = here ∙ ap (λ t. cond t inner None) other in
    let above = lt_false (min a.level b.level) (min a.highest b.highest) other in
    let top : min a.level b.level ≡ min a.highest b.highest = omega (arith, above, low_a, low_b) in
    ap (λ v. levels_by (min a.level b.level) (option_and_then (number_of kind) v)) value
    ∙ ap (levels_at (min a.level b.level)) top)

-- a row of an answer, by its role
pub row_of_answer : (rules : Rules) (offered own : FormatParameters) (found : Terms) (k : ℕ) (r : Role) → length rules.roles ≡ length rules.rows → AreParameters rules.rows offered → AreParameters rules.rows own
    → k < length rules.roles → role_at rules k ≡ r
    → value_at (answered rules offered own found).values k ≡ answered_value r found (value_at offered.values k) (value_at own.values k)
row_of_answer rules offered own found k r long of_offered of_own within is =
    let lo : length offered.values ≡ length rules.roles = long_values rules.rows offered.values of_offered.values ∙ sym long in
    let lu : length own.values ≡ length rules.roles = long_values rules.rows own.values of_own.values ∙ sym long in
    answered_at found rules.roles offered.values own.values k lo lu within
    ∙ ap (λ x. answered_value x found (value_at offered.values k) (value_at own.values k)) is

configuration_kept : (r : Role) (found : Terms) (o u : Option (List ℕ)) → is_configuration r ≡ true → answered_value r found o u ≡ o
configuration_kept role.Configuration found o u is = refl
configuration_kept role.Compared found o u is = refl
configuration_kept role.Level found o u is = cc is
configuration_kept role.HighestLevel found o u is = cc is
configuration_kept role.Asymmetry found o u is = cc is
configuration_kept role.Reordering found o u is = cc is
configuration_kept role.Sets found o u is = cc is
configuration_kept role.LevelSets found o u is = cc is
configuration_kept role.Own found o u is = cc is
configuration_kept role.OperationPoint found o u is = cc is

choice_dropped : (r : Role) (found : Terms) (o u : Option (List ℕ)) → is_choice r ≡ true → answered_value r found o u ≡ None
choice_dropped role.Configuration found o u is = cc is
choice_dropped role.Compared found o u is = cc is
choice_dropped role.Level found o u is = cc is
choice_dropped role.HighestLevel found o u is = cc is
choice_dropped role.Asymmetry found o u is = cc is
choice_dropped role.Reordering found o u is = cc is
choice_dropped role.Sets found o u is = cc is
choice_dropped role.LevelSets found o u is = cc is
choice_dropped role.Own found o u is = cc is
choice_dropped role.OperationPoint found o u is = refl

-- whether a buffer holds, by values
abbrev value_number : List ParameterRow → ℕ → Option (List ℕ) → Option ℕ
value_number rows row value = option_and_then (number_of (row_at rows row).kind) (option_or value (row_at rows row).default)

abbrev hold_by : List ParameterRow → LevelRows → Option (List ℕ) → Option (List ℕ) → Option (List ℕ) → Option (List ℕ) → Bool
hold_by rows by difference units need room = not (is_positive (value_number rows by.difference difference))
    || (is_positive (value_number rows by.units units)
    && (is_positive (value_number rows by.need need) && holds (value_number rows by.need need) (value_number rows by.room room)))

-- what an answer sends and receives is what we send and receive
record SameOrder (by : LevelRows) (x y : FormatParameters) : Type 0 where
  pub difference : value_at x.values by.difference ≡ value_at y.values by.difference
  pub units : value_at x.values by.units ≡ value_at y.values by.units
  pub need : value_at x.values by.need ≡ value_at y.values by.need
  pub room : value_at x.values by.room ≡ value_at y.values by.room

same_order : (rules : Rules) (by : LevelRows) → Describes rules by → (offered own : FormatParameters) (found : Terms) → AreParameters rules.rows offered → AreParameters rules.rows own
    → SameOrder by (answered rules offered own found) own
same_order rules by table offered own found of_offered of_own = record {
  difference = row_of_answer rules offered own found by.difference role.Own table.long of_offered of_own table.in_difference table.difference;
  units = row_of_answer rules offered own found by.units role.Own table.long of_offered of_own table.in_units table.units;
  need = row_of_answer rules offered own found by.need role.Own table.long of_offered of_own table.in_need table.need;
  room = row_of_answer rules offered own found by.room role.Own table.long of_offered of_own table.in_room table.room;
}

sends_same : (rows : List ParameterRow) (by : LevelRows) (x y receiver : FormatParameters) → SameOrder by x y → can_hold rows by x receiver ≡ can_hold rows by y receiver
sends_same rows by x y receiver same =
    ap (λ d. hold_by rows by d (value_at x.values by.units) (value_at x.values by.need) (value_at receiver.values by.room)) same.difference
    ∙ ap (λ u. hold_by rows by (value_at y.values by.difference) u (value_at x.values by.need) (value_at receiver.values by.room)) same.units
    ∙ ap (λ n. hold_by rows by (value_at y.values by.difference) (value_at y.values by.units) n (value_at receiver.values by.room)) same.need

receives_same : (rows : List ParameterRow) (by : LevelRows) (sender x y : FormatParameters) → SameOrder by x y → can_hold rows by sender x ≡ can_hold rows by sender y
receives_same rows by sender x y same = ap (hold_by rows by (value_at sender.values by.difference) (value_at sender.values by.units) (value_at sender.values by.need)) same.room

-- the levels of an answer are the lower of both
pub answer_levels : (rules : Rules) (by : LevelRows) → Describes rules by → (offered own : FormatParameters) (found : Terms) → AreParameters rules.rows offered → AreParameters rules.rows own
    → (agreed : AgreedByLevel rules.rows by offered own found) → levels_of rules.rows by (answered rules offered own found) ≡ Some (lower_of agreed.a agreed.b)
answer_levels rules by table offered own found of_offered of_own agreed =
    let a = agreed.a in
    let b = agreed.b in
    let answer = answered rules offered own found in
    let of_a = says_levels (number_or_default rules.rows offered by.level) (number_at rules.rows offered by.highest) a agreed.offer_says in
    let of_b = says_levels (number_or_default rules.rows own by.level) (number_at rules.rows own by.highest) b agreed.own_says in
    let level : value_at answer.values by.level ≡ lower_level by offered own a b =
    row_of_answer rules offered own found by.level role.Level table.long of_offered of_own table.in_level table.level ∙ ap (λ (t : Terms). t.level) agreed.is in
    let highest : value_at answer.values by.highest ≡ lower_highest rules.rows by offered own a b =
    row_of_answer rules offered own found by.highest role.HighestLevel table.long of_offered of_own table.in_highest table.highest ∙ ap (λ (t : Terms). t.highest) agreed.is in
    ap (λ n. option_map (λ l. levels_by l (number_at rules.rows answer by.highest)) n) (answer_level_number rules.rows by offered own answer a b of_a.level of_b.level level)
    ∙ ap Some (answer_highest_number rules by table offered own answer a b of_a of_b highest)

-- each answer is allowed
pub allowed_by_level : (rules : Rules) (by : LevelRows) → Describes rules by → (offered own : FormatParameters) (found : Terms) → AreParameters rules.rows offered → AreParameters rules.rows own
    → AgreedByLevel rules.rows by offered own found → IsAnswerByLevel rules by offered (answered rules offered own found)
allowed_by_level rules by table offered own found of_offered of_own agreed =
    let a = agreed.a in
    let b = agreed.b in
    let answer = answered rules offered own found in
    let same = same_order rules by table offered own found of_offered of_own in
    let highest : value_at answer.values by.highest ≡ lower_highest rules.rows by offered own a b =
    row_of_answer rules offered own found by.highest role.HighestLevel table.long of_offered of_own table.in_highest table.highest ∙ ap (λ (t : Terms). t.highest) agreed.is in
    let inner = cond (nat_lt b.highest a.highest) (highest_value rules.rows by own b) (highest_value rules.rows by offered a) in
    let not_above : min a.level b.level ≤ a.level = omega arith in
    let not_above_highest : min a.highest b.highest ≤ a.highest = omega arith in
    record {
      theirs = a;
      ours = lower_of a b;
      offer_says = agreed.offer_says;
      answer_says = answer_levels rules by table offered own found of_offered of_own agreed;
      configuration = λ row within is.
          row_of_answer rules offered own found row (role_at rules row) table.long of_offered of_own (omega (arith, table.long, within)) refl
          ∙ configuration_kept (role_at rules row) found (value_at offered.values row) (value_at own.values row) is;
      level = not_above;
      highest = not_above_highest;
      above = by_test (nat_lt (min a.level b.level) (min a.highest b.highest))
          (λ less. inr (lt_true (min a.level b.level) (min a.highest b.highest) less))
          (λ other. inl (highest ∙ ap (λ t. cond t inner None) other));
      no_choice = λ row within is.
          row_of_answer rules offered own found row (role_at rules row) table.long of_offered of_own (omega (arith, table.long, within)) refl
          ∙ choice_dropped (role_at rules row) found (value_at offered.values row) (value_at own.values row) is;
      forth = receives_same rules.rows by offered answer own same ∙ agreed.forth;
      back = sends_same rules.rows by answer own offered same ∙ agreed.back;
    }

-- what each end may send is what the other receives
levels_low : (rows : List ParameterRow) (by : LevelRows) (it : FormatParameters) (l : Levels) → levels_of rows by it ≡ Some l → l.level ≤ l.highest
levels_low rows by it l h =
    let says = says_levels (number_or_default rows it by.level) (number_at rows it by.highest) l h in
    low_by l.level (number_at rows it by.highest) l says.is

pub sends_forth_by_level : (rules : Rules) (by : LevelRows) (offered answer : FormatParameters) (it : IsAnswerByLevel rules by offered answer) → MaySendByLevel rules by offered answer it.ours.level it.ours
sends_forth_by_level rules by offered answer it = record {
  configuration = λ row within is. sym (it.configuration row within is);
  within = levels_low rules.rows by answer it.ours it.answer_says;
  buffer = it.forth;
}

pub sends_back_by_level : (rules : Rules) (by : LevelRows) (offered answer : FormatParameters) (it : IsAnswerByLevel rules by offered answer) → MaySendByLevel rules by answer offered it.ours.highest it.theirs
sends_back_by_level rules by offered answer it = record {
  configuration = it.configuration;
  within = it.highest;
  buffer = it.back;
}

-- ---- the terms of an answer and ours once more

le_to_true : (a b : ℕ) → a ≤ b → nat_le a b ≡ true
le_to_true a b h = grind (arith, nat_tests, h)

le_to_false : (a b : ℕ) → b < a → nat_le a b ≡ false
le_to_false a b h = grind (arith, nat_tests, h)

le_of_true : (a b : ℕ) → nat_le a b ≡ true → a ≤ b
le_of_true a b h = grind (arith, nat_tests, h)

le_of_false : (a b : ℕ) → nat_le a b ≡ false → b < a
le_of_false a b h = grind (arith, nat_tests, h)

le_same : (a b : ℕ) → nat_le b (min a b) ≡ nat_le b a
le_same a b = by_test (nat_le b a)
    (λ less.
    let small = le_of_true b a less in
    let fits : b ≤ min a b = omega (arith, small) in
    le_to_true b (min a b) fits ∙ sym less)
    (λ other.
    let big = le_of_false b a other in
    let beyond : min a b < b = omega (arith, big) in
    le_to_false b (min a b) beyond ∙ sym other)

pub record TermsAgain (rules : Rules) (by : LevelRows) (own answer : FormatParameters) (found : Terms) : Type 0 where
  pub twice : Terms
  pub is : terms_by_level rules.rows by answer own ≡ Some twice
  pub same : SameTerms twice found
  pub sets : twice.sets ≡ found.sets
  pub level_sets : twice.level_sets ≡ found.level_sets

pub terms_again : (rules : Rules) (by : LevelRows) → Describes rules by → (offered own : FormatParameters) (found : Terms) → AreParameters rules.rows offered → AreParameters rules.rows own
    → AgreedByLevel rules.rows by offered own found → can_hold rules.rows by own own ≡ true → TermsAgain rules by own (answered rules offered own found) found
terms_again rules by table offered own found of_offered of_own agreed holds_own =
    let a = agreed.a in
    let b = agreed.b in
    let m = lower_of a b in
    let answer = answered rules offered own found in
    let order = same_order rules by table offered own found of_offered of_own in
    let levels = answer_levels rules by table offered own found of_offered of_own agreed in
    let level = row_of_answer rules offered own found by.level role.Level table.long of_offered of_own table.in_level table.level in
    let highest = row_of_answer rules offered own found by.highest role.HighestLevel table.long of_offered of_own table.in_highest table.highest in
    let forth : can_hold rules.rows by answer own ≡ true = sends_same rules.rows by answer own own order ∙ holds_own in
    let back : can_hold rules.rows by own answer ≡ true = receives_same rules.rows by own answer own order ∙ holds_own in
    let twice = terms_of_levels rules.rows by answer own m b in
    let not_lower : nat_lt b.level (min a.level b.level) ≡ false = to_false b.level (min a.level b.level) (omega arith) in
    let not_lower_highest : nat_lt b.highest (min a.highest b.highest) ≡ false = to_false b.highest (min a.highest b.highest) (omega arith) in
    let inner = cond (nat_lt b.highest a.highest) (highest_value rules.rows by own b) (highest_value rules.rows by offered a) in
    let said = value_at answer.values by.highest in
    let default = value_or_default rules.rows answer by.level in
    let above = nat_lt (min a.level b.level) (min a.highest b.highest) in
    let last : cond above (cond above said default) None ≡ found.highest = by_test above
    (λ less. ap (λ t. cond t (cond t said default) None) less ∙ highest)
    (λ other. ap (λ t. cond t (cond t said default) None) other ∙ sym (ap (λ (t : Terms). t.highest) agreed.is ∙ ap (λ t. cond t inner None) other)) in
    let least : min (min a.level b.level) b.level ≡ min a.level b.level = omega arith in
    let least_highest : min (min a.highest b.highest) b.highest ≡ min a.highest b.highest = omega arith in
    record {
      twice = twice;
      is = ap (λ x. terms_if_known rules.rows by answer own x (levels_of rules.rows by own)) levels
          ∙ ap (λ y. terms_if_known rules.rows by answer own (Some m) y) agreed.own_says
          ∙ ap (λ t. cond t (Some twice) None) (both_true (can_hold rules.rows by answer own) (can_hold rules.rows by own answer) forth back);
      same = record {
        level = ap (λ t. cond t (value_at own.values by.level) (value_at answer.values by.level)) not_lower ∙ level;
        highest =
            ap (λ n. cond (nat_lt n (min (min a.highest b.highest) b.highest)) (cond (nat_lt b.highest (min a.highest b.highest)) (highest_value rules.rows by own b) (highest_value rules.rows by answer m)) None) least
            ∙ ap (λ n. cond (nat_lt (min a.level b.level) n) (cond (nat_lt b.highest (min a.highest b.highest)) (highest_value rules.rows by own b) (highest_value rules.rows by answer m)) None) least_highest
            ∙ ap (λ t. cond (nat_lt (min a.level b.level) (min a.highest b.highest)) (cond t (highest_value rules.rows by own b) (highest_value rules.rows by answer m)) None) not_lower_highest
            ∙ last;
        asymmetric = sym (ap (λ (t : Terms). t.asymmetric) agreed.is);
        reorders = sym (ap (λ (t : Terms). t.reorders) agreed.is);
      };
      sets = le_same a.level b.level ∙ sym (ap (λ (t : Terms). t.sets) agreed.is);
      level_sets = sym (ap (λ (t : Terms). t.level_sets) agreed.is);
    }
