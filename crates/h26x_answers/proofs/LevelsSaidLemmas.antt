-- Levels and buffers by what a format says.
use Rattle.std.proofs.Common.{◌≡◌, ℕ, ◌<◌, ◌≤◌, true, not, ◌&&◌, List, Option, Some, None, inl, inr, refl, sym, ap, ◌∙◌, arith}
use Rattle.std.specs.Prelude.{◌||◌, nat_lt, nat_le, max}
use Rattle.std.specs.Option.{option_map}
use Rattle.std.proofs.lemmas.Bool.{and_parts}
use Rattle.std.proofs.lemmas.Bool.Decides.{nat_tests}
use Rattle.h26x_answers.specs.declared.answer.by_level.Levels.{Levels}
use Rattle.h26x_fmtp.specs.Tables.{ParameterRow}
use Rattle.h26x_fmtp.specs.Reading.{FormatParameters, number_at, number_or_default}
use Rattle.h26x_answers.specs.Answers.{holds}
use Rattle.h26x_answers.specs.AnswersByLevel.{LevelRows, levels_by, levels_of, is_positive, can_hold}
use Rattle.h26x_answers.specs.LevelsSaid.{IsWithin, IsReceived, IsPositive, Fits}
use Rattle.h26x_fmtp.proofs.PartLemmas.{by_test}
use Rattle.h26x_fmtp.proofs.TestLemmas.{both_true}
use Rattle.h26x_answers.proofs.ByLevelLemmas.{SaysLevels, says_levels, low_by}

some_same : (x y : ℕ) → Some x ≡ Some y → x ≡ y
some_same x y h = cc h

pub levels_said : (rows : List ParameterRow) (by : LevelRows) (it : FormatParameters) (l : Levels) → levels_of rows by it ≡ Some l → SaysLevels (number_or_default rows it by.level) (number_at rows it by.highest) l
levels_said rows by it l h = says_levels (number_or_default rows it by.level) (number_at rows it by.highest) l h

-- a level within what is said
pub within_level : (rows : List ParameterRow) (by : LevelRows) (it : FormatParameters) (l : Levels) (level : ℕ) → levels_of rows by it ≡ Some l → IsWithin rows it by.level level → level ≤ l.level
within_level rows by it l level of within =
    let says = levels_said rows by it l of in
    let same : within.most ≡ l.level = some_same within.most l.level (sym within.said ∙ says.level) in
    let small = within.within in
    omega (arith, same, small)

pub level_within : (rows : List ParameterRow) (by : LevelRows) (it : FormatParameters) (l : Levels) (level : ℕ) → levels_of rows by it ≡ Some l → level ≤ l.level → IsWithin rows it by.level level
level_within rows by it l level of small = record { most = l.level; said = (levels_said rows by it l of).level; within = small }

highest_given : (level most : ℕ) (received : Option ℕ) (l : Levels) → l ≡ levels_by level received → received ≡ Some most → most ≤ l.highest
highest_given level most None l e given = cc given
highest_given level most (Some r) l e given =
    let same : r ≡ most = some_same r most given in
    let two : l.highest ≡ max level r = ap (λ (x : Levels). x.highest) e in
    omega (arith, two, same)

pub received_level : (rows : List ParameterRow) (by : LevelRows) (it : FormatParameters) (l : Levels) (level : ℕ) → levels_of rows by it ≡ Some l → IsReceived rows it by.level by.highest level → level ≤ l.highest
received_level rows by it l level of received =
    let says = levels_said rows by it l of in
    elim received [
      | inl within ↦
          let small = within_level rows by it l level of within in
          let low = low_by l.level (number_at rows it by.highest) l says.is in
          omega (arith, small, low)
      | inr given ↦
          let most = highest_given l.level given.most (number_at rows it by.highest) l says.is given.given in
          let small = given.within in
          omega (arith, most, small)
    ]

by_received : (rows : List ParameterRow) (by : LevelRows) (it : FormatParameters) (l : Levels) (level : ℕ) (received : Option ℕ) → levels_of rows by it ≡ Some l → number_at rows it by.highest ≡ received → l ≡ levels_by l.level received → level ≤ l.highest
    → IsReceived rows it by.level by.highest level
by_received rows by it l level None of is e small =
    let two : l.highest ≡ l.level = ap (λ (x : Levels). x.highest) e in
    inl (level_within rows by it l level of (omega (arith, two, small)))
by_received rows by it l level (Some r) of is e small =
    let two : l.highest ≡ max l.level r = ap (λ (x : Levels). x.highest) e in
    by_test (nat_le level l.level)
    (λ under.
    let under_level : level ≤ l.level = grind (arith, nat_tests, under) in
    inl (level_within rows by it l level of under_level))
    (λ above.
    let over : l.level < level = grind (arith, nat_tests, above) in
    inr (record { most = r; given = is; within = omega (arith, two, small, over) }))

pub level_received : (rows : List ParameterRow) (by : LevelRows) (it : FormatParameters) (l : Levels) (level : ℕ) → levels_of rows by it ≡ Some l → level ≤ l.highest → IsReceived rows it by.level by.highest level
level_received rows by it l level of small =
    by_received rows by it l level (number_at rows it by.highest) of refl (levels_said rows by it l of).is small

-- a level that is said is one of levels
pub levels_there : (rows : List ParameterRow) (by : LevelRows) (it : FormatParameters) (most : ℕ) → number_or_default rows it by.level ≡ Some most → levels_of rows by it ≡ Some (levels_by most (number_at rows it by.highest))
levels_there rows by it most said = ap (option_map (λ level. levels_by level (number_at rows it by.highest))) said

-- ---- buffers

positive_parts : (x : Option ℕ) → is_positive x ≡ true → (n : ℕ) × (x ≡ Some n) × (0 < n)
positive_parts None h = cc h
positive_parts (Some n) h = (n, refl, grind (arith, nat_tests, h))

lt_true : (n : ℕ) → 0 < n → nat_lt 0 n ≡ true
lt_true n h = grind (arith, nat_tests, h)

le_true : (a b : ℕ) → a ≤ b → nat_le a b ≡ true
le_true a b h = grind (arith, nat_tests, h)

pub is_positive_said : (rows : List ParameterRow) (it : FormatParameters) (row : ℕ) → is_positive (number_or_default rows it row) ≡ true → IsPositive rows it row
is_positive_said rows it row h =
    let (n, said, positive) = positive_parts (number_or_default rows it row) h in
    record { number = n; said = said; positive = positive }

pub said_positive : (rows : List ParameterRow) (it : FormatParameters) (row : ℕ) → IsPositive rows it row → is_positive (number_or_default rows it row) ≡ true
said_positive rows it row is = ap (λ (x : Option ℕ). is_positive x) is.said ∙ lt_true is.number is.positive

fits_parts : (need room : Option ℕ) → holds need room ≡ true → (n : ℕ) × (r : ℕ) × (need ≡ Some n) × (room ≡ Some r) × (n ≤ r)
fits_parts None room h = cc h
fits_parts (Some n) None h = cc h
fits_parts (Some n) (Some r) h = (n, r, refl, refl, grind (arith, nat_tests, h))

fits_said : (rows : List ParameterRow) (sender receiver : FormatParameters) (need room : ℕ) → holds (number_or_default rows sender need) (number_or_default rows receiver room) ≡ true → Fits rows sender receiver need room
fits_said rows sender receiver need room h =
    let (n, r, needed, given, fits) = fits_parts (number_or_default rows sender need) (number_or_default rows receiver room) h in
    record { need = n; room = r; needed = needed; given = given; fits = fits }

said_fits : (rows : List ParameterRow) (sender receiver : FormatParameters) (need room : ℕ) → Fits rows sender receiver need room → holds (number_or_default rows sender need) (number_or_default rows receiver room) ≡ true
said_fits rows sender receiver need room it =
    ap (λ n. holds n (number_or_default rows receiver room)) it.needed ∙ ap (holds (Some it.need)) it.given ∙ le_true it.need it.room it.fits

-- what is sent is put in order, by the rows of what bears numbers
abbrev pub IsInOrder : List ParameterRow → LevelRows → FormatParameters → FormatParameters → Type 0
IsInOrder rows by sender receiver = IsPositive rows sender by.difference →
    IsPositive rows sender by.units × IsPositive rows sender by.need × Fits rows sender receiver by.need by.room

pub in_order : (rows : List ParameterRow) (by : LevelRows) (sender receiver : FormatParameters) → can_hold rows by sender receiver ≡ true → IsInOrder rows by sender receiver
in_order rows by sender receiver h positive =
    let difference = said_positive rows sender by.difference positive in
    let units = is_positive (number_or_default rows sender by.units) in
    let need = is_positive (number_or_default rows sender by.need) in
    let fits = holds (number_or_default rows sender by.need) (number_or_default rows receiver by.room) in
    let rest : (units && (need && fits)) ≡ true = sym (ap (λ t. not t || (units && (need && fits))) difference) ∙ h in
    let first = and_parts units (need && fits) rest in
    let second = and_parts need fits first.1 in
    (is_positive_said rows sender by.units first.0, is_positive_said rows sender by.need second.0, fits_said rows sender receiver by.need by.room second.1)

pub order_in : (rows : List ParameterRow) (by : LevelRows) (sender receiver : FormatParameters) → IsInOrder rows by sender receiver → can_hold rows by sender receiver ≡ true
order_in rows by sender receiver it =
    let difference = is_positive (number_or_default rows sender by.difference) in
    let units = is_positive (number_or_default rows sender by.units) in
    let need = is_positive (number_or_default rows sender by.need) in
    let fits = holds (number_or_default rows sender by.need) (number_or_default rows receiver by.room) in
    by_test difference
    (λ yes.
    let parts = it (is_positive_said rows sender by.difference yes) in
    ap (λ t. not t || (units && (need && fits))) yes
    ∙ both_true units (need && fits) (said_positive rows sender by.units parts.0)
    (both_true need fits (said_positive rows sender by.need parts.1) (said_fits rows sender receiver by.need by.room parts.2)))
    (λ no. ap (λ t. not t || (units && (need && fits))) no)
