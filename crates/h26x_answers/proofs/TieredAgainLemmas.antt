-- Answers of H.265 and of H.266 are parameters, and are answered again.
use Rattle.std.proofs.Common.{◌≡◌, ℕ, zero, suc, ◌<◌, true, false, not, ◌&&◌, cond, List, [], ◌∷◌, length, Option, Some, None, refl, sym, ap, subst, ◌∙◌, arith, Bool}
use Rattle.std.specs.Prelude.{◌||◌, nat_lt, nat_eq, min}
use Rattle.std.specs.Option.{option_map, option_and_then, option_or}
use Rattle.std.specs.Cmp.Lexicographic.{pointwise, other_text}
use Rattle.h26x_fmtp.specs.declared.kind.Kind.TheVariants.{Hexadecimal, Units}
use Rattle.h26x_fmtp.specs.UnitTypes.{h266_vps}
use Rattle.h26x_answers.specs.declared.answer.AnswerRules.{AnswerRules}
use Rattle.h26x_answers.specs.declared.answer.AnswerRules.TheVariants.{Rfc, Webrtc}
use Rattle.h26x_answers.specs.declared.answer.Role.TheVariants as role
use Rattle.h26x_answers.specs.declared.answer.by_level.Levels.{Levels}
use Rattle.h26x_fmtp.specs.Kinds.{fault_in, number_of}
use Rattle.h26x_fmtp.specs.Tables.{ParameterRow, row_at}
use Rattle.h26x_fmtp.specs.Parameters.{IsValueIfGiven, AreValues, AreParameters}
use Rattle.h26x_fmtp.specs.Reading.{FormatParameters, value_at, value_or_default, number_or_default}
use Rattle.h26x_answers.specs.Answers.{Terms, Rules, only_if, same_if_given, same_number, answered, are_symmetric, common_terms, answer_by}
use Rattle.h26x_answers.specs.AnswersByLevel.{LevelRows, highest_value, can_hold, terms_by_level}
use Rattle.h26x_answers.specs.AnsweredAgain.{IsAnsweredAgain}
use Rattle.h26x_answers.specs.AnswersH265 as h265
use Rattle.h26x_answers.specs.AnswersH266 as h266
use Rattle.h26x_fmtp.proofs.PartLemmas.{by_test}
use Rattle.h26x_answers.proofs.AnswersLemmas.{answer_parts}
use Rattle.h26x_answers.proofs.AnswersH264Lemmas.{long_values}
use Rattle.h26x_answers.proofs.KeptLemmas.{answer_kept, symmetric_again, SameTerms, row_again}
use Rattle.h26x_answers.proofs.ByLevelLemmas.{Describes, AgreedByLevel, agreed_by_level, row_of_answer, terms_again}
use Rattle.h26x_answers.proofs.TieredLemmas.{h265_describes, h266_describes, common_parts, h265_parts, h266_parts}

-- the value of each row is one of its kind
value_of_row : (rows : List ParameterRow) (values : List (Option (List ℕ))) (k : ℕ) → AreValues rows values → k < length rows → IsValueIfGiven (row_at rows k) (value_at values k)
value_of_row [] values k are within = absurd (omega arith)
value_of_row (row ∷ rows) [] k are within = absurd are
value_of_row (row ∷ rows) (v ∷ values) zero are within = are.0
value_of_row (row ∷ rows) (v ∷ values) (suc k) are within = value_of_row rows values k are.1 (omega arith)

-- a value of a row is one of another row of its kind
of_kind : (x y : ParameterRow) (value : Option (List ℕ)) → y.kind ≡ x.kind → IsValueIfGiven x value → IsValueIfGiven y value
of_kind x y None same is = tt
of_kind x y (Some value) same is = record {
  fits = ap (λ k. fault_in k value) same ∙ is.fits;
  trimmed = is.trimmed;
  one_part = is.one_part;
}

or_kept : (row : ParameterRow) (value default : Option (List ℕ)) → IsValueIfGiven row value → IsValueIfGiven row default → IsValueIfGiven row (option_or value default)
or_kept row (Some value) default is of_default = is
or_kept row None default is of_default = of_default

choice_kept : (row : ParameterRow) (test : Bool) (a b : Option (List ℕ)) → IsValueIfGiven row a → IsValueIfGiven row b → IsValueIfGiven row (cond test a b)
choice_kept row true a b of_a of_b = of_a
choice_kept row false a b of_a of_b = of_b

highest_kept : (rules : Rules) (by : LevelRows) → Describes rules by → (it : FormatParameters) (l : Levels) → AreParameters rules.rows it → IsValueIfGiven (row_at rules.rows by.highest) (row_at rules.rows by.level).default
    → IsValueIfGiven (row_at rules.rows by.highest) (highest_value rules.rows by it l)
highest_kept rules by table it l of_it of_default =
    let high = value_of_row rules.rows it.values by.highest of_it.values (omega (arith, table.long, table.in_highest)) in
    let low = of_kind (row_at rules.rows by.level) (row_at rules.rows by.highest) (value_at it.values by.level) table.kind
    (value_of_row rules.rows it.values by.level of_it.values (omega (arith, table.long, table.in_level))) in
    choice_kept (row_at rules.rows by.highest) (nat_lt l.level l.highest) (value_at it.values by.highest) (value_or_default rules.rows it by.level) high
    (or_kept (row_at rules.rows by.highest) (value_at it.values by.level) (row_at rules.rows by.level).default low of_default)

level_fits : (rules : Rules) (by : LevelRows) → Describes rules by → (offered own : FormatParameters) (found : Terms) → AreParameters rules.rows offered → AreParameters rules.rows own
    → AgreedByLevel rules.rows by offered own found → IsValueIfGiven (row_at rules.rows by.level) found.level
level_fits rules by table offered own found of_offered of_own agreed =
    let theirs = value_of_row rules.rows offered.values by.level of_offered.values (omega (arith, table.long, table.in_level)) in
    let ours = value_of_row rules.rows own.values by.level of_own.values (omega (arith, table.long, table.in_level)) in
    subst (IsValueIfGiven (row_at rules.rows by.level)) (sym (ap (λ (t : Terms). t.level) agreed.is))
    (choice_kept (row_at rules.rows by.level) (nat_lt agreed.b.level agreed.a.level) (value_at own.values by.level) (value_at offered.values by.level) ours theirs)

highest_fits : (rules : Rules) (by : LevelRows) → Describes rules by → (offered own : FormatParameters) (found : Terms) → AreParameters rules.rows offered → AreParameters rules.rows own
    → IsValueIfGiven (row_at rules.rows by.highest) (row_at rules.rows by.level).default
    → AgreedByLevel rules.rows by offered own found → IsValueIfGiven (row_at rules.rows by.highest) found.highest
highest_fits rules by table offered own found of_offered of_own of_default agreed =
    let a = agreed.a in
    let b = agreed.b in
    let row = row_at rules.rows by.highest in
    let ours = highest_kept rules by table own b of_own of_default in
    let theirs = highest_kept rules by table offered a of_offered of_default in
    let inner = cond (nat_lt b.highest a.highest) (highest_value rules.rows by own b) (highest_value rules.rows by offered a) in
    subst (IsValueIfGiven row) (sym (ap (λ (t : Terms). t.highest) agreed.is))
    (choice_kept row (nat_lt (min a.level b.level) (min a.highest b.highest)) inner None
    (choice_kept row (nat_lt b.highest a.highest) (highest_value rules.rows by own b) (highest_value rules.rows by offered a) ours theirs) tt)

pub h265_kept : (which : AnswerRules) (offered own answer : FormatParameters) → AreParameters (h265.rules which).rows offered → AreParameters (h265.rules which).rows own → answer_by (h265.rules which) offered own ≡ Some answer → AreParameters (h265.rules which).rows answer
h265_kept which offered own answer of_offered of_own h =
    let (found, common, is) = answer_parts (h265.rules which) offered own answer (common_terms (h265.rules which) offered own) h in
    let terms = (h265_parts which offered own found (common_parts (h265.rules which) offered own found common).1).1 in
    let agreed = agreed_by_level (h265.rules which).rows h265.by offered own found terms in
    let low : IsValueIfGiven (row_at (h265.rules which).rows 3) found.level = level_fits (h265.rules which) h265.by (h265_describes which) offered own found of_offered of_own agreed in
    let high : IsValueIfGiven (row_at (h265.rules which).rows 8) found.highest =
    highest_fits (h265.rules which) h265.by (h265_describes which) offered own found of_offered of_own
    (record { fits = refl; trimmed = record { start = refl; end = refl }; one_part = refl }) agreed in
    subst (AreParameters (h265.rules which).rows) (sym is) (answer_kept (h265.rules which) offered own found refl
    (tt, (tt, (tt, (low, (tt, (tt, (tt, (tt, (high, (tt, (tt, (tt, (tt, (tt, (tt, (tt, (tt, (tt, (tt, (tt, (tt, (tt, (tt, (tt, (tt, (tt, (tt, (tt, (tt, (tt, tt)))))))))))))))))))))))))))))) of_offered of_own)

pub h266_kept : (offered own answer : FormatParameters) → AreParameters h266.rules.rows offered → AreParameters h266.rules.rows own → answer_by h266.rules offered own ≡ Some answer → AreParameters h266.rules.rows answer
h266_kept offered own answer of_offered of_own h =
    let (found, common, is) = answer_parts h266.rules offered own answer (common_terms h266.rules offered own) h in
    let terms = (h266_parts offered own found (common_parts h266.rules offered own found common).1).1 in
    let agreed = agreed_by_level h266.rules.rows h266.by offered own found terms in
    let low : IsValueIfGiven (row_at h266.rules.rows 4) found.level = level_fits h266.rules h266.by h266_describes offered own found of_offered of_own agreed in
    let high : IsValueIfGiven (row_at h266.rules.rows 9) found.highest =
    highest_fits h266.rules h266.by h266_describes offered own found of_offered of_own
    (record { fits = refl; trimmed = record { start = refl; end = refl }; one_part = refl }) agreed in
    subst (AreParameters h266.rules.rows) (sym is) (answer_kept h266.rules offered own found refl
    (tt, (tt, (tt, (tt, (low, (tt, (tt, (tt, (tt, (high, (tt, (tt, (tt, (tt, (tt, (tt, (tt, (tt, (tt, (tt, tt)))))))))))))))))))) of_offered of_own)

-- ---- an answer is answered with itself

-- by terms that are the same
again_of : (rules : Rules) (offered own : FormatParameters) (found twice : Terms) → length rules.roles ≡ length rules.rows → AreParameters rules.rows offered → AreParameters rules.rows own
    → are_symmetric rules.roles rules.rows offered.values own.values ≡ true → rules.terms (answered rules offered own found) own ≡ Some twice
    → SameTerms twice found → (twice.sets ≡ found.sets) × (twice.level_sets ≡ found.level_sets)
    → IsAnsweredAgain rules (λ _. false) own (answered rules offered own found)
again_of rules offered own found twice long of_offered of_own symmetric is same sets =
    let answer = answered rules offered own found in
    let lo : length offered.values ≡ length rules.roles = long_values rules.rows offered.values of_offered.values ∙ sym long in
    let lu : length own.values ≡ length rules.roles = long_values rules.rows own.values of_own.values ∙ sym long in
    let still = symmetric_again found rules.roles rules.rows offered.values own.values symmetric in
    record {
      twice = answered rules answer own twice;
      is = ap (λ t. option_map (answered rules answer own) (cond t (rules.terms answer own) None)) still ∙ ap (option_map (answered rules answer own)) is;
      same = λ k within other. row_again twice found rules.roles offered.values own.values k lo lu (omega (arith, long, within)) same (λ _. sets);
      others = refl;
    }

-- whose profile, constraints and flags are the same agrees with the same formats
agree_again : (which : AnswerRules) (x y own : FormatParameters) → value_at x.values 1 ≡ value_at y.values 1 → value_at x.values 4 ≡ value_at y.values 4 → value_at x.values 5 ≡ value_at y.values 5
    → h265.agree which y own ≡ true → h265.agree which x own ≡ true
agree_again Webrtc x y own profile constraints indicator h = refl
agree_again Rfc x y own profile constraints indicator h =
    let rows = (h265.rules Rfc).rows in
    let same : h265.compatible_profiles x ≡ h265.compatible_profiles y =
    ap (λ v. h265.flags_or_profile (option_and_then (number_of (row_at rows 1).kind) (option_or v (row_at rows 1).default)) (value_at x.values 5)) profile
    ∙ ap (λ v. h265.flags_or_profile (number_or_default rows y 1) v) indicator in
    ap (λ v. same_if_given (Hexadecimal 6) (option_or v (row_at rows 4).default) (value_or_default rows own 4) && same_number (h265.compatible_profiles x) (h265.compatible_profiles own)) constraints
    ∙ ap (λ n. h265.same_constraints y own && same_number n (h265.compatible_profiles own)) same ∙ h

pub h265_again : (which : AnswerRules) (offered own answer : FormatParameters) → AreParameters (h265.rules which).rows offered → AreParameters (h265.rules which).rows own → can_hold (h265.rules which).rows h265.by own own ≡ true
    → answer_by (h265.rules which) offered own ≡ Some answer → IsAnsweredAgain (h265.rules which) (λ _. false) own answer
h265_again which offered own answer of_offered of_own holds_own h =
    let (found, common, is) = answer_parts (h265.rules which) offered own answer (common_terms (h265.rules which) offered own) h in
    let parts = common_parts (h265.rules which) offered own found common in
    let flags = h265_parts which offered own found parts.1 in
    let agreed = agreed_by_level (h265.rules which).rows h265.by offered own found flags.1 in
    let it = answered (h265.rules which) offered own found in
    let more = terms_again (h265.rules which) h265.by (h265_describes which) offered own found of_offered of_own agreed holds_own in
    let at_profile : 1 < 30 = omega arith in
    let at_constraints : 4 < 30 = omega arith in
    let at_indicator : 5 < 30 = omega arith in
    let profile = row_of_answer (h265.rules which) offered own found 1 role.Configuration refl of_offered of_own at_profile refl in
    let constraints = row_of_answer (h265.rules which) offered own found 4 role.Compared refl of_offered of_own at_constraints refl in
    let indicator = row_of_answer (h265.rules which) offered own found 5 role.Compared refl of_offered of_own at_indicator refl in
    let through : h265.terms which it own ≡ Some more.twice =
    ap (λ t. cond t (terms_by_level (h265.rules which).rows h265.by it own) None) (agree_again which it offered own profile constraints indicator flags.0) ∙ more.is in
    subst (IsAnsweredAgain (h265.rules which) (λ _. false) own) (sym is)
    (again_of (h265.rules which) offered own found more.twice refl of_offered of_own parts.0 through more.same (more.sets, more.level_sets))

-- sets are the same as themselves
sets_themselves : (value : Option (List ℕ)) → same_if_given (Units h266_vps) value value ≡ true
sets_themselves None = refl
sets_themselves (Some value) = by_test (pointwise nat_eq value value) (λ same. same) (λ other. absurd (other_text value value (sym other) refl))

or_true : (p q : Bool) → q ≡ true → (p || q) ≡ true
or_true true q h = refl
or_true false q h = h

pub h266_again : (offered own answer : FormatParameters) → AreParameters h266.rules.rows offered → AreParameters h266.rules.rows own → can_hold h266.rules.rows h266.by own own ≡ true
    → answer_by h266.rules offered own ≡ Some answer → IsAnsweredAgain h266.rules (λ _. false) own answer
h266_again offered own answer of_offered of_own holds_own h =
    let (found, common, is) = answer_parts h266.rules offered own answer (common_terms h266.rules offered own) h in
    let parts = common_parts h266.rules offered own found common in
    let terms = h266_parts offered own found parts.1 in
    let agreed = agreed_by_level h266.rules.rows h266.by offered own found terms.1 in
    let it = answered h266.rules offered own found in
    let more = terms_again h266.rules h266.by h266_describes offered own found of_offered of_own agreed holds_own in
    let at_vps : 11 < 20 = omega arith in
    let vps = row_of_answer h266.rules offered own found 11 role.Sets refl of_offered of_own at_vps refl in
    let same : same_if_given (Units h266_vps) (h266.vps_of it) (only_if more.twice.sets (h266.vps_of own)) ≡ true =
    ap (λ v. same_if_given (Units h266_vps) v (only_if more.twice.sets (h266.vps_of own))) vps
    ∙ ap (λ t. same_if_given (Units h266_vps) (only_if found.sets (h266.vps_of own)) (only_if t (h266.vps_of own))) more.sets
    ∙ sets_themselves (only_if found.sets (h266.vps_of own)) in
    let keeps : h266.keeps_vps it own more.twice ≡ true =
    or_true (not (h266.has_layers it)) (same_if_given (Units h266_vps) (h266.vps_of it) (only_if more.twice.sets (h266.vps_of own))) same in
    let through : h266.terms it own ≡ Some more.twice =
    ap (option_and_then (h266.if_keeps_vps it own)) more.is ∙ ap (λ t. cond t (Some more.twice) None) keeps in
    subst (IsAnsweredAgain h266.rules (λ _. false) own) (sym is)
    (again_of h266.rules offered own found more.twice refl of_offered of_own parts.0 through more.same (more.sets, more.level_sets))
