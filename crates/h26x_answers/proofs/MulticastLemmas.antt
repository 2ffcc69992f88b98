-- Answers of multicast keep the level.
use Rattle.std.proofs.Common.{◌≡◌, ℕ, true, false, ◌&&◌, cond, List, Option, Some, None, refl, sym, ap, ◌∙◌, arith}
use Rattle.std.specs.Prelude.{◌==◌, nat_lt, nat_le}
use Rattle.std.specs.Option.{option_map}
use Rattle.std.proofs.lemmas.Bool.{and_parts}
use Rattle.std.proofs.lemmas.Bool.Decides.{nat_tests}
use Rattle.h26x_answers.specs.declared.answer.Role.TheVariants as role
use Rattle.h26x_answers.specs.declared.answer.AnswerRules.{AnswerRules}
use Rattle.h26x_answers.specs.declared.answer.h264.ProfileLevelId.{ProfileLevelId}
use Rattle.h26x_answers.specs.declared.answer.by_level.Levels.{Levels}
use Rattle.h26x_fmtp.specs.Tables.{ParameterRow}
use Rattle.h26x_fmtp.specs.Parameters.{AreParameters}
use Rattle.h26x_fmtp.specs.Reading.{FormatParameters, value_at}
use Rattle.h26x_answers.specs.Answers.{Terms, Rules, answered, answer_by, common_terms}
use Rattle.h26x_answers.specs.AnswersByLevel.{LevelRows, levels_of, lower_level, keeps_levels, keeps_level, terms_by_level}
use Rattle.h26x_answers.specs.AnswersH264 as h264
use Rattle.h26x_answers.specs.AnswersH265 as h265
use Rattle.h26x_answers.specs.AnswersH266 as h266
use Rattle.h26x_answers.specs.Multicast.{h264_in_multicast, h265_in_multicast, h266_in_multicast, KeepsLevel, IsOfUnicast}
use Rattle.h26x_answers.proofs.AnswersLemmas.{answer_parts}
use Rattle.h26x_answers.proofs.ByLevelLemmas.{Describes, agreed_by_level, row_of_answer}
use Rattle.h26x_answers.proofs.TieredLemmas.{let_through, common_parts, h265_parts, h266_parts, h265_describes, h266_describes}

-- ---- H.264

same_number : (n : ℕ) → (n == n) ≡ true
same_number n = grind (arith, nat_tests)

own_id : (offered : FormatParameters) (a : ProfileLevelId) → h264.answer_id offered a a ≡ value_at offered.values 0
own_id offered a =
    ap (λ t. cond t (value_at offered.values 0) (Some (h264.profile_level_id_text (h264.at_level_of a a)))) (same_number (h264.level_rank a))

h264_level : (by : AnswerRules) (offered own : FormatParameters) (found : Terms) (x y : Option ProfileLevelId) → h264.multicast_terms_of_ids by offered own x y ≡ Some found
    → found.level ≡ value_at offered.values 0
h264_level by offered own found None y h = cc h
h264_level by offered own found (Some a) None h = cc h
h264_level by offered own found (Some a) (Some b) h =
    let parts = let_through (nat_le (h264.level_rank a) (h264.level_rank b) && (h264.takes_profile by a b && h264.can_order offered own)) (Some (h264.terms_at offered false a b a)) found h in
    let e : h264.terms_at offered false a b a ≡ found = cc parts.1 in
    sym (ap (λ (t : Terms). t.level) e) ∙ own_id offered a

pub h264_kept_level : (by : AnswerRules) (offered own answer : FormatParameters) → AreParameters (h264_in_multicast by).rows offered → AreParameters (h264_in_multicast by).rows own
    → answer_by (h264_in_multicast by) offered own ≡ Some answer → KeepsLevel 0 offered answer
h264_kept_level by offered own answer of_offered of_own h =
    let all = h264_in_multicast by in
    let (found, common, is) = answer_parts all offered own answer (common_terms all offered own) h in
    let terms = (common_parts all offered own found common).1 in
    ap (λ (it : FormatParameters). value_at it.values 0) is
    ∙ row_of_answer all offered own found 0 role.Level refl of_offered of_own (omega arith) refl
    ∙ h264_level by offered own found (h264.id_of by offered) (h264.id_of by own) terms

not_under : (a b : ℕ) → nat_le a b ≡ true → nat_lt b a ≡ false
not_under a b h = grind (arith, nat_tests, h)

h264_same : (by : AnswerRules) (offered own : FormatParameters) (found : Terms) (x y : Option ProfileLevelId) → h264.both_asymmetric offered own ≡ false
    → h264.multicast_terms_of_ids by offered own x y ≡ Some found → h264.terms_of_ids by offered own x y ≡ Some found
h264_same by offered own found None y never h = cc h
h264_same by offered own found (Some a) None never h = cc h
h264_same by offered own found (Some a) (Some b) never h =
    let keeps = nat_le (h264.level_rank a) (h264.level_rank b) in
    let rest = h264.takes_profile by a b && h264.can_order offered own in
    let both = h264.both_asymmetric offered own in
    let parts = let_through (keeps && rest) (Some (h264.terms_at offered false a b a)) found h in
    let tests = and_parts keeps rest parts.0 in
    ap (λ t. cond t (Some (h264.terms_at offered both a b (h264.answer_level both a b))) None) tests.1
    ∙ ap (λ t. Some (h264.terms_at offered t a b (h264.answer_level t a b))) never
    ∙ ap (λ t. Some (h264.terms_at offered false a b (cond t b a))) (not_under (h264.level_rank a) (h264.level_rank b) tests.0)
    ∙ parts.1

-- common terms that are those of unicast make the same answer
as_unicast : (all : Rules) (multicast : FormatParameters → FormatParameters → Option Terms) (offered own answer : FormatParameters)
    → ((found : Terms) → multicast offered own ≡ Some found → all.terms offered own ≡ Some found)
    → answer_by (record all { terms = multicast }) offered own ≡ Some answer → IsOfUnicast all offered own answer
as_unicast all multicast offered own answer same h =
    let rules : Rules = record all { terms = multicast } in
    let (found, common, is) = answer_parts rules offered own answer (common_terms rules offered own) h in
    let parts = common_parts rules offered own found common in
    ap (λ t. option_map (answered all offered own) (cond t (all.terms offered own) None)) parts.0
    ∙ ap (option_map (answered all offered own)) (same found parts.1)
    ∙ ap Some (sym is)

pub h264_of_unicast : (by : AnswerRules) (offered own answer : FormatParameters) → AreParameters (h264_in_multicast by).rows offered → AreParameters (h264_in_multicast by).rows own
    → answer_by (h264_in_multicast by) offered own ≡ Some answer → h264.both_asymmetric offered own ≡ false → IsOfUnicast (h264.rules by) offered own answer
h264_of_unicast by offered own answer of_offered of_own h never =
    as_unicast (h264.rules by) (h264.multicast_terms by) offered own answer
    (λ found is. h264_same by offered own found (h264.id_of by offered) (h264.id_of by own) never is) h

-- ---- levels that are numbers

kept_levels : (rows : List ParameterRow) (by : LevelRows) (offered own : FormatParameters) (x y : Option Levels) (a b : Levels) → x ≡ Some a → y ≡ Some b → keeps_levels x y ≡ true
    → lower_level by offered own a b ≡ value_at offered.values by.level
kept_levels rows by offered own (Some p) (Some q) a b ex ey h =
    let low : keeps_levels (Some a) (Some b) ≡ true = sym (ap (λ t. keeps_levels t (Some q)) ex ∙ ap (keeps_levels (Some a)) ey) ∙ h in
    ap (λ t. cond t (value_at own.values by.level) (value_at offered.values by.level)) (not_under a.level b.level low)
kept_levels rows by offered own (Some p) None a b ex ey h = cc ey
kept_levels rows by offered own None y a b ex ey h = cc ex

kept_by_level : (all : Rules) (by : LevelRows) → Describes all by → (offered own answer : FormatParameters) (found : Terms) → AreParameters all.rows offered → AreParameters all.rows own
    → answer ≡ answered all offered own found → terms_by_level all.rows by offered own ≡ Some found → keeps_level all.rows by offered own ≡ true → KeepsLevel by.level offered answer
kept_by_level all by table offered own answer found of_offered of_own is terms keeps =
    let agreed = agreed_by_level all.rows by offered own found terms in
    ap (λ (it : FormatParameters). value_at it.values by.level) is
    ∙ row_of_answer all offered own found by.level role.Level table.long of_offered of_own table.in_level table.level
    ∙ ap (λ (t : Terms). t.level) agreed.is
    ∙ kept_levels all.rows by offered own (levels_of all.rows by offered) (levels_of all.rows by own) agreed.a agreed.b agreed.offer_says agreed.own_says keeps

pub h265_kept_level : (by : AnswerRules) (offered own answer : FormatParameters) → AreParameters (h265_in_multicast by).rows offered → AreParameters (h265_in_multicast by).rows own
    → answer_by (h265_in_multicast by) offered own ≡ Some answer → KeepsLevel h265.by.level offered answer
h265_kept_level by offered own answer of_offered of_own h =
    let all = h265_in_multicast by in
    let (found, common, is) = answer_parts all offered own answer (common_terms all offered own) h in
    let kept = let_through (keeps_level all.rows h265.by offered own) (h265.terms by offered own) found (common_parts all offered own found common).1 in
    kept_by_level (h265.rules by) h265.by (h265_describes by) offered own answer found of_offered of_own is (h265_parts by offered own found kept.1).1 kept.0

pub h265_of_unicast : (by : AnswerRules) (offered own answer : FormatParameters) → AreParameters (h265_in_multicast by).rows offered → AreParameters (h265_in_multicast by).rows own
    → answer_by (h265_in_multicast by) offered own ≡ Some answer → IsOfUnicast (h265.rules by) offered own answer
h265_of_unicast by offered own answer of_offered of_own h =
    as_unicast (h265.rules by) (h265.multicast_terms by) offered own answer
    (λ found is. (let_through (keeps_level (h265.rules by).rows h265.by offered own) (h265.terms by offered own) found is).1) h

pub h266_kept_level : (offered own answer : FormatParameters) → AreParameters h266_in_multicast.rows offered → AreParameters h266_in_multicast.rows own
    → answer_by h266_in_multicast offered own ≡ Some answer → KeepsLevel h266.by.level offered answer
h266_kept_level offered own answer of_offered of_own h =
    let (found, common, is) = answer_parts h266_in_multicast offered own answer (common_terms h266_in_multicast offered own) h in
    let kept = let_through (keeps_level h266.rules.rows h266.by offered own) (h266.terms offered own) found (common_parts h266_in_multicast offered own found common).1 in
    kept_by_level h266.rules h266.by h266_describes offered own answer found of_offered of_own is (h266_parts offered own found kept.1).1 kept.0

pub h266_of_unicast : (offered own answer : FormatParameters) → AreParameters h266_in_multicast.rows offered → AreParameters h266_in_multicast.rows own
    → answer_by h266_in_multicast offered own ≡ Some answer → IsOfUnicast h266.rules offered own answer
h266_of_unicast offered own answer of_offered of_own h =
    as_unicast h266.rules h266.multicast_terms offered own answer
    (λ found is. (let_through (keeps_level h266.rules.rows h266.by offered own) (h266.terms offered own) found is).1) h
