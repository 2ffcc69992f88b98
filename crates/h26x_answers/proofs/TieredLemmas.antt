-- Answers of H.265 and of H.266.
use Rattle.std.proofs.Common.{◌≡◌, ◌<◌, true, false, cond, Option, Some, None, refl, sym, subst, arith, Bool}
use Rattle.std.specs.Option.{option_and_then}
use Rattle.h26x_fmtp.specs.Parameters.{AreParameters}
use Rattle.h26x_answers.specs.declared.answer.AnswerRules.{AnswerRules}
use Rattle.h26x_fmtp.specs.Reading.{FormatParameters}
use Rattle.h26x_answers.specs.Answers.{Terms, Rules, are_symmetric, common_terms, answer_by}
use Rattle.h26x_answers.specs.AnswersByLevel.{terms_by_level}
use Rattle.h26x_answers.specs.AnswersH265 as h265
use Rattle.h26x_answers.specs.AnswersH266 as h266
use Rattle.h26x_answers.specs.AllowedByLevel.{IsAnswerByLevel}
use Rattle.h26x_answers.proofs.AnswersLemmas.{answer_parts}
use Rattle.h26x_answers.proofs.ByLevelLemmas.{Describes, agreed_by_level, allowed_by_level}

pub h265_describes : (which : AnswerRules) → Describes (h265.rules which) h265.by
h265_describes which =
    let at_level : 3 < 30 = omega arith in
    let at_highest : 8 < 30 = omega arith in
    let at_difference : 22 < 30 = omega arith in
    let at_units : 23 < 30 = omega arith in
    let at_need : 24 < 30 = omega arith in
    let at_room : 25 < 30 = omega arith in
    record {
      long = refl;
      level = refl;
      highest = refl;
      difference = refl;
      units = refl;
      need = refl;
      room = refl;
      kind = refl;
      in_level = at_level;
      in_highest = at_highest;
      in_difference = at_difference;
      in_units = at_units;
      in_need = at_need;
      in_room = at_room;
    }

pub h266_describes : Describes h266.rules h266.by
h266_describes =
    let at_level : 4 < 20 = omega arith in
    let at_highest : 9 < 20 = omega arith in
    let at_difference : 17 < 20 = omega arith in
    let at_units : 18 < 20 = omega arith in
    let at_need : 18 < 20 = omega arith in
    let at_room : 19 < 20 = omega arith in
    record {
      long = refl;
      level = refl;
      highest = refl;
      difference = refl;
      units = refl;
      need = refl;
      room = refl;
      kind = refl;
      in_level = at_level;
      in_highest = at_highest;
      in_difference = at_difference;
      in_units = at_units;
      in_need = at_need;
      in_room = at_room;
    }

-- what a test let through
pub let_through : {A : Type 0} (test : Bool) (some : Option A) (it : A) → cond test some None ≡ Some it → (test ≡ true) × (some ≡ Some it)
let_through true some it h = (refl, h)
let_through false some it h = cc h

-- common terms are of one configuration, and the codec's
pub common_parts : (rules : Rules) (offered own : FormatParameters) (found : Terms) → common_terms rules offered own ≡ Some found
    → (are_symmetric rules.roles rules.rows offered.values own.values ≡ true) × (rules.terms offered own ≡ Some found)
common_parts rules offered own found h = let_through (are_symmetric rules.roles rules.rows offered.values own.values) (rules.terms offered own) found h

pub h265_parts : (which : AnswerRules) (offered own : FormatParameters) (found : Terms) → h265.terms which offered own ≡ Some found
    → (h265.agree which offered own ≡ true) × (terms_by_level (h265.rules which).rows h265.by offered own ≡ Some found)
h265_parts which offered own found h = let_through (h265.agree which offered own) (terms_by_level (h265.rules which).rows h265.by offered own) found h

through_vps : (offered own : FormatParameters) (terms : Option Terms) (found : Terms) → option_and_then (h266.if_keeps_vps offered own) terms ≡ Some found
    → (h266.keeps_vps offered own found ≡ true) × (terms ≡ Some found)
through_vps offered own None found h = cc h
through_vps offered own (Some t) found h =
    let parts = let_through (h266.keeps_vps offered own t) (Some t) found h in
    let same : t ≡ found = cc parts.1 in
    (subst (λ x. h266.keeps_vps offered own x ≡ true) same parts.0, parts.1)

pub h266_parts : (offered own : FormatParameters) (found : Terms) → h266.terms offered own ≡ Some found
    → (h266.keeps_vps offered own found ≡ true) × (terms_by_level h266.rules.rows h266.by offered own ≡ Some found)
h266_parts offered own found h = through_vps offered own (terms_by_level h266.rules.rows h266.by offered own) found h

pub h265_allowed : (which : AnswerRules) (offered own answer : FormatParameters) → AreParameters (h265.rules which).rows offered → AreParameters (h265.rules which).rows own → answer_by (h265.rules which) offered own ≡ Some answer
    → IsAnswerByLevel (h265.rules which) h265.by offered answer
h265_allowed which offered own answer of_offered of_own h =
    let (found, common, is) = answer_parts (h265.rules which) offered own answer (common_terms (h265.rules which) offered own) h in
    let terms = (h265_parts which offered own found (common_parts (h265.rules which) offered own found common).1).1 in
    subst (IsAnswerByLevel (h265.rules which) h265.by offered) (sym is)
    (allowed_by_level (h265.rules which) h265.by (h265_describes which) offered own found of_offered of_own (agreed_by_level (h265.rules which).rows h265.by offered own found terms))

pub h266_allowed : (offered own answer : FormatParameters) → AreParameters h266.rules.rows offered → AreParameters h266.rules.rows own → answer_by h266.rules offered own ≡ Some answer
    → IsAnswerByLevel h266.rules h266.by offered answer
h266_allowed offered own answer of_offered of_own h =
    let (found, common, is) = answer_parts h266.rules offered own answer (common_terms h266.rules offered own) h in
    let terms = (h266_parts offered own found (common_parts h266.rules offered own found common).1).1 in
    subst (IsAnswerByLevel h266.rules h266.by offered) (sym is)
    (allowed_by_level h266.rules h266.by h266_describes offered own found of_offered of_own (agreed_by_level h266.rules.rows h266.by offered own found terms))
