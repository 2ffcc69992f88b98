-- Answers of H.264 are parameters of H.264, and are answered again.
use Rattle.std.proofs.Common.{◌≡◌, ℕ, ◌<◌, ◌≤◌, true, false, not, ◌&&◌, cond, List, [], ◌∷◌, length, get_or, drop, Option, Some, None, refl, sym, ap, subst, ◌∙◌, arith, Bool}
use Rattle.std.specs.Prelude.{◌==◌, ◌||◌, nat_lt, ◌-◌}
use Rattle.std.specs.List.{list_all}
use Rattle.std.specs.Option.{option_map, option_and_then, option_or}
use Rattle.h26x_fmtp.specs.Kinds.{number_of}
use Rattle.std.specs.Char.{digit_value, is_ascii_whitespace}
use Rattle.std.proofs.lemmas.Bool.{and_parts}
use Rattle.std.proofs.lemmas.Bool.Decides.{nat_tests}
use Rattle.hex.specs.Hex.{IsBytes, lower_digits}
use Rattle.hex.proofs.HexLemmas.{length-encode_with}
use Rattle.h26x_answers.specs.declared.answer.Role.TheVariants as role
use Rattle.h26x_fmtp.specs.declared.error.Fault.TheVariants.{NotHexadecimal}
use Rattle.h26x_sdp.specs.declared.h264.H264Parameter.TheVariants as p
use Rattle.h26x_answers.specs.declared.answer.AnswerRules.{AnswerRules}
use Rattle.h26x_answers.specs.declared.answer.h264.ProfileLevelId.{ProfileLevelId}
use Rattle.h26x_fmtp.specs.Tables.{ParameterRow, row_at}
use Rattle.h26x_fmtp.specs.Parameters.{is_mark, IsValue, IsValueIfGiven, AreValues, AreParameters}
use Rattle.h26x_fmtp.specs.Reading.{FormatParameters, value_at}
use Rattle.h26x_sdp.specs.H264Rows.{rows}
use Rattle.h26x_answers.specs.Answers.{Terms, only_if, same_number, answered, answered_values, are_symmetric, answer_by, common_terms}
use Rattle.h26x_answers.specs.AnsweredAgain.{IsAnsweredAgain}
use Rattle.h26x_answers.specs.AnswersH264.{roles, rules, profile_level_id_text, at_level_of, level_rank, answer_id, answer_level, both_asymmetric, id_of, is_on, is_interleaved, can_deinterleave, can_order, takes_profile, terms, terms_at, terms_of_ids}
use Rattle.h26x_answers.specs.AllowedH264.{is_sets_row}
use Rattle.h26x_fmtp.proofs.PartLemmas.{by_test}
use Rattle.h26x_answers.proofs.AnswersLemmas.{answer_parts}
use Rattle.h26x_answers.proofs.IdLemmas.{bytes_in, moved_bytes, profile_through}
use Rattle.h26x_answers.proofs.AnswersH264Lemmas.{long_values, agreed_common, id_of_bytes, level_bytes, answer_says, answer_rows, number_same, is_one, hold_to_answer, hold_of_answer, present}
use Rattle.h26x_sdp.proofs.DigitLemmas.{encoded_all}
use Rattle.h26x_fmtp.proofs.TestLemmas.{all_at, both_true, one_part_without_marks, not_true, below_at}
use Rattle.h26x_answers.proofs.KeptLemmas.{answer_kept, symmetric_again, SameTerms, is_sets, row_again}

-- the text of three bytes is a value of profile-level-id
id_value : (it : ProfileLevelId) → IsBytes (bytes_in it) → IsValue (row_at rows 0) (profile_level_id_text it)
id_value it are =
    let text = profile_level_id_text it in
    let long : length text ≡ 6 = length-encode_with lower_digits (bytes_in it) in
    let blank = encoded_all (λ c. not (is_ascii_whitespace c)) (bytes_in it) refl are in
    record {
      fits = ap (λ n. cond ((n == 6) && list_all (λ c. nat_lt (digit_value c) 16) text) None (Some NotHexadecimal)) long
          ∙ ap (λ t. cond t None (Some NotHexadecimal)) (encoded_all (λ c. nat_lt (digit_value c) 16) (bytes_in it) refl are);
      trimmed = record {
        start = not_true _ (all_at (λ c. not (is_ascii_whitespace c)) text 0 (omega (arith, long)) blank);
        end = not_true _ (all_at (λ c. not (is_ascii_whitespace c)) text (length text - 1) (omega (arith, long)) blank);
      };
      one_part = one_part_without_marks text (encoded_all (λ c. not (is_mark c)) (bytes_in it) refl are);
    }

first_value : (row : ParameterRow) (table : List ParameterRow) (values : List (Option (List ℕ))) → AreValues (row ∷ table) values → IsValueIfGiven row (value_at values 0)
first_value row table [] are = absurd are
first_value row table (v ∷ values) are = are.0

id_kept : (offered : FormatParameters) (a level : ProfileLevelId) → AreParameters rows offered → IsBytes (bytes_in a) → IsBytes (bytes_in level) → IsValueIfGiven (row_at rows 0) (answer_id offered a level)
id_kept offered a level are of_a of_level = by_test (level_rank a == level_rank level)
    (λ same. subst (λ t. IsValueIfGiven (row_at rows 0) (cond t (value_at offered.values 0) (Some (profile_level_id_text (at_level_of a level))))) (sym same)
    (first_value (row_at rows 0) (drop 1 rows) offered.values are.values))
    (λ other. subst (λ t. IsValueIfGiven (row_at rows 0) (cond t (value_at offered.values 0) (Some (profile_level_id_text (at_level_of a level))))) (sym other)
    (id_value (at_level_of a level) (moved_bytes a level of_a of_level)))

-- an answer is parameters
pub answers_kept : (by : AnswerRules) (offered own answer : FormatParameters) → AreParameters rows offered → AreParameters rows own → answer_by (rules by) offered own ≡ Some answer → AreParameters rows answer
answers_kept by offered own answer of_offered of_own h =
    let (found, common, is) = answer_parts (rules by) offered own answer (common_terms (rules by) offered own) h in
    let agreed = agreed_common by offered own found common in
    let of_a = id_of_bytes by offered agreed.a agreed.offer_says in
    let of_b = id_of_bytes by own agreed.b agreed.own_says in
    let asymmetric = both_asymmetric offered own in
    let level = answer_level asymmetric agreed.a agreed.b in
    let fits : IsValueIfGiven (row_at rows 0) found.level =
    subst (IsValueIfGiven (row_at rows 0)) (sym (ap (λ (t : Terms). t.level) agreed.is)) (id_kept offered agreed.a level of_offered of_a (level_bytes asymmetric agreed.a agreed.b of_a of_b)) in
    subst (AreParameters rows) (sym is) (answer_kept (rules by) offered own found refl
    (fits, (tt, (tt, (tt, (tt, (tt, (tt, (tt, (tt, (tt, (tt, (tt, (tt, (tt, (tt, (tt, (tt, (tt, (tt, (tt, (tt, (tt, (tt, tt))))))))))))))))))))))) of_offered of_own)

-- ---- an answer is answered with itself

level_low : (a b : ProfileLevelId) → level_rank (answer_level false a b) ≤ level_rank b
level_low a b = by_test (nat_lt (level_rank b) (level_rank a))
    (λ less.
    let e : level_rank (answer_level false a b) ≡ level_rank b = ap (λ t. level_rank (cond t b a)) less in
    omega (arith, e))
    (λ other.
    let e : level_rank (answer_level false a b) ≡ level_rank a = ap (λ t. level_rank (cond t b a)) other in
    let small : level_rank a ≤ level_rank b = grind (arith, nat_tests, other) in
    omega (arith, e, small))

level_again : (asymmetric : Bool) (a b x : ProfileLevelId) → level_rank x ≡ level_rank (answer_level asymmetric a b) → level_rank x ≡ level_rank (answer_level asymmetric x b)
level_again true a b x same = same
level_again false a b x same = by_test (nat_lt (level_rank b) (level_rank x))
    (λ less.
    let low = level_low a b in
    let high : level_rank b < level_rank x = grind (arith, nat_tests, less) in
    absurd (omega (arith, low, high, same)))
    (λ other. sym (ap (λ t. level_rank (cond t b x)) other))

eq_true : (a b : ℕ) → a ≡ b → (a == b) ≡ true
eq_true a b e = grind (arith, nat_tests, e)

-- the answer's flag of asymmetry and ours
asymmetric_again : (offered own answer : FormatParameters) → value_at answer.values 13 ≡ only_if (both_asymmetric offered own) (value_at own.values 13)
    → both_asymmetric answer own ≡ both_asymmetric offered own
asymmetric_again offered own answer here = by_test (both_asymmetric offered own)
    (λ both.
    let same : value_at answer.values 13 ≡ value_at own.values 13 = here ∙ ap (λ t. only_if t (value_at own.values 13)) both in
    let set = (and_parts (is_on offered p.LevelAsymmetryAllowed) (is_on own p.LevelAsymmetryAllowed) both).1 in
    ap (λ n. is_one n && is_on own p.LevelAsymmetryAllowed) (number_same answer own p.LevelAsymmetryAllowed same)
    ∙ both_true (is_on own p.LevelAsymmetryAllowed) (is_on own p.LevelAsymmetryAllowed) set set ∙ sym both)
    (λ not_both.
    let none : value_at answer.values 13 ≡ None = here ∙ ap (λ t. only_if t (value_at own.values 13)) not_both in
    ap (λ v. is_one (option_and_then (number_of (row_at rows 13).kind) (option_or v (row_at rows 13).default)) && is_on own p.LevelAsymmetryAllowed) none
    ∙ sym not_both)

-- what is answered can be put in order again
order_again : (own answer : FormatParameters) → (is_interleaved answer ≡ true → (can_deinterleave answer own ≡ true) × (can_deinterleave own answer ≡ true)) → can_order answer own ≡ true
order_again own answer holds_both = by_test (is_interleaved answer)
    (λ passes.
    let both = holds_both passes in
    ap (λ t. not t || (can_deinterleave answer own && can_deinterleave own answer)) passes
    ∙ both_true (can_deinterleave answer own) (can_deinterleave own answer) both.0 both.1)
    (λ fails. ap (λ t. not t || (can_deinterleave answer own && can_deinterleave own answer)) fails)

common_of : (by : AnswerRules) (offered own : FormatParameters) (a b : ProfileLevelId) → are_symmetric roles rows offered.values own.values ≡ true → id_of by offered ≡ Some a → id_of by own ≡ Some b
    → takes_profile by a b ≡ true → can_order offered own ≡ true
    → common_terms (rules by) offered own ≡ Some (terms_at offered (both_asymmetric offered own) a b (answer_level (both_asymmetric offered own) a b))
common_of by offered own a b symmetric of_a of_b profile order =
    ap (λ t. cond t (terms by offered own) None) symmetric
    ∙ ap (λ x. terms_of_ids by offered own x (id_of by own)) of_a
    ∙ ap (λ y. terms_of_ids by offered own (Some a) y) of_b
    ∙ ap (λ t. cond t (Some (terms_at offered (both_asymmetric offered own) a b (answer_level (both_asymmetric offered own) a b))) None)
    (both_true (takes_profile by a b) (can_order offered own) profile order)

symmetric_of : (by : AnswerRules) (offered own : FormatParameters) (found : Terms) → common_terms (rules by) offered own ≡ Some found → are_symmetric roles rows offered.values own.values ≡ true
symmetric_of by offered own found h = by_test (are_symmetric roles rows offered.values own.values)
    (λ same. same)
    (λ other.
    let e : None ≡ Some found = sym (ap (λ t. cond t (terms by offered own) None) other) ∙ h in
    cc e)

-- no row but those of parameter sets has their role
free_of_sets : (k : ℕ) → k < 23 → is_sets_row k ≡ false → is_sets (get_or roles k role.Own) ≡ true → ⊥
free_of_sets k within other is =
    let passes = below_at (λ n. not (is_sets (get_or roles n role.Own)) || is_sets_row n) 23 k refl within in
    let e : (not true || false) ≡ true = sym (ap (λ t. not t || is_sets_row k) is ∙ ap (λ t. not true || t) other) ∙ passes in
    cc e

pub again : (by : AnswerRules) (offered own answer : FormatParameters) → AreParameters rows offered → AreParameters rows own → (is_interleaved answer ≡ true → can_deinterleave own own ≡ true)
    → answer_by (rules by) offered own ≡ Some answer → IsAnsweredAgain (rules by) is_sets_row own answer
again by offered own answer of_offered of_own holds_own h =
    let (found, common, is) = answer_parts (rules by) offered own answer (common_terms (rules by) offered own) h in
    let agreed = agreed_common by offered own found common in
    let at = answer_rows by offered own answer found of_offered of_own is in
    let a = agreed.a in
    let b = agreed.b in
    let asymmetric = both_asymmetric offered own in
    let level = answer_level asymmetric a b in
    let of_a = id_of_bytes by offered a agreed.offer_says in
    let of_b = id_of_bytes by own b agreed.own_says in
    let says = answer_says by offered answer a level agreed.offer_says of_a (level_bytes asymmetric a b of_a of_b)
    (at.id ∙ ap (λ (t : Terms). t.level) agreed.is) in
    let x = says.id in
    let both = asymmetric_again offered own answer (at.asymmetry ∙ ap (λ (t : Terms). only_if t.asymmetric (value_at own.values 13)) agreed.is) in
    let interleaved : is_interleaved answer ≡ is_interleaved offered = ap (λ n. same_number n (Some 2)) (number_same answer offered p.PacketizationMode at.mode) in
    let reorders : found.reorders ≡ is_interleaved offered = ap (λ (t : Terms). t.reorders) agreed.is in
    let lo : length offered.values ≡ length roles = long_values rows offered.values of_offered.values in
    let lu : length own.values ≡ length roles = long_values rows own.values of_own.values in
    let values : answer.values ≡ answered_values found roles offered.values own.values = ap (λ (it : FormatParameters). it.values) is in
    let symmetric : are_symmetric roles rows answer.values own.values ≡ true =
    ap (λ vs. are_symmetric roles rows vs own.values) values ∙ symmetric_again found roles rows offered.values own.values (symmetric_of by offered own found common) in
    let order = order_again own answer (λ passes.
    let there : found.reorders ≡ true = reorders ∙ sym interleaved ∙ passes in (
      hold_of_answer own own answer
          (present found.reorders (value_at answer.values 15) (value_at own.values 15) at.depth there)
          (present found.reorders (value_at answer.values 16) (value_at own.values 16) at.need there) ∙ holds_own passes,
      hold_to_answer own own answer at.room ∙ holds_own passes,
    )) in
    let twice_found = terms_at answer (both_asymmetric answer own) x b (answer_level (both_asymmetric answer own) x b) in
    let rank : level_rank x ≡ level_rank (answer_level (both_asymmetric answer own) x b) =
    level_again (both_asymmetric answer own) a b x (says.level ∙ ap (λ t. level_rank (answer_level t a b)) (sym both)) in
    let same : SameTerms twice_found found = record {
      level = ap (λ t. cond t (value_at answer.values 0) (Some (profile_level_id_text (at_level_of x (answer_level (both_asymmetric answer own) x b)))))
          (eq_true (level_rank x) (level_rank (answer_level (both_asymmetric answer own) x b)) rank) ∙ at.id;
      highest = sym (ap (λ (t : Terms). t.highest) agreed.is);
      asymmetric = both ∙ sym (ap (λ (t : Terms). t.asymmetric) agreed.is);
      reorders = interleaved ∙ sym reorders;
    } in
    record {
      twice = answered (rules by) answer own twice_found;
      is = ap (option_map (answered (rules by) answer own)) (common_of by answer own x b symmetric says.says agreed.own_says (profile_through by a x b says.profile ∙ agreed.profile) order);
      same = λ k within other.
          ap (λ vs. value_at (answered_values twice_found roles vs own.values) k) values
          ∙ row_again twice_found found roles offered.values own.values k lo lu within same (λ sets. absurd (free_of_sets k within other sets))
          ∙ sym (ap (λ vs. value_at vs k) values);
      others = sym (ap (λ (it : FormatParameters). it.others) is);
    }
