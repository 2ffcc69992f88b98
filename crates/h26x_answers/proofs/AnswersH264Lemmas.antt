-- Answers of H.264 are those that the RFC allows.
use Rattle.std.proofs.Common.{◌≡◌, ℕ, ◌<◌, ◌≤◌, true, false, not, ◌&&◌, cond, List, [], ◌∷◌, length, Option, Some, None, ◌⊎◌, inl, inr, refl, sym, ap, subst, ◌∙◌, arith, Bool}
use Rattle.std.specs.Prelude.{◌==◌, ◌||◌, nat_lt, min, is_some}
use Rattle.std.specs.Option.{option_and_then, option_or}
use Rattle.std.proofs.lemmas.Bool.{and_parts, eqb-true}
use Rattle.std.proofs.lemmas.Bool.Decides.{nat_tests}
use Rattle.hex.specs.Hex.{IsBytes}
use Rattle.h26x_sdp.specs.declared.h264.H264Parameter.{H264Parameter}
use Rattle.h26x_sdp.specs.declared.h264.H264Parameter.TheVariants as p
use Rattle.h26x_answers.specs.declared.answer.AnswerRules.{AnswerRules}
use Rattle.h26x_answers.specs.declared.answer.h264.ProfileLevelId.{ProfileLevelId}
use Rattle.h26x_fmtp.specs.Kinds.{number_of}
use Rattle.h26x_fmtp.specs.Tables.{ParameterRow, row_at}
use Rattle.h26x_fmtp.specs.Parameters.{AreValues, AreParameters}
use Rattle.h26x_fmtp.specs.Reading.{FormatParameters, value_at}
use Rattle.h26x_sdp.specs.H264Rows.{rows, row_place}
use Rattle.h26x_answers.specs.Answers.{Terms, only_if, answered_values, answered, are_symmetric, common_terms, answer_by, same_number, holds}
use Rattle.h26x_answers.specs.AnswersH264.{roles, rules, number, is_on, unsaid_id, id_of, profile_level_id_of, profile_level_id_text, at_level_of, level_rank, same_profile, takes_profile, highest_of, highest_rank, is_interleaved, can_deinterleave, can_order, both_asymmetric, answer_level, answer_id, rank_back, may_tell_sets, with_level_sets, terms_at, terms_of_ids, terms}
use Rattle.h26x_answers.specs.AllowedH264.{IsSameProfile, IsH264Answer, MaySend, rank_to_use}
use Rattle.h26x_fmtp.proofs.PartLemmas.{by_test}
use Rattle.h26x_answers.proofs.AnswersLemmas.{answered_at, answer_parts}
use Rattle.h26x_answers.proofs.IdLemmas.{bytes_in, id_bytes, id_read, profile_kept, level_moved, moved_bytes}

-- as many values as rows
pub long_values : (table : List ParameterRow) (values : List (Option (List ℕ))) → AreValues table values → length values ≡ length table
long_values [] [] are = refl
long_values [] (v ∷ values) are = absurd are
long_values (r ∷ table) [] are = absurd are
long_values (r ∷ table) (v ∷ values) are = let e = long_values table values are.1 in omega (arith, e)

-- two formats, their profiles and levels, and what they agree on
pub record Agreed (by : AnswerRules) (offered own : FormatParameters) (found : Terms) : Type 0 where
  pub a : ProfileLevelId
  pub b : ProfileLevelId
  pub offer_says : id_of by offered ≡ Some a
  pub own_says : id_of by own ≡ Some b
  pub profile : takes_profile by a b ≡ true
  pub order : can_order offered own ≡ true
  pub is : found ≡ terms_at offered (both_asymmetric offered own) a b (answer_level (both_asymmetric offered own) a b)

pub agreed_ids : (by : AnswerRules) (offered own : FormatParameters) (found : Terms) (x y : Option ProfileLevelId) → id_of by offered ≡ x → id_of by own ≡ y → terms_of_ids by offered own x y ≡ Some found → Agreed by offered own found
agreed_ids by offered own found None y ex ey h = cc h
agreed_ids by offered own found (Some a) None ex ey h = cc h
agreed_ids by offered own found (Some a) (Some b) ex ey h = by_test (takes_profile by a b && can_order offered own)
    (λ both.
    let at = terms_at offered (both_asymmetric offered own) a b (answer_level (both_asymmetric offered own) a b) in
    let e : Some at ≡ Some found = sym (ap (λ t. cond t (Some at) None) both) ∙ h in
    let parts = and_parts (takes_profile by a b) (can_order offered own) both in
    record { a = a; b = b; offer_says = ex; own_says = ey; profile = parts.0; order = parts.1; is = cc e })
    (λ other.
    let at = terms_at offered (both_asymmetric offered own) a b (answer_level (both_asymmetric offered own) a b) in
    let e : None ≡ Some found = sym (ap (λ t. cond t (Some at) None) other) ∙ h in
    cc e)

pub agreed_common : (by : AnswerRules) (offered own : FormatParameters) (found : Terms) → common_terms (rules by) offered own ≡ Some found → Agreed by offered own found
agreed_common by offered own found h = by_test (are_symmetric roles rows offered.values own.values)
    (λ same. agreed_ids by offered own found (id_of by offered) (id_of by own) refl refl
    (sym (ap (λ t. cond t (terms by offered own) None) same) ∙ h))
    (λ other.
    let e : None ≡ Some found = sym (ap (λ t. cond t (terms by offered own) None) other) ∙ h in
    cc e)

-- what a text's bytes are, of parameters
bytes_of_text : (text : Option (List ℕ)) (it : ProfileLevelId) → option_and_then profile_level_id_of text ≡ Some it → IsBytes (bytes_in it)
bytes_of_text None it h = cc h
bytes_of_text (Some text) it h = id_bytes text it h

pub id_of_bytes : (by : AnswerRules) (of : FormatParameters) (it : ProfileLevelId) → id_of by of ≡ Some it → IsBytes (bytes_in it)
id_of_bytes by of it h = bytes_of_text (option_or (value_at of.values 0) (unsaid_id by)) it h

pub level_bytes : (asymmetric : Bool) (a b : ProfileLevelId) → IsBytes (bytes_in a) → IsBytes (bytes_in b) → IsBytes (bytes_in (answer_level asymmetric a b))
level_bytes asymmetric a b of_a of_b = by_test (asymmetric || nat_lt (level_rank b) (level_rank a))
    (λ h. subst (λ t. IsBytes (bytes_in (cond t b a))) (sym h) of_b)
    (λ h. subst (λ t. IsBytes (bytes_in (cond t b a))) (sym h) of_a)

-- a profile-level-id of the offer's profile and of a level's rank
pub record Says (by : AnswerRules) (it : FormatParameters) (a : ProfileLevelId) (rank : ℕ) : Type 0 where
  pub id : ProfileLevelId
  pub says : id_of by it ≡ Some id
  pub profile : IsSameProfile id a
  pub level : level_rank id ≡ rank

pub answer_says : (by : AnswerRules) (offered answer : FormatParameters) (a level : ProfileLevelId) → id_of by offered ≡ Some a → IsBytes (bytes_in a) → IsBytes (bytes_in level)
    → value_at answer.values 0 ≡ answer_id offered a level → Says by answer a (level_rank level)
answer_says by offered answer a level says of_a of_level here = by_test (level_rank a == level_rank level)
    (λ same. record {
      id = a;
      says = ap (λ v. option_and_then profile_level_id_of (option_or v (unsaid_id by)))
          (here ∙ ap (λ t. cond t (value_at offered.values 0) (Some (profile_level_id_text (at_level_of a level)))) same) ∙ says;
      profile = record { idc = refl; flags = refl };
      level = eqb-true (level_rank a) (level_rank level) same;
    })
    (λ other. record {
      id = at_level_of a level;
      says = ap (λ v. option_and_then profile_level_id_of (option_or v (unsaid_id by)))
          (here ∙ ap (λ t. cond t (value_at offered.values 0) (Some (profile_level_id_text (at_level_of a level)))) other)
          ∙ id_read (at_level_of a level) (moved_bytes a level of_a of_level);
      profile = profile_kept a level;
      level = level_moved a level;
    })

-- the rows of an answer
pub record Rows (offered own answer : FormatParameters) (found : Terms) : Type 0 where
  pub id : value_at answer.values 0 ≡ found.level
  pub sets : value_at answer.values 9 ≡ only_if found.sets (value_at own.values 9)
  pub level_sets : value_at answer.values 10 ≡ only_if found.level_sets (value_at own.values 10)
  pub asymmetry : value_at answer.values 13 ≡ only_if found.asymmetric (value_at own.values 13)
  pub mode : value_at answer.values 14 ≡ value_at offered.values 14
  pub depth : value_at answer.values 15 ≡ only_if found.reorders (value_at own.values 15)
  pub need : value_at answer.values 16 ≡ only_if found.reorders (value_at own.values 16)
  pub room : value_at answer.values 17 ≡ value_at own.values 17
  pub time : value_at answer.values 18 ≡ only_if found.reorders (value_at own.values 18)
  pub difference : value_at answer.values 19 ≡ only_if found.reorders (value_at own.values 19)

pub answer_rows : (by : AnswerRules) (offered own answer : FormatParameters) (found : Terms) → AreParameters rows offered → AreParameters rows own → answer ≡ answered (rules by) offered own found → Rows offered own answer found
answer_rows by offered own answer found of_offered of_own e =
    let lo : length offered.values ≡ length roles = long_values rows offered.values of_offered.values in
    let lu : length own.values ≡ length roles = long_values rows own.values of_own.values in
    let at : (k : ℕ) → k < length roles → value_at answer.values k ≡ value_at (answered_values found roles offered.values own.values) k =
    λ k _. ap (λ (it : FormatParameters). value_at it.values k) e in
    record {
      id = at 0 (omega arith) ∙ answered_at found roles offered.values own.values 0 lo lu (omega arith);
      sets = at 9 (omega arith) ∙ answered_at found roles offered.values own.values 9 lo lu (omega arith);
      level_sets = at 10 (omega arith) ∙ answered_at found roles offered.values own.values 10 lo lu (omega arith);
      asymmetry = at 13 (omega arith) ∙ answered_at found roles offered.values own.values 13 lo lu (omega arith);
      mode = at 14 (omega arith) ∙ answered_at found roles offered.values own.values 14 lo lu (omega arith);
      depth = at 15 (omega arith) ∙ answered_at found roles offered.values own.values 15 lo lu (omega arith);
      need = at 16 (omega arith) ∙ answered_at found roles offered.values own.values 16 lo lu (omega arith);
      room = at 17 (omega arith) ∙ answered_at found roles offered.values own.values 17 lo lu (omega arith);
      time = at 18 (omega arith) ∙ answered_at found roles offered.values own.values 18 lo lu (omega arith);
      difference = at 19 (omega arith) ∙ answered_at found roles offered.values own.values 19 lo lu (omega arith);
    }

-- a parameter whose value is the same says the same number
pub number_same : (x y : FormatParameters) (parameter : H264Parameter) → value_at x.values (row_place parameter) ≡ value_at y.values (row_place parameter) → number x parameter ≡ number y parameter
number_same x y parameter e =
    ap (λ v. option_and_then (number_of (row_at rows (row_place parameter)).kind) (option_or v (row_at rows (row_place parameter)).default)) e

-- a test and one that fails
pub and_false : (b : Bool) → (b && false) ≡ false
and_false true = refl
and_false false = refl

abbrev pub is_one : Option ℕ → Bool
is_one n = same_number n (Some 1)

-- the answer allows asymmetry where both ends do
pub asymmetry_kept : (offered own answer : FormatParameters) → value_at answer.values 13 ≡ only_if (both_asymmetric offered own) (value_at own.values 13)
    → both_asymmetric offered answer ≡ both_asymmetric offered own
asymmetry_kept offered own answer here = by_test (both_asymmetric offered own)
    (λ both.
    let same : value_at answer.values 13 ≡ value_at own.values 13 = here ∙ ap (λ t. only_if t (value_at own.values 13)) both in
    ap (λ n. is_on offered p.LevelAsymmetryAllowed && is_one n) (number_same answer own p.LevelAsymmetryAllowed same))
    (λ not_both.
    let none : value_at answer.values 13 ≡ None = here ∙ ap (λ t. only_if t (value_at own.values 13)) not_both in
    ap (λ v. is_on offered p.LevelAsymmetryAllowed && is_one (option_and_then (number_of (row_at rows 13).kind) (option_or v (row_at rows 13).default))) none
    ∙ and_false (is_on offered p.LevelAsymmetryAllowed) ∙ sym not_both)

-- the level of the answer isn't above the offer's, where not both ends allow it
pub lower : (asymmetric : Bool) (a b : ProfileLevelId) → asymmetric ≡ false → level_rank (answer_level asymmetric a b) ≤ level_rank a
lower true a b h = cc h
lower false a b h = by_test (nat_lt (level_rank b) (level_rank a))
    (λ less.
    let e : level_rank (answer_level false a b) ≡ level_rank b = ap (λ t. level_rank (cond t b a)) less in
    let small : level_rank b < level_rank a = grind (arith, nat_tests, less) in
    omega (arith, e, small))
    (λ other.
    let e : level_rank (answer_level false a b) ≡ level_rank a = ap (λ t. level_rank (cond t b a)) other in
    omega (arith, e))

-- what belongs nowhere is absent
pub absent : (belongs : Bool) (value own : Option (List ℕ)) → value ≡ only_if belongs own → belongs ≡ false → value ≡ None
absent belongs value own here fails = here ∙ ap (λ t. only_if t own) fails

-- and what belongs there is our own
pub present : (belongs : Bool) (value own : Option (List ℕ)) → value ≡ only_if belongs own → belongs ≡ true → value ≡ own
present belongs value own here passes = here ∙ ap (λ t. only_if t own) passes

-- parameter sets are of one kind
one_kind_only : (offered : FormatParameters) (back answer own : ℕ) → (may_tell_sets offered back answer own ≡ false) ⊎ (with_level_sets offered back answer ≡ false)
one_kind_only offered back answer own = by_test (back == answer)
    (λ same. inr (ap (λ t. not (is_on offered p.InBandParameterSets) && (is_on offered p.UseLevelSrcParameterSets && not t)) same
    ∙ ap (λ t. not (is_on offered p.InBandParameterSets) && t) (and_false (is_on offered p.UseLevelSrcParameterSets))
    ∙ and_false (not (is_on offered p.InBandParameterSets))))
    (λ other. inl (ap (λ t. not (is_on offered p.InBandParameterSets) && (t && (answer == own))) other
    ∙ and_false (not (is_on offered p.InBandParameterSets))))

-- and none where they are to be sent in band
none_in_band : (offered : FormatParameters) (back answer own : ℕ) → is_on offered p.InBandParameterSets ≡ true
    → (may_tell_sets offered back answer own ≡ false) × (with_level_sets offered back answer ≡ false)
none_in_band offered back answer own in_band = (
  ap (λ t. not t && ((back == answer) && (answer == own))) in_band,
  ap (λ t. not t && (is_on offered p.UseLevelSrcParameterSets && not (back == answer))) in_band,
)

-- interleaved formats can both be put in order
pub both_hold : (offered own : FormatParameters) → can_order offered own ≡ true → is_interleaved offered ≡ true
    → (can_deinterleave offered own ≡ true) × (can_deinterleave own offered ≡ true)
both_hold offered own can interleaved =
    and_parts (can_deinterleave offered own) (can_deinterleave own offered)
    (sym (ap (λ t. not t || (can_deinterleave offered own && can_deinterleave own offered)) interleaved) ∙ can)

-- the depth and the buffer that are asked for, by values
abbrev holds_by : Option (List ℕ) → Option (List ℕ) → Option (List ℕ) → Bool
holds_by depth need room = is_some depth && holds (option_and_then (number_of (row_at rows 16).kind) (option_or need (row_at rows 16).default))
    (option_and_then (number_of (row_at rows 17).kind) (option_or room (row_at rows 17).default))

pub hold_to_answer : (offered own answer : FormatParameters) → value_at answer.values 17 ≡ value_at own.values 17 → can_deinterleave offered answer ≡ can_deinterleave offered own
hold_to_answer offered own answer room = ap (holds_by (value_at offered.values 15) (value_at offered.values 16)) room

pub hold_of_answer : (offered own answer : FormatParameters) → value_at answer.values 15 ≡ value_at own.values 15 → value_at answer.values 16 ≡ value_at own.values 16
    → can_deinterleave answer offered ≡ can_deinterleave own offered
hold_of_answer offered own answer depth need =
    ap (λ d. holds_by d (value_at answer.values 16) (value_at offered.values 17)) depth
    ∙ ap (λ n. holds_by (value_at own.values 15) n (value_at offered.values 17)) need

-- each answer is allowed
pub allowed : (by : AnswerRules) (offered own answer : FormatParameters) → AreParameters rows offered → AreParameters rows own → answer_by (rules by) offered own ≡ Some answer → IsH264Answer by offered answer
allowed by offered own answer of_offered of_own h =
    let (found, common, is) = answer_parts (rules by) offered own answer (common_terms (rules by) offered own) h in
    let agreed = agreed_common by offered own found common in
    let at = answer_rows by offered own answer found of_offered of_own is in
    let a = agreed.a in
    let b = agreed.b in
    let asymmetric = both_asymmetric offered own in
    let level = answer_level asymmetric a b in
    let back = rank_back offered asymmetric a level in
    let of_a = id_of_bytes by offered a agreed.offer_says in
    let of_b = id_of_bytes by own b agreed.own_says in
    let says = answer_says by offered answer a level agreed.offer_says of_a (level_bytes asymmetric a b of_a of_b)
    (at.id ∙ ap (λ (t : Terms). t.level) agreed.is) in
    let mode = number_same answer offered p.PacketizationMode at.mode in
    let interleaved : is_interleaved answer ≡ is_interleaved offered = ap (λ n. same_number n (Some 2)) mode in
    let both = asymmetry_kept offered own answer (at.asymmetry ∙ ap (λ (t : Terms). only_if t.asymmetric (value_at own.values 13)) agreed.is) in
    let reorders : found.reorders ≡ is_interleaved offered = ap (λ (t : Terms). t.reorders) agreed.is in
    let sets : found.sets ≡ (same_profile a b && may_tell_sets offered back (level_rank level) (level_rank b)) = ap (λ (t : Terms). t.sets) agreed.is in
    let level_sets : found.level_sets ≡ (same_profile a b && with_level_sets offered back (level_rank level)) = ap (λ (t : Terms). t.level_sets) agreed.is in
    let no_sets : may_tell_sets offered back (level_rank level) (level_rank b) ≡ false → found.sets ≡ false =
    λ fails. sets ∙ ap (λ t. same_profile a b && t) fails ∙ and_false (same_profile a b) in
    let no_level_sets : with_level_sets offered back (level_rank level) ≡ false → found.level_sets ≡ false =
    λ fails. level_sets ∙ ap (λ t. same_profile a b && t) fails ∙ and_false (same_profile a b) in
    let order : is_interleaved answer ≡ false → found.reorders ≡ false = λ fails. reorders ∙ sym interleaved ∙ fails in
    let reordered : is_interleaved answer ≡ true → found.reorders ≡ true = λ passes. reorders ∙ sym interleaved ∙ passes in
    record {
      theirs = a;
      ours = says.id;
      offer_says = agreed.offer_says;
      answer_says = says.says;
      profile = says.profile;
      mode = mode;
      level = λ fails. subst (λ n. n ≤ level_rank a) (sym says.level) (lower asymmetric a b (sym both ∙ fails));
      one_kind = elim (one_kind_only offered back (level_rank level) (level_rank b)) [
        | inl fails ↦ inl (absent found.sets (value_at answer.values 9) (value_at own.values 9) at.sets (no_sets fails))
        | inr fails ↦ inr (absent found.level_sets (value_at answer.values 10) (value_at own.values 10) at.level_sets (no_level_sets fails))
      ];
      in_band = λ asked.
          let fails = none_in_band offered back (level_rank level) (level_rank b) asked in (
            absent found.sets (value_at answer.values 9) (value_at own.values 9) at.sets (no_sets fails.0),
            absent found.level_sets (value_at answer.values 10) (value_at own.values 10) at.level_sets (no_level_sets fails.1),
          );
      in_order = λ fails. (
        absent found.reorders (value_at answer.values 15) (value_at own.values 15) at.depth (order fails),
        absent found.reorders (value_at answer.values 16) (value_at own.values 16) at.need (order fails),
        absent found.reorders (value_at answer.values 18) (value_at own.values 18) at.time (order fails),
        absent found.reorders (value_at answer.values 19) (value_at own.values 19) at.difference (order fails),
      );
      interleaved = λ passes.
          let hold = both_hold offered own agreed.order (sym interleaved ∙ passes) in (
            hold_to_answer offered own answer at.room ∙ hold.0,
            hold_of_answer offered own answer
                (present found.reorders (value_at answer.values 15) (value_at own.values 15) at.depth (reordered passes))
                (present found.reorders (value_at answer.values 16) (value_at own.values 16) at.need (reordered passes)) ∙ hold.1,
          );
    }

-- the highest level isn't below the default one
pub highest_at_least : (id : ProfileLevelId) (value : Option (List ℕ)) → level_rank id ≤ highest_of id value
highest_at_least id None = omega arith
highest_at_least id (Some text) = omega arith

pub use_within : (sender receiver : FormatParameters) (s r : ProfileLevelId) → rank_to_use sender receiver s r ≤ highest_rank receiver r
use_within sender receiver s r =
    let high = highest_at_least r (value_at receiver.values 1) in
    by_test (both_asymmetric sender receiver)
    (λ both. subst (λ t. cond t (highest_rank receiver r) (min (level_rank s) (level_rank r)) ≤ highest_rank receiver r) (sym both) (omega arith))
    (λ other. subst (λ t. cond t (highest_rank receiver r) (min (level_rank s) (level_rank r)) ≤ highest_rank receiver r) (sym other) (omega (arith, high)))

pub sends_forth : (by : AnswerRules) (offered answer : FormatParameters) (it : IsH264Answer by offered answer) → MaySend offered answer it.theirs it.ours
sends_forth by offered answer it = record {
  profile = record { idc = sym it.profile.idc; flags = sym it.profile.flags };
  mode = sym it.mode;
  level = use_within offered answer it.theirs it.ours;
  buffer = λ passes. (it.interleaved (ap (λ n. same_number n (Some 2)) it.mode ∙ passes)).0;
}

pub sends_back : (by : AnswerRules) (offered answer : FormatParameters) (it : IsH264Answer by offered answer) → MaySend answer offered it.ours it.theirs
sends_back by offered answer it = record {
  profile = it.profile;
  mode = it.mode;
  level = use_within answer offered it.ours it.theirs;
  buffer = λ passes. (it.interleaved passes).1;
}
