-- Answers of H.265 and of H.266 by what two ends say.
use Rattle.std.proofs.Common.{◌≡◌, ℕ, ◌+◌, ◌*◌, ◌^◌, ◌-◌, ◌<◌, ◌≤◌, true, false, not, cond, List, [], ◌∷◌, length, map, Option, Some, None, Result, Ok, Err, ◌⊎◌, inl, inr, refl, sym, ap, subst, ◌∙◌, arith, Bool}
use Rattle.std.specs.Prelude.{◌||◌, nat_le, nat_eq, min, codes}
use Rattle.std.specs.Char.{to_ascii_lowercase}
use Rattle.std.specs.Option.{option_map, option_and_then, option_or}
use Rattle.std.specs.Cmp.Lexicographic.{pointwise, same_text, other_text}
use Rattle.std.proofs.lemmas.Bool.{and_parts, eqb-true, eq-eqb}
use Rattle.std.proofs.lemmas.Bool.Decides.{nat_tests}
use Rattle.hex.specs.Hex.{decode_sized}
use Rattle.hex.specs.declared.error.FromHexError.{FromHexError}
use Rattle.h26x_fmtp.specs.declared.kind.Kind.TheVariants.{Units, Text}
use Rattle.h26x_fmtp.specs.UnitTypes.{h266_vps}
use Rattle.h26x_answers.specs.declared.answer.AnswerRules.{AnswerRules}
use Rattle.h26x_answers.specs.declared.answer.AnswerRules.TheVariants.{Rfc, Webrtc}
use Rattle.h26x_answers.specs.declared.answer.Role.{Role}
use Rattle.h26x_answers.specs.declared.answer.Role.TheVariants as role
use Rattle.h26x_sdp.specs.declared.h265.H265Parameter.TheVariants as p
use Rattle.h26x_sdp.specs.declared.h266.H266Parameter.TheVariants as q
use Rattle.h26x_fmtp.specs.Kinds.{number_of}
use Rattle.h26x_fmtp.specs.Tables.{row_at}
use Rattle.h26x_fmtp.specs.Parameters.{AreParameters}
use Rattle.h26x_fmtp.specs.Reading.{FormatParameters, value_at, value_or_default, number_at, number_or_default}
use Rattle.h26x_answers.specs.Answers.{Terms, Rules, only_if, same_number, same_if_given, answered_value, is_symmetric_at, are_symmetric, common_terms, answer_by}
use Rattle.h26x_answers.specs.AnswersByLevel.{levels_by, levels_of, can_hold, terms_of_levels, terms_if_known, terms_by_level}
use Rattle.h26x_answers.specs.AnswersH265 as h265
use Rattle.h26x_answers.specs.AnswersH266 as h266
use Rattle.h26x_answers.specs.AllowedByLevel.{role_at}
use Rattle.h26x_answers.specs.LevelsSaid.{IsWithin}
use Rattle.h26x_answers.specs.ConfigurationsH265 as c265
use Rattle.h26x_answers.specs.ConfigurationsH266 as c266
use Rattle.h26x_fmtp.proofs.PartLemmas.{by_test}
use Rattle.h26x_fmtp.proofs.TestLemmas.{both_true}
use Rattle.h26x_answers.proofs.AnswersLemmas.{answer_parts}
use Rattle.h26x_answers.proofs.AnswersH264Lemmas.{long_values}
use Rattle.h26x_answers.proofs.SymmetricLemmas.{symmetric_row, agree_symmetric, number_parts, number_same_of, same_numbers, numbers_same, same_digits, digits_same, same_modes, modes_same}
use Rattle.h26x_answers.proofs.ByLevelLemmas.{agreed_by_level, row_of_answer, answer_levels, lower_of}
use Rattle.h26x_answers.proofs.LevelsSaidLemmas.{within_level, level_within, received_level, level_received, levels_there, in_order, order_in, levels_said}
use Rattle.h26x_answers.proofs.TieredLemmas.{h265_describes, h266_describes, common_parts, h265_parts, h266_parts}

some_same : (x y : ℕ) → Some x ≡ Some y → x ≡ y
some_same x y h = cc h

some_text : (x y : List ℕ) → Some x ≡ Some y → x ≡ y
some_text x y h = cc h

le_true : (a b : ℕ) → a ≤ b → nat_le a b ≡ true
le_true a b h = grind (arith, nat_tests, h)

le_false : (a b : ℕ) → b < a → nat_le a b ≡ false
le_false a b h = grind (arith, nat_tests, h)

level_by : (level : ℕ) (received : Option ℕ) → (levels_by level received).level ≡ level
level_by level None = refl
level_by level (Some r) = refl

-- a row of one configuration
row_same : (rules : Rules) (offered own : FormatParameters) (k : ℕ) → length rules.roles ≡ length rules.rows → AreParameters rules.rows offered → AreParameters rules.rows own
    → are_symmetric rules.roles rules.rows offered.values own.values ≡ true → k < length rules.roles → role_at rules k ≡ role.Configuration
    → same_if_given (row_at rules.rows k).kind (option_or (value_at offered.values k) (row_at rules.rows k).default) (option_or (value_at own.values k) (row_at rules.rows k).default) ≡ true
row_same rules offered own k long of_offered of_own h within is =
    let lo : length offered.values ≡ length rules.roles = long_values rules.rows offered.values of_offered.values ∙ sym long in
    let lu : length own.values ≡ length rules.roles = long_values rules.rows own.values of_own.values ∙ sym long in
    let at = symmetric_row rules.roles rules.rows offered.values own.values k h (sym long) lo lu within in
    subst (λ r. is_symmetric_at r (row_at rules.rows k) (value_at offered.values k) (value_at own.values k) ≡ true) is at

-- ---- the flags of compatible profiles

four_parts : (r : Result (List ℕ) FromHexError) (n : ℕ) → h265.four_bytes r ≡ Some n
    → (a : ℕ) × (b : ℕ) × (c : ℕ) × (d : ℕ) × (r ≡ Ok (a ∷ b ∷ c ∷ d ∷ [])) × (n ≡ ((a * 256 + b) * 256 + c) * 256 + d)
four_parts (Err e) n h = cc h
four_parts (Ok []) n h = cc h
four_parts (Ok (a ∷ [])) n h = cc h
four_parts (Ok (a ∷ b ∷ [])) n h = cc h
four_parts (Ok (a ∷ b ∷ c ∷ [])) n h = cc h
four_parts (Ok (a ∷ b ∷ c ∷ d ∷ [])) n h =
    let e : ((a * 256 + b) * 256 + c) * 256 + d ≡ n = some_same (((a * 256 + b) * 256 + c) * 256 + d) n h in
    (a, b, c, d, refl, sym e)
four_parts (Ok (a ∷ b ∷ c ∷ d ∷ e ∷ rest)) n h = cc h

flags_parts : (it : FormatParameters) (profile flags : ℕ) (value : Option (List ℕ)) → c265.number it p.ProfileId ≡ Some profile → value_at it.values 5 ≡ value → h265.flags_or_profile (c265.number it p.ProfileId) value ≡ Some flags
    → c265.GivesFlags it flags ⊎ c265.LeavesFlags it profile flags
flags_parts it profile flags None of_profile is h =
    let e : 2 ^ (31 - profile) ≡ flags = some_same (2 ^ (31 - profile)) flags (sym (ap (option_map (λ id. 2 ^ (31 - id))) of_profile) ∙ h) in
    inr (record { absent = is; is = sym e })
flags_parts it profile flags (Some text) of_profile is h =
    let (a, b, c, d, bytes, e) = four_parts (decode_sized text 4) flags h in
    inl (record { digits = text; first = a; second = b; third = c; fourth = d; given = is; bytes = bytes; is = e })

flags_of : (it : FormatParameters) (profile flags : ℕ) → c265.number it p.ProfileId ≡ Some profile → c265.GivesFlags it flags ⊎ c265.LeavesFlags it profile flags → h265.compatible_profiles it ≡ Some flags
flags_of it profile flags of_profile said = elim said [
  | inl given ↦
      ap (h265.flags_or_profile (c265.number it p.ProfileId)) given.given ∙ ap (λ r. h265.four_bytes r) given.bytes ∙ ap Some (sym given.is)
  | inr left ↦
      ap (h265.flags_or_profile (c265.number it p.ProfileId)) left.absent ∙ ap (option_map (λ id. 2 ^ (31 - id))) of_profile ∙ ap Some (sym left.is)
]

-- ---- H.265: what two ends have in common

-- the same of what says more of a profile than its number
abbrev pub SameFurther : AnswerRules → FormatParameters → FormatParameters → Type 0
SameFurther Rfc x y = (option_map (map to_ascii_lowercase) (c265.text x p.InteropConstraints) ≡ option_map (map to_ascii_lowercase) (c265.text y p.InteropConstraints))
    × (h265.compatible_profiles x ≡ h265.compatible_profiles y)
SameFurther Webrtc x y = Unit {0}

back_further : (which : AnswerRules) (x y : FormatParameters) → SameFurther which x y → SameFurther which y x
back_further Rfc x y same = (sym same.0, sym same.1)
back_further Webrtc x y same = tt

further_through : (which : AnswerRules) (x y : FormatParameters) (c : c265.Configuration) → c265.number x p.ProfileId ≡ Some c.profile → c265.number y p.ProfileId ≡ Some c.profile
    → SameFurther which x y → c265.IsAsConstrained which x c → c265.IsAsConstrained which y c
further_through Rfc x y c of_x of_y same it = record {
  constraints = sym same.0 ∙ it.constraints;
  compatible = flags_parts y c.profile c.compatible (value_at y.values 5) of_y refl (sym same.1 ∙ flags_of x c.profile c.compatible of_x it.compatible);
}
further_through Webrtc x y c of_x of_y same it = tt

further_kept : (which : AnswerRules) (x y : FormatParameters) → value_at x.values 1 ≡ value_at y.values 1 → value_at x.values 4 ≡ value_at y.values 4 → value_at x.values 5 ≡ value_at y.values 5 → SameFurther which x y
further_kept Rfc x y profile constraints indicator =
    let rows = (h265.rules Rfc).rows in (
      ap (λ v. option_map (map to_ascii_lowercase) (option_or v (row_at rows 4).default)) constraints,
      ap (λ v. h265.flags_or_profile (option_and_then (number_of (row_at rows 1).kind) (option_or v (row_at rows 1).default)) (value_at x.values 5)) profile
          ∙ ap (h265.flags_or_profile (number_or_default rows y 1)) indicator,
    )
further_kept Webrtc x y profile constraints indicator = tt

-- two ends that are of one configuration, whatever their levels
pub record Same265 (which : AnswerRules) (x y : FormatParameters) : Type 0 where
  pub profile_space : c265.number x p.ProfileSpace ≡ c265.number y p.ProfileSpace
  pub profile : c265.number x p.ProfileId ≡ c265.number y p.ProfileId
  pub tier : c265.number x p.TierFlag ≡ c265.number y p.TierFlag
  pub further : SameFurther which x y
  pub mode : option_map (map to_ascii_lowercase) (c265.text x p.TxMode) ≡ option_map (map to_ascii_lowercase) (c265.text y p.TxMode)

back_265 : (which : AnswerRules) (x y : FormatParameters) → Same265 which x y → Same265 which y x
back_265 which x y same = record {
  profile_space = sym same.profile_space;
  profile = sym same.profile;
  tier = sym same.tier;
  further = back_further which x y same.further;
  mode = sym same.mode;
}

pub end_265 : (which : AnswerRules) (x y : FormatParameters) (c : c265.Configuration) → Same265 which x y → c265.IsOfEnd which x c → c265.IsOfEnd which y c
end_265 which x y c same of =
    let profile = sym same.profile ∙ of.profile in
    record {
      profile_space = sym same.profile_space ∙ of.profile_space;
      profile = profile;
      tier = sym same.tier ∙ of.tier;
      constrained = further_through which x y c of.profile profile same.further of.constrained;
      mode = sym same.mode ∙ of.mode;
    }

-- what two ends that agree say more of a profile
record Further265 (which : AnswerRules) (offered own : FormatParameters) (profile : ℕ) : Type 0 where
  pub constraints : List ℕ
  pub compatible : ℕ
  pub theirs : (c : c265.Configuration) → c.profile ≡ profile → c.constraints ≡ constraints → c.compatible ≡ compatible → c265.IsAsConstrained which offered c
  pub same : SameFurther which offered own

further_265 : (which : AnswerRules) (offered own : FormatParameters) (profile : ℕ) → c265.number offered p.ProfileId ≡ Some profile → h265.agree which offered own ≡ true → Further265 which offered own profile
further_265 Rfc offered own profile of h =
    let both = and_parts (h265.same_constraints offered own) (same_number (h265.compatible_profiles offered) (h265.compatible_profiles own)) h in
    let (digits, digits_o, digits_u) = same_digits 6 (codes "B00000000000") (value_at offered.values 4) (value_at own.values 4) both.0 in
    let (bits, bits_o, bits_u) = number_parts (h265.compatible_profiles offered) (h265.compatible_profiles own) both.1 in
    record {
      constraints = digits;
      compatible = bits;
      theirs = λ c e1 e2 e3.
          let of_c : c265.number offered p.ProfileId ≡ Some c.profile = of ∙ ap Some (sym e1) in
          record {
            constraints = digits_o ∙ ap Some (sym e2);
            compatible = flags_parts offered c.profile c.compatible (value_at offered.values 5) of_c refl (bits_o ∙ ap Some (sym e3));
          };
      same = (digits_o ∙ sym digits_u, bits_o ∙ sym bits_u);
    }
further_265 Webrtc offered own profile of h = record { constraints = []; compatible = 0; theirs = λ c e1 e2 e3. tt; same = tt }

-- whose configuration is one agree
agree_265 : (which : AnswerRules) (offered own : FormatParameters) (c : c265.Configuration) → c265.IsOfEnd which offered c → c265.IsOfEnd which own c → h265.agree which offered own ≡ true
agree_265 Webrtc offered own c t u = refl
agree_265 Rfc offered own c t u = both_true (h265.same_constraints offered own) (same_number (h265.compatible_profiles offered) (h265.compatible_profiles own))
    (digits_same 6 (codes "B00000000000") (value_at offered.values 4) (value_at own.values 4) c.constraints t.constrained.constraints u.constrained.constraints)
    (number_same_of (h265.compatible_profiles offered) (h265.compatible_profiles own) c.compatible
    (flags_of offered c.profile c.compatible t.profile t.constrained.compatible) (flags_of own c.profile c.compatible u.profile u.constrained.compatible))

-- a configuration of an offer at a level
pub record Offer265 (which : AnswerRules) (offered own : FormatParameters) : Type 0 where
  pub of : ℕ → c265.Configuration
  pub level : (n : ℕ) → (of n).level ≡ n
  pub theirs : (n : ℕ) → c265.IsOfEnd which offered (of n)
  pub same : Same265 which offered own

pub offer_265 : (which : AnswerRules) (offered own : FormatParameters) → AreParameters (h265.rules which).rows offered → AreParameters (h265.rules which).rows own → are_symmetric (h265.rules which).roles (h265.rules which).rows offered.values own.values ≡ true
    → h265.agree which offered own ≡ true → Offer265 which offered own
offer_265 which offered own of_offered of_own h flags =
    let w0 : 0 < 30 = omega arith in
    let w1 : 1 < 30 = omega arith in
    let w2 : 2 < 30 = omega arith in
    let w9 : 9 < 30 = omega arith in
    let (space, space_o, space_u) = same_numbers 0 3 (codes "0") (value_at offered.values 0) (value_at own.values 0) (row_same (h265.rules which) offered own 0 refl of_offered of_own h w0 refl) in
    let (profile, profile_o, profile_u) = same_numbers 0 31 (codes "1") (value_at offered.values 1) (value_at own.values 1) (row_same (h265.rules which) offered own 1 refl of_offered of_own h w1 refl) in
    let (tier, tier_o, tier_u) = same_numbers 0 1 (codes "0") (value_at offered.values 2) (value_at own.values 2) (row_same (h265.rules which) offered own 2 refl of_offered of_own h w2 refl) in
    let (mode, mode_o, mode_u) = same_modes (codes "SRST") (value_at offered.values 9) (value_at own.values 9) (row_same (h265.rules which) offered own 9 refl of_offered of_own h w9 refl) in
    let further = further_265 which offered own profile profile_o flags in
    record {
      of = λ n. record { profile_space = space; profile = profile; tier = tier; level = n; constraints = further.constraints; compatible = further.compatible; mode = mode };
      level = λ n. refl;
      theirs = λ n. record {
        profile_space = space_o;
        profile = profile_o;
        tier = tier_o;
        constrained = further.theirs (record { profile_space = space; profile = profile; tier = tier; level = n; constraints = further.constraints; compatible = further.compatible; mode = mode }) refl refl refl;
        mode = mode_o;
      };
      same = record {
        profile_space = space_o ∙ sym space_u;
        profile = profile_o ∙ sym profile_u;
        tier = tier_o ∙ sym tier_u;
        further = further.same;
        mode = mode_o ∙ sym mode_u;
      };
    }

-- where there are terms there is a configuration in common
pub h265_common : (which : AnswerRules) (offered own : FormatParameters) → AreParameters (h265.rules which).rows offered → AreParameters (h265.rules which).rows own → (found : Terms) → common_terms (h265.rules which) offered own ≡ Some found → c265.IsCommon which offered own
h265_common which offered own of_offered of_own found h =
    let parts = common_parts (h265.rules which) offered own found h in
    let flags = h265_parts which offered own found parts.1 in
    let agreed = agreed_by_level (h265.rules which).rows h265.by offered own found flags.1 in
    let both = offer_265 which offered own of_offered of_own parts.0 flags.0 in
    let a = agreed.a.level in
    let b = agreed.b.level in
    let least = min a b in
    let under_a : least ≤ a = omega arith in
    let under_b : least ≤ b = omega arith in
    record {
      configuration = both.of least;
      theirs = record {
        one = both.theirs least;
        level = subst (λ n. IsWithin (h265.rules which).rows offered 3 n) (sym (both.level least)) (level_within (h265.rules which).rows h265.by offered agreed.a least agreed.offer_says under_a);
      };
      ours = record {
        one = end_265 which offered own (both.of least) both.same (both.theirs least);
        level = subst (λ n. IsWithin (h265.rules which).rows own 3 n) (sym (both.level least)) (level_within (h265.rules which).rows h265.by own agreed.b least agreed.own_says under_b);
      };
      forth = in_order (h265.rules which).rows h265.by offered own agreed.forth;
      back = in_order (h265.rules which).rows h265.by own offered agreed.back;
    }

-- and where there is one in common there are terms
pub h265_terms : (which : AnswerRules) (offered own : FormatParameters) → AreParameters (h265.rules which).rows offered → AreParameters (h265.rules which).rows own → c265.IsCommon which offered own → (found : Terms) × (common_terms (h265.rules which) offered own ≡ Some found)
h265_terms which offered own of_offered of_own it =
    let c = it.configuration in
    let t = it.theirs.one in
    let u = it.ours.one in
    let lo : length offered.values ≡ length (h265.rules which).roles = long_values (h265.rules which).rows offered.values of_offered.values in
    let lu : length own.values ≡ length (h265.rules which).roles = long_values (h265.rules which).rows own.values of_own.values in
    let space = numbers_same 0 3 (codes "0") (value_at offered.values 0) (value_at own.values 0) c.profile_space t.profile_space u.profile_space in
    let profile = numbers_same 0 31 (codes "1") (value_at offered.values 1) (value_at own.values 1) c.profile t.profile u.profile in
    let tier = numbers_same 0 1 (codes "0") (value_at offered.values 2) (value_at own.values 2) c.tier t.tier u.tier in
    let mode = modes_same (codes "SRST") (value_at offered.values 9) (value_at own.values 9) c.mode t.mode u.mode in
    let symmetric : are_symmetric (h265.rules which).roles (h265.rules which).rows offered.values own.values ≡ true =
    agree_symmetric (h265.rules which).rows offered.values own.values (h265.rules which).roles 0 refl lo lu
    (space, (profile, (tier, (tt, (tt, (tt, (tt, (tt, (tt, (mode, (tt, (tt, (tt, (tt, (tt, (tt, (tt, (tt, (tt, (tt, (tt, (tt, (tt, (tt, (tt, (tt, (tt, (tt, (tt, (tt, tt)))))))))))))))))))))))))))))) in
    let flags = agree_265 which offered own c t u in
    let a = levels_by it.theirs.level.most (number_at (h265.rules which).rows offered 8) in
    let b = levels_by it.ours.level.most (number_at (h265.rules which).rows own 8) in
    let of_a = levels_there (h265.rules which).rows h265.by offered it.theirs.level.most it.theirs.level.said in
    let of_b = levels_there (h265.rules which).rows h265.by own it.ours.level.most it.ours.level.said in
    let forth = order_in (h265.rules which).rows h265.by offered own it.forth in
    let back = order_in (h265.rules which).rows h265.by own offered it.back in
    let at = terms_of_levels (h265.rules which).rows h265.by offered own a b in (
      at,
      ap (λ t. cond t (h265.terms which offered own) None) symmetric
          ∙ ap (λ t. cond t (terms_by_level (h265.rules which).rows h265.by offered own) None) flags
          ∙ ap (λ x. terms_if_known (h265.rules which).rows h265.by offered own x (levels_of (h265.rules which).rows h265.by own)) of_a
          ∙ ap (λ y. terms_if_known (h265.rules which).rows h265.by offered own (Some a) y) of_b
          ∙ ap (λ t. cond t (Some at) None) (both_true (can_hold (h265.rules which).rows h265.by offered own) (can_hold (h265.rules which).rows h265.by own offered) forth back),
    )

-- ---- what an answer says

none_or_ours : (belongs : Bool) (value own : Option (List ℕ)) → value ≡ only_if belongs own → (value ≡ None) ⊎ (value ≡ own)
none_or_ours true value own h = inr h
none_or_ours false value own h = inl h

-- each answer is by what was offered and by what we can do
pub h265_ours : (which : AnswerRules) (offered own answer : FormatParameters) → AreParameters (h265.rules which).rows offered → AreParameters (h265.rules which).rows own → answer_by (h265.rules which) offered own ≡ Some answer → c265.IsOurAnswer which offered own answer
h265_ours which offered own answer of_offered of_own h =
    let (found, common, is) = answer_parts (h265.rules which) offered own answer (common_terms (h265.rules which) offered own) h in
    let parts = common_parts (h265.rules which) offered own found common in
    let flags = h265_parts which offered own found parts.1 in
    let agreed = agreed_by_level (h265.rules which).rows h265.by offered own found flags.1 in
    let a = agreed.a in
    let b = agreed.b in
    let both = (offer_265 which offered own of_offered of_own parts.0 flags.0).same in
    let said : levels_of (h265.rules which).rows h265.by answer ≡ Some (lower_of a b) =
    ap (levels_of (h265.rules which).rows h265.by) is ∙ answer_levels (h265.rules which) h265.by (h265_describes which) offered own found of_offered of_own agreed in
    let row : (k : ℕ) (r : Role) → k < length (h265.rules which).roles → role_at (h265.rules which) k ≡ r → value_at answer.values k ≡ answered_value r found (value_at offered.values k) (value_at own.values k) =
    λ k r within of. ap (λ (it : FormatParameters). value_at it.values k) is ∙ row_of_answer (h265.rules which) offered own found k r refl of_offered of_own within of in
    let r0 = row 0 role.Configuration (omega arith) refl in
    let r1 = row 1 role.Configuration (omega arith) refl in
    let r2 = row 2 role.Configuration (omega arith) refl in
    let r4 = row 4 role.Compared (omega arith) refl in
    let r5 = row 5 role.Compared (omega arith) refl in
    let r9 = row 9 role.Configuration (omega arith) refl in
    let number : (k : ℕ) → value_at answer.values k ≡ value_at offered.values k → number_or_default (h265.rules which).rows answer k ≡ number_or_default (h265.rules which).rows offered k =
    λ k e. ap (λ v. option_and_then (number_of (row_at (h265.rules which).rows k).kind) (option_or v (row_at (h265.rules which).rows k).default)) e in
    let text : (k : ℕ) → value_at answer.values k ≡ value_at offered.values k → option_map (map to_ascii_lowercase) (value_or_default (h265.rules which).rows answer k) ≡ option_map (map to_ascii_lowercase) (value_or_default (h265.rules which).rows offered k) =
    λ k e. ap (λ v. option_map (map to_ascii_lowercase) (option_or v (row_at (h265.rules which).rows k).default)) e in
    let theirs : Same265 which answer offered = record {
      profile_space = number 0 r0;
      profile = number 1 r1;
      tier = number 2 r2;
      further = further_kept which answer offered r1 r4 r5;
      mode = text 9 r9;
    } in
    let to_offered : (c : c265.Configuration) → c265.IsOfEnd which answer c → c265.IsOfEnd which offered c = λ c one. end_265 which answer offered c theirs one in
    let to_own : (c : c265.Configuration) → c265.IsOfEnd which answer c → c265.IsOfEnd which own c = λ c one. end_265 which offered own c both (to_offered c one) in
    let of_answer : (c : c265.Configuration) → c265.IsOfEnd which offered c → c265.IsOfEnd which answer c = λ c one. end_265 which offered answer c (back_265 which answer offered theirs) one in
    record {
      ours = λ c it. record {
        one = to_own c it.one;
        level = level_within (h265.rules which).rows h265.by own b c.level agreed.own_says
            (let under = within_level (h265.rules which).rows h265.by answer (lower_of a b) c.level said it.level in omega (arith, under));
      };
      theirs = λ c it. record {
        one = to_offered c it.one;
        level = level_within (h265.rules which).rows h265.by offered a c.level agreed.offer_says
            (let under = within_level (h265.rules which).rows h265.by answer (lower_of a b) c.level said it.level in omega (arith, under));
      };
      greatest = λ c first second. record {
        one = of_answer c first.one;
        level = level_within (h265.rules which).rows h265.by answer (lower_of a b) c.level said
            (let under_a = within_level (h265.rules which).rows h265.by offered a c.level agreed.offer_says first.level in
            let under_b = within_level (h265.rules which).rows h265.by own b c.level agreed.own_says second.level in
            omega (arith, under_a, under_b));
      };
      received = λ c it.
          let under = received_level (h265.rules which).rows h265.by answer (lower_of a b) c.level said it.level in (
            record { one = to_offered c it.one; level = level_received (h265.rules which).rows h265.by offered a c.level agreed.offer_says (omega (arith, under)) },
            record { one = to_own c it.one; level = level_received (h265.rules which).rows h265.by own b c.level agreed.own_says (omega (arith, under)) },
          );
      greatest_received = λ c first second. record {
        one = of_answer c first.one;
        level = level_received (h265.rules which).rows h265.by answer (lower_of a b) c.level said
            (let under_a = received_level (h265.rules which).rows h265.by offered a c.level agreed.offer_says first.level in
            let under_b = received_level (h265.rules which).rows h265.by own b c.level agreed.own_says second.level in
            omega (arith, under_a, under_b));
      };
      no_choice = row 7 role.OperationPoint (omega arith) refl;
      capable = (
        row 14 role.Own (omega arith) refl,
        (
          row 15 role.Own (omega arith) refl,
          (
            row 16 role.Own (omega arith) refl,
            (
              row 17 role.Own (omega arith) refl,
              (
                row 18 role.Own (omega arith) refl,
                (
                  row 19 role.Own (omega arith) refl,
                  (
                    row 20 role.Own (omega arith) refl,
                    (
                      row 21 role.Own (omega arith) refl,
                      (row 25 role.Own (omega arith) refl, (row 28 role.Own (omega arith) refl, (row 29 role.Own (omega arith) refl, tt))),
                    ),
                  ),
                ),
              ),
            ),
          ),
        ),
      );
      stream = (
        inr (row 6 role.Own (omega arith) refl),
        (
          none_or_ours found.sets (value_at answer.values 10) (value_at own.values 10) (row 10 role.Sets (omega arith) refl),
          (
            none_or_ours found.sets (value_at answer.values 11) (value_at own.values 11) (row 11 role.Sets (omega arith) refl),
            (
              none_or_ours found.sets (value_at answer.values 12) (value_at own.values 12) (row 12 role.Sets (omega arith) refl),
              (
                inr (row 13 role.Own (omega arith) refl),
                (
                  inr (row 22 role.Own (omega arith) refl),
                  (
                    inr (row 23 role.Own (omega arith) refl),
                    (inr (row 24 role.Own (omega arith) refl), (inr (row 26 role.Own (omega arith) refl), (inr (row 27 role.Own (omega arith) refl), tt))),
                  ),
                ),
              ),
            ),
          ),
        ),
      );
    }

-- ---- H.266: values that are texts

texts_equal : (a b : List ℕ) → pointwise nat_eq a b ≡ true → a ≡ b
texts_equal a b h = same_text a b (sym h)

text_self : (a : List ℕ) → pointwise nat_eq a a ≡ true
text_self a = by_test (pointwise nat_eq a a) (λ same. same) (λ other. absurd (other_text a a (sym other) refl))

text_of_both : (a b c : List ℕ) → Some a ≡ Some c → Some b ≡ Some c → pointwise nat_eq a b ≡ true
text_of_both a b c of_a of_b =
    let one = some_text a c of_a in
    let two = some_text b c of_b in
    ap (λ t. pointwise nat_eq t b) one ∙ ap (λ t. pointwise nat_eq c t) two ∙ text_self c

abbrev text_with : List ℕ → Option (List ℕ) → Option (List ℕ)
text_with default value = option_or value (Some default)

same_texts : (default : List ℕ) (o u : Option (List ℕ)) → same_if_given Text (option_or o (Some default)) (option_or u (Some default)) ≡ true
    → (c : List ℕ) × (text_with default o ≡ Some c) × (text_with default u ≡ Some c)
same_texts default None None h = (default, refl, refl)
same_texts default None (Some u) h = (default, refl, ap Some (sym (texts_equal default u h)))
same_texts default (Some o) None h = (o, refl, ap Some (sym (texts_equal o default h)))
same_texts default (Some o) (Some u) h = (o, refl, ap Some (sym (texts_equal o u h)))

texts_same : (default : List ℕ) (o u : Option (List ℕ)) (c : List ℕ) → text_with default o ≡ Some c → text_with default u ≡ Some c
    → same_if_given Text (option_or o (Some default)) (option_or u (Some default)) ≡ true
texts_same default None None c of_o of_u = text_self default
texts_same default None (Some u) c of_o of_u = text_of_both default u c of_o of_u
texts_same default (Some o) None c of_o of_u = text_of_both o default c of_o of_u
texts_same default (Some o) (Some u) c of_o of_u = text_of_both o u c of_o of_u

-- of a row without a default
given_same : (o u : Option (List ℕ)) → same_if_given Text (option_or o None) (option_or u None) ≡ true → o ≡ u
given_same None None h = refl
given_same None (Some u) h = cc h
given_same (Some o) None h = cc h
given_same (Some o) (Some u) h = ap Some (texts_equal o u h)

same_given : (o u : Option (List ℕ)) → o ≡ u → same_if_given Text (option_or o None) (option_or u None) ≡ true
same_given None None e = refl
same_given None (Some u) e = cc e
same_given (Some o) None e = cc e
same_given (Some o) (Some u) e = text_of_both o u u e refl

-- and of units
units_same : (o u : Option (List ℕ)) → same_if_given (Units h266_vps) o u ≡ true → o ≡ u
units_same None None h = refl
units_same None (Some u) h = cc h
units_same (Some o) None h = cc h
units_same (Some o) (Some u) h = ap Some (texts_equal o u h)

same_units : (o u : Option (List ℕ)) → o ≡ u → same_if_given (Units h266_vps) o u ≡ true
same_units None None e = refl
same_units None (Some u) e = cc e
same_units (Some o) None e = cc e
same_units (Some o) (Some u) e = text_of_both o u u e refl

-- ---- H.266: profiles with layers

either_true : (x y : Bool) → (x || y) ≡ true → (x ≡ true) ⊎ (y ≡ true)
either_true true y h = inl refl
either_true false y h = inr h

abbrev layered : Option ℕ → Bool
layered profile = (same_number profile (Some 17) || same_number profile (Some 49)) || (same_number profile (Some 81) || same_number profile (Some 113))

layered_one : (x y z : Bool) (w : Bool) → (x ≡ true) ⊎ (y ≡ true) → ((x || y) || (z || w)) ≡ true
layered_one true y z w h = refl
layered_one false true z w h = refl
layered_one false false z w h = elim h [ inl e ↦ cc e | inr e ↦ cc e ]

layered_two : (x y z : Bool) (w : Bool) → (z ≡ true) ⊎ (w ≡ true) → ((x || y) || (z || w)) ≡ true
layered_two true y z w h = refl
layered_two false true z w h = refl
layered_two false false true w h = refl
layered_two false false false true h = refl
layered_two false false false false h = elim h [ inl e ↦ cc e | inr e ↦ cc e ]

is_layered : (it : FormatParameters) (profile : ℕ) → c266.number it q.ProfileId ≡ Some profile → h266.has_layers it ≡ true → c266.IsLayered profile
is_layered it profile of h =
    let n = c266.number it q.ProfileId in
    let is : (k : ℕ) → same_number n (Some k) ≡ true → profile ≡ k =
    λ k e. eqb-true profile k (sym (ap (λ t. same_number t (Some k)) of) ∙ e) in
    elim (either_true (same_number n (Some 17) || same_number n (Some 49)) (same_number n (Some 81) || same_number n (Some 113)) h) [
      | inl first ↦ elim (either_true (same_number n (Some 17)) (same_number n (Some 49)) first) [
        | inl e ↦ inl (inl (is 17 e))
        | inr e ↦ inl (inr (is 49 e))
      ]
      | inr second ↦ elim (either_true (same_number n (Some 81)) (same_number n (Some 113)) second) [
        | inl e ↦ inr (inl (is 81 e))
        | inr e ↦ inr (inr (is 113 e))
      ]
    ]

layered_is : (it : FormatParameters) (profile : ℕ) → c266.number it q.ProfileId ≡ Some profile → c266.IsLayered profile → h266.has_layers it ≡ true
layered_is it profile of is =
    let n = c266.number it q.ProfileId in
    let same : (k : ℕ) → profile ≡ k → same_number n (Some k) ≡ true = λ k e. ap (λ t. same_number t (Some k)) of ∙ eq-eqb profile k e in
    elim is [
      | inl first ↦ layered_one (same_number n (Some 17)) (same_number n (Some 49)) (same_number n (Some 81)) (same_number n (Some 113)) (elim first [ inl e ↦ inl (same 17 e) | inr e ↦ inr (same 49 e) ])
      | inr second ↦ layered_two (same_number n (Some 17)) (same_number n (Some 49)) (same_number n (Some 81)) (same_number n (Some 113)) (elim second [ inl e ↦ inl (same 81 e) | inr e ↦ inr (same 113 e) ])
    ]

-- the offer's VPS is that of the answer
vps_kept : (offered own : FormatParameters) (found : Terms) → h266.keeps_vps offered own found ≡ true → h266.has_layers offered ≡ true → h266.vps_of offered ≡ only_if found.sets (h266.vps_of own)
vps_kept offered own found keeps layers =
    let same = same_if_given (Units h266_vps) (h266.vps_of offered) (only_if found.sets (h266.vps_of own)) in
    units_same (h266.vps_of offered) (only_if found.sets (h266.vps_of own)) (sym (ap (λ t. not t || same) layers) ∙ keeps)

-- ---- H.266: what two ends have in common

pub record Same266 (x y : FormatParameters) : Type 0 where
  pub profile : c266.number x q.ProfileId ≡ c266.number y q.ProfileId
  pub tier : c266.number x q.TierFlag ≡ c266.number y q.TierFlag
  pub sub_profile : value_at x.values 2 ≡ value_at y.values 2
  pub constraints : value_or_default h266.rules.rows x 3 ≡ value_or_default h266.rules.rows y 3

back_266 : (x y : FormatParameters) → Same266 x y → Same266 y x
back_266 x y same = record { profile = sym same.profile; tier = sym same.tier; sub_profile = sym same.sub_profile; constraints = sym same.constraints }

pub end_266 : (x y : FormatParameters) (c : c266.Configuration) → Same266 x y → c266.IsOfEnd x c → c266.IsOfEnd y c
end_266 x y c same of = record {
  profile = sym same.profile ∙ of.profile;
  tier = sym same.tier ∙ of.tier;
  sub_profile = sym same.sub_profile ∙ of.sub_profile;
  constraints = sym same.constraints ∙ of.constraints;
}

pub record Offer266 (offered own : FormatParameters) : Type 0 where
  pub of : ℕ → c266.Configuration
  pub level : (n : ℕ) → (of n).level ≡ n
  pub theirs : (n : ℕ) → c266.IsOfEnd offered (of n)
  pub same : Same266 offered own

pub offer_266 : (offered own : FormatParameters) → AreParameters h266.rules.rows offered → AreParameters h266.rules.rows own → are_symmetric h266.rules.roles h266.rules.rows offered.values own.values ≡ true → Offer266 offered own
offer_266 offered own of_offered of_own h =
    let w0 : 0 < 20 = omega arith in
    let w1 : 1 < 20 = omega arith in
    let w2 : 2 < 20 = omega arith in
    let w3 : 3 < 20 = omega arith in
    let (profile, profile_o, profile_u) = same_numbers 0 127 (codes "1") (value_at offered.values 0) (value_at own.values 0) (row_same h266.rules offered own 0 refl of_offered of_own h w0 refl) in
    let (tier, tier_o, tier_u) = same_numbers 0 1 (codes "0") (value_at offered.values 1) (value_at own.values 1) (row_same h266.rules offered own 1 refl of_offered of_own h w1 refl) in
    let sub = given_same (value_at offered.values 2) (value_at own.values 2) (row_same h266.rules offered own 2 refl of_offered of_own h w2 refl) in
    let (text, text_o, text_u) = same_texts (codes "gA==") (value_at offered.values 3) (value_at own.values 3) (row_same h266.rules offered own 3 refl of_offered of_own h w3 refl) in
    record {
      of = λ n. record { profile = profile; tier = tier; sub_profile = value_at offered.values 2; constraints = text; level = n };
      level = λ n. refl;
      theirs = λ n. record { profile = profile_o; tier = tier_o; sub_profile = refl; constraints = text_o };
      same = record { profile = profile_o ∙ sym profile_u; tier = tier_o ∙ sym tier_u; sub_profile = sub; constraints = text_o ∙ sym text_u };
    }

pub h266_common : (offered own : FormatParameters) → AreParameters h266.rules.rows offered → AreParameters h266.rules.rows own → (found : Terms) → common_terms h266.rules offered own ≡ Some found → c266.IsCommon offered own
h266_common offered own of_offered of_own found h =
    let parts = common_parts h266.rules offered own found h in
    let terms = h266_parts offered own found parts.1 in
    let agreed = agreed_by_level h266.rules.rows h266.by offered own found terms.1 in
    let both = offer_266 offered own of_offered of_own parts.0 in
    let a = agreed.a.level in
    let b = agreed.b.level in
    let least = min a b in
    let under_a : least ≤ a = omega arith in
    let under_b : least ≤ b = omega arith in
    let sets : found.sets ≡ nat_le b a = ap (λ (t : Terms). t.sets) agreed.is in
    let forth = in_order h266.rules.rows h266.by offered own agreed.forth in
    let back = in_order h266.rules.rows h266.by own offered agreed.back in
    record {
      configuration = both.of least;
      theirs = record {
        one = both.theirs least;
        level = subst (λ n. IsWithin h266.rules.rows offered 4 n) (sym (both.level least)) (level_within h266.rules.rows h266.by offered agreed.a least agreed.offer_says under_a);
      };
      ours = record {
        one = end_266 offered own (both.of least) both.same (both.theirs least);
        level = subst (λ n. IsWithin h266.rules.rows own 4 n) (sym (both.level least)) (level_within h266.rules.rows h266.by own agreed.b least agreed.own_says under_b);
      };
      forth = λ positive. let all = forth positive in (all.1, all.2);
      back = λ positive. let all = back positive in (all.1, all.2);
      layers = λ is.
          let kept = vps_kept offered own found terms.0 (layered_is offered (both.of least).profile (both.theirs least).profile is) in
          record {
            theirs = a;
            ours = b;
            offered_level = (levels_said h266.rules.rows h266.by offered agreed.a agreed.offer_says).level;
            own_level = (levels_said h266.rules.rows h266.by own agreed.b agreed.own_says).level;
            told = λ low. kept ∙ ap (λ t. only_if t (value_at own.values 11)) (sets ∙ le_true b a low);
            untold = λ high. kept ∙ ap (λ t. only_if t (value_at own.values 11)) (sets ∙ le_false b a high);
          };
    }

pub h266_terms : (offered own : FormatParameters) → AreParameters h266.rules.rows offered → AreParameters h266.rules.rows own → c266.IsCommon offered own → (found : Terms) × (common_terms h266.rules offered own ≡ Some found)
h266_terms offered own of_offered of_own it =
    let c = it.configuration in
    let t = it.theirs.one in
    let u = it.ours.one in
    let lo : length offered.values ≡ length h266.rules.roles = long_values h266.rules.rows offered.values of_offered.values in
    let lu : length own.values ≡ length h266.rules.roles = long_values h266.rules.rows own.values of_own.values in
    let profile = numbers_same 0 127 (codes "1") (value_at offered.values 0) (value_at own.values 0) c.profile t.profile u.profile in
    let tier = numbers_same 0 1 (codes "0") (value_at offered.values 1) (value_at own.values 1) c.tier t.tier u.tier in
    let sub = same_given (value_at offered.values 2) (value_at own.values 2) (t.sub_profile ∙ sym u.sub_profile) in
    let text = texts_same (codes "gA==") (value_at offered.values 3) (value_at own.values 3) c.constraints t.constraints u.constraints in
    let symmetric : are_symmetric h266.rules.roles h266.rules.rows offered.values own.values ≡ true =
    agree_symmetric h266.rules.rows offered.values own.values h266.rules.roles 0 refl lo lu
    (profile, (tier, (sub, (text, (tt, (tt, (tt, (tt, (tt, (tt, (tt, (tt, (tt, (tt, (tt, (tt, (tt, (tt, (tt, (tt, tt)))))))))))))))))))) in
    let a = levels_by it.theirs.level.most (number_at h266.rules.rows offered 9) in
    let b = levels_by it.ours.level.most (number_at h266.rules.rows own 9) in
    let of_a = levels_there h266.rules.rows h266.by offered it.theirs.level.most it.theirs.level.said in
    let of_b = levels_there h266.rules.rows h266.by own it.ours.level.most it.ours.level.said in
    let forth = order_in h266.rules.rows h266.by offered own (λ positive. let both = it.forth positive in (both.0, both.0, both.1)) in
    let back = order_in h266.rules.rows h266.by own offered (λ positive. let both = it.back positive in (both.0, both.0, both.1)) in
    let at = terms_of_levels h266.rules.rows h266.by offered own a b in
    let by : terms_by_level h266.rules.rows h266.by offered own ≡ Some at =
    ap (λ x. terms_if_known h266.rules.rows h266.by offered own x (levels_of h266.rules.rows h266.by own)) of_a
    ∙ ap (λ y. terms_if_known h266.rules.rows h266.by offered own (Some a) y) of_b
    ∙ ap (λ t. cond t (Some at) None) (both_true (can_hold h266.rules.rows h266.by offered own) (can_hold h266.rules.rows h266.by own offered) forth back) in
    let same = same_if_given (Units h266_vps) (h266.vps_of offered) (only_if at.sets (h266.vps_of own)) in
    let keeps : h266.keeps_vps offered own at ≡ true = by_test (h266.has_layers offered)
    (λ layers.
    let vps = it.layers (is_layered offered c.profile t.profile layers) in
    let theirs : vps.theirs ≡ a.level = some_same vps.theirs a.level (sym vps.offered_level ∙ it.theirs.level.said ∙ ap Some (sym (level_by it.theirs.level.most (number_at h266.rules.rows offered 9)))) in
    let ours : vps.ours ≡ b.level = some_same vps.ours b.level (sym vps.own_level ∙ it.ours.level.said ∙ ap Some (sym (level_by it.ours.level.most (number_at h266.rules.rows own 9)))) in
    let kept : h266.vps_of offered ≡ only_if at.sets (h266.vps_of own) = by_test (nat_le b.level a.level)
    (λ low.
    let small : b.level ≤ a.level = grind (arith, nat_tests, low) in
    vps.told (omega (arith, theirs, ours, small)) ∙ sym (ap (λ t. only_if t (h266.vps_of own)) low))
    (λ high.
    let large : a.level < b.level = grind (arith, nat_tests, high) in
    vps.untold (omega (arith, theirs, ours, large)) ∙ sym (ap (λ t. only_if t (h266.vps_of own)) high)) in
    ap (λ t. not t || same) layers ∙ same_units (h266.vps_of offered) (only_if at.sets (h266.vps_of own)) kept)
    (λ none. ap (λ t. not t || same) none) in (
      at,
      ap (λ t. cond t (h266.terms offered own) None) symmetric
          ∙ ap (option_and_then (h266.if_keeps_vps offered own)) by
          ∙ ap (λ t. cond t (Some at) None) keeps,
    )

pub h266_ours : (offered own answer : FormatParameters) → AreParameters h266.rules.rows offered → AreParameters h266.rules.rows own → answer_by h266.rules offered own ≡ Some answer → c266.IsOurAnswer offered own answer
h266_ours offered own answer of_offered of_own h =
    let (found, common, is) = answer_parts h266.rules offered own answer (common_terms h266.rules offered own) h in
    let parts = common_parts h266.rules offered own found common in
    let terms = h266_parts offered own found parts.1 in
    let agreed = agreed_by_level h266.rules.rows h266.by offered own found terms.1 in
    let a = agreed.a in
    let b = agreed.b in
    let both = (offer_266 offered own of_offered of_own parts.0).same in
    let said : levels_of h266.rules.rows h266.by answer ≡ Some (lower_of a b) =
    ap (levels_of h266.rules.rows h266.by) is ∙ answer_levels h266.rules h266.by h266_describes offered own found of_offered of_own agreed in
    let row : (k : ℕ) (r : Role) → k < length h266.rules.roles → role_at h266.rules k ≡ r → value_at answer.values k ≡ answered_value r found (value_at offered.values k) (value_at own.values k) =
    λ k r within of. ap (λ (it : FormatParameters). value_at it.values k) is ∙ row_of_answer h266.rules offered own found k r refl of_offered of_own within of in
    let r0 = row 0 role.Configuration (omega arith) refl in
    let r1 = row 1 role.Configuration (omega arith) refl in
    let r2 = row 2 role.Configuration (omega arith) refl in
    let r3 = row 3 role.Configuration (omega arith) refl in
    let vps = row 11 role.Sets (omega arith) refl in
    let number : (k : ℕ) → value_at answer.values k ≡ value_at offered.values k → number_or_default h266.rules.rows answer k ≡ number_or_default h266.rules.rows offered k =
    λ k e. ap (λ v. option_and_then (number_of (row_at h266.rules.rows k).kind) (option_or v (row_at h266.rules.rows k).default)) e in
    let theirs : Same266 answer offered = record {
      profile = number 0 r0;
      tier = number 1 r1;
      sub_profile = r2;
      constraints = ap (λ v. option_or v (row_at h266.rules.rows 3).default) r3;
    } in
    let to_offered : (c : c266.Configuration) → c266.IsOfEnd answer c → c266.IsOfEnd offered c = λ c one. end_266 answer offered c theirs one in
    let to_own : (c : c266.Configuration) → c266.IsOfEnd answer c → c266.IsOfEnd own c = λ c one. end_266 offered own c both (to_offered c one) in
    let of_answer : (c : c266.Configuration) → c266.IsOfEnd offered c → c266.IsOfEnd answer c = λ c one. end_266 offered answer c (back_266 answer offered theirs) one in
    record {
      ours = λ c it. record {
        one = to_own c it.one;
        level = level_within h266.rules.rows h266.by own b c.level agreed.own_says
            (let under = within_level h266.rules.rows h266.by answer (lower_of a b) c.level said it.level in omega (arith, under));
      };
      theirs = λ c it. record {
        one = to_offered c it.one;
        level = level_within h266.rules.rows h266.by offered a c.level agreed.offer_says
            (let under = within_level h266.rules.rows h266.by answer (lower_of a b) c.level said it.level in omega (arith, under));
      };
      greatest = λ c first second. record {
        one = of_answer c first.one;
        level = level_within h266.rules.rows h266.by answer (lower_of a b) c.level said
            (let under_a = within_level h266.rules.rows h266.by offered a c.level agreed.offer_says first.level in
            let under_b = within_level h266.rules.rows h266.by own b c.level agreed.own_says second.level in
            omega (arith, under_a, under_b));
      };
      received = λ c it.
          let under = received_level h266.rules.rows h266.by answer (lower_of a b) c.level said it.level in (
            record { one = to_offered c it.one; level = level_received h266.rules.rows h266.by offered a c.level agreed.offer_says (omega (arith, under)) },
            record { one = to_own c it.one; level = level_received h266.rules.rows h266.by own b c.level agreed.own_says (omega (arith, under)) },
          );
      greatest_received = λ c first second. record {
        one = of_answer c first.one;
        level = level_received h266.rules.rows h266.by answer (lower_of a b) c.level said
            (let under_a = received_level h266.rules.rows h266.by offered a c.level agreed.offer_says first.level in
            let under_b = received_level h266.rules.rows h266.by own b c.level agreed.own_says second.level in
            omega (arith, under_a, under_b));
      };
      no_sublayer = row 7 role.OperationPoint (omega arith) refl;
      no_layer_set = row 8 role.OperationPoint (omega arith) refl;
      capable = (row 15 role.Own (omega arith) refl, (row 16 role.Own (omega arith) refl, (row 19 role.Own (omega arith) refl, tt)));
      stream = (
        inr (row 5 role.Own (omega arith) refl),
        (
          inr (row 6 role.Own (omega arith) refl),
          (
            none_or_ours found.sets (value_at answer.values 10) (value_at own.values 10) (row 10 role.Sets (omega arith) refl),
            (
              none_or_ours found.sets (value_at answer.values 11) (value_at own.values 11) vps,
              (
                none_or_ours found.sets (value_at answer.values 12) (value_at own.values 12) (row 12 role.Sets (omega arith) refl),
                (
                  none_or_ours found.sets (value_at answer.values 13) (value_at own.values 13) (row 13 role.Sets (omega arith) refl),
                  (inr (row 14 role.Own (omega arith) refl), (inr (row 17 role.Own (omega arith) refl), (inr (row 18 role.Own (omega arith) refl), tt))),
                ),
              ),
            ),
          ),
        ),
      );
      one_vps = λ c it layers.
          let profile = (to_offered c it.one).profile in
          vps ∙ sym (vps_kept offered own found terms.0 (layered_is offered c.profile profile layers));
    }
