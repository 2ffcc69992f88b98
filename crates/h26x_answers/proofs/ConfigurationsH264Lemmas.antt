-- Answers of H.264 by what two ends say.
use Rattle.std.proofs.Common.{◌≡◌, ℕ, ◌<◌, ◌≤◌, true, false, not, ◌&&◌, cond, List, [], ◌∷◌, length, get_or, Option, Some, None, ◌⊎◌, inl, inr, refl, sym, ap, subst, ◌∙◌, arith, Bool}
use Rattle.std.specs.Prelude.{◌==◌, ◌||◌, nat_lt, nat_le, is_some}
use Rattle.std.specs.Option.{option_and_then, option_or}
use Rattle.std.proofs.lemmas.Bool.{and_parts, eqb-true, eq-eqb}
use Rattle.std.proofs.lemmas.Bool.Decides.{nat_tests}
use Rattle.h26x_profile.specs.H264.{idc_of, profile_of}
use Rattle.h26x_profile.specs.declared.h264.H264Profile.{H264Profile}
use Rattle.h26x_profile.specs.declared.h264.H264Profile.TheVariants as profile
use Rattle.h26x_profile.specs.declared.h264.H264ProfileIdc.{H264ProfileIdc}
use Rattle.h26x_answers.specs.declared.answer.AnswerRules.{AnswerRules}
use Rattle.h26x_answers.specs.declared.answer.AnswerRules.TheVariants.{Rfc, Webrtc}
use Rattle.h26x_sdp.specs.declared.h264.H264Parameter.TheVariants as p
use Rattle.h26x_answers.specs.declared.answer.Role.TheVariants as role
use Rattle.h26x_answers.specs.declared.answer.h264.ProfileLevelId.{ProfileLevelId}
use Rattle.h26x_fmtp.specs.Kinds.{number_of}
use Rattle.h26x_fmtp.specs.Tables.{row_at}
use Rattle.h26x_fmtp.specs.Parameters.{AreParameters}
use Rattle.h26x_fmtp.specs.Reading.{FormatParameters, value_at}
use Rattle.h26x_sdp.specs.H264Rows.{rows}
use Rattle.h26x_answers.specs.Answers.{Terms, only_if, answered, answered_value, are_symmetric, common_terms, answer_by, same_number, holds}
use Rattle.h26x_answers.specs.AnswersH264.{roles, rules, number, is_on, id_of, profile_flags, level_rank, sub_profile, same_sub_profile, profile_place, is_constrained_of, constrained_sub_profile, same_profile, takes_profile, at_level_of, is_interleaved, can_deinterleave, can_order, both_asymmetric, answer_level, rank_back, may_tell_sets, with_level_sets, terms_at, terms_of_ids, terms}
use Rattle.h26x_answers.specs.AllowedH264.{IsSameProfile}
use Rattle.h26x_answers.specs.ConfigurationsH264.{Configuration, IsOfSubProfile, IsOneSubProfile, AreOfOneProfile, IsConstrainedOf, IsConstrained, IsOfProfile, IsOfOfferedProfile, Says, IsPutInOrder, IsCommon, AllowsAsymmetry, IsOurAnswer}
use Rattle.h26x_fmtp.proofs.PartLemmas.{by_test}
use Rattle.h26x_fmtp.proofs.TestLemmas.{both_true}
use Rattle.h26x_answers.proofs.AnswersLemmas.{answer_parts, answered_at}
use Rattle.h26x_answers.proofs.SymmetricLemmas.{symmetric_row, agree_symmetric, number_parts, same_numbers, numbers_same}
use Rattle.h26x_answers.proofs.IdLemmas.{profile_kept, level_moved}
use Rattle.h26x_answers.proofs.AnswersH264Lemmas.{long_values, agreed_common, id_of_bytes, level_bytes, answer_says, answer_rows, number_same, absent}

-- ---- profiles

-- the profile at a place
place_profile : ℕ → H264Profile
place_profile n = get_or (profile.Baseline ∷ profile.ConstrainedBaseline ∷ profile.Main ∷ profile.Extended ∷ profile.High ∷ profile.ConstrainedHigh ∷ profile.High10 ∷ profile.High422 ∷
    profile.High444Predictive ∷ profile.High10Intra ∷ profile.High422Intra ∷ profile.High444Intra ∷ profile.CAVLC444Intra ∷ []) n profile.Baseline

of_place : (it : H264Profile) → place_profile (profile_place it) ≡ it
unfolding place_profile
of_place profile.Baseline = refl
of_place profile.ConstrainedBaseline = refl
of_place profile.Main = refl
of_place profile.Extended = refl
of_place profile.High = refl
of_place profile.ConstrainedHigh = refl
of_place profile.High10 = refl
of_place profile.High422 = refl
of_place profile.High444Predictive = refl
of_place profile.High10Intra = refl
of_place profile.High422Intra = refl
of_place profile.High444Intra = refl
of_place profile.CAVLC444Intra = refl

same_place : (a b : H264Profile) → (profile_place a == profile_place b) ≡ true → a ≡ b
same_place a b h = sym (of_place a) ∙ ap place_profile (eqb-true (profile_place a) (profile_place b) h) ∙ of_place b

-- a sub-profile is that of the table
sub_parts : (it : ProfileLevelId) (idc : Option H264ProfileIdc) (named : H264Profile) → idc_of it.profile_idc ≡ idc → option_and_then (λ i. profile_of i (profile_flags it)) idc ≡ Some named → IsOfSubProfile it named
sub_parts it None named is h = cc h
sub_parts it (Some idc) named is h = record { idc = idc; number = is; named = h }

sub_is : (it : ProfileLevelId) (named : H264Profile) → IsOfSubProfile it named → sub_profile it ≡ Some named
sub_is it named of = ap (option_and_then (λ i. profile_of i (profile_flags it))) of.number ∙ of.named

sub_same : (a b : ProfileLevelId) → IsSameProfile a b → sub_profile a ≡ sub_profile b
sub_same a b same =
    ap (λ idc. option_and_then (λ i. profile_of i (profile_flags a)) (idc_of idc)) same.idc
    ∙ ap (λ flags. option_and_then (λ i. profile_of i flags) (idc_of b.profile_idc)) same.flags

one_of_two : (a b : ProfileLevelId) (x y : Option H264Profile) → sub_profile a ≡ x → sub_profile b ≡ y → same_sub_profile x y ≡ true → IsOneSubProfile a b
one_of_two a b None y of_a of_b h = cc h
one_of_two a b (Some x) None of_a of_b h = cc h
one_of_two a b (Some x) (Some y) of_a of_b h = record {
  profile = x;
  first = sub_parts a (idc_of a.profile_idc) x refl of_a;
  second = sub_parts b (idc_of b.profile_idc) x refl (of_b ∙ ap Some (sym (same_place x y h)));
}

-- the test of profiles decides
pub one_profile : (a b : ProfileLevelId) → same_profile a b ≡ true → AreOfOneProfile a b
one_profile a b h = by_test ((a.profile_idc == b.profile_idc) && (profile_flags a == profile_flags b))
    (λ bytes.
    let parts = and_parts (a.profile_idc == b.profile_idc) (profile_flags a == profile_flags b) bytes in
    inl (record { idc = eqb-true a.profile_idc b.profile_idc parts.0; flags = eqb-true (profile_flags a) (profile_flags b) parts.1 }))
    (λ other.
    inr (one_of_two a b (sub_profile a) (sub_profile b) refl refl
    (sym (ap (λ t. t || same_sub_profile (sub_profile a) (sub_profile b)) other) ∙ h)))

or_right : (t : Bool) → (t || true) ≡ true
or_right true = refl
or_right false = refl

pub profile_test : (a b : ProfileLevelId) → AreOfOneProfile a b → same_profile a b ≡ true
profile_test a b one = elim one [
  | inl same ↦
      ap (λ t. t || same_sub_profile (sub_profile a) (sub_profile b))
      (both_true (a.profile_idc == b.profile_idc) (profile_flags a == profile_flags b)
      (eq-eqb a.profile_idc b.profile_idc same.idc) (eq-eqb (profile_flags a) (profile_flags b) same.flags))
  | inr sub ↦
      ap (λ s. ((a.profile_idc == b.profile_idc) && (profile_flags a == profile_flags b)) || same_sub_profile s (sub_profile b)) (sub_is a sub.profile sub.first)
      ∙ ap (λ s. ((a.profile_idc == b.profile_idc) && (profile_flags a == profile_flags b)) || same_sub_profile (Some sub.profile) s) (sub_is b sub.profile sub.second)
      ∙ ap (λ t. ((a.profile_idc == b.profile_idc) && (profile_flags a == profile_flags b)) || t) (eq-eqb (profile_place sub.profile) (profile_place sub.profile) refl)
      ∙ or_right ((a.profile_idc == b.profile_idc) && (profile_flags a == profile_flags b))
]

same_self : (a : ProfileLevelId) → AreOfOneProfile a a
same_self a = inl (record { idc = refl; flags = refl })

pub one_back : (a b : ProfileLevelId) → AreOfOneProfile a b → AreOfOneProfile b a
one_back a b one = elim one [
  | inl same ↦ inl (record { idc = sym same.idc; flags = sym same.flags })
  | inr sub ↦ inr (record { profile = sub.profile; first = sub.second; second = sub.first })
]

some_same : (x y : H264Profile) → Some x ≡ Some y → x ≡ y
some_same x y h = cc h

-- and is passed on
pub one_through : (a b c : ProfileLevelId) → AreOfOneProfile a b → AreOfOneProfile b c → AreOfOneProfile a c
one_through a b c first second = elim first [
  | inl same ↦ elim second [
    | inl more ↦ inl (record { idc = same.idc ∙ more.idc; flags = same.flags ∙ more.flags })
    | inr sub ↦ inr (record {
      profile = sub.profile;
      first = sub_parts a (idc_of a.profile_idc) sub.profile refl (sub_same a b same ∙ sub_is b sub.profile sub.first);
      second = sub.second;
    })
  ]
  | inr sub ↦ elim second [
    | inl same ↦ inr (record {
      profile = sub.profile;
      first = sub.first;
      second = sub_parts c (idc_of c.profile_idc) sub.profile refl (sym (sub_same b c same) ∙ sub_is b sub.profile sub.second);
    })
    | inr more ↦ inr (record {
      profile = sub.profile;
      first = sub.first;
      second = subst (IsOfSubProfile c) (some_same more.profile sub.profile (sym (sub_is b more.profile more.first) ∙ sub_is b sub.profile sub.second)) more.second;
    })
  ]
]

-- ---- constrained profiles

place_one : (a b : ℕ) (x y : H264Profile) → profile_place x ≡ a → profile_place y ≡ b → ((profile_place x == a) && (profile_place y == b)) ≡ true
place_one a b x y of_x of_y = both_true (profile_place x == a) (profile_place y == b) (eq-eqb (profile_place x) a of_x) (eq-eqb (profile_place y) b of_y)

-- those of two places
places : (x y : H264Profile) (narrow wide : H264Profile) → ((profile_place x == profile_place narrow) && (profile_place y == profile_place wide)) ≡ true → (x ≡ narrow) × (y ≡ wide)
places x y narrow wide h =
    let both = and_parts (profile_place x == profile_place narrow) (profile_place y == profile_place wide) h in
    (same_place x narrow both.0, same_place y wide both.1)

constrained_parts : (x y : H264Profile) → is_constrained_of x y ≡ true → IsConstrainedOf x y
constrained_parts x y h = by_test ((profile_place x == 1) && (profile_place y == 0))
    (λ low. inl (places x y profile.ConstrainedBaseline profile.Baseline low))
    (λ other. inr (places x y profile.ConstrainedHigh profile.High (sym (ap (λ t. t || ((profile_place x == 5) && (profile_place y == 4))) other) ∙ h)))

constrained_is : (x y : H264Profile) → IsConstrainedOf x y → is_constrained_of x y ≡ true
constrained_is x y it = elim it [
  | inl low ↦ ap (λ t. t || ((profile_place x == 5) && (profile_place y == 4))) (place_one 1 0 x y (ap profile_place low.0) (ap profile_place low.1))
  | inr high ↦ ap (λ t. ((profile_place x == 1) && (profile_place y == 0)) || t) (place_one 5 4 x y (ap profile_place high.0) (ap profile_place high.1))
      ∙ or_right ((profile_place x == 1) && (profile_place y == 0))
]

-- nothing is narrower than what is narrow, nor wider than what is wide
never_twice : (x y z : H264Profile) → IsConstrainedOf x y → IsConstrainedOf y z → ⊥
never_twice x y z first second = elim first [
  | inl low ↦ elim second [ inl more ↦ cc (sym low.1 ∙ more.0) | inr more ↦ cc (sym low.1 ∙ more.0) ]
  | inr high ↦ elim second [ inl more ↦ cc (sym high.1 ∙ more.0) | inr more ↦ cc (sym high.1 ∙ more.0) ]
]

constrained_of_two : (a b : ProfileLevelId) (x y : Option H264Profile) → sub_profile a ≡ x → sub_profile b ≡ y → constrained_sub_profile x y ≡ true → IsConstrained a b
constrained_of_two a b None y of_a of_b h = cc h
constrained_of_two a b (Some x) None of_a of_b h = cc h
constrained_of_two a b (Some x) (Some y) of_a of_b h = record {
  narrow = x;
  wide = y;
  first = sub_parts a (idc_of a.profile_idc) x refl of_a;
  second = sub_parts b (idc_of b.profile_idc) y refl of_b;
  constrained = constrained_parts x y h;
}

constrained_test : (a b : ProfileLevelId) → IsConstrained a b → constrained_sub_profile (sub_profile a) (sub_profile b) ≡ true
constrained_test a b it =
    ap (λ s. constrained_sub_profile s (sub_profile b)) (sub_is a it.narrow it.first)
    ∙ ap (constrained_sub_profile (Some it.narrow)) (sub_is b it.wide it.second)
    ∙ constrained_is it.narrow it.wide it.constrained

-- one profile names one sub-profile
sub_of_one : (a b : ProfileLevelId) (named : H264Profile) → AreOfOneProfile a b → IsOfSubProfile b named → IsOfSubProfile a named
sub_of_one a b named one of = elim one [
  | inl same ↦ sub_parts a (idc_of a.profile_idc) named refl (sub_same a b same ∙ sub_is b named of)
  | inr sub ↦ subst (IsOfSubProfile a) (some_same sub.profile named (sym (sub_is b sub.profile sub.second) ∙ sub_is b named of)) sub.first
]

-- ---- what is an end's profile

pub of_one : (by : AnswerRules) (a b : ProfileLevelId) → AreOfOneProfile a b → IsOfProfile by a b
of_one Rfc a b one = one
of_one Webrtc a b one = inl one

pub taken_profile : (by : AnswerRules) (a b : ProfileLevelId) → takes_profile by a b ≡ true → IsOfProfile by a b
taken_profile Rfc a b h = one_profile a b h
taken_profile Webrtc a b h = by_test (same_profile a b)
    (λ same. inl (one_profile a b same))
    (λ other. inr (constrained_of_two a b (sub_profile a) (sub_profile b) refl refl
    (sym (ap (λ t. t || constrained_sub_profile (sub_profile a) (sub_profile b)) other) ∙ h)))

pub takes_test : (by : AnswerRules) (a b : ProfileLevelId) → IsOfProfile by a b → takes_profile by a b ≡ true
takes_test Rfc a b it = profile_test a b it
takes_test Webrtc a b it = elim it [
  | inl one ↦ ap (λ t. t || constrained_sub_profile (sub_profile a) (sub_profile b)) (profile_test a b one)
  | inr narrow ↦ ap (λ t. same_profile a b || t) (constrained_test a b narrow) ∙ or_right (same_profile a b)
]

-- and is passed on
pub of_through : (by : AnswerRules) (a b c : ProfileLevelId) → IsOfProfile by a b → IsOfProfile by b c → IsOfProfile by a c
of_through Rfc a b c first second = one_through a b c first second
of_through Webrtc a b c first second = elim first [
  | inl one ↦ elim second [
    | inl more ↦ inl (one_through a b c one more)
    | inr narrow ↦ inr (record {
      narrow = narrow.narrow;
      wide = narrow.wide;
      first = sub_of_one a b narrow.narrow one narrow.first;
      second = narrow.second;
      constrained = narrow.constrained;
    })
  ]
  | inr narrow ↦ elim second [
    | inl more ↦ inr (record {
      narrow = narrow.narrow;
      wide = narrow.wide;
      first = narrow.first;
      second = sub_of_one c b narrow.wide (one_back b c more) narrow.second;
      constrained = narrow.constrained;
    })
    | inr more ↦ absurd (never_twice narrow.narrow narrow.wide more.wide narrow.constrained
        (subst (λ n. IsConstrainedOf n more.wide) (some_same more.narrow narrow.wide (sym (sub_is b more.narrow more.first) ∙ sub_is b narrow.wide narrow.second)) more.constrained))
  ]
]

-- ---- packets out of order

holds_parts : (need room : Option ℕ) → holds need room ≡ true → (n : ℕ) × (r : ℕ) × (need ≡ Some n) × (room ≡ Some r) × (n ≤ r)
holds_parts None room h = cc h
holds_parts (Some n) None h = cc h
holds_parts (Some n) (Some r) h = (n, r, refl, refl, grind (arith, nat_tests, h))

le_true : (a b : ℕ) → a ≤ b → nat_le a b ≡ true
le_true a b h = grind (arith, nat_tests, h)

some_parts : (value : Option (List ℕ)) → is_some value ≡ true → (it : List ℕ) × (value ≡ Some it)
some_parts None h = cc h
some_parts (Some it) h = (it, refl)

pub order_parts : (sender receiver : FormatParameters) → can_deinterleave sender receiver ≡ true → IsPutInOrder sender receiver
order_parts sender receiver h =
    let both = and_parts (is_some (value_at sender.values 15)) (holds (number sender p.SpropDeintBufReq) (number receiver p.DeintBufCap)) h in
    let (depth, deep) = some_parts (value_at sender.values 15) both.0 in
    let (need, room, needed, given, fits) = holds_parts (number sender p.SpropDeintBufReq) (number receiver p.DeintBufCap) both.1 in
    record { depth = depth; need = need; room = room; deep = deep; needed = needed; given = given; fits = fits }

pub order_test : (sender receiver : FormatParameters) → IsPutInOrder sender receiver → can_deinterleave sender receiver ≡ true
order_test sender receiver it = both_true (is_some (value_at sender.values 15)) (holds (number sender p.SpropDeintBufReq) (number receiver p.DeintBufCap))
    (ap (λ (v : Option (List ℕ)). is_some v) it.deep)
    (ap (λ n. holds n (number receiver p.DeintBufCap)) it.needed ∙ ap (holds (Some it.need)) it.given ∙ le_true it.need it.room it.fits)

-- ---- what is in common

pub mode_same : (offered own : FormatParameters) → AreParameters rows offered → AreParameters rows own → are_symmetric roles rows offered.values own.values ≡ true
    → (m : ℕ) × (number offered p.PacketizationMode ≡ Some m) × (number own p.PacketizationMode ≡ Some m)
mode_same offered own of_offered of_own h =
    let lo : length offered.values ≡ length roles = long_values rows offered.values of_offered.values in
    let lu : length own.values ≡ length roles = long_values rows own.values of_own.values in
    let at : 14 < 23 = omega arith in
    same_numbers 0 2 (48 ∷ []) (value_at offered.values 14) (value_at own.values 14)
    (symmetric_row roles rows offered.values own.values 14 h refl lo lu at)

modes_agree : (offered own : FormatParameters) (m : ℕ) → AreParameters rows offered → AreParameters rows own → number offered p.PacketizationMode ≡ Some m → number own p.PacketizationMode ≡ Some m
    → are_symmetric roles rows offered.values own.values ≡ true
modes_agree offered own m of_offered of_own theirs ours =
    let lo : length offered.values ≡ length roles = long_values rows offered.values of_offered.values in
    let lu : length own.values ≡ length roles = long_values rows own.values of_own.values in
    let mode = numbers_same 0 2 (48 ∷ []) (value_at offered.values 14) (value_at own.values 14) m theirs ours in
    agree_symmetric rows offered.values own.values roles 0 refl lo lu
    (tt, (tt, (tt, (tt, (tt, (tt, (tt, (tt, (tt, (tt, (tt, (tt, (tt, (tt, (mode, (tt, (tt, (tt, (tt, (tt, (tt, (tt, (tt, tt)))))))))))))))))))))))

symmetric_of : (by : AnswerRules) (offered own : FormatParameters) (found : Terms) → common_terms (rules by) offered own ≡ Some found → are_symmetric roles rows offered.values own.values ≡ true
symmetric_of by offered own found h = by_test (are_symmetric roles rows offered.values own.values)
    (λ same. same)
    (λ other.
    let e : None ≡ Some found = sym (ap (λ t. cond t (terms by offered own) None) other) ∙ h in
    cc e)

low_of_first : (a b : ProfileLevelId) → level_rank (answer_level false a b) ≤ level_rank a
low_of_first a b = by_test (nat_lt (level_rank b) (level_rank a))
    (λ less.
    let small : level_rank b < level_rank a = grind (arith, nat_tests, less) in
    subst (λ t. level_rank (cond t b a) ≤ level_rank a) (sym less) (omega (arith, small)))
    (λ other. subst (λ t. level_rank (cond t b a) ≤ level_rank a) (sym other) (omega arith))

low_of_second : (a b : ProfileLevelId) → level_rank (answer_level false a b) ≤ level_rank b
low_of_second a b = by_test (nat_lt (level_rank b) (level_rank a))
    (λ less. subst (λ t. level_rank (cond t b a) ≤ level_rank b) (sym less) (omega arith))
    (λ other.
    let small : level_rank a ≤ level_rank b = grind (arith, nat_tests, other) in
    subst (λ t. level_rank (cond t b a) ≤ level_rank b) (sym other) small)

low_above : (a b : ProfileLevelId) (rank : ℕ) → rank ≤ level_rank a → rank ≤ level_rank b → rank ≤ level_rank (answer_level false a b)
low_above a b rank first second = by_test (nat_lt (level_rank b) (level_rank a))
    (λ less. subst (λ t. rank ≤ level_rank (cond t b a)) (sym less) second)
    (λ other. subst (λ t. rank ≤ level_rank (cond t b a)) (sym other) first)

-- the offered profile at that level
record Lowest (a b : ProfileLevelId) : Type 0 where
  pub id : ProfileLevelId
  pub profile : AreOfOneProfile id a
  pub first : level_rank id ≤ level_rank a
  pub second : level_rank id ≤ level_rank b

lowest : (a b : ProfileLevelId) → Lowest a b
lowest a b = by_test (nat_lt (level_rank b) (level_rank a))
    (λ less.
    let small : level_rank b < level_rank a = grind (arith, nat_tests, less) in
    let moved = level_moved a b in
    record {
      id = at_level_of a b;
      profile = inl (profile_kept a b);
      first = omega (arith, moved, small);
      second = omega (arith, moved);
    })
    (λ other.
    let small : level_rank a ≤ level_rank b = grind (arith, nat_tests, other) in
    record { id = a; profile = same_self a; first = omega arith; second = small })

is_two : (m : ℕ) (n : Option ℕ) → n ≡ Some m → same_number n (Some 2) ≡ true → m ≡ 2
is_two m n of h = eqb-true m 2 (sym (ap (λ t. same_number t (Some 2)) of) ∙ h)

order_of : (offered own : FormatParameters) → can_order offered own ≡ true → is_interleaved offered ≡ true
    → (can_deinterleave offered own ≡ true) × (can_deinterleave own offered ≡ true)
order_of offered own can interleaved =
    and_parts (can_deinterleave offered own) (can_deinterleave own offered)
    (sym (ap (λ t. not t || (can_deinterleave offered own && can_deinterleave own offered)) interleaved) ∙ can)

-- where there are terms there is a configuration in common
pub h264_common : (by : AnswerRules) (offered own : FormatParameters) → AreParameters rows offered → AreParameters rows own → (found : Terms) → common_terms (rules by) offered own ≡ Some found → IsCommon by offered own
h264_common by offered own of_offered of_own found h =
    let agreed = agreed_common by offered own found h in
    let a = agreed.a in
    let b = agreed.b in
    let taken = taken_profile by a b agreed.profile in
    let low = lowest a b in
    let (m, theirs, ours) = mode_same offered own of_offered of_own (symmetric_of by offered own found h) in
    let inter : m ≡ 2 → is_interleaved offered ≡ true = λ two. ap (λ n. same_number n (Some 2)) theirs ∙ eq-eqb m 2 two in
    record {
      configuration = record { id = low.id; mode = m };
      theirs = record {
        id = a;
        said = agreed.offer_says;
        profile = of_one by low.id a low.profile;
        mode = theirs;
        level = low.first;
      };
      ours = record {
        id = b;
        said = agreed.own_says;
        profile = of_through by low.id a b (of_one by low.id a low.profile) taken;
        mode = ours;
        level = low.second;
      };
      whole = low.profile;
      forth = λ two. order_parts offered own (order_of offered own agreed.order (inter two)).0;
      back = λ two. order_parts own offered (order_of offered own agreed.order (inter two)).1;
    }

-- and where there is one in common there are terms
pub h264_terms : (by : AnswerRules) (offered own : FormatParameters) → AreParameters rows offered → AreParameters rows own → IsCommon by offered own → (found : Terms) × (common_terms (rules by) offered own ≡ Some found)
h264_terms by offered own of_offered of_own it =
    let a = it.theirs.id in
    let b = it.ours.id in
    let c = it.configuration.id in
    let profile = takes_test by a b (of_through by a c b (of_one by a c (one_back c a it.whole)) it.ours.profile) in
    let symmetric = modes_agree offered own it.configuration.mode of_offered of_own it.theirs.mode it.ours.mode in
    let order : can_order offered own ≡ true = by_test (is_interleaved offered)
    (λ inter.
    let two = is_two it.configuration.mode (number offered p.PacketizationMode) it.theirs.mode inter in
    ap (λ t. not t || (can_deinterleave offered own && can_deinterleave own offered)) inter
    ∙ both_true (can_deinterleave offered own) (can_deinterleave own offered) (order_test offered own (it.forth two)) (order_test own offered (it.back two)))
    (λ other. ap (λ t. not t || (can_deinterleave offered own && can_deinterleave own offered)) other) in
    let at = terms_at offered (both_asymmetric offered own) a b (answer_level (both_asymmetric offered own) a b) in (
      at,
      ap (λ t. cond t (terms by offered own) None) symmetric
          ∙ ap (λ x. terms_of_ids by offered own x (id_of by own)) it.theirs.said
          ∙ ap (λ y. terms_of_ids by offered own (Some a) y) it.ours.said
          ∙ ap (λ t. cond t (Some at) None) (both_true (takes_profile by a b) (can_order offered own) profile order),
    )

-- ---- what the answer says

pub some_id : (x y : ProfileLevelId) → Some x ≡ Some y → x ≡ y
some_id x y h = cc h

some_number : (x y : ℕ) → Some x ≡ Some y → x ≡ y
some_number x y h = cc h

allows : (it : FormatParameters) → is_on it p.LevelAsymmetryAllowed ≡ true → AllowsAsymmetry it
allows it h =
    let (n, is, one) = number_parts (number it p.LevelAsymmetryAllowed) (Some 1) h in is ∙ sym one

allows_test : (it : FormatParameters) → AllowsAsymmetry it → is_on it p.LevelAsymmetryAllowed ≡ true
allows_test it h = ap (λ n. same_number n (Some 1)) h

asymmetric_parts : (offered own : FormatParameters) → both_asymmetric offered own ≡ true → AllowsAsymmetry offered × AllowsAsymmetry own
asymmetric_parts offered own h =
    let both = and_parts (is_on offered p.LevelAsymmetryAllowed) (is_on own p.LevelAsymmetryAllowed) h in
    (allows offered both.0, allows own both.1)

asymmetric_test : (offered own : FormatParameters) → AllowsAsymmetry offered → AllowsAsymmetry own → both_asymmetric offered own ≡ true
asymmetric_test offered own theirs ours = both_true (is_on offered p.LevelAsymmetryAllowed) (is_on own p.LevelAsymmetryAllowed) (allows_test offered theirs) (allows_test own ours)

-- a configuration of one end's profile and mode, within another's level
says_to : (by : AnswerRules) (it to : FormatParameters) (x y : ProfileLevelId) (m : ℕ) (c : Configuration) → id_of by it ≡ Some x → id_of by to ≡ Some y → IsOfProfile by x y
    → number it p.PacketizationMode ≡ Some m → number to p.PacketizationMode ≡ Some m → (said : Says by it c) → level_rank c.id ≤ level_rank y → Says by to c
says_to by it to x y m c of_it of_to one it_mode to_mode said within =
    let same : said.id ≡ x = some_id said.id x (sym said.said ∙ of_it) in
    record {
      id = y;
      said = of_to;
      profile = of_through by c.id x y (subst (λ i. IsOfProfile by c.id i) same said.profile) one;
      mode = to_mode ∙ sym it_mode ∙ said.mode;
      level = within;
    }

level_said : (by : AnswerRules) (it : FormatParameters) (x : ProfileLevelId) (c : Configuration) → id_of by it ≡ Some x → Says by it c → level_rank c.id ≤ level_rank x
level_said by it x c of_it said = subst (λ i. level_rank c.id ≤ level_rank i) (some_id said.id x (sym said.said ∙ of_it)) said.level

-- the answer's level isn't above ours
answer_low : (asymmetric : Bool) (a b : ProfileLevelId) → level_rank (answer_level asymmetric a b) ≤ level_rank b
answer_low true a b = omega arith
answer_low false a b = low_of_second a b

rank_of : (offered own : FormatParameters) (a b x : ProfileLevelId) (asymmetric : Bool) → both_asymmetric offered own ≡ asymmetric → level_rank x ≡ level_rank (answer_level (both_asymmetric offered own) a b)
    → level_rank x ≡ level_rank (answer_level asymmetric a b)
rank_of offered own a b x asymmetric is h = h ∙ ap (λ t. level_rank (answer_level t a b)) is

not_both : (offered own : FormatParameters) → (AllowsAsymmetry offered → AllowsAsymmetry own → ⊥) → both_asymmetric offered own ≡ false
not_both offered own never = by_test (both_asymmetric offered own)
    (λ both. let parts = asymmetric_parts offered own both in absurd (never parts.0 parts.1))
    (λ other. other)

none_or_ours : (belongs : Bool) (value own : Option (List ℕ)) → value ≡ only_if belongs own → (value ≡ None) ⊎ (value ≡ own)
none_or_ours true value own h = inr h
none_or_ours false value own h = inl h

own_row : (by : AnswerRules) (offered own answer : FormatParameters) (found : Terms) (k : ℕ) → AreParameters rows offered → AreParameters rows own → answer ≡ answered (rules by) offered own found → k < length roles
    → value_at answer.values k ≡ answered_value (get_or roles k role.Own) found (value_at offered.values k) (value_at own.values k)
own_row by offered own answer found k of_offered of_own is within =
    let lo : length offered.values ≡ length roles = long_values rows offered.values of_offered.values in
    let lu : length own.values ≡ length roles = long_values rows own.values of_own.values in
    ap (λ (it : FormatParameters). value_at it.values k) is ∙ answered_at found roles offered.values own.values k lo lu within

-- what we say of the offered profile
own_to_offered : (by : AnswerRules) (offered own : FormatParameters) (a b : ProfileLevelId) (c : Configuration) → id_of by offered ≡ Some a → id_of by own ≡ Some b → takes_profile by a b ≡ true
    → IsOfOfferedProfile by offered c → Says by own c → IsOfProfile by c.id a
own_to_offered Rfc offered own a b c of_a of_b taken offers said =
    let same : said.id ≡ b = some_id said.id b (sym said.said ∙ of_b) in
    one_through c.id b a (subst (λ i. AreOfOneProfile c.id i) same said.profile) (one_back a b (one_profile a b taken))
own_to_offered Webrtc offered own a b c of_a of_b taken offers said =
    subst (λ i. IsOfProfile Webrtc c.id i) (some_id offers.id a (sym offers.said ∙ of_a)) offers.profile

-- whose profiles aren't one
not_one : (a b : ProfileLevelId) → (AreOfOneProfile a b → ⊥) → same_profile a b ≡ false
not_one a b never = by_test (same_profile a b) (λ same. absurd (never (one_profile a b same))) (λ other. other)

-- each answer is by what was offered and by what we can do
pub h264_ours : (by : AnswerRules) (offered own answer : FormatParameters) → AreParameters rows offered → AreParameters rows own → answer_by (rules by) offered own ≡ Some answer → IsOurAnswer by offered own answer
h264_ours by offered own answer of_offered of_own h =
    let (found, common, is) = answer_parts (rules by) offered own answer (common_terms (rules by) offered own) h in
    let agreed = agreed_common by offered own found common in
    let at = answer_rows by offered own answer found of_offered of_own is in
    let a = agreed.a in
    let b = agreed.b in
    let asymmetric = both_asymmetric offered own in
    let level = answer_level asymmetric a b in
    let of_a = id_of_bytes by offered a agreed.offer_says in
    let of_b = id_of_bytes by own b agreed.own_says in
    let says = answer_says by offered answer a level agreed.offer_says of_a (level_bytes asymmetric a b of_a of_b)
    (at.id ∙ ap (λ (t : Terms). t.level) agreed.is) in
    let x = says.id in
    let (m, theirs, ours) = mode_same offered own of_offered of_own (symmetric_of by offered own found common) in
    let mode = number_same answer offered p.PacketizationMode at.mode ∙ theirs in
    let to_a : AreOfOneProfile x a = inl says.profile in
    let same_a = of_one by x a to_a in
    let from_a = of_one by a x (one_back x a to_a) in
    let to_b = of_through by x a b same_a (taken_profile by a b agreed.profile) in
    let flag : value_at answer.values 13 ≡ only_if asymmetric (value_at own.values 13) = at.asymmetry ∙ ap (λ (t : Terms). only_if t.asymmetric (value_at own.values 13)) agreed.is in
    let row : (k : ℕ) → k < length roles → value_at answer.values k ≡ answered_value (get_or roles k role.Own) found (value_at offered.values k) (value_at own.values k) =
    λ k within. own_row by offered own answer found k of_offered of_own is within in
    let low_b = answer_low asymmetric a b in
    record {
      ours = λ c said. says_to by answer own x b m c says.says agreed.own_says to_b mode ours said
          (let within = level_said by answer x c says.says said in omega (arith, within, says.level, low_b));
      theirs = λ never c said. says_to by answer offered x a m c says.says agreed.offer_says same_a mode theirs said
          (let within = level_said by answer x c says.says said in
          let rank = rank_of offered own a b x false (not_both offered own never) says.level in
          let low_a = low_of_first a b in
          omega (arith, within, rank, low_a));
      greatest = λ c first second. says_to by offered answer a x m c agreed.offer_says says.says from_a theirs mode first
          (let under_a = level_said by offered a c agreed.offer_says first in
          let under_b = level_said by own b c agreed.own_says second in
          by_test asymmetric
          (λ both.
          let rank = rank_of offered own a b x true both says.level in
          omega (arith, under_b, rank))
          (λ other.
          let rank = rank_of offered own a b x false other says.level in
          let above = low_above a b (level_rank c.id) under_a under_b in
          omega (arith, above, rank)));
      own_level = λ first second c offers said. record {
        id = x;
        said = says.says;
        profile = of_through by c.id a x (own_to_offered by offered own a b c agreed.offer_says agreed.own_says agreed.profile offers said) from_a;
        mode = mode ∙ sym ours ∙ said.mode;
        level =
            let under_b = level_said by own b c agreed.own_says said in
            let rank = rank_of offered own a b x true (asymmetric_test offered own first second) says.level in
            omega (arith, under_b, rank);
      };
      received = λ c said.
          let same : said.id ≡ x = some_id said.id x (sym said.said ∙ says.says) in
          let same_mode : m ≡ c.mode = some_number m c.mode (sym mode ∙ said.mode) in
          let received : value_at answer.values 1 ≡ value_at own.values 1 = row 1 (omega arith) in
          record {
            id = b;
            said = agreed.own_says;
            profile = of_through by c.id x b (subst (λ i. IsOfProfile by c.id i) same said.profile) to_b;
            mode = ours ∙ ap Some same_mode;
            level = elim said.level [
              | inl under ↦
                  let within : level_rank c.id ≤ level_rank x = subst (λ i. level_rank c.id ≤ level_rank i) same under in
                  inl (omega (arith, within, says.level, low_b))
              | inr given ↦ inr (record { text = given.text; given = sym received ∙ given.given; within = given.within })
            ];
          };
      asymmetry = λ allowed. by_test asymmetric
          (λ both. asymmetric_parts offered own both)
          (λ other.
          let none : value_at answer.values 13 ≡ None = flag ∙ ap (λ t. only_if t (value_at own.values 13)) other in
          let zero : number answer p.LevelAsymmetryAllowed ≡ Some 0 = ap (λ v. option_and_then (number_of (row_at rows 13).kind) (option_or v (row_at rows 13).default)) none in
          let wrong : Some 0 ≡ Some 1 = sym zero ∙ allowed in
          cc wrong);
      capable = (
        row 1 (omega arith),
        (
          row 2 (omega arith),
          (
            row 3 (omega arith),
            (
              row 4 (omega arith),
              (
                row 5 (omega arith),
                (
                  row 6 (omega arith),
                  (
                    row 7 (omega arith),
                    (
                      row 8 (omega arith),
                      (
                        row 11 (omega arith),
                        (
                          row 12 (omega arith),
                          (
                            row 17 (omega arith),
                            (row 20 (omega arith), (row 21 (omega arith), (row 22 (omega arith), tt))),
                          ),
                        ),
                      ),
                    ),
                  ),
                ),
              ),
            ),
          ),
        ),
      );
      stream = (
        none_or_ours found.sets (value_at answer.values 9) (value_at own.values 9) at.sets,
        (
          none_or_ours found.level_sets (value_at answer.values 10) (value_at own.values 10) at.level_sets,
          (
            none_or_ours found.reorders (value_at answer.values 15) (value_at own.values 15) at.depth,
            (
              none_or_ours found.reorders (value_at answer.values 16) (value_at own.values 16) at.need,
              (
                none_or_ours found.reorders (value_at answer.values 18) (value_at own.values 18) at.time,
                (none_or_ours found.reorders (value_at answer.values 19) (value_at own.values 19) at.difference, tt),
              ),
            ),
          ),
        ),
      );
      sets = λ x y of_x of_y other.
          let same_x : x ≡ a = some_id x a (sym of_x ∙ agreed.offer_says) in
          let same_y : y ≡ b = some_id y b (sym of_y ∙ agreed.own_says) in
          let fails : same_profile a b ≡ false = not_one a b (λ one. other (subst (λ i. AreOfOneProfile i y) (sym same_x) (subst (λ j. AreOfOneProfile a j) (sym same_y) one))) in
          let back = rank_back offered asymmetric a level in (
            absent found.sets (value_at answer.values 9) (value_at own.values 9) at.sets
                (ap (λ (t : Terms). t.sets) agreed.is ∙ ap (λ t. t && may_tell_sets offered back (level_rank level) (level_rank b)) fails),
            absent found.level_sets (value_at answer.values 10) (value_at own.values 10) at.level_sets
                (ap (λ (t : Terms). t.level_sets) agreed.is ∙ ap (λ t. t && with_level_sets offered back (level_rank level)) fails),
          );
    }
