-- The profile and level of H.264, as three bytes.
use Rattle.std.proofs.Common.{◌≡◌, ℕ, zero, suc, ◌+◌, ◌-◌, ◌*◌, ◌<◌, true, false, cond, List, [], ◌∷◌, Some, Result, Ok, Err, refl, sym, ap, ◌∙◌, arith, Bool, ◌&&◌}
use Rattle.std.specs.Prelude.{◌==◌, ◌||◌}
use Rattle.std.specs.Option.{option_and_then}
use Rattle.hex.specs.Hex.{decode_sized, IsBytes}
use Rattle.hex.specs.declared.error.FromHexError.{FromHexError}
use Rattle.hex.proofs.HexLemmas.{decode_of-ok, decode_sized-twice, decode_sized-ok, decode_sized-encode_lower}
use Rattle.h26x_profile.specs.Pattern.{bit_of}
use Rattle.h26x_profile.specs.H264.{idc_of, profile_of}
use Rattle.h26x_answers.specs.declared.answer.AnswerRules.{AnswerRules}
use Rattle.h26x_answers.specs.declared.answer.AnswerRules.TheVariants.{Rfc, Webrtc}
use Rattle.h26x_answers.specs.declared.answer.h264.ProfileLevelId.{ProfileLevelId}
use Rattle.h26x_answers.specs.AnswersH264.{three_bytes, profile_level_id_of, profile_level_id_text, has_level_flag, profile_flags, is_1b, level_rank, sub_profile, same_sub_profile, same_profile, constrained_sub_profile, takes_profile, at_level_of}
use Rattle.h26x_answers.specs.AllowedH264.{IsSameProfile}
use Rattle.h26x_fmtp.proofs.PartLemmas.{by_test}

abbrev pub bytes_in : ProfileLevelId → List ℕ
bytes_in it = it.profile_idc ∷ it.profile_iop ∷ it.level_idc ∷ []

-- three bytes are those of the text
three_parts : (r : Result (List ℕ) FromHexError) (it : ProfileLevelId) → three_bytes r ≡ Some it → r ≡ Ok (bytes_in it)
three_parts (Err e) it h = cc h
three_parts (Ok []) it h = cc h
three_parts (Ok (a ∷ [])) it h = cc h
three_parts (Ok (a ∷ b ∷ [])) it h = cc h
three_parts (Ok (a ∷ b ∷ c ∷ [])) it h =
    let e : record { profile_idc = a; profile_iop = b; level_idc = c } ≡ it = cc h in
    ap (λ (i : ProfileLevelId). Ok (bytes_in i)) e
three_parts (Ok (a ∷ b ∷ c ∷ d ∷ rest)) it h = cc h

-- what a text says are bytes
pub id_bytes : (text : List ℕ) (it : ProfileLevelId) → profile_level_id_of text ≡ Some it → IsBytes (bytes_in it)
id_bytes text it h =
    let e = three_parts (decode_sized text 3) it h in
    let len = decode_sized-ok text 3 (bytes_in it) e in
    (decode_of-ok text (bytes_in it) (sym (decode_sized-twice text 3 len) ∙ e)).3

-- what is written is read
pub id_read : (it : ProfileLevelId) → IsBytes (bytes_in it) → profile_level_id_of (profile_level_id_text it) ≡ Some it
id_read it bytes = ap three_bytes (decode_sized-encode_lower (bytes_in it) 3 refl bytes)

-- the first of two tests fails where neither holds
first_fails : (p q : Bool) → (p || q) ≡ false → p ≡ false
first_fails true q h = cc h
first_fails false q h = refl

-- the flags without that of the level, where `has` says that they have one
abbrev without : Bool → ℕ → ℕ
without has flags = cond has (flags - bit_of flags 4 * 16) flags

-- and with it, where the level is 1b
abbrev with_flag : Bool → Bool → ℕ → ℕ
with_flag has one flags = cond (has && one) (without has flags + 16) (without has flags)

flags_kept : (has one : Bool) (flags : ℕ) → without has (with_flag has one flags) ≡ without has flags
flags_kept true true flags = omega arith
flags_kept true false flags = omega arith
flags_kept false true flags = refl
flags_kept false false flags = refl

flags_fit : (has one : Bool) (flags : ℕ) → flags < 256 → with_flag has one flags < 256
flags_fit true true flags fits = omega arith
flags_fit true false flags fits = omega arith
flags_fit false true flags fits = fits
flags_fit false false flags fits = fits

flag_set : (flags : ℕ) → bit_of (without true flags + 16) 4 ≡ 1
flag_set flags = omega arith

flag_clear : (flags : ℕ) → bit_of (without true flags) 4 ≡ 0
flag_clear flags = omega arith

-- at another level the profile is the same
pub profile_kept : (a b : ProfileLevelId) → IsSameProfile (at_level_of a b) a
profile_kept a b = record { idc = refl; flags = flags_kept (has_level_flag a) (is_1b b) a.profile_iop }

-- the level in the order of levels, by its parts
abbrev rank_by : Bool → ℕ → ℕ → ℕ
rank_by has flags level = cond ((level == 9) || (has && ((level == 11) && (bit_of flags 4 == 1)))) 21 (2 * level)

no_flag : (level : ℕ) → cond ((level == 11) && false) 21 (2 * level) ≡ 2 * level
no_flag level = by_test (level == 11) (λ h. ap (λ t. cond (t && false) 21 (2 * level)) h) (λ h. ap (λ t. cond (t && false) 21 (2 * level)) h)

rank_moved : (has one : Bool) (flags level : ℕ) → (one ≡ false → (level == 9) ≡ false)
    → rank_by has (with_flag has one flags) (cond one (cond has 11 9) level) ≡ cond one 21 (2 * level)
rank_moved true true flags level other = ap (λ bit. cond (bit == 1) 21 22) (flag_set flags)
rank_moved false true flags level other = refl
rank_moved true false flags level other =
    ap (λ t. cond (t || ((level == 11) && (bit_of (without true flags) 4 == 1))) 21 (2 * level)) (other refl)
    ∙ ap (λ bit. cond ((level == 11) && (bit == 1)) 21 (2 * level)) (flag_clear flags)
    ∙ no_flag level
rank_moved false false flags level other = ap (λ t. cond (t || false) 21 (2 * level)) (other refl)

-- and the level is that of the other
pub level_moved : (a b : ProfileLevelId) → level_rank (at_level_of a b) ≡ level_rank b
level_moved a b = rank_moved (has_level_flag a) (is_1b b) a.profile_iop b.level_idc
    (λ other. first_fails (b.level_idc == 9) (has_level_flag b && ((b.level_idc == 11) && (bit_of b.profile_iop 4 == 1))) other)

level_fits : (one has : Bool) (level : ℕ) → level < 256 → cond one (cond has 11 9) level < 256
level_fits true true level fits = omega arith
level_fits true false level fits = omega arith
level_fits false has level fits = fits

pub moved_bytes : (a b : ProfileLevelId) → IsBytes (bytes_in a) → IsBytes (bytes_in b) → IsBytes (bytes_in (at_level_of a b))
moved_bytes a b of_a of_b zero = of_a 0
moved_bytes a b of_a of_b (suc zero) = flags_fit (has_level_flag a) (is_1b b) a.profile_iop (of_a 1)
moved_bytes a b of_a of_b (suc (suc zero)) = level_fits (is_1b b) (has_level_flag a) b.level_idc (of_b 2)
moved_bytes a b of_a of_b (suc (suc (suc i))) = omega arith

-- whose profile is the same has the same profile as another
same_through : (a x b : ProfileLevelId) → IsSameProfile x a → same_profile x b ≡ same_profile a b
same_through a x b same =
    ap (λ idc. ((idc == b.profile_idc) && (profile_flags x == profile_flags b))
    || same_sub_profile (option_and_then (λ i. profile_of i (profile_flags x)) (idc_of idc)) (sub_profile b)) same.idc
    ∙ ap (λ flags. ((a.profile_idc == b.profile_idc) && (flags == profile_flags b))
    || same_sub_profile (option_and_then (λ i. profile_of i flags) (idc_of a.profile_idc)) (sub_profile b)) same.flags

sub_through : (a x : ProfileLevelId) → IsSameProfile x a → sub_profile x ≡ sub_profile a
sub_through a x same =
    ap (λ idc. option_and_then (λ i. profile_of i (profile_flags x)) (idc_of idc)) same.idc
    ∙ ap (λ flags. option_and_then (λ i. profile_of i flags) (idc_of a.profile_idc)) same.flags

-- and is taken by the same ends
pub profile_through : (by : AnswerRules) (a x b : ProfileLevelId) → IsSameProfile x a → takes_profile by x b ≡ takes_profile by a b
profile_through Rfc a x b same = same_through a x b same
profile_through Webrtc a x b same =
    ap (λ t. t || constrained_sub_profile (sub_profile x) (sub_profile b)) (same_through a x b same)
    ∙ ap (λ s. same_profile a b || constrained_sub_profile s (sub_profile b)) (sub_through a x same)
