-- The rows of the table of H.264 profiles.
use Rattle.std.proofs.Common.{◌≡◌, ℕ, ◌<◌, ◌≤◌, Bool, true, refl}
use Rattle.std.specs.Prelude.{nat_le, count_by}
use Rattle.std.proofs.lemmas.Bool.{leb-true, agree_below, agree_below_at}
use Rattle.h26x_profile.specs.H264.{rows, names}
use Rattle.h26x_profile.specs.declared.h264.H264ProfileIdc.{H264ProfileIdc}
use Rattle.h26x_profile.specs.declared.h264.H264ProfileIdc.TheVariants as idc

-- whether at most one row has a profile_idc and a byte of flags
one_at_most : H264ProfileIdc → ℕ → Bool
one_at_most it flags = nat_le (count_by (names it flags) rows) 1

-- so it is at each byte
each_byte : (it : H264ProfileIdc) → agree_below (one_at_most it) (λ _. true) 256 ≡ true
unfolding one_at_most
each_byte idc.X2C = refl
each_byte idc.X42 = refl
each_byte idc.X4D = refl
each_byte idc.X58 = refl
each_byte idc.X64 = refl
each_byte idc.X6E = refl
each_byte idc.X7A = refl
each_byte idc.XF4 = refl

-- at most one row has a profile_idc and a byte of flags
pub one_row : (it : H264ProfileIdc) (flags : ℕ) → flags < 256 → count_by (names it flags) rows ≤ 1
unfolding one_at_most
one_row it flags lt = leb-true (count_by (names it flags) rows) 1 (agree_below_at (one_at_most it) (λ _. true) 256 flags (each_byte it) lt)
