-- Profiles and levels of H.264 (RFC 6184, section 8.1; Rec. ITU-T H.264, Annex A).
use Rattle.std.specs.Prelude.{ℕ, ◌/◌, ◌%◌, Bool, ◌==◌, ◌&&◌, ◌||◌, cond, List, [], ◌∷◌, Option, Some, codes, find}
use Rattle.std.specs.Option.{option_map, option_and_then}
use Rattle.h26x_profile.specs.Table.{with_number, place_of}
use Rattle.h26x_profile.specs.Pattern.{bit_of, matches}
use Rattle.h26x_profile.specs.ProfileLevel.{ProfileLevel}
use Rattle.h26x_profile.specs.declared.h264.H264Profile.{H264Profile}
use Rattle.h26x_profile.specs.declared.h264.H264Profile.TheVariants as profile
use Rattle.h26x_profile.specs.declared.h264.H264ProfileIdc.{H264ProfileIdc}
use Rattle.h26x_profile.specs.declared.h264.H264ProfileIdc.TheVariants as idc
use Rattle.h26x_profile.specs.declared.h264.H264LevelIdc.{H264LevelIdc}
use Rattle.h26x_profile.specs.declared.h264.H264LevelIdc.TheVariants as level

-- the numbers of profile_idc
abbrev pub idc_number : H264ProfileIdc → ℕ
idc_number idc.X2C = 44
idc_number idc.X42 = 66
idc_number idc.X4D = 77
idc_number idc.X58 = 88
idc_number idc.X64 = 100
idc_number idc.X6E = 110
idc_number idc.X7A = 122
idc_number idc.XF4 = 244

-- each profile_idc
abbrev pub idcs : List H264ProfileIdc
idcs = idc.X2C ∷ idc.X42 ∷ idc.X4D ∷ idc.X58 ∷ idc.X64 ∷ idc.X6E ∷ idc.X7A ∷ idc.XF4 ∷ []

-- the profile_idc with a number
abbrev pub idc_of : ℕ → Option H264ProfileIdc
idc_of number = with_number idc_number idcs number

-- the ids of levels
abbrev pub level_id : H264LevelIdc → ℕ
level_id level.Level1 = 10
level_id level.Level1B = 0
level_id level.Level1_1 = 11
level_id level.Level1_2 = 12
level_id level.Level1_3 = 13
level_id level.Level2 = 20
level_id level.Level2_1 = 21
level_id level.Level2_2 = 22
level_id level.Level3 = 30
level_id level.Level3_1 = 31
level_id level.Level3_2 = 32
level_id level.Level4 = 40
level_id level.Level4_1 = 41
level_id level.Level4_2 = 42
level_id level.Level5 = 50
level_id level.Level5_1 = 51
level_id level.Level5_2 = 52

-- the levels, in order
abbrev pub levels : List H264LevelIdc
levels = level.Level1 ∷ level.Level1B ∷ level.Level1_1 ∷ level.Level1_2 ∷ level.Level1_3 ∷
    level.Level2 ∷ level.Level2_1 ∷ level.Level2_2 ∷ level.Level3 ∷ level.Level3_1 ∷
    level.Level3_2 ∷ level.Level4 ∷ level.Level4_1 ∷ level.Level4_2 ∷ level.Level5 ∷
    level.Level5_1 ∷ level.Level5_2 ∷ []

-- the level with an id
abbrev pub level_of : ℕ → Option H264LevelIdc
level_of id = with_number level_id levels id

-- the place of a level in the order
abbrev pub ordinal : H264LevelIdc → ℕ
ordinal it = place_of level_id levels it

-- a row of the table of profiles: the profile_idc and the pattern of the flags that name a profile
pub record Row : Type 0 where
  pub profile : H264Profile
  pub idc : H264ProfileIdc
  pub flags : List ℕ

-- the table of profiles (RFC 6184, section 8.1, table 5)
abbrev pub rows : List Row
rows =
    record { profile = profile.ConstrainedBaseline; idc = idc.X42; flags = codes "x1xx0000" } ∷
    record { profile = profile.ConstrainedBaseline; idc = idc.X4D; flags = codes "1xxx0000" } ∷
    record { profile = profile.ConstrainedBaseline; idc = idc.X58; flags = codes "11xx0000" } ∷
    record { profile = profile.Baseline; idc = idc.X42; flags = codes "x0xx0000" } ∷
    record { profile = profile.Baseline; idc = idc.X58; flags = codes "10xx0000" } ∷
    record { profile = profile.Main; idc = idc.X4D; flags = codes "0x0x0000" } ∷
    record { profile = profile.Extended; idc = idc.X58; flags = codes "00xx0000" } ∷
    record { profile = profile.High; idc = idc.X64; flags = codes "00000000" } ∷
    record { profile = profile.ConstrainedHigh; idc = idc.X64; flags = codes "00001100" } ∷
    record { profile = profile.High10; idc = idc.X6E; flags = codes "00000000" } ∷
    record { profile = profile.High422; idc = idc.X7A; flags = codes "00000000" } ∷
    record { profile = profile.High444Predictive; idc = idc.XF4; flags = codes "00000000" } ∷
    record { profile = profile.High10Intra; idc = idc.X6E; flags = codes "00010000" } ∷
    record { profile = profile.High422Intra; idc = idc.X7A; flags = codes "00010000" } ∷
    record { profile = profile.High444Intra; idc = idc.XF4; flags = codes "00010000" } ∷
    record { profile = profile.CAVLC444Intra; idc = idc.X2C; flags = codes "00010000" } ∷
    []

-- whether a profile_idc and the byte of flags name a row's profile
abbrev pub names : H264ProfileIdc → ℕ → Row → Bool
names it flags row = (idc_number row.idc == idc_number it) && matches row.flags flags

-- the profile that a profile_idc and the byte of flags name
abbrev pub profile_of : H264ProfileIdc → ℕ → Option H264Profile
profile_of it flags = option_map (λ row. row.profile) (find (names it flags) rows)

-- that profile at a level
abbrev pub at_level : H264ProfileIdc → ℕ → H264LevelIdc →
    Option (ProfileLevel H264Profile H264LevelIdc)
at_level it flags l = option_map (λ p. record { profile = p; level = l }) (profile_of it flags)

-- whether three bytes name level 1b: a profile_idc of Baseline, Main or Extended,
-- constraint_set3_flag and the id of level 1.1
abbrev pub is_level_1b : ℕ → ℕ → ℕ → Bool
is_level_1b number flags id = ((number == 66) || (number == 77) || (number == 88)) && (id == 11)
    && (bit_of flags 4 == 1)

-- the level that three bytes name
abbrev pub level_with : ℕ → ℕ → ℕ → Option H264LevelIdc
level_with number flags id = cond (is_level_1b number flags id) (Some level.Level1B) (level_of id)

-- what three bytes say, where their profile_idc, level and profile are known
abbrev pub known : ℕ → ℕ → ℕ → Option (ProfileLevel H264Profile H264LevelIdc)
known number flags id = option_and_then (λ l. option_and_then (λ it. at_level it flags l)
    (idc_of number)) (level_with number flags id)

-- what a profile-level-id says: its three bytes are the lower ones of a number
abbrev pub profile_level : ℕ → Option (ProfileLevel H264Profile H264LevelIdc)
profile_level value = known (value / 65536 % 256) (value / 256 % 256) (value % 256)

-- what stands where a format says nothing
abbrev pub fallback : ProfileLevel H264Profile H264LevelIdc
fallback = record { profile = profile.Baseline; level = level.Level3_1 }
