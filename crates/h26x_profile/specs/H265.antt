-- Profiles, tiers and levels of H.265 (RFC 7798, section 7.1; Rec. ITU-T H.265, Annex A).
use Rattle.std.specs.Prelude.{ℕ, List, [], ◌∷◌, Option}
use Rattle.h26x_profile.specs.Table.{with_number, place_of}
use Rattle.h26x_profile.specs.ProfileTierLevel.{ProfileTierLevel, all_known}
use Rattle.h26x_profile.specs.declared.h265.H265Profile.{H265Profile}
use Rattle.h26x_profile.specs.declared.h265.H265Tier.{H265Tier}
use Rattle.h26x_profile.specs.declared.h265.H265Level.{H265Level}
use Rattle.h26x_profile.specs.declared.h265.H265Profile.TheVariants as profile
use Rattle.h26x_profile.specs.declared.h265.H265Tier.TheVariants as tier
use Rattle.h26x_profile.specs.declared.h265.H265Level.TheVariants as level

-- the ids of profiles
abbrev pub profile_id : H265Profile → ℕ
profile_id profile.Main = 1
profile_id profile.Main10 = 2
profile_id profile.MainStillPicture = 3
profile_id profile.FormatRangeExtensions = 4
profile_id profile.HighThroughput = 5
profile_id profile.MultiviewMain = 6
profile_id profile.ScalableMain = 7
profile_id profile.ThreeDMain = 8
profile_id profile.ScreenContentCoding = 9
profile_id profile.ScreenContentCodingExtensions = 10
profile_id profile.HighThroughputScreenContentCoding = 11

-- the profiles, in order
abbrev pub profiles : List H265Profile
profiles = profile.Main ∷ profile.Main10 ∷ profile.MainStillPicture ∷
    profile.FormatRangeExtensions ∷ profile.HighThroughput ∷ profile.MultiviewMain ∷
    profile.ScalableMain ∷ profile.ThreeDMain ∷ profile.ScreenContentCoding ∷
    profile.ScreenContentCodingExtensions ∷ profile.HighThroughputScreenContentCoding ∷ []

-- the flags of tiers
abbrev pub tier_flag : H265Tier → ℕ
tier_flag tier.Main = 0
tier_flag tier.High = 1

-- the tiers, in order
abbrev pub tiers : List H265Tier
tiers = tier.Main ∷ tier.High ∷ []

-- the ids of levels
abbrev pub level_id : H265Level → ℕ
level_id level.Level1 = 30
level_id level.Level2 = 60
level_id level.Level2_1 = 63
level_id level.Level3 = 90
level_id level.Level3_1 = 93
level_id level.Level4 = 120
level_id level.Level4_1 = 123
level_id level.Level5 = 150
level_id level.Level5_1 = 153
level_id level.Level5_2 = 156
level_id level.Level6 = 180
level_id level.Level6_1 = 183
level_id level.Level6_2 = 186

-- the levels, in order
abbrev pub levels : List H265Level
levels = level.Level1 ∷ level.Level2 ∷ level.Level2_1 ∷ level.Level3 ∷ level.Level3_1 ∷
    level.Level4 ∷ level.Level4_1 ∷ level.Level5 ∷ level.Level5_1 ∷ level.Level5_2 ∷ level.Level6 ∷
    level.Level6_1 ∷ level.Level6_2 ∷ []

-- the profile with an id
abbrev pub profile_of : ℕ → Option H265Profile
profile_of id = with_number profile_id profiles id

-- the tier with a flag
abbrev pub tier_of : ℕ → Option H265Tier
tier_of flag = with_number tier_flag tiers flag

-- the level with an id
abbrev pub level_of : ℕ → Option H265Level
level_of id = with_number level_id levels id

-- the place of a level in the order
abbrev pub ordinal : H265Level → ℕ
ordinal it = place_of level_id levels it

-- what three numbers say, where all are known
abbrev pub known : ℕ → ℕ → ℕ → Option (ProfileTierLevel H265Profile H265Tier H265Level)
known id flag level = all_known (profile_of id) (tier_of flag) (level_of level)

-- what stands where a format says nothing
abbrev pub fallback : ProfileTierLevel H265Profile H265Tier H265Level
fallback = record { profile = profile.Main; tier = tier.Main; level = level.Level3_1 }
