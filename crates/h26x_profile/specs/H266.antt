-- Profiles, tiers and levels of H.266 (RFC 9328, section 7.2; Rec. ITU-T H.266, Annex A).
use Rattle.std.specs.Prelude.{ℕ, List, [], ◌∷◌, Option}
use Rattle.h26x_profile.specs.Table.{with_number, place_of}
use Rattle.h26x_profile.specs.ProfileTierLevel.{ProfileTierLevel, all_known}
use Rattle.h26x_profile.specs.declared.h266.H266Profile.{H266Profile}
use Rattle.h26x_profile.specs.declared.h266.H266Tier.{H266Tier}
use Rattle.h26x_profile.specs.declared.h266.H266Level.{H266Level}
use Rattle.h26x_profile.specs.declared.h266.H266Profile.TheVariants as profile
use Rattle.h26x_profile.specs.declared.h266.H266Tier.TheVariants as tier
use Rattle.h26x_profile.specs.declared.h266.H266Level.TheVariants as level

-- the ids of profiles
abbrev pub profile_id : H266Profile → ℕ
profile_id profile.Main10 = 1
profile_id profile.MultilayerMain10 = 17
profile_id profile.Main10_444 = 33
profile_id profile.MultilayerMain10_444 = 49
profile_id profile.Main10StillPicture = 65
profile_id profile.MultilayerMain10StillPicture = 81
profile_id profile.Main10_444StillPicture = 97
profile_id profile.MultilayerMain10_444StillPicture = 113

-- the profiles, in order
abbrev pub profiles : List H266Profile
profiles = profile.Main10 ∷ profile.MultilayerMain10 ∷ profile.Main10_444 ∷
    profile.MultilayerMain10_444 ∷ profile.Main10StillPicture ∷
    profile.MultilayerMain10StillPicture ∷ profile.Main10_444StillPicture ∷
    profile.MultilayerMain10_444StillPicture ∷ []

-- the flags of tiers
abbrev pub tier_flag : H266Tier → ℕ
tier_flag tier.Main = 0
tier_flag tier.High = 1

-- the tiers, in order
abbrev pub tiers : List H266Tier
tiers = tier.Main ∷ tier.High ∷ []

-- the ids of levels
abbrev pub level_id : H266Level → ℕ
level_id level.Level1 = 16
level_id level.Level2 = 32
level_id level.Level2_1 = 35
level_id level.Level3 = 48
level_id level.Level3_1 = 51
level_id level.Level4 = 64
level_id level.Level4_1 = 67
level_id level.Level5 = 80
level_id level.Level5_1 = 83
level_id level.Level5_2 = 86
level_id level.Level6 = 96
level_id level.Level6_1 = 99
level_id level.Level6_2 = 102
level_id level.Level6_3 = 105
level_id level.Level15_5 = 255

-- the levels, in order
abbrev pub levels : List H266Level
levels = level.Level1 ∷ level.Level2 ∷ level.Level2_1 ∷ level.Level3 ∷ level.Level3_1 ∷
    level.Level4 ∷ level.Level4_1 ∷ level.Level5 ∷ level.Level5_1 ∷ level.Level5_2 ∷ level.Level6 ∷
    level.Level6_1 ∷ level.Level6_2 ∷ level.Level6_3 ∷ level.Level15_5 ∷ []

-- the profile with an id
abbrev pub profile_of : ℕ → Option H266Profile
profile_of id = with_number profile_id profiles id

-- the tier with a flag
abbrev pub tier_of : ℕ → Option H266Tier
tier_of flag = with_number tier_flag tiers flag

-- the level with an id
abbrev pub level_of : ℕ → Option H266Level
level_of id = with_number level_id levels id

-- the place of a level in the order
abbrev pub ordinal : H266Level → ℕ
ordinal it = place_of level_id levels it

-- what three numbers say, where all are known
abbrev pub known : ℕ → ℕ → ℕ → Option (ProfileTierLevel H266Profile H266Tier H266Level)
known id flag level = all_known (profile_of id) (tier_of flag) (level_of level)

-- what stands where a format says nothing
abbrev pub fallback : ProfileTierLevel H266Profile H266Tier H266Level
fallback = record { profile = profile.Main10; tier = tier.Main; level = level.Level3_1 }
