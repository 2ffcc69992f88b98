-- The order of the levels of H.265.
use Rattle.std.proofs.Common.{◌≡◌, Bool, true, refl}
use Rattle.std.specs.List.{list_all}
use Rattle.h26x_profile.specs.H265.{levels}
use Rattle.h26x_profile.specs.OrderLaws.{passes_at}
use Rattle.h26x_profile.specs.declared.h265.H265Level.{H265Level}
use Rattle.h26x_profile.specs.declared.h265.H265Level.TheVariants as level

-- what passes at each level of the list passes at every level
pub every_level : (test : H265Level → Bool) → list_all test levels ≡ true → (it : H265Level) → test it ≡ true
every_level test all level.Level1 = passes_at test levels 0 level.Level1 refl refl all
every_level test all level.Level2 = passes_at test levels 1 level.Level2 refl refl all
every_level test all level.Level2_1 = passes_at test levels 2 level.Level2_1 refl refl all
every_level test all level.Level3 = passes_at test levels 3 level.Level3 refl refl all
every_level test all level.Level3_1 = passes_at test levels 4 level.Level3_1 refl refl all
every_level test all level.Level4 = passes_at test levels 5 level.Level4 refl refl all
every_level test all level.Level4_1 = passes_at test levels 6 level.Level4_1 refl refl all
every_level test all level.Level5 = passes_at test levels 7 level.Level5 refl refl all
every_level test all level.Level5_1 = passes_at test levels 8 level.Level5_1 refl refl all
every_level test all level.Level5_2 = passes_at test levels 9 level.Level5_2 refl refl all
every_level test all level.Level6 = passes_at test levels 10 level.Level6 refl refl all
every_level test all level.Level6_1 = passes_at test levels 11 level.Level6_1 refl refl all
every_level test all level.Level6_2 = passes_at test levels 12 level.Level6_2 refl refl all
