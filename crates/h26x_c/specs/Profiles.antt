-- The numbers that stand for the profiles of H.264 (the library's rule).
use Rattle.std.specs.Prelude.{ℕ}
use Rattle.h26x_profile.specs.declared.h264.H264Profile.{H264Profile}
use Rattle.h26x_profile.specs.declared.h264.H264Profile.TheVariants as profile

-- the number of a profile: its place in the header's list, from 0
abbrev pub profile_number : H264Profile → ℕ
profile_number profile.Baseline = 0
profile_number profile.ConstrainedBaseline = 1
profile_number profile.Main = 2
profile_number profile.Extended = 3
profile_number profile.High = 4
profile_number profile.ConstrainedHigh = 5
profile_number profile.High10 = 6
profile_number profile.High422 = 7
profile_number profile.High444Predictive = 8
profile_number profile.High10Intra = 9
profile_number profile.High422Intra = 10
profile_number profile.High444Intra = 11
profile_number profile.CAVLC444Intra = 12
