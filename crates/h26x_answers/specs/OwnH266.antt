-- Formats of H.266 that RFC 9328, section 7.2, lets an end say of itself.
use Rattle.std.specs.Prelude.{ℕ, ◌==◌, nat_lt, Bool, true, false, not, ◌&&◌, ◌||◌, if◌then◌else◌, List, [], ◌∷◌, find, Option, Some, None, is_some}
use Rattle.std.specs.Option.{option_map, option_or}
use Rattle.h26x_profile.specs.H266.{profile_of, level_of}
use Rattle.h26x_answers.specs.declared.fault.FormatFault.{FormatFault}
use Rattle.h26x_answers.specs.declared.fault.FormatFault.TheVariants as faults
use Rattle.h26x_sdp.specs.declared.h266.H266Parameter.{H266Parameter}
use Rattle.h26x_sdp.specs.declared.h266.H266Parameter.TheVariants as p
use Rattle.h26x_fmtp.specs.Reading.{FormatParameters, number_at, number_or_default}
use Rattle.h26x_sdp.specs.H266Rows.{rows, row_place}
use Rattle.h26x_answers.specs.AnswersByLevel.{is_positive}
use Rattle.h26x_answers.specs.Faults.{fault_outside}

abbrev pub number : FormatParameters → H266Parameter → Option ℕ
number it parameter = number_or_default rows it (row_place parameter)

-- a profile and a level of the standard (Rec. ITU-T H.266, Annex A)
abbrev pub is_profile : Option ℕ → Bool
is_profile None = false
is_profile (Some id) = nat_lt id 256 && is_some (profile_of id)

abbrev pub is_level : Option ℕ → Bool
is_level None = false
is_level (Some id) = nat_lt id 256 && is_some (level_of id)

abbrev pub known : FormatParameters → Bool
known it = is_profile (number it p.ProfileId) && is_level (number it p.LevelId)

-- max-recv-level-id is a level of the standard, and above the level
abbrev pub is_above : Option ℕ → Option ℕ → Bool
is_above None received = true
is_above (Some level) None = true
is_above (Some level) (Some received) = nat_lt level received && is_level (Some received)

abbrev pub is_received_above : FormatParameters → Bool
is_received_above it =
    is_above (number it p.LevelId) (number_at rows it (row_place p.MaxRecvLevelId))

-- how many luma samples a decoder of each level takes in a second, MaxLumaSr (Rec. ITU-T H.266, table
-- A.2); level 15.5, 255, has no most
abbrev pub luma_rates : List (ℕ × ℕ)
luma_rates =
    (16, 552960) ∷ (32, 3686400) ∷ (35, 7372800) ∷ (48, 16588800) ∷ (51, 33177600) ∷
    (64, 66846720) ∷ (67, 133693440) ∷ (80, 267386880) ∷ (83, 534773760) ∷ (86, 1069547520) ∷
    (96, 1069547520) ∷ (99, 2139095040) ∷ (102, 4278190080) ∷ (105, 4812963840) ∷ []

abbrev pub luma_rate_of : ℕ → Option ℕ
luma_rate_of level = option_map (λ it. it.1) (find (λ it. it.0 == level) luma_rates)

abbrev pub rate_fault_at : FormatParameters → Option ℕ → Option FormatFault
rate_fault_at it None = None
rate_fault_at it (Some rate) = fault_outside rows it (row_place p.MaxLsr) rate

-- max-lsr is from MaxLumaSr of the highest level to 16 times that
abbrev pub rate_fault : FormatParameters → Option ℕ → Option FormatFault
rate_fault it None = None
rate_fault it (Some level) = rate_fault_at it (luma_rate_of level)

abbrev pub highest_level : FormatParameters → Option ℕ
highest_level it =
    option_or (number_at rows it (row_place p.MaxRecvLevelId)) (number it p.LevelId)

-- where packets bear decoding order numbers the bytes that are to be held are told
abbrev pub reordering_fits : FormatParameters → Bool
reordering_fits it = not (is_positive (number it p.SpropMaxDonDiff))
    || is_positive (number it p.SpropDepackBufBytes)

abbrev pub reordering_fault : FormatParameters → Option FormatFault
reordering_fault it = if reordering_fits it then None else Some faults.Reordering

-- the first rule that a format of one's own breaks: its profile, its level, the highest one, its limit,
-- and what it says of packets out of order
abbrev pub fault : FormatParameters → Option FormatFault
fault it =
    if not (is_profile (number it p.ProfileId)) then Some faults.Profile
    else (if not (is_level (number it p.LevelId)) then Some faults.Level
    else (if not (is_received_above it) then Some faults.HighestLevel
    else option_or (rate_fault it (highest_level it)) (reordering_fault it)))
