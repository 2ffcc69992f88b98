-- Formats of H.265 that RFC 7798, section 7.1, lets an end say of itself.
use Rattle.std.specs.Prelude.{ℕ, ◌==◌, nat_le, nat_lt, length, Bool, false, not, ◌&&◌, ◌||◌, if◌then◌else◌, List, [], ◌∷◌, find, Option, Some, None, is_some, is_none}
use Rattle.std.specs.Option.{option_or}
use Rattle.h26x_profile.specs.H265.{profile_of}
use Rattle.h26x_answers.specs.declared.fault.FormatFault.{FormatFault}
use Rattle.h26x_answers.specs.declared.fault.FormatFault.TheVariants as faults
use Rattle.h26x_answers.specs.declared.answer.own_h265.TieredLimits.{TieredLimits}
use Rattle.h26x_sdp.specs.declared.h265.H265Parameter.{H265Parameter}
use Rattle.h26x_sdp.specs.declared.h265.H265Parameter.TheVariants as p
use Rattle.std.specs.List.{list_all}
use Rattle.h26x_fmtp.specs.declared.kind.Kind.TheVariants.{Number}
use Rattle.h26x_fmtp.specs.Kinds.{fault_in}
use Rattle.h26x_fmtp.specs.Units.{pieces}
use Rattle.h26x_fmtp.specs.Reading.{FormatParameters, value_at, number_at, number_or_default}
use Rattle.h26x_sdp.specs.H265Rows.{rows, row_place}
use Rattle.h26x_answers.specs.Answers.{same_number}
use Rattle.h26x_answers.specs.AnswersByLevel.{is_positive}
use Rattle.h26x_answers.specs.Faults.{fault_below, fault_outside}

abbrev pub limits_with : ℕ → ℕ × ℕ → ℕ × ℕ → ℕ × ℕ → ℕ × ℕ → TieredLimits
limits_with level samples tiles main high = record {
  level = level;
  lps = samples.0;
  lsr = samples.1;
  tiles = tiles;
  main = main;
  high = high;
}

abbrev pub some_limits : ℕ → ℕ × ℕ → ℕ × ℕ → ℕ × ℕ → ℕ × ℕ → Option TieredLimits
some_limits level samples tiles main high = Some (limits_with level samples tiles main high)

-- what each level asks of a decoder (Rec. ITU-T H.265, tables A.8 and A.9): its id, MaxLumaPs and
-- MaxLumaSr, MaxTileRows and MaxTileCols, MaxCPB and MaxBR of the Main tier, and of the High tier
abbrev pub levels : List TieredLimits
levels =
    limits_with 30 (36864, 552960) (1, 1) (350, 128) (350, 128) ∷
    limits_with 60 (122880, 3686400) (1, 1) (1500, 1500) (1500, 1500) ∷
    limits_with 63 (245760, 7372800) (1, 1) (3000, 3000) (3000, 3000) ∷
    limits_with 90 (552960, 16588800) (2, 2) (6000, 6000) (6000, 6000) ∷
    limits_with 93 (983040, 33177600) (3, 3) (10000, 10000) (10000, 10000) ∷
    limits_with 120 (2228224, 66846720) (5, 5) (12000, 12000) (30000, 30000) ∷
    limits_with 123 (2228224, 133693440) (5, 5) (20000, 20000) (50000, 50000) ∷
    limits_with 150 (8912896, 267386880) (11, 10) (25000, 25000) (100000, 100000) ∷
    limits_with 153 (8912896, 534773760) (11, 10) (40000, 40000) (160000, 160000) ∷
    limits_with 156 (8912896, 1069547520) (11, 10) (60000, 60000) (240000, 240000) ∷
    limits_with 180 (35651584, 1069547520) (22, 20) (60000, 60000) (240000, 240000) ∷
    limits_with 183 (35651584, 2139095040) (22, 20) (120000, 120000) (480000, 480000) ∷
    limits_with 186 (35651584, 4278190080) (22, 20) (240000, 240000) (800000, 800000) ∷
    []

abbrev pub limits_of : ℕ → Option TieredLimits
limits_of level = find (λ it. it.level == level) levels

abbrev pub number : FormatParameters → H265Parameter → Option ℕ
number it parameter = number_or_default rows it (row_place parameter)

abbrev pub below : FormatParameters → H265Parameter → ℕ → Option FormatFault
below it parameter least = fault_below rows it (row_place parameter) least

abbrev pub outside : FormatParameters → H265Parameter → ℕ → Option FormatFault
outside it parameter least = fault_outside rows it (row_place parameter) least

-- MaxCPB and MaxBR in a format's tier
abbrev pub of_tier : FormatParameters → TieredLimits → ℕ × ℕ
of_tier it level = if same_number (number it p.TierFlag) (Some 1) then level.high else level.main

-- the first limit that is below what the highest level asks for, or more than 16 times that, with
-- MaxCPB and MaxBR; six pictures are decoded at least
abbrev pub first_outside_in : FormatParameters → TieredLimits → ℕ → ℕ → Option FormatFault
first_outside_in it level cpb br =
    option_or (option_or (option_or (option_or (option_or (option_or (outside it p.MaxLsr level.lsr)
    (outside it p.MaxLps level.lps)) (outside it p.MaxCpb cpb)) (below it p.MaxDpb 6))
    (outside it p.MaxBr br)) (outside it p.MaxTr level.tiles.0)) (outside it p.MaxTc level.tiles.1)

-- the same in the format's tier
abbrev pub first_outside : FormatParameters → TieredLimits → Option FormatFault
first_outside it level = first_outside_in it level (of_tier it level).0 (of_tier it level).1

-- where packets bear decoding order numbers the units and the bytes that are to be held are told
abbrev pub reordering_fault : FormatParameters → Option FormatFault
reordering_fault it = if not (is_positive (number it p.SpropMaxDonDiff))
    || (is_positive (number it p.SpropDepackBufNalus)
    && is_positive (number it p.SpropDepackBufBytes)) then None else Some faults.Reordering

-- a type of hash is a number from 0 to 255
abbrev pub is_hash_type : List ℕ → Bool
is_hash_type text = is_none (fault_in (Number 0 255) text)

-- include-dph is a list of such types, which may be empty
abbrev pub are_hash_types : List ℕ → Bool
are_hash_types text = (length text == 0) || list_all is_hash_type (pieces text)

abbrev pub hash_types_fault : Option (List ℕ) → Option FormatFault
hash_types_fault None = None
hash_types_fault (Some text) = if are_hash_types text then None else Some faults.HashTypes

-- limits, reordering and types of hashes, at the highest level that is received
abbrev pub fault_at : FormatParameters → Option TieredLimits → Option FormatFault
fault_at it None = Some faults.HighestLevel
fault_at it (Some level) = option_or (option_or (first_outside it level) (reordering_fault it))
    (hash_types_fault (value_at it.values (row_place p.IncludeDph)))

-- max-recv-level-id is above the level
abbrev pub fault_with : FormatParameters → ℕ → Option ℕ → Option FormatFault
fault_with it level None = fault_at it (limits_of level)
fault_with it level (Some received) = if nat_le received level then Some faults.HighestLevel
    else fault_at it (limits_of received)

abbrev pub fault_received : FormatParameters → ℕ → Option FormatFault
fault_received it level = fault_with it level (number_at rows it (row_place p.MaxRecvLevelId))

-- a profile of the standard, which has those of profile space 0
abbrev pub is_profile : Option ℕ → Bool
is_profile None = false
is_profile (Some id) = nat_lt id 256 && is_some (profile_of id)

abbrev pub has_profile : FormatParameters → Bool
has_profile it =
    same_number (number it p.ProfileSpace) (Some 0) && is_profile (number it p.ProfileId)

abbrev pub is_level : Option ℕ → Bool
is_level None = false
is_level (Some id) = is_some (limits_of id)

-- profile and level are the standard's
abbrev pub known : FormatParameters → Bool
known it = has_profile it && is_level (number it p.LevelId)

abbrev pub fault_of_level : FormatParameters → Option ℕ → Option FormatFault
fault_of_level it None = Some faults.Level
fault_of_level it (Some level) =
    if is_some (limits_of level) then fault_received it level else Some faults.Level

-- the first rule that a format of one's own breaks: its profile, its level, the highest one, its
-- limits, what it says of packets out of order, and the types of hashes
abbrev pub fault : FormatParameters → Option FormatFault
fault it = if has_profile it then fault_of_level it (number it p.LevelId) else Some faults.Profile
