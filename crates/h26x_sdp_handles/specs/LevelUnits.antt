-- The units of `sprop-level-parameter-sets` of H.264 by their level (RFC 6184, section 8.1).
use Rattle.std.specs.Prelude.{◌≡◌, ◌==◌, ◌⊎◌, ℕ, List, find, Option, Some, None, Result, Ok, Err}
use Rattle.std.specs.List.{slice_get}
use Rattle.std.specs.Option.{ok_or, option_map, option_and_then}
use Rattle.std.specs.Result.{result_map_both}
use Rattle.h26x_fmtp.specs.Reading.{value_at}
use Rattle.h26x_sdp.specs.H264Rows.{row_place}
use Rattle.h26x_sdp.specs.LevelSets.{LevelSets, level_sets_in}
use Rattle.h26x_sdp.specs.declared.error.LevelSetsError.{LevelSetsError}
use Rattle.h26x_sdp.specs.declared.h264.H264Parameter.TheVariants.{SpropLevelParameterSets}
use Rattle.h26x_answers.specs.AnswersH264.{level_of_id}
use Rattle.h26x_codes.specs.Codes.{not_of_this_codec}
use Rattle.h26x_sdp_handles.specs.declared.sdp_code.Refused.{Refused}
use Rattle.h26x_sdp_handles.specs.declared.sdp.SdpEndpoint.{SdpEndpoint}
use Rattle.h26x_sdp_handles.specs.declared.sdp.SdpEndpoint.TheVariants as s
use Rattle.h26x_sdp_handles.specs.SdpCodes.{absent, refused_with, level_sets_refused}

-- the sets of all levels, or why there are none
abbrev pub levels_or_refused : Option (Result (List LevelSets) LevelSetsError) →
    Result (List LevelSets) Refused
levels_or_refused None = Err (refused_with absent)
levels_or_refused (Some read) = result_map_both (λ levels. levels) level_sets_refused read

abbrev pub sdp_level_sets : SdpEndpoint → Result (List LevelSets) Refused
sdp_level_sets (s.H264 it) = levels_or_refused
    (option_map level_sets_in (value_at it.values (row_place SpropLevelParameterSets)))
sdp_level_sets it = Err (refused_with not_of_this_codec)

-- a unit, counted from 0, of the first sets that are of a level
abbrev pub unit_of_level : ℕ → ℕ → List LevelSets → Option (List ℕ)
unit_of_level level i levels = option_and_then (λ it. slice_get it.sets i)
    (find (λ it. level_of_id it.profile_level_id == level) levels)

abbrev pub unit_or_refused : ℕ → ℕ → Result (List LevelSets) Refused → Result (List ℕ) Refused
unit_or_refused level i (Ok levels) = ok_or (unit_of_level level i levels) (refused_with absent)
unit_or_refused level i (Err it) = Err it

abbrev pub sdp_level_unit : SdpEndpoint → ℕ → ℕ → Result (List ℕ) Refused
sdp_level_unit it level i = unit_or_refused level i (sdp_level_sets it)
