-- What format parameters say in a grammar of their own, as the calls on them answer: constraints
-- (RFC 7798, section 7.1; RFC 9328, section 7.2) and capability points (RFC 7798, section 7.1).
use Rattle.std.specs.Prelude.{◌≡◌, ◌==◌, ◌⊎◌, ℕ, Bool, false, if◌then◌else◌, List, ◌∷◌, map, length, Option, Some, None, Result, Ok, Err}
use Rattle.std.specs.Int.{from_be_bytes, w64}
use Rattle.std.specs.Option.{ok_or, option_map}
use Rattle.std.specs.Result.{result_map_both}
use Rattle.h26x_core.specs.Word.{field}
use Rattle.h26x_sdp.specs.declared.error.CapabilityPointsError.{CapabilityPointsError}
use Rattle.h26x_sdp.specs.declared.capability_points.ParallelTool.{ParallelTool}
use Rattle.h26x_sdp.specs.declared.capability_points.ParallelTool.TheVariants.{Wavefronts, NoWavefronts}
use Rattle.h26x_sdp.specs.declared.capability_points.CapabilityPoint.{CapabilityPoint}
use Rattle.h26x_sdp.specs.declared.h265.H265Parameter.TheVariants.{DecParallelCap}
use Rattle.h26x_sdp.specs.CapabilityPoints.{capability_points_in, inferred}
use Rattle.h26x_sdp.specs.Constraints.{constraints_byte, constraints_of, constraint_flags, has_general}
use Rattle.h26x_sdp.specs.H265Rows as h265
use Rattle.h26x_fmtp.specs.Reading.{FormatParameters, value_at}
use Rattle.h26x_sdp_handles.specs.declared.sdp_code.PointRefused.{PointRefused}
use Rattle.h26x_sdp_handles.specs.declared.sdp.SdpEndpoint.{SdpEndpoint}
use Rattle.h26x_sdp_handles.specs.declared.sdp.SdpEndpoint.TheVariants as s
use Rattle.h26x_sdp_handles.specs.declared.sdp_values.SdpConstraints.{SdpConstraints}
use Rattle.h26x_sdp_handles.specs.declared.sdp_values.SdpConstraints.TheVariants as c
use Rattle.h26x_sdp_handles.specs.declared.sdp_values.ConstraintNumbers.{ConstraintNumbers}
use Rattle.h26x_sdp_handles.specs.declared.sdp_values.PointNumbers.{PointNumbers}
use Rattle.h26x_codes.specs.Codes.{not_of_this_codec, out_of_memory}
use Rattle.h26x_codes.specs.Copies.{with_first}
use Rattle.h26x_sdp_handles.specs.SdpCodes.{absent, point_refused_with, points_refused, constraints_code}

-- the constraints that parameters say, or those of the default, or why there are none
abbrev pub sdp_constraints : SdpEndpoint → Result SdpConstraints ℕ
sdp_constraints (s.H264 it) = Err not_of_this_codec
sdp_constraints (s.H265 it) = ok_or (option_map c.H265 (constraint_flags it)) absent
sdp_constraints (s.H266 it) = result_map_both c.H266 constraints_code (constraints_of it)

abbrev pub constraints_bytes : SdpConstraints → List ℕ
constraints_bytes (c.H265 bytes) = bytes
constraints_bytes (c.H266 bytes) = bytes

-- what they say: of H.265 general_frame_only_constraint_flag is the fourth flag, of H.266
-- ptl_frame_only_constraint_flag and ptl_multilayer_enabled_flag are the first two (Rec. ITU-T
-- H.265, section 7.3.3; Rec. ITU-T H.266, section 7.3.3.1)
abbrev pub constraint_numbers : SdpConstraints → ConstraintNumbers
constraint_numbers (c.H265 bytes) = record {
  flags = from_be_bytes w64 (0 ∷ 0 ∷ bytes);
  len = 6;
  frame_only = field (constraints_byte bytes 0) 4 4 == 1;
  multilayer = false;
  general = false;
}
constraint_numbers (c.H266 bytes) = record {
  flags = 0;
  len = length bytes;
  frame_only = field (constraints_byte bytes 0) 7 7 == 1;
  multilayer = field (constraints_byte bytes 0) 6 6 == 1;
  general = has_general bytes;
}

abbrev pub tool_number : ParallelTool → ℕ
tool_number NoWavefronts = 0
tool_number Wavefronts = 1

-- a limit, which is 0 where it isn't there, and whether it is
abbrev pub limit_or_zero : Option ℕ → ℕ
limit_or_zero None = 0
limit_or_zero (Some number) = number

abbrev pub limit_is_there : Option ℕ → ℕ
limit_is_there None = 0
limit_is_there (Some number) = 1

-- a capability point in numbers
abbrev pub point_numbers : CapabilityPoint → PointNumbers
point_numbers it = record {
  spatial_segmentation = it.spatial_segmentation;
  tier_flag = limit_or_zero it.tier_flag;
  level_id = limit_or_zero it.level_id;
  max_lsr = limit_or_zero it.max_lsr;
  max_lps = limit_or_zero it.max_lps;
  max_br = limit_or_zero it.max_br;
  tool = tool_number it.tool;
  has_tier_flag = limit_is_there it.tier_flag;
  has_level_id = limit_is_there it.level_id;
  has_max_lsr = limit_is_there it.max_lsr;
  has_max_lps = limit_is_there it.max_lps;
  has_max_br = limit_is_there it.max_br;
}

-- the same as it stands, or with the limits that it leaves out
abbrev pub point_told : FormatParameters → Bool → CapabilityPoint → PointNumbers
point_told it or_default point = point_numbers (if or_default then inferred it point else point)

-- the points of `dec-parallel-cap`, or why there are none
abbrev pub points_or_refused : Option (Result (List CapabilityPoint) CapabilityPointsError) →
    Result (List CapabilityPoint) PointRefused
points_or_refused None = Err (point_refused_with absent)
points_or_refused (Some read) = result_map_both (λ points. points) points_refused read

abbrev pub points_said : FormatParameters → Result (List CapabilityPoint) PointRefused
points_said it = points_or_refused (option_map capability_points_in
    (value_at it.values (h265.row_place DecParallelCap)))

-- the same in numbers
abbrev pub sdp_points : SdpEndpoint → Bool → Result (List PointNumbers) PointRefused
sdp_points (s.H265 it) or_default =
    result_map_both (map (point_told it or_default)) (λ refused. refused) (points_said it)
sdp_points it or_default = Err (point_refused_with not_of_this_codec)

-- the first points stand at the front of a buffer, as many as there is room for, and how many they
-- all are is told
pub record ArePut (points room new : List PointNumbers) (count : ℕ) : Type 0 where
  pub told : count ≡ length points
  pub put : new ≡ with_first points room

-- the points of these parameters stand there so
abbrev pub ArePointsPut : SdpEndpoint → Bool → List PointNumbers → List PointNumbers → ℕ → Type 0
ArePointsPut it or_default room new count = (points : List PointNumbers)
    × (sdp_points it or_default ≡ Ok points) × ArePut points room new count

-- why there are none, which may be want of memory
abbrev pub IsWithoutPoints : SdpEndpoint → Bool → PointRefused → Type 0
IsWithoutPoints it or_default refused = (refused ≡ point_refused_with out_of_memory)
    ⊎ (sdp_points it or_default ≡ Err refused)
