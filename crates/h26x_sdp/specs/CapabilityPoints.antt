-- What a decoder of H.265 can do where pictures are coded for parallel decoding, `dec-parallel-cap`
-- (RFC 7798, section 7.1): points in braces with `,` between them, each a tool, `:`, a number, and
-- limits with `;` before each.
use Rattle.std.specs.Prelude.{◌≡◌, ℕ, ◌+◌, ◌-◌, ◌<◌, ◌≤◌, ◌==◌, ◌&&◌, ◌||◌, Bool, true, if◌then◌else◌, List, [], ◌∷◌, ◌++◌, codes, decimal, length, map, take, drop, nat_le, nat_lt, slice_index_or, Option, Some, None, is_some, Result, Ok, Err}
use Rattle.std.specs.List.{before_first, after_first, join_with_byte, AllByRecursion}
use Rattle.std.specs.Option.{option_map, option_or}
use Rattle.h26x_fmtp.specs.declared.kind.Kind.TheVariants.{Number}
use Rattle.h26x_fmtp.specs.declared.error.Fault.{Fault}
use Rattle.h26x_fmtp.specs.declared.error.Fault.TheVariants.{OutOfRange}
use Rattle.h26x_fmtp.specs.declared.error.ParametersError.{ParametersError}
use Rattle.h26x_sdp.specs.declared.error.CapabilityPointsError.{CapabilityPointsError}
use Rattle.h26x_sdp.specs.declared.error.CapabilityPointsError.TheVariants.{NoBraces, NoTool, Segmentation, Limits, NoLimit}
use Rattle.h26x_sdp.specs.declared.capability_points.ParallelTool.{ParallelTool}
use Rattle.h26x_sdp.specs.declared.capability_points.ParallelTool.TheVariants.{Wavefronts, NoWavefronts}
use Rattle.h26x_sdp.specs.declared.capability_points.CapabilityPoint.{CapabilityPoint}
use Rattle.h26x_sdp.specs.declared.capability_points.Limit.{Limit}
use Rattle.h26x_sdp.specs.declared.capability_points.Limit.TheVariants as limit
use Rattle.h26x_sdp.specs.declared.h265.H265Parameter.TheVariants as p
use Rattle.h26x_sdp.specs.H265Rows as h265
use Rattle.h26x_fmtp.specs.Kinds.{number_in}
use Rattle.h26x_fmtp.specs.Pairs.{trim_ascii}
use Rattle.h26x_fmtp.specs.Tables.{ParameterRow, same_name}
use Rattle.h26x_fmtp.specs.Reading.{FormatParameters, read_of, all_of, number_at, number_or_default}
use Rattle.h26x_fmtp.specs.Units.{pieces}
use Rattle.h26x_fmtp.specs.Written.{written}

abbrev pub limit_place : Limit → ℕ
limit_place limit.TierFlag = 0
limit_place limit.LevelId = 1
limit_place limit.MaxLsr = 2
limit_place limit.MaxLps = 3
limit_place limit.MaxBr = 4

-- the limits of a point, in the order of the RFC
abbrev pub limit_rows : List ParameterRow
limit_rows =
    record { name = codes "tier-flag"; kind = Number 0 1; default = None } ∷
    record { name = codes "level-id"; kind = Number 0 255; default = None } ∷
    record { name = codes "max-lsr"; kind = Number 0 18446744073709551615; default = None } ∷
    record { name = codes "max-lps"; kind = Number 0 4294967295; default = None } ∷
    record { name = codes "max-br"; kind = Number 0 18446744073709551615; default = None } ∷
    []

abbrev pub tool_name : ParallelTool → List ℕ
tool_name Wavefronts = codes "w"
tool_name NoWavefronts = codes "t"

-- the tool of a name, without regard to case
abbrev pub tool_of : List ℕ → Option ParallelTool
tool_of name =
    if same_name (codes "w") name then Some Wavefronts else
    (if same_name (codes "t") name then Some NoWavefronts else None)

-- spatial-seg-idc
abbrev pub segmentation_of : Result ℕ Fault → Result ℕ Fault
segmentation_of (Err fault) = Err fault
segmentation_of (Ok number) =
    if nat_le 1 number && nat_le number 4095 then Ok number else Err OutOfRange

abbrev pub segmentation_in : List ℕ → Result ℕ Fault
segmentation_in text = segmentation_of (number_in text)

abbrev pub has_limit : CapabilityPoint → Bool
has_limit it =
    (((is_some it.tier_flag || is_some it.level_id) || is_some it.max_lsr) || is_some it.max_lps)
    || is_some it.max_br

-- a point has a limit
abbrev pub limited : ℕ → CapabilityPoint → Result CapabilityPoint CapabilityPointsError
limited place point = if has_limit point then Ok point else Err (NoLimit place)

-- the point of a tool and a number, with limits that are read as format parameters are
abbrev pub with_limits : ℕ → ParallelTool → ℕ → Result FormatParameters ParametersError →
    Result CapabilityPoint CapabilityPointsError
with_limits place tool number (Err fault) = Err (Limits place fault)
with_limits place tool number (Ok it) = limited place (record {
  tool = tool;
  spatial_segmentation = number;
  tier_flag = number_at limit_rows it (limit_place limit.TierFlag);
  level_id = number_at limit_rows it (limit_place limit.LevelId);
  max_lsr = number_at limit_rows it (limit_place limit.MaxLsr);
  max_lps = number_at limit_rows it (limit_place limit.MaxLps);
  max_br = number_at limit_rows it (limit_place limit.MaxBr);
})

abbrev pub with_segmentation : ℕ → ParallelTool → List ℕ → Result ℕ Fault →
    Result CapabilityPoint CapabilityPointsError
with_segmentation place tool limits (Err fault) = Err (Segmentation place fault)
with_segmentation place tool limits (Ok number) =
    with_limits place tool number (read_of limit_rows limits)

abbrev pub with_tool : ℕ → List ℕ → List ℕ → Option ParallelTool →
    Result CapabilityPoint CapabilityPointsError
with_tool place number limits None = Err (NoTool place)
with_tool place number limits (Some tool) =
    with_segmentation place tool limits (segmentation_in number)

-- what stands before the limits of a point: its tool and its number
abbrev pub before_limits : List ℕ → List ℕ
before_limits text = before_first (λ byte. byte == 59) text

-- the point of a text, cut at its first `;`, and before that at its first `:`
abbrev pub point_in : ℕ → List ℕ → Result CapabilityPoint CapabilityPointsError
point_in place text =
    with_tool place (trim_ascii (after_first (λ byte. byte == 58) (before_limits text)))
    (after_first (λ byte. byte == 59) text)
    (tool_of (trim_ascii (before_first (λ byte. byte == 58) (before_limits text))))

-- a point before others; the first fault is the answer
abbrev pub point_before : Result CapabilityPoint CapabilityPointsError →
    Result (List CapabilityPoint) CapabilityPointsError →
    Result (List CapabilityPoint) CapabilityPointsError
point_before (Err error) points = Err error
point_before (Ok point) (Err error) = Err error
point_before (Ok point) (Ok points) = Ok (point ∷ points)

-- the points of texts, the first of them at a place
abbrev pub points_from : ℕ → List (List ℕ) → Result (List CapabilityPoint) CapabilityPointsError
points_from place [] = Ok []
points_from place (text ∷ rest) = point_before (point_in place text) (points_from (place + 1) rest)

-- what stands between the braces that a text begins and ends with
abbrev pub in_braces : List ℕ → Option (List ℕ)
in_braces text =
    if (nat_lt 1 (length text) && slice_index_or text 0 0 == 123)
    && slice_index_or text (length text - 1) 0 == 125
    then Some (take (length text - 2) (drop 1 text)) else None

abbrev pub points_of : Option (List ℕ) → Result (List CapabilityPoint) CapabilityPointsError
points_of None = Err NoBraces
points_of (Some text) = points_from 0 (pieces text)

-- the points of a text
abbrev pub capability_points_in : List ℕ → Result (List CapabilityPoint) CapabilityPointsError
capability_points_in text = points_of (in_braces text)

-- the limits of a point as format parameters
abbrev pub limit_parameters : CapabilityPoint → FormatParameters
limit_parameters it = record {
  values = map (option_map decimal)
      (it.tier_flag ∷ it.level_id ∷ it.max_lsr ∷ it.max_lps ∷ it.max_br ∷ []);
  others = [];
}

abbrev pub limits_text : CapabilityPoint → List ℕ
limits_text it = written (all_of limit_rows (limit_parameters it))

abbrev pub point_text : CapabilityPoint → List ℕ
point_text it = tool_name it.tool ++ 58 ∷ decimal it.spatial_segmentation ++ 59 ∷ limits_text it

abbrev pub points_text : List CapabilityPoint → List ℕ
points_text points = join_with_byte 44 (map point_text points)

-- points as they are written
abbrev pub capability_points_text : List CapabilityPoint → List ℕ
capability_points_text points = 123 ∷ points_text points ++ 125 ∷ []

abbrev pub IsAtMost : ℕ → Option ℕ → Type 0
IsAtMost most None = Unit {0}
IsAtMost most (Some number) = number ≤ most

-- what may stand as a point
pub record IsPoint (it : CapabilityPoint) : Type 0 where
  pub positive : 1 ≤ it.spatial_segmentation
  pub most : it.spatial_segmentation ≤ 4095
  pub tier : IsAtMost 1 it.tier_flag
  pub level : IsAtMost 255 it.level_id
  pub rate : IsAtMost 18446744073709551615 it.max_lsr
  pub size : IsAtMost 4294967295 it.max_lps
  pub bits : IsAtMost 18446744073709551615 it.max_br
  pub limit : has_limit it ≡ true

pub record AreCapabilityPoints (points : List CapabilityPoint) : Type 0 where
  pub some : 0 < length points
  pub whole : AllByRecursion IsPoint points

-- a point with the limits that it leaves out: as they are said outside of it
abbrev pub inferred : FormatParameters → CapabilityPoint → CapabilityPoint
inferred it point = record {
  tool = point.tool;
  spatial_segmentation = point.spatial_segmentation;
  tier_flag = option_or point.tier_flag
      (number_or_default h265.rows it (h265.row_place p.TierFlag));
  level_id = option_or point.level_id
      (option_or (number_at h265.rows it (h265.row_place p.MaxRecvLevelId))
      (number_or_default h265.rows it (h265.row_place p.LevelId)));
  max_lsr = option_or point.max_lsr (number_at h265.rows it (h265.row_place p.MaxLsr));
  max_lps = option_or point.max_lps (number_at h265.rows it (h265.row_place p.MaxLps));
  max_br = option_or point.max_br (number_at h265.rows it (h265.row_place p.MaxBr));
}
