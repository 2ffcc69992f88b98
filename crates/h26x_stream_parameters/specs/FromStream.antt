-- What a stream says of itself: the parameters that the sets before its first slice give (RFC 6184,
-- section 8.1; RFC 7798, section 7.1; RFC 9328, section 7.2).
use Rattle.std.specs.Prelude.{ℕ, ◌+◌, ◌==◌, nat_le, Bool, ◌&&◌, if◌then◌else◌, List, [], ◌∷◌, length, take, drop, slice_index, decimal, codes, Option, Some, None, Result, Ok, Err}
use Rattle.hex.specs.Hex.{encode_lower}
use Rattle.h26x_core.specs.Word.{field}
use Rattle.h26x_core.specs.H265Unit as h265_unit
use Rattle.h26x_core.specs.H266Unit as h266_unit
use Rattle.h26x_fmtp.specs.declared.rtp_map.Encoding.{Encoding}
use Rattle.h26x_fmtp.specs.declared.rtp_map.Encoding.TheVariants.{H264, H265, H266}
use Rattle.h26x_fmtp.specs.declared.unit_types.UnitTypes.{UnitTypes}
use Rattle.h26x_sdp.specs.declared.h264.H264Parameter.TheVariants as h264
use Rattle.h26x_sdp.specs.declared.h265.H265Parameter.TheVariants as h265
use Rattle.h26x_sdp.specs.declared.h266.H266Parameter.TheVariants as h266
use Rattle.h26x_stream_parameters.specs.declared.error.StreamError.{StreamError}
use Rattle.h26x_stream_parameters.specs.declared.error.StreamError.TheVariants.{NoParameterSet, ShortParameterSet, NoProfile}
use Rattle.h26x_fmtp.specs.UnitTypes.{is_of, one_type, h264_sets, h265_vps, h265_sps, h265_pps, h266_vps, h266_sps, h266_pps}
use Rattle.h26x_fmtp.specs.Units.{units_text}
use Rattle.h26x_sdp.specs.Constraints.{has_general, constraints_len, constraints_text}
use Rattle.h26x_fmtp.specs.Reading.{FormatParameters, none_of, with_one}
use Rattle.h26x_sdp.specs.H264Rows as h264_rows
use Rattle.h26x_sdp.specs.H265Rows as h265_rows
use Rattle.h26x_sdp.specs.H266Rows as h266_rows

-- slices, by which the first picture begins (Rec. ITU-T H.264, table 7-1; H.265, table 7-1; H.266,
-- table 5)
abbrev pub slices : Encoding → UnitTypes
slices H264 = record { encoding = H264; first = 1; last = 5 }
slices H265 = record { encoding = H265; first = 0; last = 31 }
slices H266 = record { encoding = H266; first = 0; last = 11 }

-- the layer of a unit, which H.264 doesn't have
abbrev pub unit_layer : Encoding → List ℕ → ℕ
unit_layer H264 unit = 0
unit_layer H265 [] = 0
unit_layer H265 (high ∷ []) = 0
unit_layer H265 (high ∷ low ∷ rest) = h265_unit.layer_id high low
unit_layer H266 [] = 0
unit_layer H266 (high ∷ rest) = h266_unit.layer_id high

-- whether a unit is of one of these types, and of the lowest layer
abbrev pub is_base : UnitTypes → List ℕ → Bool
is_base types unit = is_of types unit && (unit_layer types.encoding unit == 0)

-- the first set of a type and of the lowest layer, before the first slice
abbrev pub first_set : UnitTypes → List (List ℕ) → Option (List ℕ)
first_set types [] = None
first_set types (unit ∷ rest) =
    if is_of (slices types.encoding) unit then None
    else (if is_base types unit then Some unit else first_set types rest)

-- the sets of a type before the first slice
abbrev pub first_sets : UnitTypes → List (List ℕ) → List (List ℕ)
first_sets types [] = []
first_sets types (unit ∷ rest) =
    if is_of (slices types.encoding) unit then []
    else (if is_of types unit then unit ∷ first_sets types rest else first_sets types rest)

-- how many zeros stand before what follows a byte, as far as two
abbrev pub zeros_behind : ℕ → ℕ → ℕ
zeros_behind before byte = if byte == 0 then (if before == 0 then 1 else 2) else 0

-- bytes behind so many zeros, without each 03 that stands behind two
abbrev pub unescaped_behind : ℕ → List ℕ → List ℕ
unescaped_behind before [] = []
unescaped_behind before (byte ∷ rest) =
    if (before == 2) && (byte == 3) then unescaped_behind 0 rest
    else byte ∷ unescaped_behind (zeros_behind before byte) rest

-- what a unit says behind its header: its bytes without emulation_prevention_three_byte (Rec. ITU-T
-- H.264, section 7.3.1; H.265 and H.266, section 7.3.1.1)
abbrev pub unescaped : List ℕ → List ℕ
unescaped bytes = unescaped_behind 0 bytes

-- the first bytes of a list, where there are so many
abbrev pub first_bytes : ℕ → List ℕ → Result (List ℕ) StreamError
first_bytes many bytes = if nat_le many (length bytes) then Ok (take many bytes)
    else Err ShortParameterSet

-- the first bytes of a set, behind a header of so many
abbrev pub set_bytes : ℕ → ℕ → Option (List ℕ) → Result (List ℕ) StreamError
set_bytes header many None = Err NoParameterSet
set_bytes header many (Some unit) = first_bytes many (unescaped (drop header unit))

-- parameters with one more, whose value is units, if there are some
abbrev pub with_sets : ℕ → List (List ℕ) → FormatParameters → FormatParameters
with_sets place [] it = it
with_sets place (unit ∷ rest) it = with_one place (units_text (unit ∷ rest)) it

-- parameters of what was read of a set
abbrev pub said_by : (List ℕ → FormatParameters) → Result (List ℕ) StreamError →
    Result FormatParameters StreamError
said_by parameters (Err error) = Err error
said_by parameters (Ok bytes) = Ok (parameters bytes)

-- profile_idc, the flags of constraints and level_idc of an SPS (Rec. ITU-T H.264, section
-- 7.3.2.1.1)
abbrev pub h264_profile : List (List ℕ) → Result (List ℕ) StreamError
h264_profile units = set_bytes 1 3 (first_set (one_type H264 7) units)

-- in packets as packetizers send them there are fragments and aggregates, which is non-interleaved mode
-- (RFC 6184, section 6.3)
abbrev pub h264_with_profile : List ℕ → FormatParameters → FormatParameters
h264_with_profile profile it =
    with_one (h264_rows.row_place h264.PacketizationMode) (codes "1")
    (with_one (h264_rows.row_place h264.ProfileLevelId) (encode_lower profile) it)

abbrev pub h264_of_units : List (List ℕ) → Result FormatParameters StreamError
h264_of_units units =
    said_by (λ profile.
    with_sets (h264_rows.row_place h264.SpropParameterSets) (first_sets h264_sets units)
    (h264_with_profile profile (none_of (length h264_rows.rows))))
    (h264_profile units)

-- the twelve bytes of profile_tier_level( ) from general_profile_space to general_level_idc: they
-- begin behind one byte of an SPS, and behind four of a VPS (Rec. ITU-T H.265, sections 7.3.2.1,
-- 7.3.2.2.1 and 7.3.3)
abbrev pub behind_front : ℕ → Result (List ℕ) StreamError → Result (List ℕ) StreamError
behind_front many (Err error) = Err error
behind_front many (Ok bytes) = Ok (drop many bytes)

abbrev pub h265_profile_in : Option (List ℕ) → Option (List ℕ) → Result (List ℕ) StreamError
h265_profile_in (Some sps) vps = behind_front 1 (set_bytes 2 13 (Some sps))
h265_profile_in None vps = behind_front 4 (set_bytes 2 16 vps)

abbrev pub h265_profile : List (List ℕ) → Result (List ℕ) StreamError
h265_profile units = h265_profile_in (first_set h265_sps units) (first_set h265_vps units)

-- the parameters of those twelve bytes
abbrev pub h265_with_profile : List ℕ → FormatParameters → FormatParameters
h265_with_profile profile it =
    with_one (h265_rows.row_place h265.ProfileCompatibilityIndicator)
    (encode_lower (take 4 (drop 1 profile)))
    (with_one (h265_rows.row_place h265.InteropConstraints) (encode_lower (take 6 (drop 5 profile)))
    (with_one (h265_rows.row_place h265.LevelId) (decimal (slice_index profile 11))
    (with_one (h265_rows.row_place h265.TierFlag) (decimal (field (slice_index profile 0) 5 5))
    (with_one (h265_rows.row_place h265.ProfileId) (decimal (field (slice_index profile 0) 4 0))
    (with_one (h265_rows.row_place h265.ProfileSpace) (decimal (field (slice_index profile 0) 7 6))
    it)))))

abbrev pub h265_of_units : List (List ℕ) → Result FormatParameters StreamError
h265_of_units units =
    said_by (λ profile.
    with_sets (h265_rows.row_place h265.SpropPps) (first_sets h265_pps units)
    (with_sets (h265_rows.row_place h265.SpropSps) (first_sets h265_sps units)
    (with_sets (h265_rows.row_place h265.SpropVps) (first_sets h265_vps units)
    (h265_with_profile profile (none_of (length h265_rows.rows))))))
    (h265_profile units)

-- the bytes of an SPS as far as its constraints: its profile_tier_level( ) begins behind two of them,
-- where sps_ptl_dpb_hrd_params_present_flag is 1, and the constraints behind two more; what they say
-- of their own length stands in their first eleven (Rec. ITU-T H.266, sections 7.3.2.4, 7.3.3.1 and
-- 7.3.3.2)
abbrev pub with_general : Option (List ℕ) → Result (List ℕ) StreamError →
    Result (List ℕ) StreamError
with_general sps (Err error) = Err error
with_general sps (Ok bytes) = set_bytes 2 (4 + constraints_len (drop 4 bytes)) sps

abbrev pub with_constraints : Option (List ℕ) → Result (List ℕ) StreamError →
    Result (List ℕ) StreamError
with_constraints sps (Err error) = Err error
with_constraints sps (Ok bytes) =
    if field (slice_index bytes 1) 0 0 == 0 then Err NoProfile
    else (if has_general (drop 4 bytes) then with_general sps (set_bytes 2 15 sps) else Ok bytes)

abbrev pub h266_profile_in : Option (List ℕ) → Result (List ℕ) StreamError
h266_profile_in sps = with_constraints sps (set_bytes 2 5 sps)

abbrev pub h266_profile : List (List ℕ) → Result (List ℕ) StreamError
h266_profile units = h266_profile_in (first_set h266_sps units)

-- the parameters of those bytes
abbrev pub h266_with_profile : List ℕ → FormatParameters → FormatParameters
h266_with_profile profile it =
    with_one (h266_rows.row_place h266.InteropConstraints) (constraints_text (drop 4 profile))
    (with_one (h266_rows.row_place h266.LevelId) (decimal (slice_index profile 3))
    (with_one (h266_rows.row_place h266.TierFlag) (decimal (field (slice_index profile 2) 0 0))
    (with_one (h266_rows.row_place h266.ProfileId) (decimal (field (slice_index profile 2) 7 1))
    it)))

abbrev pub h266_of_units : List (List ℕ) → Result FormatParameters StreamError
h266_of_units units =
    said_by (λ profile.
    with_sets (h266_rows.row_place h266.SpropPps) (first_sets h266_pps units)
    (with_sets (h266_rows.row_place h266.SpropSps) (first_sets h266_sps units)
    (with_sets (h266_rows.row_place h266.SpropVps) (first_sets h266_vps units)
    (h266_with_profile profile (none_of (length h266_rows.rows))))))
    (h266_profile units)
