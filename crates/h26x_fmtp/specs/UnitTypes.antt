-- The types of NAL units, and which of them a parameter is for (RFC 6184, sections 1.3 and 8.1; RFC
-- 7798, sections 1.1.4 and 7.1; RFC 9328, sections 1.1.4 and 7.2).
use Rattle.std.specs.Prelude.{ℕ, ◌+◌, nat_le, Bool, false, ◌&&◌, ◌||◌, if◌then◌else◌, List, [], ◌∷◌, Option, Some, None, Result, Ok, Err}
use Rattle.std.specs.Option.{option_or}
use Rattle.h26x_core.specs.H264Unit as h264
use Rattle.h26x_core.specs.H265Unit as h265
use Rattle.h26x_core.specs.H266Unit as h266
use Rattle.h26x_cut.specs.Cutting.{begins_code}
use Rattle.h26x_fmtp.specs.declared.rtp_map.Encoding.{Encoding}
use Rattle.h26x_fmtp.specs.declared.rtp_map.Encoding.TheVariants.{H264, H265, H266}
use Rattle.h26x_fmtp.specs.declared.unit_types.UnitTypes.{UnitTypes}
use Rattle.h26x_fmtp.specs.declared.error.UnitsError.{UnitsError}
use Rattle.h26x_fmtp.specs.declared.error.UnitsError.TheVariants.{OtherType, StartCode}

-- a unit's type, if its header is whole
abbrev pub unit_type : Encoding → List ℕ → Option ℕ
unit_type H264 [] = None
unit_type H264 (first ∷ rest) = Some (h264.type_of first)
unit_type H265 [] = None
unit_type H265 (high ∷ []) = None
unit_type H265 (high ∷ low ∷ rest) = Some (h265.type_of high)
unit_type H266 [] = None
unit_type H266 (high ∷ []) = None
unit_type H266 (high ∷ low ∷ rest) = Some (h266.type_of low)

abbrev pub is_between : ℕ → ℕ → Option ℕ → Bool
is_between first last None = false
is_between first last (Some type) = nat_le first type && nat_le type last

-- whether a unit is of one of these types
abbrev pub is_of : UnitTypes → List ℕ → Bool
is_of types unit = is_between types.first types.last (unit_type types.encoding unit)

abbrev pub one_type : Encoding → ℕ → UnitTypes
one_type encoding type = record { encoding = encoding; first = type; last = type }

-- whether 00 00 01 stands in bytes
abbrev pub holds_code : List ℕ → Bool
holds_code [] = false
holds_code (byte ∷ rest) = begins_code (byte ∷ rest) || holds_code rest

-- what is wrong with a unit at a place: it is of another type, or holds a start code
abbrev pub unit_fault : UnitTypes → ℕ → List ℕ → Option UnitsError
unit_fault types place unit =
    if is_of types unit then (if holds_code unit then Some (StartCode place) else None)
    else Some (OtherType place)

-- what is wrong first with units, the first of them at a place
abbrev pub fault_from : UnitTypes → ℕ → List (List ℕ) → Option UnitsError
fault_from types place [] = None
fault_from types place (unit ∷ rest) =
    option_or (unit_fault types place unit) (fault_from types (place + 1) rest)

abbrev pub unless_fault : List (List ℕ) → Option UnitsError → Result (List (List ℕ)) UnitsError
unless_fault units None = Ok units
unless_fault units (Some error) = Err error

-- units that were read, where nothing is wrong with them
abbrev pub of_types : UnitTypes → Result (List (List ℕ)) UnitsError →
    Result (List (List ℕ)) UnitsError
of_types types (Err error) = Err error
of_types types (Ok units) = unless_fault units (fault_from types 0 units)

-- SPS and PPS of H.264
abbrev pub h264_sets : UnitTypes
h264_sets = record { encoding = H264; first = 7; last = 8 }

abbrev pub h265_vps : UnitTypes
h265_vps = one_type H265 32

abbrev pub h265_sps : UnitTypes
h265_sps = one_type H265 33

abbrev pub h265_pps : UnitTypes
h265_pps = one_type H265 34

-- prefix and suffix SEI
abbrev pub h265_sei : UnitTypes
h265_sei = record { encoding = H265; first = 39; last = 40 }

abbrev pub h266_dci : UnitTypes
h266_dci = one_type H266 13

abbrev pub h266_vps : UnitTypes
h266_vps = one_type H266 14

abbrev pub h266_sps : UnitTypes
h266_sps = one_type H266 15

abbrev pub h266_pps : UnitTypes
h266_pps = one_type H266 16

-- prefix and suffix SEI
abbrev pub h266_sei : UnitTypes
h266_sei = record { encoding = H266; first = 23; last = 24 }
