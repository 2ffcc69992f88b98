-- Which units of an access unit are sent where every unit goes.
use Rattle.std.specs.Prelude.{ℕ, zero, suc, Bool, ◌||◌, ◌==◌, not, if◌then◌else◌, List, [], ◌∷◌, filter, get_or}
use Rattle.h26x_core.specs.H264Unit as h264_unit
use Rattle.h26x_core.specs.H265Unit as h265_unit
use Rattle.h26x_core.specs.H266Unit as h266_unit
use Rattle.h26x_cut.specs.Cutting.{units_of}
use Rattle.h26x_packetizer.specs.declared.refusal.RefusedUnit.{RefusedUnit}
use Rattle.h26x_codec.specs.Codec.{zero_rule}
use Rattle.h26x_codec.specs.declared.codec.Codec.{Codec}
use Rattle.h26x_codec.specs.declared.codec.Codec.TheVariants as c

-- whether a type is that of an access unit delimiter or of filler data, of which a decoder needs
-- nothing (H.264, table 7-1; H.265, table 7-1; H.266, table 5)
abbrev pub is_delimiter_type : Codec → ℕ → Bool
is_delimiter_type c.H264 type = (type == 9) || (type == 12)
is_delimiter_type c.H265 type = (type == 35) || (type == 38)
is_delimiter_type c.H266 type = (type == 20) || (type == 25)

-- the type in a unit's header (RFC 6184, 1.3; RFC 7798, 1.1.4; RFC 9328, 1.1.4)
abbrev pub unit_type : Codec → List ℕ → ℕ
unit_type c.H264 unit = h264_unit.type_of (get_or unit 0 0)
unit_type c.H265 unit = h265_unit.type_of (get_or unit 0 0)
unit_type c.H266 unit = h266_unit.type_of (get_or unit 1 0)

-- whether a unit is a delimiter or filler
abbrev pub is_delimiter : Codec → List ℕ → Bool
is_delimiter codec unit = is_delimiter_type codec (unit_type codec unit)

-- whether a unit is sent, where delimiters and filler are, or are left out
abbrev pub is_sent : Bool → Codec → List ℕ → Bool
is_sent delimiters codec unit = delimiters || not (is_delimiter codec unit)

-- the units of an access unit in Annex B form that are sent, in order
abbrev pub sent_units : Bool → Codec → List ℕ → List (List ℕ)
sent_units delimiters codec access_unit =
    filter (is_sent delimiters codec) (units_of (zero_rule codec) access_unit)

-- the place among units of the one at this place among those of them that pass a test; as many as
-- there are where none is at that place
abbrev pub place_among : (List ℕ → Bool) → List (List ℕ) → ℕ → ℕ
place_among test [] place = 0
place_among test (unit ∷ units) zero = if test unit then 0 else suc (place_among test units 0)
place_among test (unit ∷ units) (suc place) =
    if test unit then suc (place_among test units place)
    else suc (place_among test units (suc place))

-- the place among all units of an access unit of the one at this place among those that are sent
abbrev pub sent_place : Bool → Codec → List ℕ → ℕ → ℕ
sent_place delimiters codec access_unit place =
    place_among (is_sent delimiters codec) (units_of (zero_rule codec) access_unit) place

-- a unit that is refused among those that are sent, told by its place among all
abbrev pub refused_among_all : Bool → Codec → List ℕ → RefusedUnit → RefusedUnit
refused_among_all delimiters codec access_unit unit =
    record unit { place = sent_place delimiters codec access_unit unit.place }
