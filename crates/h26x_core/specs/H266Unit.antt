-- H.266 NAL units (RFC 9328, 1.1.4). A header has two bytes: F, Z and layer; type and temporal id.
use Rattle.std.specs.Prelude.{ℕ, nat_le, Bool, false, ◌&&◌, ◌||◌, ◌==◌, if◌then◌else◌, List, ◌∷◌}
use Rattle.h26x_core.specs.Word.{field, is_set}
use Rattle.h26x_core.specs.Kind.{Kind, Skipped, Vps, Sps, Pps, Other}

-- whether the bit F is set, in a header's high byte
abbrev pub is_forbidden : ℕ → Bool
is_forbidden high = is_set high 7

-- whether the reserved bit Z is set, in the high byte
abbrev pub is_reserved : ℕ → Bool
is_reserved high = is_set high 6

-- the layer, in the high byte
abbrev pub layer_id : ℕ → ℕ
layer_id high = field high 5 0

-- the temporal id (one more than the sublayer), in the low byte
abbrev pub temporal_id : ℕ → ℕ
temporal_id low = field low 2 0

-- the type, in a header's low byte
abbrev pub type_of : ℕ → ℕ
type_of low = field low 7 3

-- type 20 is an access unit delimiter, 28 and 29 are packets' own types; 14 is a VPS, 15 an SPS, 16
-- a PPS
abbrev pub kind_of_type : ℕ → Kind
kind_of_type type =
    if (type == 20) || (type == 28) || (type == 29) then Skipped
    else if type == 14 then Vps else if type == 15 then Sps else if type == 16 then Pps else Other

-- a unit without a whole header is skipped
abbrev pub kind : List ℕ → Kind
kind (high ∷ low ∷ unit) = kind_of_type (type_of low)
kind unit = Skipped

-- a key type: a slice of an IDR or CRA picture, 7 to 9
abbrev pub is_key_type : ℕ → Bool
is_key_type type = nat_le 7 type && nat_le type 9

-- a key unit: one of a key type
abbrev pub is_key : List ℕ → Bool
is_key (high ∷ low ∷ unit) = is_key_type (type_of low)
is_key unit = false
