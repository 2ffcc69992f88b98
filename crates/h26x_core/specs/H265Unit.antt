-- H.265 NAL units (RFC 7798, 1.1.4). A header has two bytes: F, type, layer and temporal id.
use Rattle.std.specs.Prelude.{ℕ, ◌+◌, ◌*◌, nat_le, Bool, false, ◌&&◌, ◌==◌, if◌then◌else◌, List, ◌∷◌}
use Rattle.h26x_core.specs.Word.{field, is_set}
use Rattle.h26x_core.specs.Kind.{Kind, Skipped, Vps, Sps, Pps, Other}

-- whether the bit F is set, in a header's high byte
abbrev pub is_forbidden : ℕ → Bool
is_forbidden high = is_set high 7

-- the type, in a header's high byte
abbrev pub type_of : ℕ → ℕ
type_of high = field high 6 1

-- the layer, in both bytes: its highest bit is the lowest of the high byte
abbrev pub layer_id : ℕ → ℕ → ℕ
layer_id high low = field high 0 0 * 32 + field low 7 3

-- the temporal id (one more than the sublayer), in the low byte
abbrev pub temporal_id : ℕ → ℕ
temporal_id low = field low 2 0

-- type 35 is an access unit delimiter, 32 a VPS, 33 an SPS, 34 a PPS
abbrev pub kind_of_type : ℕ → Kind
kind_of_type type = if type == 35 then Skipped else if type == 32 then Vps else if type == 33
    then Sps else if type == 34 then Pps else Other

-- a unit without a whole header is skipped
abbrev pub kind : List ℕ → Kind
kind (high ∷ low ∷ unit) = kind_of_type (type_of high)
kind unit = Skipped

-- a key type: a slice of an IRAP picture, 16 to 21
abbrev pub is_key_type : ℕ → Bool
is_key_type type = nat_le 16 type && nat_le type 21

-- a key unit: one of a key type
abbrev pub is_key : List ℕ → Bool
is_key (high ∷ low ∷ unit) = is_key_type (type_of high)
is_key unit = false
