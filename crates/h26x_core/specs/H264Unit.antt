-- H.264 NAL units (RFC 6184, 1.3 and 5.2).
use Rattle.std.specs.Prelude.{ℕ, Bool, false, ◌==◌, if◌then◌else◌, List, [], ◌∷◌}
use Rattle.h26x_core.specs.Word.{field}
use Rattle.h26x_core.specs.Kind.{Kind, Skipped, Sps, Pps, Other}

-- the type in a unit's or a packet's first byte
abbrev pub type_of : ℕ → ℕ
type_of byte = field byte 4 0

-- type 9 is an access unit delimiter, 7 an SPS, 8 a PPS
abbrev pub kind_of_type : ℕ → Kind
kind_of_type type = if type == 9 then Skipped else if type == 7 then Sps else if type == 8 then Pps
    else Other

-- an empty unit is skipped
abbrev pub kind : List ℕ → Kind
kind [] = Skipped
kind (first ∷ unit) = kind_of_type (type_of first)

-- a key unit: a slice of an IDR picture, type 5
abbrev pub is_key : List ℕ → Bool
is_key [] = false
is_key (first ∷ unit) = type_of first == 5

-- the type of bytes that begin with a header; 0 without one
abbrev pub type_of_first : List ℕ → ℕ
type_of_first [] = 0
type_of_first (first ∷ unit) = type_of first
