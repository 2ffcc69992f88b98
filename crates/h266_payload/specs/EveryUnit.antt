-- H.266 where every unit goes: an aggregate has the header of its units (RFC 9328, 4.3.2).
use Rattle.std.specs.Prelude.{ℕ, Bool, false, nat_lt, if◌then◌else◌, List, [], ◌∷◌}
use Rattle.h26x_core.specs.H266Unit.{type_of}
use Rattle.h26x_model.specs.Payload.Format.{Format}
use Rattle.h26x_model.specs.Send.Every.{with_own_aggregates}
use Rattle.h266_payload.specs.H266.{h266, sets_packet}

-- an aggregate: that of sets, which has the header of what stands in it
abbrev pub own_aggregate : Bool → ℕ → List (List ℕ) → List ℕ
own_aggregate has_donl n units = sets_packet has_donl n units []

-- the format, with or without numbers
abbrev pub h266_every : Bool → Format
h266_every has_donl = with_own_aggregates (h266 has_donl) (own_aggregate has_donl)

-- what stands in an aggregate before its units: the header and DONL
abbrev pub units_start : Bool → ℕ
units_start has_donl = if has_donl then 4 else 2

-- whether a unit is a slice (VCL, types 0 to 11)
abbrev pub is_slice : List ℕ → Bool
is_slice (high ∷ low ∷ unit) = nat_lt (type_of low) 12
is_slice unit = false
