-- H.265 where every unit goes: an aggregate has the header of its units (RFC 7798, 4.4.2).
use Rattle.std.specs.Prelude.{ℕ, Bool, false, nat_lt, if◌then◌else◌, List, [], ◌∷◌, ◌++◌, slice_index}
use Rattle.std.specs.List.{flat_map}
use Rattle.h26x_core.specs.H265Unit.{type_of}
use Rattle.h26x_core.specs.Pieces.{piece}
use Rattle.h26x_model.specs.Payload.Format.{Format, donl_bytes}
use Rattle.h26x_model.specs.Send.Every.{with_own_aggregates}
use Rattle.h265_payload.specs.H265.{h265, further_set}
use Rattle.h265_payload.specs.LowestHeader.{lowest_high, lowest_low, IsLowestHeader}

-- an aggregate: F where a unit has it, type 48, the lowest layer and temporal id; the first unit's
-- number (DONL), and the units, from the second on behind a DOND of 0 where they bear numbers
abbrev pub own_aggregate : Bool → ℕ → List (List ℕ) → List ℕ
own_aggregate has_donl n [] = []
own_aggregate has_donl n (unit ∷ units) =
    (lowest_high (unit ∷ units) ∷ lowest_low (unit ∷ units) ∷ []) ++ donl_bytes has_donl n
    ++ piece unit ++ flat_map (further_set has_donl) units

-- the format, with or without numbers
abbrev pub h265_every : Bool → Format
h265_every has_donl = with_own_aggregates (h265 has_donl) (own_aggregate has_donl)

-- what stands in an aggregate before its units, as they are counted: the header and DONL, of which
-- one byte is counted with the first unit as a DOND
abbrev pub units_start : Bool → ℕ
units_start has_donl = if has_donl then 3 else 2

-- the header of each aggregate is that of its units
abbrev pub AreHeadedByUnits : Type 0
AreHeadedByUnits = (has_donl : Bool) (don : ℕ) (first : List ℕ) (units : List (List ℕ)) →
    IsLowestHeader (first ∷ units) (slice_index (own_aggregate has_donl don (first ∷ units)) 0)
    (slice_index (own_aggregate has_donl don (first ∷ units)) 1)

-- whether a unit is a slice segment (VCL, types 0 to 31)
abbrev pub is_slice : List ℕ → Bool
is_slice [] = false
is_slice (high ∷ unit) = nat_lt (type_of high) 32
