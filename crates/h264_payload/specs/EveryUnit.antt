-- H.264 where every unit goes: a STAP-A has the header of its units (RFC 6184, 5.7 and 5.7.1).
use Rattle.std.specs.Prelude.{◌≡◌, ℕ, ◌+◌, ◌*◌, ◌≤◌, max, true, ◌==◌, nat_le, ◌&&◌, Bool, false, List, [], ◌∷◌, slice_index}
use Rattle.std.specs.List.{flat_map, list_any, AllByRecursion}
use Rattle.h26x_core.specs.Word.{field, is_set, flag}
use Rattle.h26x_core.specs.H264Unit.{type_of}
use Rattle.h26x_core.specs.Pieces.{piece}
use Rattle.h26x_model.specs.Payload.Format.{Format}
use Rattle.h26x_model.specs.Send.Every.{with_own_aggregates, has_f_bit}
use Rattle.h264_payload.specs.H264.{h264}

-- the NRI of a unit
abbrev pub nri_of : List ℕ → ℕ
nri_of [] = 0
nri_of (first ∷ unit) = field first 6 5

-- the greatest NRI of units
abbrev pub highest_nri : List (List ℕ) → ℕ
highest_nri [] = 0
highest_nri (unit ∷ units) = max (nri_of unit) (highest_nri units)

-- a STAP-A: F where a unit has it, the greatest NRI, type 24
abbrev pub own_aggregate : ℕ → List (List ℕ) → List ℕ
own_aggregate don units = (flag (list_any has_f_bit units) 0x80 + highest_nri units * 32 + 24) ∷
    flat_map piece units

-- the format
abbrev pub h264_every : Format
h264_every = with_own_aggregates h264 own_aggregate

-- a number is the NRI of a unit, and no unit has a greater one
pub record IsHighest (units : List (List ℕ)) (n : ℕ) : Type 0 where
  pub there : list_any (λ unit. nri_of unit == n) units ≡ true
  pub most : AllByRecursion (λ unit. nri_of unit ≤ n) units

-- A header is that of a STAP-A of these units: F is set if it is of a unit, the type is 24, and the
-- NRI is the greatest of all units.
pub record IsStapHeader (units : List (List ℕ)) (header : ℕ) : Type 0 where
  pub forbidden : is_set header 7 ≡ list_any has_f_bit units
  pub type : type_of header ≡ 24
  pub nri : IsHighest units (field header 6 5)

-- so is that of each
abbrev pub AreHeadedByUnits : Type 0
AreHeadedByUnits = (don : ℕ) (first : List ℕ) (units : List (List ℕ)) →
    IsStapHeader (first ∷ units) (slice_index (own_aggregate don (first ∷ units)) 0)

-- whether a unit is a slice or a part of one (types 1 to 5)
abbrev pub is_slice : List ℕ → Bool
is_slice [] = false
is_slice (first ∷ unit) = nat_le 1 (type_of first) && nat_le (type_of first) 5
