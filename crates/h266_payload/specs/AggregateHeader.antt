-- What the header of an aggregate is by its sets (RFC 9328, 4.3.2).
use Rattle.std.specs.Prelude.{◌≡◌, ℕ, ◌≤◌, Bool, true, false, ◌==◌, List, length, slice_index}
use Rattle.std.specs.List.{list_any, AllByRecursion}
use Rattle.h26x_core.specs.Word.{field, is_set}
use Rattle.h26x_core.specs.H266Unit.{type_of}
use Rattle.h266_payload.specs.H266.{has_forbidden_bit, layer_of, temporal_of, sets_packet}

-- a number is the value of a set, and no set has a lower one
pub record IsLowest (value : List ℕ → ℕ) (sets : List (List ℕ)) (n : ℕ) : Type 0 where
  pub there : list_any (λ set. value set == n) sets ≡ true
  pub least : AllByRecursion (λ set. n ≤ value set) sets

-- F is set if it is of a set, Z is clear, the type is 28, and the layer and the temporal id are the
-- lowest of all sets
pub record IsLowestHeader (sets : List (List ℕ)) (high low : ℕ) : Type 0 where
  pub forbidden : is_set high 7 ≡ list_any has_forbidden_bit sets
  pub z : is_set high 6 ≡ false
  pub type : type_of low ≡ 28
  pub layer : IsLowest layer_of sets (field high 5 0)
  pub temporal : IsLowest temporal_of sets (field low 2 0)

-- a temporal id is one more than the sublayer, and so no set has 0 (7.4.2.2 of Rec. ITU-T H.266)
abbrev pub HaveTemporalIds : List (List ℕ) → Type 0
HaveTemporalIds sets = AllByRecursion (λ set. 1 ≤ temporal_of set) sets

-- the packet of sets has the header of these sets
abbrev pub IsHeadedBySets : Bool → ℕ → List (List ℕ) → List ℕ → Type 0
IsHeadedBySets has_donl n sets unit =
    1 ≤ length sets → HaveTemporalIds sets → IsLowestHeader sets
    (slice_index (sets_packet has_donl n sets unit) 0)
    (slice_index (sets_packet has_donl n sets unit) 1)
