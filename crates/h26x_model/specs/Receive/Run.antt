-- Runs of fragments, by their places in a list of packets (RFC 6184, 5.8; RFC 7798, 4.4.3; RFC
-- 9328, 4.3.3).
use Rattle.std.specs.Prelude.{◌≡◌, ℕ, ◌+◌, ◌<◌, ◌≤◌, Bool, true, false, List, [], ◌∷◌, ◌++◌, length, map, take, drop, Option, Some, ◌⊎◌, slice_get}
use Rattle.std.specs.Option.{option_map_or}
use Rattle.std.specs.List.{flat_map}
use Rattle.h26x_model.specs.Payload.Reading.{Reading, Single, Aggregate, Fragment, Paci, is_start, is_end, head_of, body_of}

-- whether the packet at a place starts
abbrev pub starts_at : List Reading → ℕ → Bool
starts_at readings place = option_map_or is_start (slice_get readings place) false

-- whether the packet at a place ends
abbrev pub ends_at : List Reading → ℕ → Bool
ends_at readings place = option_map_or is_end (slice_get readings place) false

-- A run: from the latest start before an end, or at it, to this end, with no end between.
pub record IsRun (readings : List Reading) (first last : ℕ) : Type 0 where
  pub ends : ends_at readings last ≡ true
  pub starts : starts_at readings first ≡ true
  pub order : first ≤ last
  pub latest : (place : ℕ) → first < place → place ≤ last → starts_at readings place ≡ false
  pub unbroken : (place : ℕ) → first ≤ place → place < last → ends_at readings place ≡ false

-- the unit of a run: the header of its end, and the data of its fragments
abbrev pub run_unit : List Reading → ℕ → ℕ → List ℕ
run_unit readings first last =
    option_map_or head_of (slice_get readings last) []
    ++ flat_map body_of (drop first (take (last + 1) readings))

-- what an end names: the unit of its run; nothing where no run ends there
abbrev pub IsRunUnit : List Reading → ℕ → List (List ℕ) → Type 0
IsRunUnit readings last units =
    ((first : ℕ) × IsRun readings first last × (units ≡ run_unit readings first last ∷ []))
    ⊎ (((first : ℕ) → IsRun readings first last → ⊥) × (units ≡ []))

-- what the reading at a place brings
abbrev pub PlaceBrings : List Reading → ℕ → Option Reading → List (List ℕ) → Type 0
PlaceBrings readings place (Some (Single unit don)) units = units ≡ unit ∷ []
PlaceBrings readings place (Some (Aggregate pairs)) units = units ≡ map (λ u. u.0) pairs
PlaceBrings readings place (Some (Fragment start true head don body)) units = IsRunUnit readings place
    units
PlaceBrings readings place (Some (Paci head fields extension body)) units = units ≡ (head ++ body) ∷ []
PlaceBrings readings place reading units = units ≡ []

-- the units that readings bring: what each place brings, in order of place
pub record AreReceived (readings : List Reading) (units : List (List ℕ)) : Type 0 where
  pub parts : List (List (List ℕ))
  pub long : length parts ≡ length readings
  pub each : (place : ℕ) (part : List (List ℕ)) → slice_get parts place ≡ Some part →
      PlaceBrings readings place (slice_get readings place) part
  pub joined : units ≡ flat_map (λ part. part) parts
