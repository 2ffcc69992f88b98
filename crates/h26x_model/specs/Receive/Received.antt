-- The units that packets bring, computed by the run that is open.
use Rattle.std.specs.Prelude.{◌≡◌, ℕ, Bool, true, false, if◌then◌else◌, List, [], ◌∷◌, ◌++◌, map, reverse, Option, Some, None}
use Rattle.std.specs.List.{flat_map, AllByRecursion}
use Rattle.h26x_model.specs.Payload.Reading.{Reading, Single, Aggregate, Fragment, Paci, Refused, is_start, is_end, body_of}

-- a run with one more fragment's data: a start begins anew, and where no run is open another
-- fragment adds nothing
abbrev pub extended_run : Bool → Option (List ℕ) → List ℕ → Option (List ℕ)
extended_run true run body = Some body
extended_run false None body = None
extended_run false (Some run) body = Some (run ++ body)

-- the run that is open after a reading
abbrev pub run_after : Option (List ℕ) → Reading → Option (List ℕ)
run_after run (Fragment start end head don body) = if end then None else extended_run start run body
run_after run reading = run

-- the unit of a header and the data of a run, if one is open
abbrev pub run_units : List ℕ → Option (List ℕ) → List (List ℕ)
run_units head None = []
run_units head (Some run) = (head ++ run) ∷ []

-- the units that a reading brings where this run is open
abbrev pub reading_units : Option (List ℕ) → Reading → List (List ℕ)
reading_units run (Single unit don) = unit ∷ []
reading_units run (Aggregate units) = map (λ u. u.0) units
reading_units run (Fragment start end head don body) = if end
    then run_units head (extended_run start run body) else []
reading_units run (Paci head fields extension body) = (head ++ body) ∷ []
reading_units run (Refused error) = []

-- what the run that is open carries so far; the latest reading stands first
abbrev pub open_run : List Reading → Option (List ℕ)
open_run [] = None
open_run (reading ∷ earlier) = run_after (open_run earlier) reading

-- the units that a reading brings after these
abbrev pub brought_after : Reading → List Reading → List (List ℕ)
brought_after reading earlier = reading_units (open_run earlier) reading

-- the units that readings bring after others, which stand with the latest first
abbrev pub units_after : List Reading → List Reading → List (List ℕ)
units_after earlier [] = []
units_after earlier (reading ∷ readings) = brought_after reading earlier ++ units_after (reading ∷
    earlier) readings

-- the units that readings bring, in order
abbrev pub received : List Reading → List (List ℕ)
received readings = units_after [] readings

-- What a run that is open carries: the latest start, which is no end, and all since, none of which
-- starts or ends. The latest reading stands first.
pub record IsOpenRun (readings : List Reading) (run : List ℕ) : Type 0 where
  pub since : List Reading
  pub start : Reading
  pub before : List Reading
  pub whole : readings ≡ since ++ start ∷ before
  pub starts : (is_start start ≡ true) × (is_end start ≡ false)
  pub quiet : AllByRecursion (λ r. (is_start r ≡ false) × (is_end r ≡ false)) since
  pub bytes : run ≡ body_of start ++ flat_map body_of (reverse since)
