-- What a packet shows of the units of which it bears something (RFC 6184, 5; RFC 7798, 4.4; RFC 9328,
-- 4.3).
use Rattle.std.specs.Prelude.{ℕ, ◌++◌, Bool, if◌then◌else◌, List, [], ◌∷◌, map, get_or, Option, Some, None}
use Rattle.h26x_model.specs.Payload.Reading.{Reading, Single, Aggregate, Fragment, Paci, Refused}

-- the first three bytes of a unit, zeros behind its end
abbrev pub first_bytes : List ℕ → List ℕ
first_bytes unit = get_or unit 0 0 ∷ (get_or unit 1 0 ∷ (get_or unit 2 0 ∷ []))

-- the units of which it bears something: of a fragment that doesn't start its unit the header alone
abbrev pub borne_units : Reading → List (List ℕ)
borne_units (Single unit don) = unit ∷ []
borne_units (Aggregate units) = map (λ u. u.0) units
borne_units (Fragment start end head don body) = (if start then head ++ body else head) ∷ []
borne_units (Paci head fields extension body) = (head ++ body) ∷ []
borne_units (Refused error) = []

-- the units that it begins, the one of a fragment as far as it goes
abbrev pub begun_units : Reading → List (List ℕ)
begun_units (Single unit don) = unit ∷ []
begun_units (Aggregate units) = map (λ u. u.0) units
begun_units (Fragment start end head don body) = if start then (head ++ body) ∷ [] else []
begun_units (Paci head fields extension body) = (head ++ body) ∷ []
begun_units (Refused error) = []

-- the first of units
abbrev pub first_unit_of : List (List ℕ) → Option (List ℕ)
first_unit_of [] = None
first_unit_of (unit ∷ units) = Some unit
