-- What a depacketizer shows.
use Rattle.std.specs.Prelude.{◌≡◌, ℕ, List, Option, Some, None}
use Rattle.h26x_model.specs.Payload.Reading.{Reading}
use Rattle.h26x_model.specs.Receive.Received.{reading_units}

-- the units of an aggregate that is shown are what a reading brings, whatever run is open
abbrev pub AreUnitsOf : Reading → Option (List (List ℕ)) → Type 0
AreUnitsOf reading None = Unit {0}
AreUnitsOf reading (Some units) = (run : Option (List ℕ)) → reading_units run reading ≡ units
