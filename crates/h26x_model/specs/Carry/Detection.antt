-- Key units that packets are known to hold or begin (str0m's rule).
use Rattle.std.specs.Prelude.{◌≡◌, ℕ, ◌+◌, ◌-◌, false, List, [], ◌∷◌, length, map, replicate}
use Rattle.h26x_model.specs.Payload.Format.{Format}
use Rattle.h26x_model.specs.Send.Plan.{Item, Alone, Together, item_units}
use Rattle.h26x_model.specs.Send.Packets.{item_packets}

-- Of a unit's packets the first is detected where it is a key unit, and no other is. A packet of
-- sets is not detected; where packets bear numbers nothing is said of it.
abbrev pub IsDetected : Format → ℕ → Item → Type 0
IsDetected f n (Alone limit unit) =
    map f.detects (item_packets f n (Alone limit unit))
    ≡ f.is_key unit ∷ replicate (length (item_packets f n (Alone limit unit)) - 1) false
IsDetected f n (Together limit sets unit) = f.has_donl ≡ false →
    f.detects (f.sets_packet n sets unit) ≡ false

-- the same item by item, with decoding order numbers from n on
abbrev pub AreDetected : Format → ℕ → List Item → Type 0
AreDetected f n [] = Unit {0}
AreDetected f n (item ∷ items) = IsDetected f n item
    × AreDetected f (n + length (item_units item)) items
