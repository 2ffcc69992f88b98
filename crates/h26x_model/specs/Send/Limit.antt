-- No packet passes its limit.
use Rattle.std.specs.Prelude.{ℕ, ◌≤◌, List, length}
use Rattle.std.specs.List.{AllByRecursion}
use Rattle.h26x_model.specs.Payload.Format.{Format}
use Rattle.h26x_model.specs.Send.Plan.{Item, Alone, Together}
use Rattle.h26x_model.specs.Send.Packets.{item_packets}

-- none of the packets is longer than this
abbrev pub AreWithinLimit : ℕ → List (List ℕ) → Type 0
AreWithinLimit most packets = AllByRecursion (λ packet. length packet ≤ most) packets

-- the limit of the call that sends an item
abbrev pub item_limit : Item → ℕ
item_limit (Alone limit unit) = limit
item_limit (Together limit sets unit) = limit

-- whatever the number, the packets of an item are within its limit
abbrev pub ItemIsWithinLimit : Format → Item → Type 0
ItemIsWithinLimit f item = (n : ℕ) → AreWithinLimit (item_limit item) (item_packets f n item)
