-- Decoding order numbers (RFC 7798, 4.4 and 4.6; RFC 9328, 4.3 and 4.4).
use Rattle.std.specs.Prelude.{◌≡◌, ℕ, ◌+◌, ◌%◌, true, if◌then◌else◌, List, [], ◌∷◌, length, map, Option, Some, None}
use Rattle.std.specs.List.{flat_map, range_with_len}
use Rattle.h26x_model.specs.Payload.Reading.{Reading, Single, Aggregate, Fragment}
use Rattle.h26x_model.specs.Payload.Format.{Format}
use Rattle.h26x_model.specs.Send.Plan.{Item, item_units}
use Rattle.h26x_model.specs.Send.Packets.{plan_packets}

-- the number that a unit is sent with, if packets bear numbers: two bytes hold it
abbrev pub don_sent : Format → ℕ → Option ℕ
don_sent f n = if f.has_donl then Some (n % 65536) else None

-- units with decoding order numbers from n on
abbrev pub with_dons : Format → ℕ → List (List ℕ) → List (List ℕ × Option ℕ)
with_dons f n [] = []
with_dons f n (unit ∷ units) = (unit, don_sent f n) ∷ with_dons f (n + 1) units

-- the numbers of the units that a reading holds or begins
abbrev pub dons_of : Reading → List (Option ℕ)
dons_of (Single unit don) = don ∷ []
dons_of (Aggregate units) = map (λ u. u.1) units
dons_of (Fragment true end head don body) = don ∷ []
dons_of reading = []

-- The unit at place i of the units sent has number n + i.
abbrev pub DonsInOrder : Format → ℕ → List Item → Type 0
DonsInOrder f n items =
    flat_map (λ packet. dons_of (f.read packet)) (plan_packets f n items)
    ≡ map (λ i. don_sent f (n + i)) (range_with_len 0 (length (flat_map item_units items)))
