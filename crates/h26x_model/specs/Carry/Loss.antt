-- What lost packets hurt: no item but their own (ours).
use Rattle.std.specs.Prelude.{◌≡◌, ℕ, ◌+◌, ◌≤◌, Bool, true, false, List, [], ◌∷◌, ◌++◌, length, map, take, MatchBool}
use Rattle.std.specs.List.{flat_map, list_all, AllByRecursion}
use Rattle.h26x_model.specs.Payload.Reading.{Reading, body_of}
use Rattle.h26x_model.specs.Payload.Format.{Format}
use Rattle.h26x_model.specs.Send.Plan.{Item, Alone, Together, item_units}
use Rattle.h26x_model.specs.Send.Packets.{item_packets}
use Rattle.h26x_model.specs.Receive.Received.{units_after}
use Rattle.h26x_model.specs.Payload.Facts.{CanSend}

-- those of a list that a mask keeps
abbrev pub keep : {A : Type 0} → List Bool → List A → List A
keep (true ∷ mask) (x ∷ xs) = x ∷ keep mask xs
keep (false ∷ mask) (x ∷ xs) = keep mask xs
keep mask xs = []

-- whether the first is kept
abbrev pub keeps_first : List Bool → Bool
keeps_first [] = false
keeps_first (b ∷ mask) = b

-- whether the last is kept
abbrev pub keeps_last : List Bool → Bool
keeps_last [] = false
keeps_last (b ∷ []) = b
keeps_last (b ∷ c ∷ mask) = keeps_last (c ∷ mask)

-- the header of a unit, and the data of those of its fragments that are left
abbrev pub incomplete_unit : Format → Item → List (List ℕ) → List ℕ
incomplete_unit f (Alone limit unit) packets = take f.header_len unit
    ++ flat_map (λ packet. body_of (f.read packet)) packets
incomplete_unit f (Together limit sets unit) packets = []

-- The units that are written where these packets of an item are left: all of its units where none
-- is lost; else, where the last fragment is left, what is left of the unit if the first is too, and
-- at most one unit if not; else nothing.
abbrev pub AreUnitsLeft : Format → ℕ → Item → List Bool → List (List ℕ) → Type 0
AreUnitsLeft f n item mask units =
    MatchBool (list_all (λ b. b) mask) (units ≡ item_units item)
    (MatchBool (keeps_last mask)
    (MatchBool (keeps_first mask) (units ≡ incomplete_unit f item (keep mask (item_packets f n item)) ∷
    []) (length units ≤ 1))
    (units ≡ []))

-- the same item by item, in order
abbrev pub AreAllUnitsLeft : Format → ℕ → List Item → List (List Bool) → List (List (List ℕ)) → Type 0
AreAllUnitsLeft f n [] [] [] = Unit {0}
AreAllUnitsLeft f n (item ∷ items) (mask ∷ masks) (units ∷ written) =
    AreUnitsLeft f n item mask units × AreAllUnitsLeft f (n + length (item_units item)) items masks
    written
AreAllUnitsLeft f n items masks written = ⊥

-- the packets that are left
abbrev pub packets_left : Format → ℕ → List Item → List (List Bool) → List (List ℕ)
packets_left f n (item ∷ items) (mask ∷ masks) = keep mask (item_packets f n item)
    ++ packets_left f (n + length (item_units item)) items masks
packets_left f n items masks = []

-- which packets are left, item by item
abbrev pub AreMasks : Format → ℕ → List Item → List (List Bool) → Type 0
AreMasks f n [] [] = Unit {0}
AreMasks f n (item ∷ items) (mask ∷ masks) =
    (length mask ≡ length (item_packets f n item))
    × AreMasks f (n + length (item_units item)) items masks
AreMasks f n items masks = ⊥

-- A lost packet hurts no item but its own, whatever came before.
abbrev pub LossStaysWithin : Format → Type 0
LossStaysWithin f = (n : ℕ) (items : List Item) (masks : List (List Bool))
    (earlier : List Reading) →
    AllByRecursion (CanSend f) items → AreMasks f n items masks →
    (written : List (List (List ℕ))) × AreAllUnitsLeft f n items masks written
    × (units_after earlier (map f.read (packets_left f n items masks)) ≡ flat_map
    (λ units. units) written)
