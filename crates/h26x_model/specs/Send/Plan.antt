-- Which units are sent, and what goes in one packet (str0m's rule).
use Rattle.std.specs.Prelude.{◌≡◌, ℕ, ◌+◌, nat_le, Bool, true, false, if◌then◌else◌, List, [], ◌∷◌, ◌++◌, length, map, filter}
use Rattle.std.specs.List.{flat_map}
use Rattle.h26x_core.specs.Kind.{is_other}
use Rattle.h26x_model.specs.Payload.Format.{Format, donl_len, fragment_header_len}
use Rattle.h26x_model.specs.Send.Group.{Entry, Group, split, latest_sets}

-- what is sent together at a limit: a unit, or sets in one packet before a unit
pub data Item : Type 0 where
  Alone : (limit : ℕ) (unit : List ℕ) → Item
  Together : (limit : ℕ) (sets : List (List ℕ)) (unit : List ℕ) → Item

-- a unit and its number go in one packet
abbrev pub fits_one_packet : Format → ℕ → List ℕ → Bool
fits_one_packet f limit unit = nat_le (length unit + donl_len f) limit

-- a unit is dropped where it doesn't fit and there is no room for a fragment's data
abbrev pub is_dropped : Format → ℕ → List ℕ → Bool
is_dropped f limit unit = if fits_one_packet f limit unit then false
    else nat_le limit (fragment_header_len f + donl_len f)

-- a unit that is sent alone, if it is not dropped
abbrev pub unit_items : Format → ℕ → List ℕ → List Item
unit_items f limit unit = if is_dropped f limit unit then [] else Alone limit unit ∷ []

-- an other unit is sent when it comes
abbrev pub entry_items : Format → Entry → List Item
entry_items f e = if is_other (f.kind e.unit) then unit_items f e.limit e.unit else []

-- sets are sent in one packet where they fit it, else each that fits alone
abbrev pub sets_items : Format → ℕ → List (List ℕ) → List ℕ → List Item
sets_items f limit sets unit =
    if f.sets_fit limit sets then Together limit sets unit ∷ []
    else map (Alone limit) (filter (fits_one_packet f limit) sets)

-- of a group: its other units but the last, its latest sets, and its last unit
abbrev pub group_items : Format → Group → List Item
group_items f g = flat_map (entry_items f) g.front ++ sets_items f g.last.limit
    (latest_sets f g.front) g.last.unit ++ entry_items f g.last

-- the groups, and then the other units of the rest
abbrev pub plan : Format → List Entry → List Item
plan f entries = flat_map (group_items f) (split f entries).groups
    ++ flat_map (entry_items f) (split f entries).rest

-- the units of an item, in order
abbrev pub item_units : Item → List (List ℕ)
item_units (Alone limit unit) = unit ∷ []
item_units (Together limit sets unit) = sets

-- the units that are sent, in order
abbrev pub units_sent : Format → List Entry → List (List ℕ)
units_sent f entries = flat_map item_units (plan f entries)

-- the last unit of a group whose sets fit one packet is sent
abbrev pub KeepsLast : Format → Group → Type 0
KeepsLast f g = f.sets_fit g.last.limit (latest_sets f g.front) ≡ true →
    is_dropped f g.last.limit g.last.unit ≡ false

-- the sets that wait, as entries
abbrev pub waiting_entries : Format → ℕ → List Entry → List Entry
waiting_entries f limit entries = map (λ unit. record { unit = unit; limit = limit })
    (latest_sets f (split f entries).rest)

-- A plan may be made call by call: what went before counts by the sets that wait.
abbrev pub PlansCallByCall : Format → Type 0
PlansCallByCall f = (limit : ℕ) (before entries : List Entry) →
    plan f (before ++ entries) ≡ plan f before ++ plan f (waiting_entries f limit before ++ entries)

-- So do the sets that wait in the end.
abbrev pub WaitsCallByCall : Format → Type 0
WaitsCallByCall f = (limit : ℕ) (before entries : List Entry) →
    latest_sets f (split f (before ++ entries)).rest
    ≡ latest_sets f (split f (waiting_entries f limit before
    ++ entries)).rest
