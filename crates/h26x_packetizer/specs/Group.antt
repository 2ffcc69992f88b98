-- How many units go in one packet, by the room that is left.
use Rattle.std.specs.Prelude.{ℕ, ◌+◌, ◌-◌, ◌≤◌, suc, nat_le, nat_lt, Bool, true, false, ◌&&◌, if◌then◌else◌, List, [], ◌∷◌, ◌++◌, length, map}
use Rattle.std.specs.List.{AllByRecursion}
use Rattle.std.specs.Borrow.{Bor}
use Rattle.h26x_core.specs.Pieces.{piece}
use Rattle.h26x_model.specs.Payload.Format.{Format}
use Rattle.h26x_packetizer.specs.declared.packing.Packing.{Packing}
use Rattle.h26x_packetizer.specs.declared.packing.Packing.TheVariants as p

-- units as they stand elsewhere
abbrev pub lent_units : List (Bor (List ℕ)) → List (List ℕ)
lent_units units = map (λ unit. unit.now) units

-- whether a unit may share a packet, where slices are those
abbrev pub may_share : Packing → (List ℕ → Bool) → List ℕ → Bool
may_share p.Together is_slice unit = true
may_share p.BeforeSlices is_slice unit = if is_slice unit then false else true
may_share p.Apart is_slice unit = false
may_share p.Single is_slice unit = false

-- whether a unit with so many bytes before it fits the room that is left, and two bytes hold its
-- length
abbrev pub fits_room : ℕ → ℕ → List ℕ → Bool
fits_room each room unit = nat_le (each + length unit) room && nat_lt (length unit) 65536

-- how many units, from the first on, go in the room that is left
abbrev pub fitting : (List ℕ → Bool) → ℕ → ℕ → List (List ℕ) → ℕ
fitting share each room [] = 0
fitting share each room (unit ∷ units) = if share unit && fits_room each room unit
    then suc (fitting share each (room - (each + length unit)) units) else 0

-- units behind their lengths, the first also behind these bytes, and each other behind those
abbrev pub behind_leads : List ℕ → List ℕ → List (List ℕ) → List ℕ
behind_leads lead gap [] = []
behind_leads lead gap (unit ∷ units) = (lead ++ piece unit) ++ behind_leads gap gap units

-- each unit has a whole header
abbrev pub HaveHeaders : Format → List (List ℕ) → Type 0
HaveHeaders f units = AllByRecursion (λ unit. f.header_len ≤ length unit) units
