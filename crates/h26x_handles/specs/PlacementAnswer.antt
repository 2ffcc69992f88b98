-- What is answered of packets that were to go into a caller's memory.
use Rattle.std.specs.Prelude.{◌≡◌, ◌⊎◌, ℕ, List}
use Rattle.h26x_packetizer.specs.Placement.{ArePlaced, HaveNoRoom, IsSizeOf}
use Rattle.h26x_codes.specs.Codes.{ok, no_room, out_of_memory}

-- how many packets there are, and their bytes
abbrev pub AreCounted : ℕ → List (List ℕ) → ℕ → ℕ → Type 0
AreCounted headroom packets count size =
    IsSizeOf headroom packets (record { packets = count; bytes = size })

-- packets stand in memory with their ends, or there is no room for them, and either way they are
-- counted; or memory lacked to make them
pub record IsPlacementAnswer (headroom : ℕ) (packets : List (List ℕ)) (to new_to ends new_ends : List ℕ)
    (code count size : ℕ) : Type 0 where
  pub answer : (code ≡ ok) ⊎ ((code ≡ no_room) ⊎ (code ≡ out_of_memory))
  pub placed : code ≡ ok → ArePlaced headroom packets to new_to ends new_ends
  pub left : code ≡ no_room → HaveNoRoom headroom packets to new_to ends new_ends
  pub counted : (code ≡ ok) ⊎ (code ≡ no_room) → AreCounted headroom packets count size
  pub none : code ≡ out_of_memory → (count ≡ 0) × (size ≡ 0)
