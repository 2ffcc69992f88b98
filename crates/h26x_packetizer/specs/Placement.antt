-- Packets in memory of the caller.
use Rattle.std.specs.Prelude.{◌≡◌, ℕ, ◌+◌, ◌-◌, ◌^◌, ◌<◌, ◌≤◌, ◌⊎◌, Bool, true, false, min, List, [], ◌∷◌, ◌++◌, length, take, drop}
use Rattle.h26x_packetizer.specs.Buffer.{packet_ends}
use Rattle.h26x_packetizer.specs.declared.placement.PacketsSize.{PacketsSize}
use Rattle.h26x_packetizer.specs.declared.placement.Placement.{Placement}
use Rattle.h26x_packetizer.specs.declared.placement.Placement.TheVariants as p

-- how many bytes packets take, each behind so many
abbrev pub laid_size : ℕ → List (List ℕ) → ℕ
laid_size headroom [] = 0
laid_size headroom (packet ∷ packets) = headroom + length packet + laid_size headroom packets

-- memory once packets are laid over its front, each behind so many bytes that stay
abbrev pub packets_over : ℕ → List (List ℕ) → List ℕ → List ℕ
packets_over headroom [] memory = memory
packets_over headroom (packet ∷ packets) memory = take headroom memory
    ++ (packet ++ packets_over headroom packets (drop (headroom + length packet) memory))

-- it tells how much packets take
pub record IsSizeOf (headroom : ℕ) (laid : List (List ℕ)) (size : PacketsSize) : Type 0 where
  pub packets : size.packets ≡ length laid
  pub bytes : size.bytes ≡ min (laid_size headroom laid) (2 ^ 64 - 1)

-- packets fit, and stand in memory with their ends told; what is behind both stays
pub record ArePlaced (headroom : ℕ) (packets : List (List ℕ)) (to new_to ends new_ends : List ℕ) : Type
    0 where
  pub fit : laid_size headroom packets ≤ length to
  pub ends_fit : length packets ≤ length ends
  pub laid : new_to ≡ packets_over headroom packets to
  pub told : new_ends ≡ packet_ends headroom 0 packets ++ drop (length packets) ends

-- packets or their ends don't fit, and nothing was written
pub record HaveNoRoom (headroom : ℕ) (packets : List (List ℕ)) (to new_to ends new_ends : List ℕ) : Type
    0 where
  pub lacks : (length to < laid_size headroom packets) ⊎ ((length ends < length packets)
      ⊎ (2 ^ 64 - 1 ≤ laid_size headroom packets))
  pub kept : new_to ≡ to
  pub kept_ends : new_ends ≡ ends

-- what came of packets that were to go into memory
abbrev pub IsPlacement : ℕ → List (List ℕ) → List ℕ → List ℕ → List ℕ → List ℕ → Placement → Type 0
IsPlacement headroom packets to new_to ends new_ends (p.Placed size) =
    ArePlaced headroom packets to new_to ends new_ends × IsSizeOf headroom packets size
IsPlacement headroom packets to new_to ends new_ends (p.NoRoom size) =
    HaveNoRoom headroom packets to new_to ends new_ends × IsSizeOf headroom packets size

-- what holds once packets are placed, and what holds where there is no room for them
abbrev pub if_placed : {A : Type 0} → Placement → A → A → A
if_placed (p.Placed size) placed kept = placed
if_placed (p.NoRoom size) placed kept = kept

abbrev pub is_placed : Placement → Bool
is_placed (p.Placed size) = true
is_placed (p.NoRoom size) = false
