-- Copies into a caller's buffer.
use Rattle.std.specs.Prelude.{◌≡◌, ℕ, nat_le, if◌then◌else◌, List, [], ◌∷◌, ◌+◌, ◌≤◌, ◌++◌, length, take, drop, Some, None}
use Rattle.std.specs.List.{slice_get, concat}

-- a buffer after a copy to its front, which is left out where there is no room for it
abbrev pub with_front : {A : Type 0} → List A → List A → List A
with_front bytes room = if nat_le (length bytes) (length room)
    then bytes ++ drop (length bytes) room else room

-- what there was no room for in a buffer
abbrev pub without_room : {A : Type 0} → List A → List A → List A
without_room bytes room = if nat_le (length bytes) (length room) then [] else bytes

-- Bytes are handed over: how many they are is told; they stand at the front of a caller's buffer, or
-- are kept where it has no room for them.
pub record AreHandedOver (bytes to new_to : List ℕ) (written : ℕ) (left : List ℕ) : Type 0 where
  pub told : written ≡ length bytes
  pub put : new_to ≡ with_front bytes to
  pub kept : left ≡ without_room bytes to

-- a buffer with the first entries of a list at its front, as many as it has room for
abbrev pub with_first : {A : Type 0} → List A → List A → List A
with_first entries room = take (length room) entries ++ drop (length entries) room

-- the packet with a number, counted from 0; past the last one without bytes
abbrev pub nth_packet : ℕ → List (List ℕ) → List ℕ
nth_packet i packets = elim (slice_get packets i) [ None ↦ [] | Some packet ↦ packet ]

-- where each packet ends in a buffer in which they stand one behind the other, the first one at
-- a place
abbrev pub end_offsets : ℕ → List (List ℕ) → List ℕ
end_offsets place [] = []
end_offsets place (packet ∷ packets) = (place + length packet) ∷ end_offsets (place + length packet)
    packets

-- the first packets, so many, fit one behind the other into a buffer of so many bytes, and their
-- ends into one of so many numbers
pub record Fits (packets : List (List ℕ)) (bytes ends count : ℕ) : Type 0 where
  pub there : count ≤ length packets
  pub fit : length (concat (take count packets)) ≤ bytes
  pub ends_fit : count ≤ ends

-- no more of them fit
pub record AreMost (packets : List (List ℕ)) (bytes ends count : ℕ) : Type 0 where
  pub fits : Fits packets bytes ends count
  pub most : (more : ℕ) → Fits packets bytes ends more → more ≤ count

-- The first packets, as many as fit, stand one behind the other at the front of a buffer, and where
-- each ends at the front of another; all else of both is as before.
pub record AreCopied (packets : List (List ℕ)) (to new_to ends new_ends : List ℕ) (count : ℕ) : Type
    0 where
  pub most : AreMost packets (length to) (length ends) count
  pub joined : new_to ≡ with_front (concat (take count packets)) to
  pub marked : new_ends ≡ with_front (end_offsets 0 (take count packets)) ends
