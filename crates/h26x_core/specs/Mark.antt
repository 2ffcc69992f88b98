-- The marks of start codes in a payload (Annex B of the video standards).
use Rattle.std.specs.Prelude.{◌≡◌, ℕ, ◌-◌, ◌<◌, ◌≤◌, List, length, slice_index}

-- a mark: a place whose byte is 01 and whose two bytes before are 00
pub record IsMark (bytes : List ℕ) (place : ℕ) : Type 0 where
  pub behind_two : 2 ≤ place
  pub within : place < length bytes
  pub one : slice_index bytes place ≡ 1
  pub zero_before : slice_index bytes (place - 1) ≡ 0
  pub zero_first : slice_index bytes (place - 2) ≡ 0
