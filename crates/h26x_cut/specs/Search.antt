-- What the search for start codes has found out.
use Rattle.std.specs.Prelude.{◌≡◌, ℕ, ◌+◌, ◌-◌, ◌%◌, ◌<◌, ◌≤◌, List, length, slice_index, Option, Some, None}
use Rattle.h26x_cut.specs.declared.blocks.TheConstants.{LANES}

-- 00 00 01 stands at a place
pub record IsCodeAt (bytes : List ℕ) (place : ℕ) : Type 0 where
  pub first : slice_index bytes place ≡ 0
  pub second : slice_index bytes (place + 1) ≡ 0
  pub mark : slice_index bytes (place + 2) ≡ 1

-- it stands at no place from one on up to another
abbrev pub HasNoCode : List ℕ → ℕ → ℕ → Type 0
HasNoCode bytes from to = (place : ℕ) → from ≤ place → place < to → ¬ IsCodeAt bytes place

-- the next 01 that a start code at a place or behind it may end in, or there is none
abbrev pub IsNextMark : List ℕ → ℕ → Option ℕ → Type 0
IsNextMark bytes place None = HasNoCode bytes place (length bytes)
IsNextMark bytes place (Some mark) = (place + 2 ≤ mark) × (mark < length bytes)
    × (slice_index bytes mark ≡ 1) × HasNoCode bytes place (mark - 2)

-- two zeros stand at a place
abbrev pub AreZeros : List ℕ → ℕ → Type 0
AreZeros bytes place = (slice_index bytes place ≡ 0) × (slice_index bytes (place + 1) ≡ 0)

-- they stand at no place from one on up to another
abbrev pub HasNoZeros : List ℕ → ℕ → ℕ → Type 0
HasNoZeros bytes from to = (place : ℕ) → from ≤ place → place < to → ¬ AreZeros bytes place

-- the first place from one on up to another at which they stand, or there is none
abbrev pub IsFirstZeros : List ℕ → ℕ → ℕ → Option ℕ → Type 0
IsFirstZeros bytes from to None = HasNoZeros bytes from to
IsFirstZeros bytes from to (Some first) = (from ≤ first) × (first < to) × AreZeros bytes first
    × HasNoZeros bytes from first

-- each lane is at most each of the n bytes from a place on that stand in it
pub record AreLeast (bytes : List ℕ) (place n : ℕ) (lanes : List ℕ) : Type 0 where
  pub long : length lanes ≡ LANES
  pub low : (k : ℕ) → k < n → slice_index lanes (k % LANES) ≤ slice_index bytes (place + k)
