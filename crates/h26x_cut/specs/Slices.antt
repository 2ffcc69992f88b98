-- What an iterator over units has left.
use Rattle.std.specs.Prelude.{◌≡◌, ℕ, ◌+◌, ◌≤◌, List, [], ◌∷◌, length, take, drop, filter, Option, Some, None}
use Rattle.h26x_core.specs.ByteStream.{is_not_empty}
use Rattle.h26x_cut.specs.declared.ZeroRule.{ZeroRule}
use Rattle.h26x_cut.specs.Cutting.{cut_of, cut_segments}

-- the units of bytes that stand behind a start code
abbrev pub units_behind : ZeroRule → List ℕ → List (List ℕ)
units_behind rule bytes = filter is_not_empty (cut_segments rule bytes)

-- the first start code of bytes begins here, or there is none
abbrev pub IsFirstCode : List ℕ → Option ℕ → Type 0
IsFirstCode bytes None = cut_of bytes ≡ (bytes, [])
IsFirstCode bytes (Some place) =
    (place + 3 ≤ length bytes)
    × (cut_of bytes ≡ (
      take place bytes,
      (cut_of (drop (place + 3) bytes)).0 ∷
          (cut_of (drop (place + 3) bytes)).1,
    ))

-- the nearest zeros of a start code, and its mark
abbrev pub code : List ℕ
code = 0 ∷ 0 ∷ 1 ∷ []
