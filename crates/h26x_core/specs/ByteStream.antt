-- Units as text.
use Rattle.std.specs.Prelude.{ℕ, Bool, true, false, if◌then◌else◌, List, [], ◌∷◌, ◌++◌, length}
use Rattle.std.specs.List.{flat_map}
use Rattle.h26x_core.specs.Word.{long_word}

-- whether a list has an element
abbrev pub is_not_empty : {A : Type 0} → List A → Bool
is_not_empty [] = false
is_not_empty (b ∷ bytes) = true

-- what stands before a unit that is written: a start code, or in AVC form its length (ISO/IEC
-- 14496-15)
abbrev pub unit_prefix : Bool → List ℕ → List ℕ
unit_prefix avc unit = if avc then long_word (length unit) else 0 ∷ 0 ∷ 0 ∷ 1 ∷ []

-- what is written for units, in AVC form or with start codes
abbrev pub byte_stream : Bool → List (List ℕ) → List ℕ
byte_stream avc units = flat_map (λ unit. unit_prefix avc unit ++ unit) units

-- units, each behind a start code of four bytes (Annex B of the video standards)
abbrev pub annex_b : List (List ℕ) → List ℕ
annex_b units = byte_stream false units
