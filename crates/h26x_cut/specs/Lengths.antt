-- Units behind their lengths (ISO/IEC 14496-15, of four bytes).
use Rattle.std.specs.Prelude.{◌≡◌, ℕ, ◌-◌, ◌<◌, ◌≤◌, ◌^◌, true, List, [], ◌∷◌, ◌++◌, length, take, drop, replicate}
use Rattle.h26x_core.specs.ByteStream.{byte_stream}

-- the bytes are so many empty units, a unit that is not empty, and the rest; units stand behind
-- lengths
pub record BeginsWithUnit (bytes : List ℕ) (empty : ℕ) (unit rest : List ℕ) : Type 0 where
  pub some : 0 < length unit
  pub fits : length unit < 2 ^ 32
  pub stands : bytes ≡ byte_stream true (replicate empty [] ++ unit ∷ []) ++ rest

-- The first unit from a place of a text on that is not empty: where it begins and where it ends. The
-- text goes on behind it.
pub record IsNextAvcUnit (text : List ℕ) (from begin end : ℕ) : Type 0 where
  pub begins : from < begin
  pub ends : begin < end
  pub within : end ≤ length text
  pub unit : (empty : ℕ) × BeginsWithUnit (drop from text) empty
      (take (end - begin) (drop begin text)) (drop end text)
