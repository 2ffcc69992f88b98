-- What is shown of an access unit that is open (ours).
use Rattle.std.specs.Prelude.{◌≡◌, ℕ, Bool, true, List, length, drop}
use Rattle.h26x_assembler.specs.AccessUnit.{OpenUnits}
use Rattle.h26x_c.specs.declared.so_far.SoFarTold.{SoFarTold}
use Rattle.h26x_codes.specs.Codes.{extra_number}
use Rattle.h26x_codes.specs.Copies.{with_first}

-- what is told of it, with how many bytes stand from this one on
abbrev pub so_far_told : ℕ → OpenUnits → SoFarTold
so_far_told from unit = record {
  len = length (drop from unit.bytes);
  timestamp = unit.timestamp;
  extra = extra_number unit.extra;
}

-- Its bytes from this one on stand at the front of the buffer, as many as there is room for.
pub record IsShown (from : ℕ) (unit : OpenUnits) (is_open : Bool) (to new_to : List ℕ)
    (so_far : SoFarTold) : Type 0 where
  pub answer : is_open ≡ true
  pub copied : new_to ≡ with_first (drop from unit.bytes) to
  pub told : so_far ≡ so_far_told from unit
