-- The memory that is kept for what a depacketizer will show.
use Rattle.std.specs.Prelude.{◌≡◌, ◌≤◌, nat_le, true, List, length}
use Rattle.std.specs.List.{list_all}
use Rattle.h265_packets.specs.Payload.{OtherUnit}

-- a few units, and none of them long
pub record AreFew (units : List OtherUnit) : Type 0 where
  pub few : length units ≤ 32
  pub short : list_all (λ unit. nat_le (length unit.nal_unit) 1500) units ≡ true
