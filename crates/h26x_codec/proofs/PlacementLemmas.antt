-- What came of packets that were to go into memory, for what holds of a packetizer.
use Rattle.std.proofs.Common.{◌≡◌, ap}
use Rattle.std.specs.Prelude.{Result, Ok, Err, IfOk}
use Rattle.h26x_packetizer.specs.declared.placement.Placement.{Placement}
use Rattle.h26x_packetizer.specs.declared.placement.Placement.TheVariants as p
use Rattle.h26x_packetizer.specs.Placement.{if_placed}

-- what is read of a packetizer is that of the packetizer
pub placed_by : {V S E : Type 0} (read : V → S) (made : Result Placement E) (old new after : V) → IfOk made (λ it. new ≡ if_placed it after old) →
    IfOk made (λ it. read new ≡ if_placed it (read after) (read old))
placed_by read (Ok (p.Placed size)) old new after is = ap read is
placed_by read (Ok (p.NoRoom size)) old new after is = ap read is
placed_by read (Err e) old new after is = tt
