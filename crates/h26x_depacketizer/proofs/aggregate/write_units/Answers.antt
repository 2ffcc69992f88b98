use Rattle.std.proofs.Common.{rules, arith, inr}
use Rattle.h26x_depacketizer.proofs.AggregateLemmas.{length_written}
use Rattle.h26x_depacketizer.proofs.aggregate.write_units.Goals as goal

-- it is refused where less room is than the units take
pub returns-in_err-reserve-clause-told_room : goal.returns-in_err-reserve-clause-told_room
returns-in_err-reserve-clause-told_room g c =
    let long = length_written c.args.is_avc (g.A.Aggregate.units c.args.codec c.args.bytes.now) in
    let size = c.requires.1 in
    let less = c.in_err-reserve.ensures.refused in
    inr (c.in_err-reserve.ensures.lacks, (search rules, omega (arith, long, size, less)))
