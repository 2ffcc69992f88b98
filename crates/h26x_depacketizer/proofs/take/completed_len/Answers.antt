use Rattle.std.proofs.Common.{sym, false, ◌≡◌}
use Rattle.std.specs.List.{list_any}
use Rattle.h26x_model.specs.Receive.Outcome.{is_too_long}
use Rattle.h26x_depacketizer.proofs.AggregateLemmas.{units_only}
use Rattle.h26x_depacketizer.proofs.take.completed_len.Goals as goal

pub returns-in-Aggregate : goal.returns-in-Aggregate
returns-in-Aggregate g c = λ run same.
    let units = g.C.Aggregate.units c.args.codec c.in-Aggregate.bytes.now in
    let short : list_any is_too_long units ≡ false = (rw c.in-Aggregate.is at c.requires).0 in
    rw (c.in-Aggregate.is, units_only units) (sym short)
