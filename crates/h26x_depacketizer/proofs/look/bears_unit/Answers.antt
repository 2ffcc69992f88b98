use Rattle.std.proofs.Common.{◌≡◌, ◌∙◌, List, ℕ}
use Rattle.h26x_depacketizer.specs.DepacketizerView.{parts_reading}
use Rattle.h26x_depacketizer.specs.Look.{borne_units}
use Rattle.h26x_depacketizer.proofs.AggregateLemmas.{units_only}
use Rattle.h26x_depacketizer.proofs.ReceivingLemmas.{taken_bears}
use Rattle.h26x_depacketizer.proofs.look.bears_unit.Goals as goal

-- an aggregate bears its units
pub returns-in-Ok-Aggregate : goal.returns-in-Ok-Aggregate
returns-in-Ok-Aggregate g c =
    let f = g.C.PayloadFormat.format c.args.codec in
    let units = g.C.Aggregate.units c.args.codec in
    let same = c.in-Ok-Aggregate.ensures.accepted.reading in
    rw (taken_bears (f.read c.args.packet.now) _ same, c.in-Ok-Aggregate.field-0-is, units_only (units c.in-Ok-Aggregate.bytes.now)) c.holds_unit.ensures
