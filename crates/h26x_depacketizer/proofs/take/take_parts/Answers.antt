use Rattle.std.proofs.Common.{◌≡◌, false, refl}
use Rattle.std.specs.List.{list_any}
use Rattle.std.proofs.lemmas.Bool.{and_right}
use Rattle.h26x_model.specs.Receive.Received.{reading_units}
use Rattle.h26x_model.specs.Receive.Outcome.{is_too_long}
use Rattle.h26x_depacketizer.specs.DepacketizerView.{parts_reading}
use Rattle.h26x_depacketizer.proofs.AggregateLemmas.{units_only}
use Rattle.h26x_depacketizer.proofs.take.take_parts.Goals as goal

-- an aggregate brings its units
brings : (g : _) (c : goal.After-write_units g) → reading_units c.args.run.now (parts_reading (g.C.PayloadFormat.format c.args.codec) (g.C.Aggregate.units c.args.codec) c.args.packet.now c.args.parts)
    ≡ g.C.Aggregate.units c.args.codec c.in-Aggregate.bytes.now
brings g c = rw c.in-Aggregate.is (units_only (g.C.Aggregate.units c.args.codec c.in-Aggregate.bytes.now))

pub returns-in-Aggregate-clause-outcome : goal.returns-in-Aggregate-clause-outcome
returns-in-Aggregate-clause-outcome g c =
    let units = g.C.Aggregate.units c.args.codec c.in-Aggregate.bytes.now in
    let short : list_any is_too_long units ≡ false = (rw c.in-Aggregate.is at c.requires).0 in
    rw (brings g c, short, and_right c.args.is_avc false refl) c.write_units.ensures.outcome

pub returns-in-Aggregate-clause-written : goal.returns-in-Aggregate-clause-written
returns-in-Aggregate-clause-written g c = rw (brings g c) c.write_units.ensures.written

pub returns-in-Aggregate-clause-told : goal.returns-in-Aggregate-clause-told
returns-in-Aggregate-clause-told g c = rw (brings g c) c.write_units.ensures.told

pub returns-in-Aggregate-clause-told_room : goal.returns-in-Aggregate-clause-told_room
returns-in-Aggregate-clause-told_room g c = rw (brings g c) c.write_units.ensures.told_room
