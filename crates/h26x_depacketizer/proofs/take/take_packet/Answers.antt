use Rattle.h26x_depacketizer.specs.DepacketizerView.{parts_reading}
use Rattle.h26x_depacketizer.proofs.ReceivingLemmas.{taken_brings, read_outcome}
use Rattle.h26x_depacketizer.proofs.take.take_packet.Goals as goal

pub returns-clause-outcome : goal.returns-clause-outcome
returns-clause-outcome g c =
    let f = g.C.PayloadFormat.format c.args.codec in
    let reading = f.read c.args.packet.now in
    let other = parts_reading f (g.C.Aggregate.units c.args.codec) c.args.packet.now c.args.parts in
    read_outcome f (g.C.Aggregate.units c.args.codec) c.args.packet.now c.args.parts c.args.is_avc c.args.run.now reading c.take_parts.result c.requires.reading
    (rw (taken_brings c.args.run.now reading other c.requires.reading) c.take_parts.ensures.outcome)

pub returns-clause-written : goal.returns-clause-written
returns-clause-written g c =
    let f = g.C.PayloadFormat.format c.args.codec in
    let other = parts_reading f (g.C.Aggregate.units c.args.codec) c.args.packet.now c.args.parts in
    rw (taken_brings c.args.run.now (f.read c.args.packet.now) other c.requires.reading) c.take_parts.ensures.written

pub returns-clause-told : goal.returns-clause-told
returns-clause-told g c =
    let f = g.C.PayloadFormat.format c.args.codec in
    let other = parts_reading f (g.C.Aggregate.units c.args.codec) c.args.packet.now c.args.parts in
    rw (taken_brings c.args.run.now (f.read c.args.packet.now) other c.requires.reading) c.take_parts.ensures.told

pub returns-clause-told_room : goal.returns-clause-told_room
returns-clause-told_room g c =
    let f = g.C.PayloadFormat.format c.args.codec in
    let other = parts_reading f (g.C.Aggregate.units c.args.codec) c.args.packet.now c.args.parts in
    rw (taken_brings c.args.run.now (f.read c.args.packet.now) other c.requires.reading) c.take_parts.ensures.told_room
