use Rattle.h26x_depacketizer.specs.DepacketizerView.{parts_reading}
use Rattle.h26x_depacketizer.specs.OpenText.{run_if}
use Rattle.h26x_depacketizer.proofs.ReceivingLemmas.{taken_brings, read_outcome}
use Rattle.h26x_depacketizer.proofs.in_text.take_in_text.Goals as goal

pub returns-clause-outcome : goal.returns-clause-outcome
returns-clause-outcome g c =
    let run = run_if c.args.rule.is_next c.args.text.now.run in
    let f = g.C.PayloadFormat.format c.args.codec in
    let reading = f.read c.args.packet.now in
    let other = parts_reading f (g.C.Aggregate.units c.args.codec) c.args.packet.now c.args.parts in
    read_outcome f (g.C.Aggregate.units c.args.codec) c.args.packet.now c.args.parts c.args.is_avc run reading c.take_parts_in_text.result c.requires.reading
    (rw (taken_brings run reading other c.requires.reading) c.take_parts_in_text.ensures.outcome)

pub returns-clause-text : goal.returns-clause-text
returns-clause-text g c =
    let run = run_if c.args.rule.is_next c.args.text.now.run in
    let f = g.C.PayloadFormat.format c.args.codec in
    let other = parts_reading f (g.C.Aggregate.units c.args.codec) c.args.packet.now c.args.parts in
    rw (taken_brings run (f.read c.args.packet.now) other c.requires.reading) c.take_parts_in_text.ensures.text

pub returns-clause-told : goal.returns-clause-told
returns-clause-told g c =
    let run = run_if c.args.rule.is_next c.args.text.now.run in
    let f = g.C.PayloadFormat.format c.args.codec in
    let other = parts_reading f (g.C.Aggregate.units c.args.codec) c.args.packet.now c.args.parts in
    rw (taken_brings run (f.read c.args.packet.now) other c.requires.reading) c.take_parts_in_text.ensures.told
