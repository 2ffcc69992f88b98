use Rattle.std.proofs.Common.{◌≡◌, ◌∙◌, sym, true, false, inr, refl}
use Rattle.std.specs.Prelude.{◌&&◌}
use Rattle.std.specs.List.{list_any}
use Rattle.h26x_model.specs.Receive.Outcome.{is_too_long}
use Rattle.h26x_model.specs.Receive.Received.{reading_units}
use Rattle.h26x_depacketizer.specs.DepacketizerView.{parts_reading}
use Rattle.h26x_depacketizer.proofs.ReceivingLemmas.{taken_brings, read_outcome}
use Rattle.h26x_depacketizer.proofs.take.check_lengths.Goals as goal

pub returns-then-completes_long_unit-clause-refused : goal.returns-then-completes_long_unit-clause-refused
returns-then-completes_long_unit-clause-refused g c = λ run same.
    let f = g.C.PayloadFormat.format c.args.codec in
    let units = g.C.Aggregate.units c.args.codec in
    let reading = f.read c.args.packet.now in
    let other = parts_reading f units c.args.packet.now c.args.parts in
    let long : (c.args.is_avc && list_any is_too_long (reading_units run other)) ≡ true = sym (c.completes_long_unit.ensures run same) ∙ c.if-completes_long_unit.true in
    read_outcome f units c.args.packet.now c.args.parts c.args.is_avc run reading _ c.requires.reading
    (rw (taken_brings run reading other c.requires.reading, long) refl)

pub returns-clause-memory : goal.returns-clause-memory
returns-clause-memory g c = λ run same.
    let f = g.C.PayloadFormat.format c.args.codec in
    let units = g.C.Aggregate.units c.args.codec in
    let reading = f.read c.args.packet.now in
    let other = parts_reading f units c.args.packet.now c.args.parts in
    let fits : (c.args.is_avc && list_any is_too_long (reading_units run other)) ≡ false = sym (c.completes_long_unit.ensures run same) ∙ c.if-completes_long_unit.false in
    read_outcome f units c.args.packet.now c.args.parts c.args.is_avc run reading _ c.requires.reading
    (rw (taken_brings run reading other c.requires.reading, fits) (inr refl))
