use Rattle.std.proofs.Common.{rules, ◌≡◌, true, false}
use Rattle.std.specs.Prelude.{is_some}
use Rattle.h26x_access_units.specs.JitterBuffer.{due_packet}
use Rattle.std.specs.Option.{option_map}
use Rattle.h26x_reorder.specs.ReorderBuffer.{numbered_packet}
use Rattle.h26x_assembler.specs.Assembler.{assembly_at}
use Rattle.h26x_access_units.specs.Reception.{reception, has_unit, has_nothing_left}
use Rattle.h26x_access_units.proofs.ReceptionLemmas.{first_next, idle_next}
use Rattle.h26x_access_units.proofs.receiver.AccessUnitReceiver.next.Goals as goal

pub returns-then-has_unit-clause-next : goal.returns-then-has_unit-clause-next
returns-then-has_unit-clause-next g c =
    let old = c.args.self.now in
    let s = reception old.waiting (option_map numbered_packet old.stray) old.is_anew old.passed (assembly_at g.D.RunDepacketizer.state old.assembler old.ended.items) old.framing old.numbers old.decoder old.counts old.assembler.packets.run_limit old.assembler.unit_limit in
    let has : has_unit s.assembler.ended ≡ true = search rules in
    first_next c.args.now s _ _ has c.give.ensures.unit c.give.ensures.after

pub returns-then-not-has_due-clause-next : goal.returns-then-not-has_due-clause-next
returns-then-not-has_due-clause-next g c =
    let old = c.args.self.now in
    let s = reception old.waiting (option_map numbered_packet old.stray) old.is_anew old.passed (assembly_at g.D.RunDepacketizer.state old.assembler old.ended.items) old.framing old.numbers old.decoder old.counts old.assembler.packets.run_limit old.assembler.unit_limit in
    let left : has_nothing_left s ≡ true = search rules in
    let none_due : is_some (due_packet c.args.now s.waiting) ≡ false = search rules in
    idle_next c.args.now s left none_due
