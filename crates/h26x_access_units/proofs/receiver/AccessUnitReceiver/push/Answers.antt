use Rattle.std.proofs.Common.{sym}
use Rattle.std.specs.Option.{option_map}
use Rattle.h26x_reorder.specs.ReorderBuffer.{numbered_packet}
use Rattle.h26x_assembler.specs.Assembler.{assembly_at}
use Rattle.h26x_access_units.specs.Reception.{reception}
use Rattle.h26x_access_units.proofs.LimitLemmas.{at_once_within, far_within}
use Rattle.h26x_access_units.proofs.receiver.AccessUnitReceiver.push.Goals as goal

pub returns-then-takes_at_once-clause-bounded : goal.returns-then-takes_at_once-clause-bounded
returns-then-takes_at_once-clause-bounded g c =
    let old = c.args.self.now in
    let s = reception old.waiting (option_map numbered_packet old.stray) old.is_anew old.passed (assembly_at g.D.RunDepacketizer.state old.assembler old.ended.items) old.framing old.numbers old.decoder old.counts old.assembler.packets.run_limit old.assembler.unit_limit in
    at_once_within c.args.now s _ c.args.packet.now c.take_at_once.result (sym c.take_at_once.ensures.held) c.take_at_once.ensures.taken c.take_at_once.ensures.kept

pub returns-clause-bounded : goal.returns-clause-bounded
returns-clause-bounded g c =
    let old = c.args.self.now in
    let s = reception old.waiting (option_map numbered_packet old.stray) old.is_anew old.passed (assembly_at g.D.RunDepacketizer.state old.assembler old.ended.items) old.framing old.numbers old.decoder old.counts old.assembler.packets.run_limit old.assembler.unit_limit in
    far_within c.args.now s _ c.args.packet.now c.push_aside.result c.push_aside.ensures.answer c.push_aside.ensures.after c.push_aside.ensures.kept
