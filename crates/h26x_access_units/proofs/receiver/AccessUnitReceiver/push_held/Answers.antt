use Rattle.std.proofs.Common.{rules, ◌≡◌, ◌<◌, true, length}
use Rattle.std.specs.Option.{option_map}
use Rattle.h26x_reorder.specs.ReorderBuffer.{numbered_packet}
use Rattle.h26x_assembler.specs.Assembler.{assembly_at}
use Rattle.h26x_access_units.specs.Reception.{reception, is_taken_at_once}
use Rattle.h26x_access_units.proofs.ReceptionLemmas.{held_at_once}
use Rattle.h26x_access_units.proofs.LimitLemmas.{aside_within, at_once_within}
use Rattle.h26x_access_units.proofs.receiver.AccessUnitReceiver.push_held.Goals as goal

pub returns-then-takes_at_once-clause-bounded : goal.returns-then-takes_at_once-clause-bounded
returns-then-takes_at_once-clause-bounded g c =
    let old = c.args.self.now in
    let s = reception old.waiting (option_map numbered_packet old.stray) old.is_anew old.passed (assembly_at g.D.RunDepacketizer.state old.assembler old.ended.items) old.framing old.numbers old.decoder old.counts old.assembler.packets.run_limit old.assembler.unit_limit in
    let p = (numbered_packet c.args.packet) in
    let small : p.0 < 65536 = search rules in
    let len : length p.1.payload < 18446744073709551616 = search rules in
    let once : is_taken_at_once s p ≡ true = search rules in
    let is = held_at_once s p small len once in
    at_once_within c.args.now s _ p c.take_held_at_once.result is c.take_held_at_once.ensures.taken c.take_held_at_once.ensures.kept

pub returns-clause-bounded : goal.returns-clause-bounded
returns-clause-bounded g c =
    let old = c.args.self.now in
    let s = reception old.waiting (option_map numbered_packet old.stray) old.is_anew old.passed (assembly_at g.D.RunDepacketizer.state old.assembler old.ended.items) old.framing old.numbers old.decoder old.counts old.assembler.packets.run_limit old.assembler.unit_limit in
    aside_within c.args.now s _ (numbered_packet c.args.packet) c.push_held_aside.result c.push_held_aside.ensures.answer c.push_held_aside.ensures.after c.push_held_aside.ensures.kept
