use Rattle.std.proofs.Common.{rules, ◌≡◌, false}
use Rattle.std.specs.Prelude.{◌==◌, length}
use Rattle.h26x_access_units.proofs.ReceptionLemmas.{taken_as, some_bytes}
use Rattle.h26x_access_units.proofs.due.take_packet.Goals as goal

pub returns-else-is_empty-clause-after : goal.returns-else-is_empty-clause-after
returns-else-is_empty-clause-after g c =
    let none : (length c.args.packet.now.1.payload == 0) ≡ false = search rules in
    taken_as _ _ _ _ c.args.packet.now c.receive.result (some_bytes c.args.packet.now.1.payload none) c.receive.ensures.after
