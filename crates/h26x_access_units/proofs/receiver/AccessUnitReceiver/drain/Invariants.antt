use Rattle.std.proofs.Common.{map}
use Rattle.std.specs.Option.{option_map}
use Rattle.h26x_reorder.specs.ReorderBuffer.{numbered_packet}
use Rattle.h26x_assembler.specs.AccessUnit.{access_unit_value, open_assembly}
use Rattle.h26x_access_units.specs.Reception.{reception, IsDrained}
use Rattle.h26x_access_units.proofs.ReceptionLemmas.{work_left}
use Rattle.h26x_access_units.proofs.receiver.AccessUnitReceiver.drain.Given as goal

abbrev pub invariant-loop-self : goal.invariant-loop-self
invariant-loop-self g l = IsDrained l.now
    (reception l.fn.self.waiting (option_map numbered_packet l.fn.self.stray) l.fn.self.is_anew l.fn.self.passed (open_assembly (g.D.RunDepacketizer.state l.fn.self.assembler.packets.depacketizer) l.fn.self.assembler.packets.expected l.fn.self.assembler.unit
    (map access_unit_value l.fn.self.ended.items)) l.fn.self.framing l.fn.self.numbers l.fn.self.decoder l.fn.self.counts l.fn.self.assembler.packets.run_limit l.fn.self.assembler.unit_limit)
    (reception l.self.waiting (option_map numbered_packet l.self.stray) l.self.is_anew l.self.passed (open_assembly (g.D.RunDepacketizer.state l.self.assembler.packets.depacketizer) l.self.assembler.packets.expected l.self.assembler.unit
    (map access_unit_value l.self.ended.items)) l.self.framing l.self.numbers l.self.decoder l.self.counts l.self.assembler.packets.run_limit l.self.assembler.unit_limit)

abbrev pub decreases-loop-self : goal.decreases-loop-self
decreases-loop-self g l = work_left l.self.waiting l.self.assembler.unit.unit
