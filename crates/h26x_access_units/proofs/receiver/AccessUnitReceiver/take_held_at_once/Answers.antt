use Rattle.std.proofs.Common.{sym, subst, ℕ}
use Rattle.std.specs.Option.{option_map}
use Rattle.h26x_reorder.specs.ReorderBuffer.{numbered_packet}
use Rattle.h26x_reorder.specs.Rtp.{RtpBody}
use Rattle.h26x_assembler.specs.Assembler.{assembly_at}
use Rattle.h26x_access_units.specs.declared.pushed.Pushed.TheVariants as pushes
use Rattle.h26x_access_units.specs.JitterBuffer.{JitterState}
use Rattle.h26x_access_units.specs.Reception.{reception, after_reception, IsDueTaken}
use Rattle.h26x_access_units.proofs.receiver.AccessUnitReceiver.take_held_at_once.Goals as goal

pub returns-in-Ok-clause-taken : goal.returns-in-Ok-clause-taken
returns-in-Ok-clause-taken g c = λ now.
    let old = c.args.self.now in
    let new = c.take_at_once.new.self in
    let s = reception old.waiting (option_map numbered_packet old.stray) old.is_anew old.passed (assembly_at g.D.RunDepacketizer.state old.assembler old.ended.items) old.framing old.numbers old.decoder old.counts old.assembler.packets.run_limit old.assembler.unit_limit in
    subst (λ (j : JitterState). IsDueTaken now (after_reception now s (numbered_packet c.args.packet) pushes.Held) (reception j (option_map numbered_packet new.stray) new.is_anew new.passed (assembly_at g.D.RunDepacketizer.state new.assembler new.ended.items) new.framing new.numbers new.decoder new.counts new.assembler.packets.run_limit new.assembler.unit_limit))
    (sym c.give_back.ensures)
    (subst (λ (q : ℕ × RtpBody). IsDueTaken now (after_reception now s q pushes.Held) (reception new.waiting (option_map numbered_packet new.stray) new.is_anew new.passed (assembly_at g.D.RunDepacketizer.state new.assembler new.ended.items) new.framing new.numbers new.decoder new.counts new.assembler.packets.run_limit new.assembler.unit_limit)) c.packet.ensures (c.in-Ok.ensures.taken now))
