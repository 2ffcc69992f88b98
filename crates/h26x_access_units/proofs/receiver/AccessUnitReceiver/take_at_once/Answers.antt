use Rattle.std.proofs.Common.{rules, ◌≡◌, ◌∙◌, ◌<◌, ap, sym, map, length, ℕ, false, true}
use Rattle.std.specs.Option.{option_map}
use Rattle.h26x_reorder.specs.ReorderBuffer.{numbered_packet}
use Rattle.h26x_reorder.specs.Rtp.{RtpBody}
use Rattle.h26x_assembler.specs.AccessUnit.{access_unit_value, open_assembly}
use Rattle.h26x_assembler.specs.Assembler.{assembly_at}
use Rattle.h26x_access_units.specs.declared.pushed.Pushed.TheVariants as pushes
use Rattle.h26x_access_units.specs.JitterBuffer.{with_packet, without_due}
use Rattle.h26x_access_units.specs.Passed.{passed_with}
use Rattle.h26x_access_units.specs.Reception.{reception, lacks_memory, after_reception, is_taken_at_once}
use Rattle.h26x_access_units.proofs.ReceptionLemmas.{due_stands, straight_is_due, awaited_straight, held_at_once, at_once}
use Rattle.h26x_access_units.proofs.receiver.AccessUnitReceiver.take_at_once.Goals as goal

pub returns-clause-taken : goal.returns-clause-taken
returns-clause-taken g c = λ now.
    let old = c.args.self.now in
    let state = g.D.RunDepacketizer.state in
    let it = c.take_due-received in
    let p = c.args.packet.now in
    let s = reception old.waiting (option_map numbered_packet old.stray) old.is_anew old.passed (open_assembly (state old.assembler.packets.depacketizer) old.assembler.packets.expected old.assembler.unit (map access_unit_value old.ended.items)) old.framing old.numbers old.decoder old.counts old.assembler.packets.run_limit old.assembler.unit_limit in
    let lacks : lacks_memory it.result ≡ false = search rules in
    let small : p.0 < 65536 = search rules in
    let is : is_taken_at_once s p ≡ true = search rules in
    record {
      packet = p;
      answer = it.result;
      due = straight_is_due now now s.waiting p small (at_once s p is).0;
      follows = (at_once s p is).3;
      answered = it.ensures.answer;
      room = λ bad. absurd (let both = sym (ap lacks_memory bad) ∙ lacks in cc);
      stands = due_stands (after_reception now s p pushes.Held)
          p it.result c.pass.new.self c.take.new.self
          (open_assembly (state it.new.assembler.packets.depacketizer) it.new.assembler.packets.expected it.new.assembler.unit (map access_unit_value it.new.ended.items))
          it.new.framing it.new.numbers it.new.counts it.new.assembler.packets.run_limit it.new.assembler.unit_limit
          (c.pass.ensures now p.1 ∙ ap (λ (q : ℕ × RtpBody). without_due (with_packet now s.waiting (q.0, p.1))) c.packet.view_is)
          (c.take.ensures ∙ ap (λ (q : ℕ × RtpBody). passed_with q.0 q.0 old.passed) c.packet.view_is ∙ ap (λ (n : ℕ). passed_with n p.0 old.passed) (sym (awaited_straight now s.waiting p small (at_once s p is).0)))
          (it.ensures.after lacks) (it.ensures.framing lacks) (it.ensures.numbers lacks) (it.ensures.counts lacks) it.ensures.limit it.ensures.unit_limit;
    }

pub returns-then-is_want_of_memory-clause-held : goal.returns-then-is_want_of_memory-clause-held
returns-then-is_want_of_memory-clause-held g c =
    let old = c.args.self.now in
    let p = c.args.packet.now in
    let s = reception old.waiting (option_map numbered_packet old.stray) old.is_anew old.passed (assembly_at g.D.RunDepacketizer.state old.assembler old.ended.items) old.framing old.numbers old.decoder old.counts old.assembler.packets.run_limit old.assembler.unit_limit in
    let small : p.0 < 65536 = search rules in
    let len : length p.1.payload < 18446744073709551616 = search rules in
    sym (held_at_once s p small len c.requires)

pub returns-clause-held : goal.returns-clause-held
returns-clause-held g c =
    let old = c.args.self.now in
    let p = c.args.packet.now in
    let s = reception old.waiting (option_map numbered_packet old.stray) old.is_anew old.passed (assembly_at g.D.RunDepacketizer.state old.assembler old.ended.items) old.framing old.numbers old.decoder old.counts old.assembler.packets.run_limit old.assembler.unit_limit in
    let small : p.0 < 65536 = search rules in
    let len : length p.1.payload < 18446744073709551616 = search rules in
    sym (held_at_once s p small len c.requires)
