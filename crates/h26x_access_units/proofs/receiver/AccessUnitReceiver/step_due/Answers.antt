use Rattle.std.proofs.Common.{rules, ◌≡◌, ◌∙◌, ap, sym, map, ℕ, false, Some}
use Rattle.std.specs.Option.{option_map}
use Rattle.h26x_reorder.specs.ReorderBuffer.{numbered_packet}
use Rattle.h26x_reorder.specs.Rtp.{RtpBody}
use Rattle.h26x_assembler.specs.AccessUnit.{access_unit_value, open_assembly}
use Rattle.h26x_access_units.specs.Reception.{reception, lacks_memory, taken_alone}
use Rattle.h26x_access_units.proofs.ReceptionLemmas.{due_stands}
use Rattle.h26x_access_units.proofs.receiver.AccessUnitReceiver.step_due.Goals as goal

pub returns-clause-step : goal.returns-clause-step
returns-clause-step g c =
    let old = c.args.self.now in
    let state = g.D.RunDepacketizer.state in
    let it = c.take_due-received in
    let lacks : lacks_memory it.result ≡ false = search rules in
    taken_alone (record {
      packet = c.packet-packet.result;
      answer = it.result;
      due = sym (c.in-Some.ensures c.args.now c.requires.due) ∙ ap (λ (p : ℕ × RtpBody). Some p) (sym c.packet-packet.ensures);
      follows = sym (c.ends_before.ensures old.ended.items) ∙ c.if-ends_before.false;
      answered = it.ensures.answer;
      room = λ bad. absurd (let both = sym (ap lacks_memory bad) ∙ lacks in cc);
      stands = due_stands
          (reception old.waiting (option_map numbered_packet old.stray) old.is_anew old.passed (open_assembly (state old.assembler.packets.depacketizer) old.assembler.packets.expected old.assembler.unit (map access_unit_value old.ended.items)) old.framing old.numbers old.decoder old.counts old.assembler.packets.run_limit old.assembler.unit_limit)
          c.packet-packet.result it.result c.pass_first.new.waiting c.pass_first.new.passed
          (open_assembly (state it.new.assembler.packets.depacketizer) it.new.assembler.packets.expected it.new.assembler.unit (map access_unit_value it.new.ended.items))
          it.new.framing it.new.numbers it.new.counts it.new.assembler.packets.run_limit it.new.assembler.unit_limit
          c.pass_first.ensures.waiting (search rules) (it.ensures.after lacks) (it.ensures.framing lacks) (it.ensures.numbers lacks) (it.ensures.counts lacks) it.ensures.limit it.ensures.unit_limit;
    })
