use Rattle.std.proofs.Common.{rules, ◌≡◌, ◌∙◌, ap, sym, ℕ, true, false, Some, refl}
use Rattle.std.specs.Option.{option_map}
use Rattle.h26x_reorder.specs.ReorderBuffer.{numbered_packet}
use Rattle.h26x_reorder.specs.Rtp.{RtpBody}
use Rattle.h26x_assembler.specs.Assembler.{assembly_at}
use Rattle.h26x_access_units.specs.JitterBuffer.{due_packet}
use Rattle.h26x_access_units.specs.Reception.{reception, ends_before, is_behind_missing}
use Rattle.h26x_access_units.proofs.ReceptionLemmas.{follows_where_due, ended_stands, content_stands}
use Rattle.h26x_access_units.proofs.receiver.AccessUnitReceiver.end_before.Goals as goal

pub returns-then-not-ends_before-clause-ended : goal.returns-then-not-ends_before-clause-ended
returns-then-not-ends_before-clause-ended g c =
    let old = c.args.self.now in
    let s = reception old.waiting (option_map numbered_packet old.stray) old.is_anew old.passed (assembly_at g.D.RunDepacketizer.state old.assembler old.ended.items) old.framing old.numbers old.decoder old.counts old.assembler.packets.run_limit old.assembler.unit_limit in
    let p = c.packet-packet.result in
    let due : due_packet c.args.now s.waiting ≡ Some p = sym c.in-Some.ensures ∙ ap (λ (q : ℕ × RtpBody). Some q) (sym c.packet-packet.ensures) in
    let is : ends_before s.assembler s.framing p ≡ false = sym (c.ends_before.ensures old.ended.items) ∙ c.if-not-ends_before.true in
    (follows_where_due c.args.now s p due is, refl)

pub returns-in_ok-finish-clause-ended : goal.returns-in_ok-finish-clause-ended
returns-in_ok-finish-clause-ended g c =
    let old = c.args.self.now in
    let s = reception old.waiting (option_map numbered_packet old.stray) old.is_anew old.passed (assembly_at g.D.RunDepacketizer.state old.assembler old.ended.items) old.framing old.numbers old.decoder old.counts old.assembler.packets.run_limit old.assembler.unit_limit in
    let p = c.packet-packet.result in
    let gap : is_behind_missing s.assembler p.0 ≡ true = sym (c.is_behind_missing.ensures old.ended.items ∙ ap (λ (q : ℕ × RtpBody). is_behind_missing s.assembler q.0) c.packet.view_is) ∙ c.if-is_behind_missing.true in
    record {
      packet = p;
      due = sym c.in-Some.ensures ∙ ap (λ (q : ℕ × RtpBody). Some q) (sym c.packet-packet.ensures);
      ends = sym (c.ends_before.ensures old.ended.items) ∙ c.if-not-ends_before.false;
      stands = ended_stands s p (assembly_at g.D.RunDepacketizer.state c.finish.new.self c.finish.new.out.items) c.miss.new.self c.drop.new.self c.finish.new.self.packets.run_limit c.finish.new.self.unit_limit
          gap (search rules) (search rules) (search rules) (search rules) (search rules);
    }

pub returns-in_ok-end-clause-ended : goal.returns-in_ok-end-clause-ended
returns-in_ok-end-clause-ended g c =
    let old = c.args.self.now in
    let s = reception old.waiting (option_map numbered_packet old.stray) old.is_anew old.passed (assembly_at g.D.RunDepacketizer.state old.assembler old.ended.items) old.framing old.numbers old.decoder old.counts old.assembler.packets.run_limit old.assembler.unit_limit in
    let p = c.packet-packet.result in
    let clear : is_behind_missing s.assembler p.0 ≡ false = sym (c.is_behind_missing.ensures old.ended.items ∙ ap (λ (q : ℕ × RtpBody). is_behind_missing s.assembler q.0) c.packet.view_is) ∙ c.if-is_behind_missing.false in
    record {
      packet = p;
      due = sym c.in-Some.ensures ∙ ap (λ (q : ℕ × RtpBody). Some q) (sym c.packet-packet.ensures);
      ends = sym (c.ends_before.ensures old.ended.items) ∙ c.if-not-ends_before.false;
      stands = content_stands s p (assembly_at g.D.RunDepacketizer.state c.end.new.self c.end.new.out.items) c.close.new.self c.end.new.self.packets.run_limit c.end.new.self.unit_limit
          clear (search rules) (search rules) (search rules) (search rules);
    }
