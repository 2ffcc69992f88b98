use Rattle.std.proofs.Common.{rules, ◌≡◌, ◌∙◌, ap, sym, ℕ, true, false}
use Rattle.std.specs.Prelude.{length, ◌==◌}
use Rattle.h26x_reorder.specs.Rtp.{RtpBody}
use Rattle.h26x_assembler.specs.Assembler.{assembly_at}
use Rattle.h26x_assembler.specs.AccessUnit.{is_unit_at}
use Rattle.h26x_access_units.specs.Reception.{is_behind_missing, is_in_reach}
use Rattle.h26x_access_units.proofs.ReceptionLemmas.{ends_at, ends_else, some_bytes}
use Rattle.h26x_access_units.proofs.due.ends_before.Goals as goal

pub returns-then-is_in_reach : goal.returns-then-is_in_reach
returns-then-is_in_reach g c = λ ended.
    let p = c.args.packet.now in
    let s = assembly_at g.D.RunDepacketizer.state c.args.assembler.now ended in
    let some : (length p.1.payload == 0) ≡ false = search rules in
    let at : is_unit_at s.unit p.1.timestamp ≡ true = search rules in
    let reaches = sym (c.is_in_reach.ensures ended ∙ ap (λ (q : ℕ × RtpBody). is_in_reach s q.0) c.packet.view_is) ∙ c.if-is_in_reach.true in
    c.ends_by_content.ensures ended ∙ sym (ends_at s c.args.framing p true (some_bytes p.1.payload some) at reaches)

pub returns-else-is_in_reach : goal.returns-else-is_in_reach
returns-else-is_in_reach g c = λ ended.
    let p = c.args.packet.now in
    let s = assembly_at g.D.RunDepacketizer.state c.args.assembler.now ended in
    let some : (length p.1.payload == 0) ≡ false = search rules in
    let at : is_unit_at s.unit p.1.timestamp ≡ true = search rules in
    let reaches = sym (c.is_in_reach.ensures ended ∙ ap (λ (q : ℕ × RtpBody). is_in_reach s q.0) c.packet.view_is) ∙ c.if-is_in_reach.false in
    c.if-is_in_reach.false ∙ sym (ends_at s c.args.framing p false (some_bytes p.1.payload some) at reaches)

pub returns : goal.returns
returns g c = λ ended.
    let p = c.args.packet.now in
    let s = assembly_at g.D.RunDepacketizer.state c.args.assembler.now ended in
    let some : (length p.1.payload == 0) ≡ false = search rules in
    let other : is_unit_at s.unit p.1.timestamp ≡ false = search rules in
    c.is_behind_missing.ensures ended ∙ ap (λ (q : ℕ × RtpBody). is_behind_missing s q.0) c.packet.view_is ∙ sym (ends_else s c.args.framing p (some_bytes p.1.payload some) other)
