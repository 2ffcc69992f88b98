use Rattle.std.proofs.Common.{rules, ◌≡◌, ◌∙◌, ap, sym, true, false, Bool, ℕ}
use Rattle.std.specs.Prelude.{not, ◌&&◌}
use Rattle.std.specs.Option.{option_map}
use Rattle.h26x_reorder.specs.Rtp.{RtpBody}
use Rattle.h26x_reorder.specs.ReorderBuffer.{numbered_packet, goes_straight}
use Rattle.h26x_assembler.specs.Assembler.{assembly_at}
use Rattle.h26x_access_units.specs.Reception.{reception, has_no_unit, is_behind_missing}
use Rattle.h26x_access_units.proofs.ReceptionLemmas.{not_at_once, not_before_end, at_once_else}
use Rattle.h26x_access_units.proofs.receiver.AccessUnitReceiver.takes_at_once.Goals as goal

pub returns-then-is_behind_missing : goal.returns-then-is_behind_missing
returns-then-is_behind_missing g c =
    let old = c.args.self.now in
    let s = reception old.waiting (option_map numbered_packet old.stray) old.is_anew old.passed (assembly_at g.D.RunDepacketizer.state old.assembler old.ended.items) old.framing old.numbers old.decoder old.counts old.assembler.packets.run_limit old.assembler.unit_limit in
    let at = c.is_behind_missing.ensures old.ended.items ∙ ap (λ (q : ℕ × RtpBody). is_behind_missing s.assembler q.0) c.packet.view_is in
    sym (not_at_once s c.args.packet.now (sym at ∙ c.if-is_behind_missing.true))

pub returns-then-ends_before : goal.returns-then-ends_before
returns-then-ends_before g c =
    let old = c.args.self.now in
    let s = reception old.waiting (option_map numbered_packet old.stray) old.is_anew old.passed (assembly_at g.D.RunDepacketizer.state old.assembler old.ended.items) old.framing old.numbers old.decoder old.counts old.assembler.packets.run_limit old.assembler.unit_limit in
    sym (not_before_end s c.args.packet.now (sym (c.ends_before.ensures old.ended.items) ∙ c.if-ends_before.true))

pub returns-then-none_ended : goal.returns-then-none_ended
returns-then-none_ended g c =
    let old = c.args.self.now in
    let s = reception old.waiting (option_map numbered_packet old.stray) old.is_anew old.passed (assembly_at g.D.RunDepacketizer.state old.assembler old.ended.items) old.framing old.numbers old.decoder old.counts old.assembler.packets.run_limit old.assembler.unit_limit in
    let p = c.args.packet.now in
    let straight = sym (c.goes_straight.ensures ∙ ap (λ (q : ℕ × RtpBody). goes_straight s.waiting.buffer q.0) c.packet.view_is) ∙ c.if-not-goes_straight.false in
    let follows = sym (c.is_behind_missing.ensures old.ended.items ∙ ap (λ (q : ℕ × RtpBody). is_behind_missing s.assembler q.0) c.packet.view_is) ∙ c.if-is_behind_missing.false in
    let goes_on = sym (c.ends_before.ensures old.ended.items) ∙ c.if-ends_before.false in
    let none_left : has_no_unit s.assembler.ended ≡ true = search rules in
    sym (at_once_else s p straight follows goes_on ∙ ap (λ (b : Bool). b && not s.is_anew) none_left)

pub returns-else-none_ended : goal.returns-else-none_ended
returns-else-none_ended g c =
    let old = c.args.self.now in
    let s = reception old.waiting (option_map numbered_packet old.stray) old.is_anew old.passed (assembly_at g.D.RunDepacketizer.state old.assembler old.ended.items) old.framing old.numbers old.decoder old.counts old.assembler.packets.run_limit old.assembler.unit_limit in
    let p = c.args.packet.now in
    let straight = sym (c.goes_straight.ensures ∙ ap (λ (q : ℕ × RtpBody). goes_straight s.waiting.buffer q.0) c.packet.view_is) ∙ c.if-not-goes_straight.false in
    let follows = sym (c.is_behind_missing.ensures old.ended.items ∙ ap (λ (q : ℕ × RtpBody). is_behind_missing s.assembler q.0) c.packet.view_is) ∙ c.if-is_behind_missing.false in
    let goes_on = sym (c.ends_before.ensures old.ended.items) ∙ c.if-ends_before.false in
    let some_left : has_no_unit s.assembler.ended ≡ false = search rules in
    ap not c.if-none_ended.false ∙ sym (at_once_else s p straight follows goes_on ∙ ap (λ (b : Bool). b && not s.is_anew) some_left)
