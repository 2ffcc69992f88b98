use Rattle.std.proofs.Common.{◌≡◌, ◌∙◌, ap, subst, List, false, Err}
use Rattle.h26x_assembler.specs.declared.access_unit.AccessUnit.{AccessUnit}
use Rattle.h26x_access_units.specs.Reception.{lacks_memory, numbers_answered, counts_answered}
use Rattle.h26x_assembler.specs.declared.assembler.AccessUnitAssembler.{AccessUnitAssembler}
use Rattle.h26x_assembler.specs.Assembler.{assembly_at}
use Rattle.h26x_access_units.proofs.ReceptionLemmas.{counts_as}
use Rattle.h26x_access_units.proofs.due.take_noted.Goals as goal

pub returns-in-Ok-clause-numbers : goal.returns-in-Ok-clause-numbers
returns-in-Ok-clause-numbers g c = λ _. c.note_received.ensures.numbers c.args.assembler.now.packets.expected

pub returns-in-Ok-clause-counts : goal.returns-in-Ok-clause-counts
returns-in-Ok-clause-counts g c = λ _.
    let s = assembly_at g.D.RunDepacketizer.state c.args.assembler.now c.args.ended.now.items in
    c.note_received.ensures.counts c.args.assembler.now.packets.expected
    ∙ counts_as s c.args.counts.now c.args.at c.args.packet.now c.args.marker _ _ _ _ c.in-Ok.received (c.begins_still-still.ensures c.args.ended.now.items) c.is_unbelieved-unbelieved.ensures
    (λ some taken. ap (λ (it : AccessUnitAssembler _). it.is_text_given_up) c.forget_marker.ensures ∙ c.in-Ok.ensures.text some taken)

pub returns-in-Err-clause-numbers : goal.returns-in-Err-clause-numbers
returns-in-Err-clause-numbers g c =
    let state = g.D.RunDepacketizer.state in
    let e = c.pass_refused-error.result in
    subst (λ (a : AccessUnitAssembler _). lacks_memory (Err e) ≡ false → c.pass_refused-error.new.numbers ≡ numbers_answered (assembly_at state a c.args.ended.now.items) c.args.numbers.now c.args.at c.args.packet.now (Err e)) c.in-Err.ensures.kept
    (subst (λ (l : List AccessUnit). lacks_memory (Err e) ≡ false → c.pass_refused-error.new.numbers ≡ numbers_answered (assembly_at state c.take_packet.new.assembler l) c.args.numbers.now c.args.at c.args.packet.now (Err e)) c.in-Err.ensures.kept_ended
    (c.pass_refused-error.ensures.numbers c.args.at))

pub returns-in-Err-clause-counts : goal.returns-in-Err-clause-counts
returns-in-Err-clause-counts g c =
    let state = g.D.RunDepacketizer.state in
    let e = c.pass_refused-error.result in
    subst (λ (a : AccessUnitAssembler _). lacks_memory (Err e) ≡ false → c.pass_refused-error.new.counts ≡ counts_answered (assembly_at state a c.args.ended.now.items) c.args.counts.now c.args.at c.args.packet.now c.args.marker false (Err e)) c.in-Err.ensures.kept
    (subst (λ (l : List AccessUnit). lacks_memory (Err e) ≡ false → c.pass_refused-error.new.counts ≡ counts_answered (assembly_at state c.take_packet.new.assembler l) c.args.counts.now c.args.at c.args.packet.now c.args.marker false (Err e)) c.in-Err.ensures.kept_ended
    (c.pass_refused-error.ensures.counts c.args.at c.args.marker false))
