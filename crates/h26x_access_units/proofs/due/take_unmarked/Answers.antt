use Rattle.std.proofs.Common.{◌∙◌, ap, sym, subst, ℕ, Bool, false}
use Rattle.h26x_reorder.specs.Rtp.{RtpBody}
use Rattle.h26x_assembler.specs.Assembler.{assembly_at}
use Rattle.h26x_assembler.specs.AccessUnit.{is_text_given_up}
use Rattle.h26x_access_units.specs.declared.framing.Framing.{Framing}
use Rattle.h26x_access_units.specs.Reception.{IsAnswerTo, marker_forgotten, assembly_after, framing_of, believed, framing_answered, numbers_answered, counts_answered}
use Rattle.h26x_access_units.proofs.ReceptionLemmas.{unmarked_believed}
use Rattle.h26x_access_units.proofs.due.take_unmarked.Goals as goal

pub returns-clause-answer : goal.returns-clause-answer
returns-clause-answer g c =
    let s = assembly_at g.D.RunDepacketizer.state c.args.assembler.now c.args.ended.now.items in
    let same = sym (unmarked_believed (framing_of s c.args.framing.now c.args.numbers.now c.args.packet.now) c.args.packet.now c.requires) in
    subst (λ (q : ℕ × RtpBody). IsAnswerTo c.args.assembler.now.packets.run_limit s q c.take_noted.result) same c.take_noted.ensures.answer

pub returns-clause-after : goal.returns-clause-after
returns-clause-after g c = λ lacks.
    let s = assembly_at g.D.RunDepacketizer.state c.args.assembler.now c.args.ended.now.items in
    let same = sym (unmarked_believed (framing_of s c.args.framing.now c.args.numbers.now c.args.packet.now) c.args.packet.now c.requires) in
    c.take_noted.ensures.after lacks
    ∙ ap (λ (q : ℕ × RtpBody). marker_forgotten (assembly_after c.args.assembler.now.packets.run_limit c.args.assembler.now.unit_limit s q c.take_noted.result)) same

pub returns-clause-framing : goal.returns-clause-framing
returns-clause-framing g c = λ lacks.
    let s = assembly_at g.D.RunDepacketizer.state c.args.assembler.now c.args.ended.now.items in
    let at = c.framing_of-at.ensures c.args.ended.now.items in
    let same = sym (unmarked_believed (framing_of s c.args.framing.now c.args.numbers.now c.args.packet.now) c.args.packet.now c.requires) in
    c.take_noted.ensures.framing lacks
    ∙ ap (λ (q : ℕ × RtpBody). framing_answered c.args.framing.now c.framing_of-at.result q c.take_noted.result) same
    ∙ ap (λ (a : Framing). framing_answered c.args.framing.now a (believed (framing_of s c.args.framing.now c.args.numbers.now c.args.packet.now) c.args.packet.now) c.take_noted.result) at

pub returns-clause-numbers : goal.returns-clause-numbers
returns-clause-numbers g c = λ lacks.
    let s = assembly_at g.D.RunDepacketizer.state c.args.assembler.now c.args.ended.now.items in
    let at = c.framing_of-at.ensures c.args.ended.now.items in
    let same = sym (unmarked_believed (framing_of s c.args.framing.now c.args.numbers.now c.args.packet.now) c.args.packet.now c.requires) in
    c.take_noted.ensures.numbers lacks
    ∙ ap (λ (q : ℕ × RtpBody). numbers_answered s c.args.numbers.now c.framing_of-at.result q c.take_noted.result) same
    ∙ ap (λ (a : Framing). numbers_answered s c.args.numbers.now a (believed (framing_of s c.args.framing.now c.args.numbers.now c.args.packet.now) c.args.packet.now) c.take_noted.result) at

pub returns-clause-counts : goal.returns-clause-counts
returns-clause-counts g c = λ lacks.
    let s = assembly_at g.D.RunDepacketizer.state c.args.assembler.now c.args.ended.now.items in
    let at = c.framing_of-at.ensures c.args.ended.now.items in
    let same = sym (unmarked_believed (framing_of s c.args.framing.now c.args.numbers.now c.args.packet.now) c.args.packet.now c.requires) in
    let most = c.args.assembler.now.packets.run_limit in
    let limit = c.args.assembler.now.unit_limit in
    let q = believed (framing_of s c.args.framing.now c.args.numbers.now c.args.packet.now) c.args.packet.now in
    c.take_noted.ensures.counts lacks
    ∙ ap (λ (q : ℕ × RtpBody). counts_answered s c.args.counts.now c.framing_of-at.result q false (is_text_given_up most limit s q) c.take_noted.result) same
    ∙ ap (λ (a : Framing). counts_answered s c.args.counts.now a q false (is_text_given_up most limit s q) c.take_noted.result) at
    ∙ ap (λ (b : Bool). counts_answered s c.args.counts.now (framing_of s c.args.framing.now c.args.numbers.now c.args.packet.now) q b (is_text_given_up most limit s q) c.take_noted.result) (sym c.requires)
