use Rattle.std.proofs.Common.{◌∙◌, ap, ℕ}
use Rattle.h26x_reorder.specs.Rtp.{RtpBody}
use Rattle.h26x_assembler.specs.Assembler.{assembly_at}
use Rattle.h26x_assembler.specs.AccessUnit.{is_text_given_up}
use Rattle.h26x_access_units.specs.Reception.{marker_forgotten, assembly_after, believed, framing_answered, numbers_answered, counts_answered}
use Rattle.h26x_access_units.proofs.due.take_unbelieved.Goals as goal

pub returns-clause-after : goal.returns-clause-after
returns-clause-after g c = λ lacks.
    let s = assembly_at g.D.RunDepacketizer.state c.args.assembler.now c.args.ended.now.items in
    c.take_noted.ensures.after lacks
    ∙ ap (λ (q : ℕ × RtpBody). marker_forgotten (assembly_after c.args.assembler.now.packets.run_limit c.args.assembler.now.unit_limit s q c.take_noted.result)) c.believed-taken.ensures

pub returns-clause-framing : goal.returns-clause-framing
returns-clause-framing g c = λ lacks.
    c.take_noted.ensures.framing lacks
    ∙ ap (λ (q : ℕ × RtpBody). framing_answered c.args.framing.now c.args.at q c.take_noted.result) c.believed-taken.ensures

pub returns-clause-numbers : goal.returns-clause-numbers
returns-clause-numbers g c = λ lacks.
    let s = assembly_at g.D.RunDepacketizer.state c.args.assembler.now c.args.ended.now.items in
    c.take_noted.ensures.numbers lacks
    ∙ ap (λ (q : ℕ × RtpBody). numbers_answered s c.args.numbers.now c.args.at q c.take_noted.result) c.believed-taken.ensures

pub returns-clause-counts : goal.returns-clause-counts
returns-clause-counts g c = λ lacks.
    let s = assembly_at g.D.RunDepacketizer.state c.args.assembler.now c.args.ended.now.items in
    let most = c.args.assembler.now.packets.run_limit in
    let limit = c.args.assembler.now.unit_limit in
    c.take_noted.ensures.counts lacks
    ∙ ap (λ (q : ℕ × RtpBody). counts_answered s c.args.counts.now c.args.at q c.packet.inside.marker (is_text_given_up most limit s q) c.take_noted.result) c.believed-taken.ensures
    ∙ ap (λ (r : ℕ × RtpBody). counts_answered s c.args.counts.now c.args.at (believed c.args.at c.args.packet.now) r.1.marker (is_text_given_up most limit s (believed c.args.at c.args.packet.now)) c.take_noted.result) c.packet.view_is
