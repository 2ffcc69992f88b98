use Rattle.std.proofs.Common.{◌≡◌, ◌∙◌, ap, sym, subst, refl, ℕ, Bool, true, false}
use Rattle.std.specs.Prelude.{◌&&◌, not}
use Rattle.h26x_reorder.specs.Rtp.{RtpBody, rtp_body}
use Rattle.h26x_assembler.specs.Assembler.{assembly_at}
use Rattle.h26x_assembler.specs.AccessUnit.{is_text_given_up}
use Rattle.h26x_access_units.specs.declared.framing.Framing.{Framing}
use Rattle.h26x_access_units.specs.Framing.{believes}
use Rattle.h26x_access_units.specs.Reception.{IsAnswerTo, marker_forgotten, assembly_after, framing_of, believed, framing_answered, numbers_answered, counts_answered}
use Rattle.h26x_access_units.proofs.due.take_seen.Goals as goal

-- the first of two that hold
first_of : (a b : Bool) → (a && b) ≡ true → a ≡ true
first_of true b e = refl
first_of false b e = absurd (let bad = e in cc)

-- a packet whose marker is believed is left as it is
believed_same : (at : Framing) (p : ℕ × RtpBody) → believes at p.1.marker ≡ true → p ≡ believed at p
believed_same at p is =
    ap (λ (b : Bool). (p.0, rtp_body p.1.timestamp b p.1.payload))
    (first_of p.1.marker (at.has_slice && not at.marks_slices) is ∙ sym is)

pub returns-then-believes-clause-answer : goal.returns-then-believes-clause-answer
returns-then-believes-clause-answer g c =
    let s = assembly_at g.D.RunDepacketizer.state c.args.assembler.now c.args.ended.now.items in
    let at = c.framing_of-at.ensures c.args.ended.now.items in
    let told = sym (ap (λ (r : ℕ × RtpBody). believes c.framing_of-at.result r.1.marker) c.packet.view_is) ∙ sym c.believes.ensures ∙ c.if-believes.true in
    let same = believed_same c.framing_of-at.result c.args.packet.now told ∙ ap (λ (a : Framing). believed a c.args.packet.now) at in
    subst (λ (q : ℕ × RtpBody). IsAnswerTo c.args.assembler.now.packets.run_limit s q c.take_noted.result) same c.take_noted.ensures.answer

pub returns-then-believes-clause-after : goal.returns-then-believes-clause-after
returns-then-believes-clause-after g c = λ lacks.
    let s = assembly_at g.D.RunDepacketizer.state c.args.assembler.now c.args.ended.now.items in
    let at = c.framing_of-at.ensures c.args.ended.now.items in
    let told = sym (ap (λ (r : ℕ × RtpBody). believes c.framing_of-at.result r.1.marker) c.packet.view_is) ∙ sym c.believes.ensures ∙ c.if-believes.true in
    let same = believed_same c.framing_of-at.result c.args.packet.now told ∙ ap (λ (a : Framing). believed a c.args.packet.now) at in
    c.take_noted.ensures.after lacks
    ∙ ap (λ (q : ℕ × RtpBody). marker_forgotten (assembly_after c.args.assembler.now.packets.run_limit c.args.assembler.now.unit_limit s q c.take_noted.result)) same

pub returns-then-believes-clause-framing : goal.returns-then-believes-clause-framing
returns-then-believes-clause-framing g c = λ lacks.
    let s = assembly_at g.D.RunDepacketizer.state c.args.assembler.now c.args.ended.now.items in
    let at = c.framing_of-at.ensures c.args.ended.now.items in
    let told = sym (ap (λ (r : ℕ × RtpBody). believes c.framing_of-at.result r.1.marker) c.packet.view_is) ∙ sym c.believes.ensures ∙ c.if-believes.true in
    let same = believed_same c.framing_of-at.result c.args.packet.now told ∙ ap (λ (a : Framing). believed a c.args.packet.now) at in
    c.take_noted.ensures.framing lacks
    ∙ ap (λ (q : ℕ × RtpBody). framing_answered c.args.framing.now c.framing_of-at.result q c.take_noted.result) same
    ∙ ap (λ (a : Framing). framing_answered c.args.framing.now a (believed (framing_of s c.args.framing.now c.args.numbers.now c.args.packet.now) c.args.packet.now) c.take_noted.result) at

pub returns-then-believes-clause-numbers : goal.returns-then-believes-clause-numbers
returns-then-believes-clause-numbers g c = λ lacks.
    let s = assembly_at g.D.RunDepacketizer.state c.args.assembler.now c.args.ended.now.items in
    let at = c.framing_of-at.ensures c.args.ended.now.items in
    let told = sym (ap (λ (r : ℕ × RtpBody). believes c.framing_of-at.result r.1.marker) c.packet.view_is) ∙ sym c.believes.ensures ∙ c.if-believes.true in
    let same = believed_same c.framing_of-at.result c.args.packet.now told ∙ ap (λ (a : Framing). believed a c.args.packet.now) at in
    c.take_noted.ensures.numbers lacks
    ∙ ap (λ (q : ℕ × RtpBody). numbers_answered s c.args.numbers.now c.framing_of-at.result q c.take_noted.result) same
    ∙ ap (λ (a : Framing). numbers_answered s c.args.numbers.now a (believed (framing_of s c.args.framing.now c.args.numbers.now c.args.packet.now) c.args.packet.now) c.take_noted.result) at

pub returns-then-believes-clause-counts : goal.returns-then-believes-clause-counts
returns-then-believes-clause-counts g c = λ lacks.
    let s = assembly_at g.D.RunDepacketizer.state c.args.assembler.now c.args.ended.now.items in
    let at = c.framing_of-at.ensures c.args.ended.now.items in
    let told = sym (ap (λ (r : ℕ × RtpBody). believes c.framing_of-at.result r.1.marker) c.packet.view_is) ∙ sym c.believes.ensures ∙ c.if-believes.true in
    let same = believed_same c.framing_of-at.result c.args.packet.now told ∙ ap (λ (a : Framing). believed a c.args.packet.now) at in
    let most = c.args.assembler.now.packets.run_limit in
    let limit = c.args.assembler.now.unit_limit in
    let q = believed (framing_of s c.args.framing.now c.args.numbers.now c.args.packet.now) c.args.packet.now in
    c.take_noted.ensures.counts lacks
    ∙ ap (λ (q : ℕ × RtpBody). counts_answered s c.args.counts.now c.framing_of-at.result q c.packet.inside.marker (is_text_given_up most limit s q) c.take_noted.result) same
    ∙ ap (λ (a : Framing). counts_answered s c.args.counts.now a q c.packet.inside.marker (is_text_given_up most limit s q) c.take_noted.result) at
    ∙ ap (λ (r : ℕ × RtpBody). counts_answered s c.args.counts.now (framing_of s c.args.framing.now c.args.numbers.now c.args.packet.now) q r.1.marker (is_text_given_up most limit s q) c.take_noted.result) c.packet.view_is

pub returns-clause-after : goal.returns-clause-after
returns-clause-after g c = λ lacks.
    let s = assembly_at g.D.RunDepacketizer.state c.args.assembler.now c.args.ended.now.items in
    c.take_unbelieved.ensures.after lacks
    ∙ ap (λ (a : Framing). marker_forgotten (assembly_after c.args.assembler.now.packets.run_limit c.args.assembler.now.unit_limit s (believed a c.args.packet.now) c.take_unbelieved.result)) (c.framing_of-at.ensures c.args.ended.now.items)

pub returns-clause-framing : goal.returns-clause-framing
returns-clause-framing g c = λ lacks.
    c.take_unbelieved.ensures.framing lacks
    ∙ ap (λ (a : Framing). framing_answered c.args.framing.now a (believed a c.args.packet.now) c.take_unbelieved.result) (c.framing_of-at.ensures c.args.ended.now.items)

pub returns-clause-numbers : goal.returns-clause-numbers
returns-clause-numbers g c = λ lacks.
    let s = assembly_at g.D.RunDepacketizer.state c.args.assembler.now c.args.ended.now.items in
    c.take_unbelieved.ensures.numbers lacks
    ∙ ap (λ (a : Framing). numbers_answered s c.args.numbers.now a (believed a c.args.packet.now) c.take_unbelieved.result) (c.framing_of-at.ensures c.args.ended.now.items)

pub returns-clause-counts : goal.returns-clause-counts
returns-clause-counts g c = λ lacks.
    let s = assembly_at g.D.RunDepacketizer.state c.args.assembler.now c.args.ended.now.items in
    c.take_unbelieved.ensures.counts lacks
    ∙ ap (λ (a : Framing). counts_answered s c.args.counts.now a (believed a c.args.packet.now) c.args.packet.now.1.marker (is_text_given_up c.args.assembler.now.packets.run_limit c.args.assembler.now.unit_limit s (believed a c.args.packet.now)) c.take_unbelieved.result) (c.framing_of-at.ensures c.args.ended.now.items)
