use Rattle.std.proofs.Common.{◌≡◌, ◌∙◌, ap, sym, subst, ℕ, List, false, Ok, Err}
use Rattle.h26x_receiver.specs.declared.received.Received.TheVariants.{InOrder}
use Rattle.h26x_reorder.specs.Rtp.{RtpBody}
use Rattle.h26x_assembler.specs.declared.assembler.AccessUnitAssembler.{AccessUnitAssembler}
use Rattle.h26x_assembler.specs.declared.access_unit.AccessUnit.{AccessUnit}
use Rattle.h26x_assembler.specs.Assembler.{assembly_at}
use Rattle.h26x_assembler.specs.AccessUnit.{Assembly, is_text_given_up}
use Rattle.h26x_access_units.specs.declared.framing.Framing.{Framing}
use Rattle.h26x_access_units.specs.Numbers.{numbers_after, numbers_still}
use Rattle.h26x_access_units.specs.Reception.{lacks_memory, assembly_after, marker_forgotten, IsAnswerTo, framing_answered, numbers_answered, counts_answered}
use Rattle.h26x_access_units.proofs.ReceptionLemmas.{counts_as, taken_as}
use Rattle.h26x_access_units.proofs.ShortLemmas.{sole, sole_as, with_slice, answer_as, sole_not_still, none_unbelieved, in_order_framing, in_order_numbers, in_order_counts}
use Rattle.h26x_access_units.proofs.short.take_sole.Goals as goal

pub returns-else-is_in_order-clause-answer : goal.returns-else-is_in_order-clause-answer
returns-else-is_in_order-clause-answer g c =
    let s = assembly_at g.D.RunDepacketizer.state c.args.assembler.now c.args.ended.now.items in
    let most = c.args.assembler.now.packets.run_limit in
    let it = sole s c.args.framing.now c.args.numbers.now c.args.packet.now c.requires in
    sole_as s c.args.framing.now c.args.numbers.now c.args.packet.now (λ (b : Assembly) (at : Framing) (q : ℕ × RtpBody). IsAnswerTo most b q (Ok c.in-Ok.received)) it
    (answer_as most s c.args.packet.now (Ok c.in-Ok.received) it.bears c.in-Ok.ensures.answer)

pub returns-else-is_in_order-clause-after : goal.returns-else-is_in_order-clause-after
returns-else-is_in_order-clause-after g c =
    let state = g.D.RunDepacketizer.state in
    let s = assembly_at state c.args.assembler.now c.args.ended.now.items in
    let most = c.args.assembler.now.packets.run_limit in
    let limit = c.args.assembler.now.unit_limit in
    let p = c.args.packet.now in
    let it = sole s c.args.framing.now c.args.numbers.now p c.requires in
    sole_as s c.args.framing.now c.args.numbers.now p (λ (b : Assembly) (at : Framing) (q : ℕ × RtpBody). false ≡ false → assembly_at state c.forget_marker.new.self c.begin.new.out.items ≡ marker_forgotten (assembly_after most limit b q (Ok c.in-Ok.received))) it
    (λ _. ap (λ (a : AccessUnitAssembler _). assembly_at state a c.begin.new.out.items) c.forget_marker.ensures
    ∙ ap marker_forgotten (taken_as most limit s (assembly_at state c.begin.new.self c.begin.new.out.items) p (Ok c.in-Ok.received) it.bears c.in-Ok.ensures.after))

pub returns-else-is_in_order-clause-framing : goal.returns-else-is_in_order-clause-framing
returns-else-is_in_order-clause-framing g c =
    let s = assembly_at g.D.RunDepacketizer.state c.args.assembler.now c.args.ended.now.items in
    let it = sole s c.args.framing.now c.args.numbers.now c.args.packet.now c.requires in
    sole_as s c.args.framing.now c.args.numbers.now c.args.packet.now (λ (b : Assembly) (at : Framing) (q : ℕ × RtpBody). false ≡ false → c.note_received.new.framing ≡ framing_answered c.args.framing.now at q (Ok c.in-Ok.received)) it
    (λ _. c.note_received.ensures.framing ∙ ap (λ (a : Framing). framing_answered c.args.framing.now a c.args.packet.now (Ok c.in-Ok.received)) c.with-at.ensures)

pub returns-else-is_in_order-clause-numbers : goal.returns-else-is_in_order-clause-numbers
returns-else-is_in_order-clause-numbers g c =
    let s = assembly_at g.D.RunDepacketizer.state c.args.assembler.now c.args.ended.now.items in
    let it = sole s c.args.framing.now c.args.numbers.now c.args.packet.now c.requires in
    sole_as s c.args.framing.now c.args.numbers.now c.args.packet.now (λ (b : Assembly) (at : Framing) (q : ℕ × RtpBody). false ≡ false → c.note_received.new.numbers ≡ numbers_answered b c.args.numbers.now at q (Ok c.in-Ok.received)) it
    (λ _. c.note_received.ensures.numbers s.expected ∙ ap (λ (a : Framing). numbers_answered s c.args.numbers.now a c.args.packet.now (Ok c.in-Ok.received)) c.with-at.ensures)

pub returns-else-is_in_order-clause-counts : goal.returns-else-is_in_order-clause-counts
returns-else-is_in_order-clause-counts g c =
    let s = assembly_at g.D.RunDepacketizer.state c.args.assembler.now c.args.ended.now.items in
    let most = c.args.assembler.now.packets.run_limit in
    let limit = c.args.assembler.now.unit_limit in
    let p = c.args.packet.now in
    let it = sole s c.args.framing.now c.args.numbers.now p c.requires in
    sole_as s c.args.framing.now c.args.numbers.now p (λ (b : Assembly) (at : Framing) (q : ℕ × RtpBody). false ≡ false → c.note_received.new.counts ≡ counts_answered b c.args.counts.now at q p.1.marker (is_text_given_up most limit b q) (Ok c.in-Ok.received)) it
    (λ _. c.note_received.ensures.counts s.expected
    ∙ counts_as s c.args.counts.now (with_slice c.args.framing.now) p p.1.marker false false _ _ c.in-Ok.received (sole_not_still s c.args.framing.now p) (none_unbelieved p.1.marker)
    (λ some taken. ap (λ (a : AccessUnitAssembler _). a.is_text_given_up) c.forget_marker.ensures ∙ c.in-Ok.ensures.text taken))

pub pass_refused-error-requires : goal.pass_refused-error-requires
pass_refused-error-requires g c =
    let state = g.D.RunDepacketizer.state in
    let ended = c.args.ended.now.items in
    let s = assembly_at state c.args.assembler.now ended in
    let most = c.args.assembler.now.packets.run_limit in
    let p = c.args.packet.now in
    let f = c.args.framing.now in
    let n = c.args.numbers.now in
    let it = sole s f n p c.requires in
    subst (λ (l : List AccessUnit). IsAnswerTo c.begin.new.self.packets.run_limit (assembly_at state c.begin.new.self l) p (Err c.in-Err.error)) (sym c.in-Err.ensures.kept_out)
    (subst (λ (a : AccessUnitAssembler _). IsAnswerTo a.packets.run_limit (assembly_at state a ended) p (Err c.in-Err.error)) (sym c.in-Err.ensures.kept) (answer_as most s p (Err c.in-Err.error) it.bears c.in-Err.ensures.answer))

pub returns-in-Err-clause-answer : goal.returns-in-Err-clause-answer
returns-in-Err-clause-answer g c =
    let state = g.D.RunDepacketizer.state in
    let ended = c.args.ended.now.items in
    let s = assembly_at state c.args.assembler.now ended in
    let most = c.args.assembler.now.packets.run_limit in
    let p = c.args.packet.now in
    let f = c.args.framing.now in
    let n = c.args.numbers.now in
    let it = sole s f n p c.requires in
    let e = c.pass_refused-error.result in
    sole_as s f n p (λ (b : Assembly) (at : Framing) (q : ℕ × RtpBody). IsAnswerTo most b q (Err e)) it
    (subst (λ (a : AccessUnitAssembler _). IsAnswerTo a.packets.run_limit (assembly_at state a ended) p (Err e)) c.in-Err.ensures.kept
    (subst (λ (l : List AccessUnit). IsAnswerTo c.begin.new.self.packets.run_limit (assembly_at state c.begin.new.self l) p (Err e)) c.in-Err.ensures.kept_out c.pass_refused-error.ensures.answer))

pub returns-in-Err-clause-after : goal.returns-in-Err-clause-after
returns-in-Err-clause-after g c =
    let state = g.D.RunDepacketizer.state in
    let ended = c.args.ended.now.items in
    let s = assembly_at state c.args.assembler.now ended in
    let most = c.args.assembler.now.packets.run_limit in
    let limit = c.args.assembler.now.unit_limit in
    let p = c.args.packet.now in
    let f = c.args.framing.now in
    let n = c.args.numbers.now in
    let it = sole s f n p c.requires in
    let e = c.pass_refused-error.result in
    sole_as s f n p (λ (b : Assembly) (at : Framing) (q : ℕ × RtpBody). lacks_memory (Err e) ≡ false → assembly_at state c.pass_refused-error.new.assembler c.pass_refused-error.new.ended.items ≡ marker_forgotten (assembly_after most limit b q (Err e))) it
    (subst (λ (a : AccessUnitAssembler _). lacks_memory (Err e) ≡ false → assembly_at state c.pass_refused-error.new.assembler c.pass_refused-error.new.ended.items ≡ marker_forgotten (assembly_after a.packets.run_limit a.unit_limit (assembly_at state a ended) p (Err e))) c.in-Err.ensures.kept
    (subst (λ (l : List AccessUnit). lacks_memory (Err e) ≡ false → assembly_at state c.pass_refused-error.new.assembler c.pass_refused-error.new.ended.items ≡ marker_forgotten (assembly_after c.begin.new.self.packets.run_limit c.begin.new.self.unit_limit (assembly_at state c.begin.new.self l) p (Err e))) c.in-Err.ensures.kept_out c.pass_refused-error.ensures.after))

pub returns-in-Err-clause-numbers : goal.returns-in-Err-clause-numbers
returns-in-Err-clause-numbers g c =
    let state = g.D.RunDepacketizer.state in
    let ended = c.args.ended.now.items in
    let s = assembly_at state c.args.assembler.now ended in
    let most = c.args.assembler.now.packets.run_limit in
    let limit = c.args.assembler.now.unit_limit in
    let p = c.args.packet.now in
    let f = c.args.framing.now in
    let n = c.args.numbers.now in
    let it = sole s f n p c.requires in
    let e = c.pass_refused-error.result in
    sole_as s f n p (λ (b : Assembly) (at : Framing) (q : ℕ × RtpBody). lacks_memory (Err e) ≡ false → c.pass_refused-error.new.numbers ≡ numbers_answered b n at q (Err e)) it
    (subst (λ (a : AccessUnitAssembler _). lacks_memory (Err e) ≡ false → c.pass_refused-error.new.numbers ≡ numbers_answered (assembly_at state a ended) n f p (Err e)) c.in-Err.ensures.kept
    (subst (λ (l : List AccessUnit). lacks_memory (Err e) ≡ false → c.pass_refused-error.new.numbers ≡ numbers_answered (assembly_at state c.begin.new.self l) n f p (Err e)) c.in-Err.ensures.kept_out (c.pass_refused-error.ensures.numbers f)))

pub returns-in-Err-clause-counts : goal.returns-in-Err-clause-counts
returns-in-Err-clause-counts g c =
    let state = g.D.RunDepacketizer.state in
    let ended = c.args.ended.now.items in
    let s = assembly_at state c.args.assembler.now ended in
    let most = c.args.assembler.now.packets.run_limit in
    let limit = c.args.assembler.now.unit_limit in
    let p = c.args.packet.now in
    let f = c.args.framing.now in
    let n = c.args.numbers.now in
    let it = sole s f n p c.requires in
    let e = c.pass_refused-error.result in
    sole_as s f n p (λ (b : Assembly) (at : Framing) (q : ℕ × RtpBody). lacks_memory (Err e) ≡ false → c.pass_refused-error.new.counts ≡ counts_answered b c.args.counts.now at q p.1.marker (is_text_given_up most limit b q) (Err e)) it
    (subst (λ (a : AccessUnitAssembler _). lacks_memory (Err e) ≡ false → c.pass_refused-error.new.counts ≡ counts_answered (assembly_at state a ended) c.args.counts.now f p p.1.marker false (Err e)) c.in-Err.ensures.kept
    (subst (λ (l : List AccessUnit). lacks_memory (Err e) ≡ false → c.pass_refused-error.new.counts ≡ counts_answered (assembly_at state c.begin.new.self l) c.args.counts.now f p p.1.marker false (Err e)) c.in-Err.ensures.kept_out (c.pass_refused-error.ensures.counts f p.1.marker false)))

pub returns-then-is_in_order-clause-answer : goal.returns-then-is_in_order-clause-answer
returns-then-is_in_order-clause-answer g c =
    let s = assembly_at g.D.RunDepacketizer.state c.args.assembler.now c.args.ended.now.items in
    let most = c.args.assembler.now.packets.run_limit in
    let it = sole s c.args.framing.now c.args.numbers.now c.args.packet.now c.requires in
    sole_as s c.args.framing.now c.args.numbers.now c.args.packet.now (λ (b : Assembly) (at : Framing) (q : ℕ × RtpBody). IsAnswerTo most b q (Ok c.in-Ok.received)) it
    (answer_as most s c.args.packet.now (Ok c.in-Ok.received) it.bears c.in-Ok.ensures.answer)

pub returns-then-is_in_order-clause-framing : goal.returns-then-is_in_order-clause-framing
returns-then-is_in_order-clause-framing g c =
    let s = assembly_at g.D.RunDepacketizer.state c.args.assembler.now c.args.ended.now.items in
    let p = c.args.packet.now in
    let it = sole s c.args.framing.now c.args.numbers.now p c.requires in
    let is = c.is_in_order.ensures c.if-is_in_order.true in
    sole_as s c.args.framing.now c.args.numbers.now p (λ (b : Assembly) (at : Framing) (q : ℕ × RtpBody). false ≡ false → c.note_in_order.new.framing ≡ framing_answered c.args.framing.now at q (Ok c.in-Ok.received)) it
    (λ _. in_order_framing c.args.framing.now c.note_in_order.new.framing (with_slice c.args.framing.now) p c.in-Ok.received is (c.note_in_order.ensures.framing ∙ ap (λ (a : Framing). framing_answered c.args.framing.now a p (Ok InOrder)) c.with-at.ensures))

pub returns-then-is_in_order-clause-numbers : goal.returns-then-is_in_order-clause-numbers
returns-then-is_in_order-clause-numbers g c =
    let s = assembly_at g.D.RunDepacketizer.state c.args.assembler.now c.args.ended.now.items in
    let p = c.args.packet.now in
    let it = sole s c.args.framing.now c.args.numbers.now p c.requires in
    let is = c.is_in_order.ensures c.if-is_in_order.true in
    sole_as s c.args.framing.now c.args.numbers.now p (λ (b : Assembly) (at : Framing) (q : ℕ × RtpBody). false ≡ false → c.note_in_order.new.numbers ≡ numbers_answered b c.args.numbers.now at q (Ok c.in-Ok.received)) it
    (λ _. in_order_numbers s c.args.numbers.now c.note_in_order.new.numbers (with_slice c.args.framing.now) p c.in-Ok.received it.bears is (c.note_in_order.ensures.numbers s.expected ∙ ap (λ (a : Framing). numbers_after s.expected (numbers_still a.stands_still c.args.numbers.now) p (Ok InOrder)) c.with-at.ensures))

pub returns-then-is_in_order-clause-counts : goal.returns-then-is_in_order-clause-counts
returns-then-is_in_order-clause-counts g c =
    let s = assembly_at g.D.RunDepacketizer.state c.args.assembler.now c.args.ended.now.items in
    let p = c.args.packet.now in
    let it = sole s c.args.framing.now c.args.numbers.now p c.requires in
    let is = c.is_in_order.ensures c.if-is_in_order.true in
    let most = c.args.assembler.now.packets.run_limit in
    let limit = c.args.assembler.now.unit_limit in
    sole_as s c.args.framing.now c.args.numbers.now p (λ (b : Assembly) (at : Framing) (q : ℕ × RtpBody). false ≡ false → c.note_in_order.new.counts ≡ counts_answered b c.args.counts.now at q p.1.marker (is_text_given_up most limit b q) (Ok c.in-Ok.received)) it
    (λ _. in_order_counts s c.args.counts.now c.note_in_order.new.counts (with_slice c.args.framing.now) p p.1.marker _ _ c.in-Ok.received it.bears is (sole_not_still s c.args.framing.now p) (none_unbelieved p.1.marker)
    (λ some taken. ap (λ (a : AccessUnitAssembler _). a.is_text_given_up) c.forget_marker.ensures ∙ c.in-Ok.ensures.text taken) (c.note_in_order.ensures.counts s.expected))
