use Rattle.std.proofs.Common.{rules, arith, ◌≡◌, ◌∙◌, ◌<◌, ◌≤◌, ◌++◌, ◌∷◌, [], sym, ap, map, ℕ, List, None, true, length, get_or, subst, Bor}
use Rattle.std.proofs.lemmas.Grind.{common_steps}
use Rattle.std.proofs.lemmas.List.{length-map, get_or-map, take_all}
use Rattle.std.specs.Prelude.{OnErr}
use Rattle.h26x_model.specs.Receive.RunLimit.{run_len}
use Rattle.h26x_receiver.specs.declared.received.Received.TheVariants.{Late}
use Rattle.h26x_receiver.specs.Sequenced.{is_taken, having_taken_all}
use Rattle.h26x_receiver.proofs.AnswerLemmas.{accepted}
use Rattle.h26x_receiver.proofs.TakenLemmas.{taken_on}
use Rattle.h26x_reorder.specs.Rtp.{RtpBody}
use Rattle.h26x_reorder.specs.ReorderBuffer.{reordered}
use Rattle.h26x_assembler.specs.AccessUnit.{access_unit_value, open_assembly, unit_len, IsAssemblyAnswer, after_rtp, AreAssembled}
use Rattle.h26x_assembler.proofs.ReceivedLemmas.{units_more, units_to_end, units_brought_by}
use Rattle.h26x_assembler.proofs.AnyLemmas.{any_brought_by}
use Rattle.h26x_assembler.proofs.RefusedLemmas.{brought_want}
use Rattle.h26x_assembler.proofs.assemble.assemble_all.Goals as goal

-- the packet that a reference is of
abbrev seen : Bor (ℕ × RtpBody) → ℕ × RtpBody
seen p = p.now

pub loop-packet-preserved : goal.loop-packet-preserved
loop-packet-preserved g c =
    let o = c.receive-answer.result in
    let pushed : c.push.new.self.items ≡ c.loop-packet.answers.items ++ o ∷ [] = search rules in
    let held = c.deref-packet-items.result.now in
    let packets = map seen held in
    let i = c.loop-packet.packet-index in
    let item = c.packet-item.result in
    let p = seen item in
    let state = g.D.RunDepacketizer.state in
    let within : i < length packets = rw length-map c.loop-packet-test.true in
    let here : get_or packets i p ≡ p = get_or-map seen held i item p c.loop-packet-test.true ∙ ap seen (sym c.packet-item.is) in
    let same_limit = c.loop-packet.invariant.limit in
    let now = c.loop-packet.assembler.packets in
    let then = c.receive-answer.new.self.packets in
    let most = c.args.assembler.now.packets.run_limit in
    let old = open_assembly (state now.depacketizer) now.expected c.loop-packet.assembler.unit (map access_unit_value c.loop-packet.out.items) in
    let new = open_assembly (state then.depacketizer) then.expected c.receive-answer.new.self.unit (map access_unit_value c.receive-answer.new.out.items) in
    let limit = c.args.assembler.now.unit_limit in
    let same_unit_limit = c.loop-packet.invariant.unit_limit in
    let payloads = map (λ (q : ℕ × RtpBody). q.1.payload) packets in
    let payload : get_or payloads i p.1.payload ≡ p.1.payload = get_or-map (λ (q : ℕ × RtpBody). q.1.payload) packets i p p.1.payload within ∙ ap (λ (q : ℕ × RtpBody). q.1.payload) here in
    let count : length c.loop-packet.answers.items ≡ i = search rules in
    let with_run = g.D.RunDepacketizer.with_run in
    let having = g.D.RunDepacketizer.having_taken in
    let took : is_taken o ≡ true → with_run None then.depacketizer ≡ with_run None (having p.1.payload now.depacketizer) =
    λ yes. ap (with_run None) (c.receive-answer.ensures.rest yes) in
    let late : (n : ℕ) → o ≡ accepted (Late n) → then.depacketizer ≡ now.depacketizer = λ n is. ap (λ s. s.packets.depacketizer) (c.receive-answer.ensures.late n is) in
    let kept : OnErr o (then.depacketizer ≡ now.depacketizer) = search rules in
    record {
      count = grind (arith, common_steps);
      room = grind (arith, common_steps);
      limit = c.receive-answer.ensures.limit ∙ same_limit;
      bounded = λ short.
          subst (λ (m : ℕ). run_len c.receive-answer.new.self.unit.run ≤ m) same_limit
          (c.receive-answer.ensures.bounded (subst (λ (m : ℕ). run_len c.loop-packet.assembler.unit.run ≤ m) (sym same_limit) (c.loop-packet.invariant.bounded short)));
      unit_limit = c.receive-answer.ensures.unit_limit ∙ same_unit_limit;
      bounded_unit = λ short.
          subst (λ (m : ℕ). unit_len c.receive-answer.new.self.unit.unit ≤ m) same_unit_limit
          (c.receive-answer.ensures.bounded_unit (subst (λ (m : ℕ). unit_len c.loop-packet.assembler.unit.unit ≤ m) (sym same_unit_limit) (c.loop-packet.invariant.bounded_unit short)));
      rest = rw pushed (taken_on with_run having payloads i p.1.payload c.loop-packet.answers.items o c.args.assembler.now.packets.depacketizer now.depacketizer then.depacketizer
          (rw length-map within) payload count (g.met.D.RunDepacketizer.taken_beside p.1.payload) c.loop-packet.invariant.rest took late kept);
      received = rw pushed (units_more most limit _ packets i c.loop-packet.answers.items o p old new within here c.loop-packet.invariant.received
          (subst (λ (m : ℕ). IsAssemblyAnswer m old p o) same_limit c.receive-answer.ensures.answer)
          (subst (λ (m : ℕ). new ≡ after_rtp m limit old p o) same_limit
          (subst (λ (m : ℕ). new ≡ after_rtp now.run_limit m old p o) same_unit_limit c.receive-answer.ensures.after)));
    }

pub returns-clause-received : goal.returns-clause-received
returns-clause-received g c =
    let state = g.D.RunDepacketizer.state in
    let first = c.args.assembler.now in
    let most = first.packets.run_limit in
    let held = c.deref-packet-items.result.now in
    let last = c.loop-packet.assembler in
    let old = open_assembly (state first.packets.depacketizer) first.packets.expected first.unit (map access_unit_value c.args.out.now.items) in
    let new = open_assembly (state last.packets.depacketizer) last.packets.expected last.unit (map access_unit_value c.loop-packet.out.items) in
    let given : map seen held ≡ reordered c.args.window c.args.packets.now = ap (map seen) c.deref-packet-items.ensures.value ∙ c.in_ok-ordered.ensures in
    subst (λ (l : List (ℕ × RtpBody)). AreAssembled most first.unit_limit old l c.loop-packet.answers.items new) given
    (units_to_end most first.unit_limit old (map seen held) c.loop-packet.packet-index c.loop-packet.answers.items new (rw length-map c.loop-packet-test.false) c.loop-packet.invariant.received)

pub returns-clause-in_order : goal.returns-clause-in_order
returns-clause-in_order g c = λ start.
    let state = g.D.RunDepacketizer.state in
    let first = c.args.assembler.now in
    let last = c.loop-packet.assembler in
    let old = open_assembly (state first.packets.depacketizer) first.packets.expected first.unit (map access_unit_value c.args.out.now.items) in
    let new = open_assembly (state last.packets.depacketizer) last.packets.expected last.unit (map access_unit_value c.loop-packet.out.items) in
    units_brought_by c.args.window first.packets.run_limit first.unit_limit old c.args.packets.now c.loop-packet.answers.items new
    c.nothing_is_damaged.ensures (λ s ok is. c.packetizers_go_on.ensures.goes_on s ok.limits ok.dons is) c.requires.some c.requires.half c.meets_the_facts.ensures start (returns-clause-received g c)

pub returns-clause-came : goal.returns-clause-came
returns-clause-came g c = λ start.
    let state = g.D.RunDepacketizer.state in
    let first = c.args.assembler.now in
    let last = c.loop-packet.assembler in
    let old = open_assembly (state first.packets.depacketizer) first.packets.expected first.unit (map access_unit_value c.args.out.now.items) in
    let new = open_assembly (state last.packets.depacketizer) last.packets.expected last.unit (map access_unit_value c.loop-packet.out.items) in
    any_brought_by c.args.window first.packets.run_limit first.unit_limit old c.args.packets.now c.loop-packet.answers.items new
    c.what_came_is_written.ensures c.requires.some c.requires.half c.meets_the_facts.ensures start (returns-clause-received g c)

pub returns-clause-refusals : goal.returns-clause-refusals
returns-clause-refusals g c =
    let first = c.args.assembler.now in
    let old = open_assembly (g.D.RunDepacketizer.state first.packets.depacketizer) first.packets.expected first.unit (map access_unit_value c.args.out.now.items) in
    brought_want c.args.window first.packets.run_limit first.unit_limit old c.args.packets.now c.loop-packet.answers.items
    (λ s ok is. c.packetizers_go_on.ensures.goes_on s ok.limits ok.dons is) c.what_calls_send_is_carried.ensures c.requires.some c.requires.half c.meets_the_facts.ensures (returns-clause-received g c).each

pub returns-clause-rest : goal.returns-clause-rest
returns-clause-rest g c =
    let held = c.deref-packet-items.result.now in
    let first = c.args.assembler.now.packets.depacketizer in
    let last = c.loop-packet.assembler.packets.depacketizer in
    let with_run = g.D.RunDepacketizer.with_run in
    let having = g.D.RunDepacketizer.having_taken in
    let payloads = map (λ (q : ℕ × RtpBody). q.1.payload) (map seen held) in
    let past : length payloads ≤ c.loop-packet.packet-index = rw (length-map, length-map) c.loop-packet-test.false in
    let given : map seen held ≡ reordered c.args.window c.args.packets.now = ap (map seen) c.deref-packet-items.ensures.value ∙ c.in_ok-ordered.ensures in
    subst (λ (l : List (ℕ × RtpBody)). with_run None last ≡ with_run None (having_taken_all having (map (λ (q : ℕ × RtpBody). q.1.payload) l) c.loop-packet.answers.items first)) given
    (subst (λ (l : List (List ℕ)). with_run None last ≡ with_run None (having_taken_all having l c.loop-packet.answers.items first)) (take_all c.loop-packet.packet-index payloads past) c.loop-packet.invariant.rest)
