use Rattle.std.proofs.Common.{rules, arith, ◌≡◌, ◌∙◌, ◌<◌, ◌≤◌, ◌++◌, ◌∷◌, [], sym, ap, ℕ, List, Option, None, get_or, map, length, subst}
use Rattle.std.proofs.lemmas.Grind.{common_steps}
use Rattle.std.proofs.lemmas.List.{length-map, get_or-map, take_all}
use Rattle.std.specs.Prelude.{OnErr}
use Rattle.h26x_model.specs.Receive.RunLimit.{run_len}
use Rattle.h26x_model.specs.Receive.DepacketizerState.{depacketization}
use Rattle.h26x_receiver.specs.Delivery.{sequenced_packets}
use Rattle.h26x_receiver.specs.Sequenced.{with_expected, sequenced_depacketization, IsSequencedAnswer, after_answer, AreAllReceived, having_taken_all}
use Rattle.h26x_receiver.specs.declared.received.Received.TheVariants.{Late}
use Rattle.h26x_receiver.proofs.AnswerLemmas.{accepted, received_more, received_to_end, pair_at, still_front}
use Rattle.h26x_receiver.proofs.TakenLemmas.{taken_on}
use Rattle.h26x_receiver.proofs.DeliveryLemmas.{whole_written, taken_written}
use Rattle.h26x_receiver.proofs.OrderLemmas.{came_written}
use Rattle.h26x_receiver.proofs.RefusalLemmas.{refusals_are_want}
use Rattle.h26x_receiver.proofs.delivery.receive_all.Goals as goal

pub loop-sequence-preserved : goal.loop-sequence-preserved
loop-sequence-preserved g c =
    let o = c.receive-answer.result in
    let pushed : c.push.new.self.items ≡ c.loop-sequence.answers.items ++ o ∷ [] = search rules in
    let packets = sequenced_packets c.args.packets.now in
    let i = c.loop-sequence.sequence-index in
    let item = c.loop-sequence-item.result in
    let state = g.D.RunDepacketizer.state in
    let within : i < length packets = rw length-map c.loop-sequence-test.true in
    let same_limit = c.loop-sequence.invariant.limit in
    let payloads = map (λ (p : ℕ × List ℕ). p.1) packets in
    let pair = pair_at c.args.packets.now i item c.deref.result.now c.loop-sequence-test.true c.loop-sequence-item.is c.deref.ensures.value in
    let within_payloads : i < length payloads = rw length-map within in
    let payload : get_or payloads i c.deref.result.now ≡ c.deref.result.now = get_or-map (λ (p : ℕ × List ℕ). p.1) packets i (item.0, c.deref.result.now) c.deref.result.now within ∙ ap (λ (p : ℕ × List ℕ). p.1) pair in
    let count : length c.loop-sequence.answers.items ≡ i = search rules in
    let late : (n : ℕ) → o ≡ accepted (Late n) → c.receive-answer.new.self.depacketizer ≡ c.loop-sequence.receiver.depacketizer = λ n is. ap (λ s. s.depacketizer) (c.receive-answer.ensures.late n is) in
    let kept : OnErr o (c.receive-answer.new.self.depacketizer ≡ c.loop-sequence.receiver.depacketizer) = search rules in
    let old = sequenced_depacketization (state c.loop-sequence.receiver.depacketizer) c.loop-sequence.receiver.expected c.loop-sequence.out.items c.loop-sequence.codec_extra in
    let new = sequenced_depacketization (state c.receive-answer.new.self.depacketizer) c.receive-answer.new.self.expected c.receive-answer.new.out.items c.receive-answer.new.codec_extra in
    record {
      count = grind (arith, common_steps);
      room = grind (arith, common_steps);
      front = still_front c.args.out.now.items c.loop-sequence.out.items c.receive-answer.new.out.items c.loop-sequence.invariant.front c.receive-answer.ensures.front;
      limit = c.receive-answer.ensures.limit ∙ same_limit;
      bounded = λ short.
          subst (λ (m : ℕ). run_len (state c.receive-answer.new.self.depacketizer).run ≤ m) same_limit
          (c.receive-answer.ensures.bounded (subst (λ (m : ℕ). run_len (state c.loop-sequence.receiver.depacketizer).run ≤ m) (sym same_limit) (c.loop-sequence.invariant.bounded short)));
      rest = rw pushed (taken_on g.D.RunDepacketizer.with_run g.D.RunDepacketizer.having_taken payloads i c.deref.result.now c.loop-sequence.answers.items o c.args.receiver.now.depacketizer
          c.loop-sequence.receiver.depacketizer c.receive-answer.new.self.depacketizer within_payloads payload count (g.met.D.RunDepacketizer.taken_beside c.deref.result.now) c.loop-sequence.invariant.rest
          c.receive-answer.ensures.rest late kept);
      received = rw pushed (received_more c.args.receiver.now.run_limit _ packets i c.loop-sequence.answers.items o (item.0, c.deref.result.now) old new
          within pair c.loop-sequence.invariant.received
          (subst (λ (m : ℕ). IsSequencedAnswer m old item.0 c.deref.result.now o) same_limit c.receive-answer.ensures.answer)
          (subst (λ (m : ℕ). new ≡ after_answer m old item.0 c.deref.result.now o) same_limit c.receive-answer.ensures.after));
    }

pub returns-clause-received : goal.returns-clause-received
returns-clause-received g c =
    received_to_end c.args.receiver.now.run_limit _ (sequenced_packets c.args.packets.now) c.loop-sequence.sequence-index c.loop-sequence.answers.items _
    (rw length-map c.loop-sequence-test.false) c.loop-sequence.invariant.received

pub returns-clause-whole : goal.returns-clause-whole
returns-clause-whole g c = λ none.
    let state = g.D.RunDepacketizer.state in
    let w = depacketization (state c.args.receiver.now.depacketizer) c.args.out.now.items c.args.codec_extra.now in
    let new = sequenced_depacketization (state c.loop-sequence.receiver.depacketizer) c.loop-sequence.receiver.expected c.loop-sequence.out.items c.loop-sequence.codec_extra in
    whole_written c.args.receiver.now.run_limit w (sequenced_packets c.args.packets.now) c.loop-sequence.answers.items new c.nothing_is_damaged.ensures c.meets_the_facts.ensures
    (subst (λ (x : Option ℕ). AreAllReceived c.args.receiver.now.run_limit (with_expected w x) (sequenced_packets c.args.packets.now) c.loop-sequence.answers.items new) none (returns-clause-received g c))

pub returns-clause-came : goal.returns-clause-came
returns-clause-came g c = λ none.
    let state = g.D.RunDepacketizer.state in
    let w = depacketization (state c.args.receiver.now.depacketizer) c.args.out.now.items c.args.codec_extra.now in
    let new = sequenced_depacketization (state c.loop-sequence.receiver.depacketizer) c.loop-sequence.receiver.expected c.loop-sequence.out.items c.loop-sequence.codec_extra in
    taken_written c.args.receiver.now.run_limit w (sequenced_packets c.args.packets.now) c.loop-sequence.answers.items new c.what_came_is_written.ensures c.meets_the_facts.ensures
    (subst (λ (x : Option ℕ). AreAllReceived c.args.receiver.now.run_limit (with_expected w x) (sequenced_packets c.args.packets.now) c.loop-sequence.answers.items new) none (returns-clause-received g c))

pub returns-clause-in_order : goal.returns-clause-in_order
returns-clause-in_order g c = λ none fine.
    let state = g.D.RunDepacketizer.state in
    let w = depacketization (state c.args.receiver.now.depacketizer) c.args.out.now.items c.args.codec_extra.now in
    let packets = sequenced_packets c.args.packets.now in
    let answers = c.loop-sequence.answers.items in
    let new = sequenced_depacketization (state c.loop-sequence.receiver.depacketizer) c.loop-sequence.receiver.expected c.loop-sequence.out.items c.loop-sequence.codec_extra in
    came_written c.args.receiver.now.run_limit w packets answers c.loop-sequence.out.items c.loop-sequence.codec_extra
    (subst (λ (x : Option ℕ). AreAllReceived c.args.receiver.now.run_limit (with_expected w x) packets answers new) none (returns-clause-received g c)).each
    fine (returns-clause-whole g c none)

pub returns-clause-refusals : goal.returns-clause-refusals
returns-clause-refusals g c =
    let w = depacketization (g.D.RunDepacketizer.state c.args.receiver.now.depacketizer) c.args.out.now.items c.args.codec_extra.now in
    refusals_are_want c.args.receiver.now.run_limit w c.args.receiver.now.expected (sequenced_packets c.args.packets.now) c.loop-sequence.answers.items
    c.what_calls_send_is_carried.ensures c.meets_the_facts.ensures (returns-clause-received g c).each

pub returns-clause-rest : goal.returns-clause-rest
returns-clause-rest g c =
    let payloads = map (λ (p : ℕ × List ℕ). p.1) (sequenced_packets c.args.packets.now) in
    let past : length payloads ≤ c.loop-sequence.sequence-index = rw (length-map, length-map) c.loop-sequence-test.false in
    subst (λ (l : List (List ℕ)). g.D.RunDepacketizer.with_run None c.loop-sequence.receiver.depacketizer
    ≡ g.D.RunDepacketizer.with_run None (having_taken_all g.D.RunDepacketizer.having_taken l c.loop-sequence.answers.items c.args.receiver.now.depacketizer))
    (take_all c.loop-sequence.sequence-index payloads past) c.loop-sequence.invariant.rest
