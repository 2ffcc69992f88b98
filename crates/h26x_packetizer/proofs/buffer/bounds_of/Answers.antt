use Rattle.std.proofs.Common.{rules, ◌≡◌, ap, sym, ◌∙◌, ◌+◌, ◌-◌, take, get_or, arith}
use Rattle.std.specs.List.{between}
use Rattle.h26x_packetizer.specs.Buffer.{last_end}
use Rattle.h26x_packetizer.proofs.BufferLemmas.{packet_at, headroom_at, packet_within}
use Rattle.h26x_packetizer.proofs.buffer.bounds_of.Goals as goal

pub overflow_add-start : goal.overflow_add-start
overflow_add-start c =
    let w = packet_within c.args.headroom 0 c.args.ends.now c.args.place c.requires.buffer.in_order c.requires.place in
    let start : c.end_of_first.result ≡ last_end 0 (take c.args.place c.args.ends.now) = search rules in
    grind (arith, w, start)

pub returns-clause-order : goal.returns-clause-order
returns-clause-order c =
    let w = packet_within c.args.headroom 0 c.args.ends.now c.args.place c.requires.buffer.in_order c.requires.place in
    let start : c.end_of_first.result ≡ last_end 0 (take c.args.place c.args.ends.now) = search rules in
    grind (arith, w, start)

pub returns-clause-within : goal.returns-clause-within
returns-clause-within c =
    let w = packet_within c.args.headroom 0 c.args.ends.now c.args.place c.requires.buffer.in_order c.requires.place in
    let all = c.requires.buffer.to_the_end in
    grind (arith, w, all)

pub returns-clause-packet : goal.returns-clause-packet
returns-clause-packet c =
    let start : c.end_of_first.result ≡ last_end 0 (take c.args.place c.args.ends.now) = search rules in
    packet_at c.args.headroom 0 c.args.bytes.now c.args.ends.now c.args.place c.requires.place
    ∙ ap (λ k. between (k + c.args.headroom) (get_or c.args.ends.now c.args.place 0) c.args.bytes.now) (sym start)

pub returns-clause-headroom : goal.returns-clause-headroom
returns-clause-headroom c =
    let h = c.args.headroom in
    let start : c.end_of_first.result ≡ last_end 0 (take c.args.place c.args.ends.now) = search rules in
    let before : (c.end_of_first.result + h) - h ≡ c.end_of_first.result = omega arith in
    headroom_at h 0 c.args.bytes.now c.args.ends.now c.args.place c.requires.place
    ∙ ap (λ k. between k (k + h) c.args.bytes.now) (sym start)
    ∙ ap (λ k. between k (c.end_of_first.result + h) c.args.bytes.now) (sym before)
