use Rattle.std.proofs.Common.{rules, ◌≡◌, ap, sym, ◌∙◌, suc, ◌-◌, ◌<◌, take, arith}
use Rattle.h26x_packetizer.specs.Buffer.{last_end}
use Rattle.h26x_packetizer.proofs.BufferLemmas.{last_at}
use Rattle.h26x_packetizer.proofs.buffer.end_of_first.Goals as goal

pub returns-else-count-eq0 : goal.returns-else-count-eq0
returns-else-count-eq0 c =
    let some : 0 < c.args.count = search rules in
    let last = c.args.count - 1 in
    let e : suc last ≡ c.args.count = omega (arith, some) in
    sym (last_at 0 c.args.ends.now last (omega (arith, some, c.requires))) ∙ ap (λ k. last_end 0 (take k c.args.ends.now)) e
