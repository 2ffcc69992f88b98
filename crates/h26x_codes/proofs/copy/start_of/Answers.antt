use Rattle.std.proofs.Common.{rules, ◌≡◌, ap, ◌∙◌, suc, ◌-◌, ◌<◌, ℕ, List, get_or, take, length, arith}
use Rattle.std.specs.List.{concat}
use Rattle.h26x_codes.proofs.CopyLemmas.{end_at}
use Rattle.h26x_codes.proofs.copy.start_of.Goals as goal

pub returns : goal.returns
returns c =
    let packets = c.args.packets.now.packets in
    let some : 0 < c.args.place = search rules in
    let last = c.args.place - 1 in
    let same : suc last ≡ c.args.place = omega (arith, some) in
    let end = end_at 0 packets last (omega (arith, some, c.requires.place)) in
    ap (λ (l : List ℕ). get_or l last 0) c.packet_ends.ensures.ends ∙ omega (arith, end) ∙ ap (λ k. length (concat (take k packets))) same
