use Rattle.std.proofs.Common.{length, ap, sym, ◌∙◌, length-append, arith}
use Rattle.std.specs.List.{flat_map}
use Rattle.h26x_rtp.specs.Nack.{pair_numbers}
use Rattle.h26x_rtp.proofs.NackLemmas.{copies_fit, pairs_copied}
use Rattle.h26x_rtp.proofs.nack.NackPairs.copy_numbers.Goals as goal

pub copy_behind-count-requires : goal.copy_behind-count-requires
copy_behind-count-requires c = rw c.numbers.ensures (copies_fit c.loop-pair.count c.self.inside.bytes.now c.in-Some.pair c.args.self.now c.loop-pair.pair-iterator c.next.new.self
    c.self.invariant (sym c.self.view_is) c.in-Some.ensures.steps c.loop-pair.invariant.counted)

pub loop-pair-preserved : goal.loop-pair-preserved
loop-pair-preserved c =
    let at = c.loop-pair in
    let behind = c.next.new.self in
    let numbers = pair_numbers c.in-Some.pair in
    let first = ap (flat_map pair_numbers) c.in-Some.ensures.steps in
    let count = ap length c.numbers.ensures in
    let l = length-append numbers (flat_map pair_numbers behind) in
    record {
      copied = pairs_copied at.count c.copy_behind-count.result c.in-Some.pair at.pair-iterator behind c.numbers.result at.to c.copy_behind-count.new.to
          c.in-Some.ensures.steps c.numbers.ensures c.copy_behind-count.ensures.copied c.copy_behind-count.ensures.end ∙ at.invariant.copied;
      counted = omega (arith, ap length first, count, l, c.copy_behind-count.ensures.end, at.invariant.counted);
    }
