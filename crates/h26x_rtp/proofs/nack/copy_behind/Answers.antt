use Rattle.std.proofs.Common.{◌+◌, [], ◌∷◌, length, ap, sym, ◌∙◌, arith}
use Rattle.h26x_rtp.specs.Memory.{filled_from}
use Rattle.h26x_rtp.proofs.MemoryLemmas.{filled_both}
use Rattle.h26x_rtp.proofs.nack.copy_behind.Goals as goal

pub loop-number-preserved : goal.loop-number-preserved
loop-number-preserved c =
    let at = c.loop-number in
    let number = c.in-Some.number in
    let rest = c.next.new.self in
    let first = c.in-Some.ensures.steps in
    record {
      copied = ap (filled_from (at.end + 1) rest) c.put_number.ensures ∙ filled_both at.end (number ∷ []) rest at.to
          ∙ ap (λ numbers. filled_from at.end numbers at.to) (sym first) ∙ at.invariant.copied;
      count = omega (arith, ap length first, at.invariant.count);
    }
