use Rattle.std.proofs.Common.{◌≡◌, suc, ◌-◌, ◌<◌, ◌⊎◌, inl, inr, length, ap, sym, ◌∙◌, arith, rules}
use Rattle.std.specs.List.{flat_map}
use Rattle.h26x_rtp.specs.Memory.{overwritten}
use Rattle.h26x_rtp.specs.Nack.{pair_bytes}
use Rattle.h26x_rtp.proofs.MemoryLemmas.{overwritten_none}
use Rattle.h26x_rtp.proofs.NackLemmas.{behind_within, count_next, no_count, no_pairs, pair_put, pairs_next}
use Rattle.h26x_rtp.proofs.nack.put_pairs.Goals as goal
use Rattle.h26x_rtp.proofs.nack.put_pairs.Goals.{then-loop-left-test+else-not-is_empty, else-loop-left-test}

pub loop-left-preserved : goal.loop-left-preserved
loop-left-preserved c =
    let at = c.loop-left in
    let rest = at.rest.now in
    let pair = c.first_pair.result.0 in
    let behind = c.first_pair.result.1.now in
    let some : 0 < length rest = search rules in
    let less : at.left ≡ suc (at.left - 1) = let t = c.loop-left-test.true in omega (arith, t) in
    let next = ap length (pairs_next at.left (at.left - 1) pair rest behind less some c.first_pair.ensures.pair c.first_pair.ensures.left) in
    let counted = count_next at.left (at.left - 1) rest behind less some c.first_pair.ensures.left in
    let size = ap length c.bytes.ensures in
    record {
      written = pair_put at.size c.put-size.result at.left pair rest behind c.bytes.result at.to c.put-size.new.to less some c.first_pair.ensures.pair c.first_pair.ensures.left
          c.bytes.ensures c.put-size.ensures.end c.put-size.ensures.written at.invariant.room ∙ at.invariant.written;
      end = omega (arith, next, size, c.put-size.ensures.end, at.invariant.end);
      counted = omega (arith, counted, at.invariant.counted);
      room = omega (arith, less, size, c.put-size.ensures.end, at.invariant.room, c.put-size.auto.to);
      within = let w = behind_within rest behind c.first_pair.ensures.left in omega (arith, w, at.invariant.within);
    }

pub returns-clause-written : goal.returns-clause-written
returns-clause-written c =
    let at = c.loop-left in
    let none : (at.left ≡ 0) ⊎ (length at.rest.now ≡ 0) = elim c.loop-left-test.branch [
      | then-loop-left-test+else-not-is_empty w ↦ inr (search rules)
      | else-loop-left-test w ↦ inl (let t = w.loop-left-test.false in omega (arith, t))
    ] in
    sym (overwritten_none at.size at.to) ∙ ap (λ pairs. overwritten at.size (flat_map pair_bytes pairs) at.to) (sym (no_pairs at.left at.rest.now none)) ∙ at.invariant.written

pub returns-clause-count : goal.returns-clause-count
returns-clause-count c =
    let at = c.loop-left in
    let none : (at.left ≡ 0) ⊎ (length at.rest.now ≡ 0) = elim c.loop-left-test.branch [
      | then-loop-left-test+else-not-is_empty w ↦ inr (search rules)
      | else-loop-left-test w ↦ inl (let t = w.loop-left-test.false in omega (arith, t))
    ] in
    let n = no_count at.left at.rest.now none in
    omega (arith, n, at.invariant.counted)
