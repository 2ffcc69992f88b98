use Rattle.std.proofs.Common.{◌≡◌, ◌+◌, ◌^◌, ◌≤◌, ◌⊎◌, inl, inr, length, get_or, ap, ◌∙◌, arith}
use Rattle.std.proofs.lemmas.Nat.{one_shl}
use Rattle.h26x_core.specs.Sequence.{next_sequence_number}
use Rattle.h26x_rtp.specs.Nack.{numbers_bits, bits_count}
use Rattle.h26x_rtp.proofs.NackLemmas.{below_more, below_same, bits_on, bits_past, count_on, count_past}
use Rattle.h26x_rtp.proofs.nack.following_of.Goals as goal
use Rattle.h26x_rtp.proofs.nack.following_of.Goals.{then-count-numbers+then-numbers-count, else-count-numbers, else-count-numbers-via-then-count-numbers+else-numbers-count, else-count-numbers-via-else-count-numbers}

pub loop-place-preserved : goal.loop-place-preserved
loop-place-preserved c =
    let at = c.loop-place in
    let numbers = c.args.numbers.now in
    let next = next_sequence_number at.number in
    let first = next_sequence_number c.args.first in
    let low = c.loop-place-test.true in
    elim c.if-count-numbers.branch [
      | then-count-numbers+then-numbers-count w ↦
          let more = w.if-count-numbers.true in
          let same : get_or numbers at.count 0 ≡ next = w.if-numbers-count.true in
          let set : c.if-count-numbers.following ≡ at.following + 2 ^ at.place = w.following-is ∙ ap (λ bit. at.following + bit) (one_shl at.place 16 low) in
          rw (set, w.count-is) (record {
            bits = bits_on at.place at.following next at.count (numbers_bits 16 first numbers) numbers low more same at.invariant.bits;
            counted = count_on at.place next at.count (bits_count 16 first numbers) numbers low more same at.invariant.counted;
            below = below_more at.place at.following at.invariant.below;
            within = omega (arith, more);
          })
      | else-count-numbers w ↦
          let other : (length numbers ≤ at.count) ⊎ (get_or numbers at.count 0 ≡ next → ⊥) = elim w.else-count-numbers.branch [
            | else-count-numbers-via-then-count-numbers+else-numbers-count u ↦ inr u.if-numbers-count.false
            | else-count-numbers-via-else-count-numbers u ↦ inl u.if-count-numbers.false
          ] in
          rw (w.following-is, w.count-is) (record {
            bits = bits_past at.place at.following next at.count (numbers_bits 16 first numbers) numbers low other at.invariant.bits;
            counted = count_past at.place next at.count (bits_count 16 first numbers) numbers low other at.invariant.counted;
            below = below_same at.place at.following at.invariant.below;
            within = at.invariant.within;
          })
    ]
