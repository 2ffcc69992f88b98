use Rattle.std.proofs.Common.{◌≡◌, ◌*◌, ◌+◌, ◌≤◌, ◌∙◌, ℕ, List, ap, arith, length, refl, sym, take}
use Rattle.std.proofs.lemmas.List.{take_all}
use Rattle.h26x_lines.specs.Digits.{are_digits, bytes_of, joined}
use Rattle.h26x_lines.proofs.DigitLemmas.{next_bytes, next_seen, values_of_fold}
use Rattle.h26x_lines.proofs.from_digits.read_blocks.Goals as goal

pub loop-at-init : goal.loop-at-init
unfolding joined
loop-at-init c = record { whole = refl; seen = refl; bytes = λ _. refl }

pub loop-at-preserved : goal.loop-at-preserved
loop-at-preserved c =
    let at = c.loop-at.at in
    let first : List ℕ = c.nibbles-first.result in
    let second : List ℕ = c.nibbles-second.result in
    let l1 : length first ≡ 16 = omega arith in
    let l2 : length second ≡ 16 = omega arith in
    let fits : at + 16 ≤ length c.loop-at.bytes = omega arith in
    let room : 2 * at + 32 ≤ length c.args.text.now = omega arith in
    let e1 = c.nibbles-first.ensures in
    let e2 = c.nibbles-second.ensures in
    record {
      whole = omega arith;
      seen = next_seen c.args.text.now at room first second l1 l2 e1 e2 c.loop-at.seen c.loop-at.auto.seen.0 c.loop-at.invariant.seen;
      bytes = next_bytes c.args.text.now at room first second l1 l2 e1 e2 c.loop-at.bytes c.joined_pairs.result fits (omega arith) c.joined_pairs.ensures c.loop-at.invariant.bytes;
    }

pub returns-clause-digits : goal.returns-clause-digits
returns-clause-digits c =
    let all : take (2 * c.loop-at.at) c.args.text.now ≡ c.args.text.now = take_all _ _ (omega arith) in
    values_of_fold 0 c.loop-at.seen ∙ c.loop-at.invariant.seen ∙ ap are_digits all

pub returns-clause-bytes : goal.returns-clause-bytes
returns-clause-bytes c h =
    let all : take (2 * c.loop-at.at) c.args.text.now ≡ c.args.text.now = take_all _ _ (omega arith) in
    sym (take_all c.loop-at.at c.loop-at.bytes (omega arith))
    ∙ c.loop-at.invariant.bytes (sym c.loop-at.invariant.seen ∙ sym (values_of_fold 0 c.loop-at.seen) ∙ h)
    ∙ ap bytes_of all
