use Rattle.std.proofs.Common.{◌*◌, ◌+◌, ◌<◌, ◌≤◌, refl, arith, length, get_or}
use Rattle.h26x_lines.specs.Digits.{joined}
use Rattle.h26x_lines.proofs.TableLemmas.{next_pair, pair_bytes, pair_seen}
use Rattle.h26x_lines.proofs.digits.Digits.read_by_table.Goals as goal

pub loop-at-init : goal.loop-at-init
unfolding joined
loop-at-init c = record { seen = refl; bytes = λ _. refl }

pub loop-at-preserved : goal.loop-at-preserved
loop-at-preserved c =
    let at = c.loop-at.at in
    let text = c.args.text.now in
    let room : 2 * at + 2 ≤ length text = omega arith in
    let high = get_or text (2 * at) 0 in
    let low = get_or text (2 * at + 1) 0 in
    let h : high < 256 = (c.type_inv.text (2 * at)).fits in
    let l : low < 256 = (c.type_inv.text (2 * at + 1)).fits in
    let next = next_pair text at room in
    rw (c.args.self.now.are_values, c.from.ensures, c.from-in-loop-at.ensures) (record {
      seen = pair_seen text at high low h l next c.loop-at.all c.loop-at.invariant.seen;
      bytes = pair_bytes text at high low h l next c.loop-at.bytes c.loop-at-test.true (omega arith) c.loop-at.invariant.bytes;
    })
