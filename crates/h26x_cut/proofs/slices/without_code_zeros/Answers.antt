use Rattle.std.proofs.Common.{arith, ◌∙◌, sym}
use Rattle.h26x_cut.proofs.SliceLemmas.{one_zero_less, no_zero_last, none_at_all, zero_off, none_off, empty_off}
use Rattle.h26x_cut.proofs.slices.without_code_zeros.Goals as goal
use Rattle.h26x_cut.proofs.slices.without_code_zeros.Goals.{then-loop-end-test+else-segment-end-eq0, else-loop-end-test, else-len-gt0-via-then-len-gt0+else-segment-len-eq0, else-len-gt0-via-else-len-gt0}

pub loop-end-preserved : goal.loop-end-preserved
loop-end-preserved c = record {
  within = omega arith;
  same = one_zero_less c.args.segment.now c.loop-end.end c.loop-end-test.true c.loop-end.invariant.within c.if-segment-end-eq0.true ∙ c.loop-end.invariant.same;
}

pub returns-after-loop-end : goal.returns-after-loop-end
returns-after-loop-end c = rw c.in-All.is (elim c.loop-end-test.branch [
  | then-loop-end-test+else-segment-end-eq0 w ↦ sym (no_zero_last c.args.segment.now c.loop-end.end w.loop-end-test.true c.loop-end.invariant.within w.if-segment-end-eq0.false) ∙ c.loop-end.invariant.same
  | else-loop-end-test w ↦ none_at_all c.args.segment.now c.loop-end.end w.loop-end-test.false c.loop-end.invariant.same
])

pub returns-then-segment-len-eq0 : goal.returns-then-segment-len-eq0
returns-then-segment-len-eq0 c = rw c.in-AtMostThree.is (zero_off c.args.segment.now c.if-len-gt0.true c.if-segment-len-eq0.true)

pub returns-else-len-gt0 : goal.returns-else-len-gt0
returns-else-len-gt0 c = rw c.in-AtMostThree.is (elim c.else-len-gt0.branch [
  | else-len-gt0-via-then-len-gt0+else-segment-len-eq0 w ↦ sym (none_off c.args.segment.now w.if-len-gt0.true w.if-segment-len-eq0.false)
  | else-len-gt0-via-else-len-gt0 w ↦ empty_off c.args.segment.now w.if-len-gt0.false
])
