use Rattle.std.proofs.Common.{◌∙◌, ap, suc, arith}
use Rattle.h26x_access_units.specs.FrameNumber.{behind_lists}
use Rattle.h26x_access_units.proofs.frame_number.pass_lists.Goals as goal

pub loop-preserved : goal.loop-preserved
loop-preserved c = λ left e. ap (behind_lists left c.args.size) c.pass_list_if.ensures ∙ c.loop.invariant (suc left) (omega (arith, e))

pub returns : goal.returns
returns c = let last = c.loop-test.false in let end = c.loop.auto.counter-end in c.loop.invariant 0 (omega (arith, last, end))
