use Rattle.std.proofs.Common.{arith}
use Rattle.h26x_rtp.specs.RedViews.{block_view}
use Rattle.h26x_c.proofs.PartLemmas.{told_next, told_full, told_all, begins_next}
use Rattle.h26x_c.proofs.parts.tell_blocks.Goals as goal

pub returns-then-count-told : goal.returns-then-count-told
returns-then-count-told c =
    let at = c.loop-block in
    let full = c.if-count-told.true in
    let same = at.auto.told in
    let within = at.invariant.within in
    told_full at.count at.begin at.block-iterator at.told _ (omega (arith, full, same, within)) at.invariant.told

pub loop-block-preserved : goal.loop-block-preserved
loop-block-preserved c =
    let at = c.loop-block in
    let first = c.in-Some.ensures.steps in
    let behind = c.next.new.self in
    let room = c.if-count-told.false in
    let same = at.auto.told in
    record {
      told = told_next at.count at.begin (block_view c.in-Some.block) at.block-iterator behind c.place_of.result at.told _ first c.place_of.ensures at.invariant.told;
      fit = begins_next at.begin _ (block_view c.in-Some.block) at.block-iterator behind first at.invariant.fit;
      within = omega (arith, room, same);
    }

pub returns : goal.returns
returns c =
    let at = c.loop-block in
    told_all at.count at.begin at.block-iterator at.told _ c.in-None.ensures.steps.0 at.invariant.told
