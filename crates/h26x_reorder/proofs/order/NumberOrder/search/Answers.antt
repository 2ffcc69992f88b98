use Rattle.std.proofs.Common.{arith, ◌≡◌, ◌<◌, ◌+◌, ◌-◌, ◌/◌, length}
use Rattle.h26x_reorder.proofs.HeldLemmas.{BelongsAt, nearer_up_to, further_from, found_in_middle, not_held, put_at}
use Rattle.h26x_reorder.proofs.order.NumberOrder.search.Given.{Over}
use Rattle.h26x_reorder.proofs.order.NumberOrder.search.Goals as goal

pub returns-then-there-ahead : goal.returns-then-there-ahead
returns-then-there-ahead g c =
    let middle = c.loop-low.low + (c.loop-low.high - c.loop-low.low) / 2 in
    let within : middle < length c.args.self.now.held = omega arith in
    let small : c.args.due < 65536 = omega (arith, c.ranges.due.fits) in
    let one : c.args.number < 65536 = omega (arith, c.ranges.number.fits) in
    found_in_middle c.args.due c.args.number c.args.self.now.held c.requires middle c.ahead_at-there.result within c.ahead_at-there.ensures small one c.if-there-ahead.true

pub loop-low-preserved-then-there-ahead-2 : goal.loop-low-preserved-then-there-ahead-2
loop-low-preserved-then-there-ahead-2 g c =
    let middle = c.loop-low.low + (c.loop-low.high - c.loop-low.low) / 2 in
    let within : middle < length c.args.self.now.held = omega arith in
    record {
      rise = omega arith;
      in_range = c.loop-low.invariant.in_range;
      before = nearer_up_to c.args.due c.args.number c.args.self.now.held c.requires middle c.ahead_at-there.result within c.ahead_at-there.ensures c.if-there-ahead-2.true;
      behind = c.loop-low.invariant.behind;
    }

pub loop-low-preserved : goal.loop-low-preserved
loop-low-preserved g c =
    let middle = c.loop-low.low + (c.loop-low.high - c.loop-low.low) / 2 in
    let within : middle < length c.args.self.now.held = omega arith in
    record {
      rise = omega arith;
      in_range = omega arith;
      before = c.loop-low.invariant.before;
      behind = further_from c.args.due c.args.number c.args.self.now.held c.requires middle c.ahead_at-there.result within c.ahead_at-there.ensures (omega arith);
    }

belongs : (g : Over) (c : goal.After-loop-low g) → BelongsAt c.args.due c.args.number c.args.self.now.held c.loop-low.low
belongs g c =
    let same : c.loop-low.low ≡ c.loop-low.high = omega arith in
    record {
      in_range = omega arith;
      before = c.loop-low.invariant.before;
      behind = λ k d le lt. c.loop-low.invariant.behind k d (omega arith) lt;
    }

pub returns : goal.returns
returns g c =
    let at = belongs g c in
    record {
      absent = not_held c.args.due c.args.number c.args.self.now.held c.loop-low.low at;
      in_range = at.in_range;
      put = λ packet. put_at c.args.due c.args.number packet c.args.self.now.held c.loop-low.low at;
    }
