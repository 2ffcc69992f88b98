use Rattle.std.proofs.Common.{◌<◌, length, arith}
use Rattle.h26x_sdp_handles.specs.SdpValues.{point_told}
use Rattle.h26x_sdp_handles.proofs.SdpValueLemmas.{all_there, entry_behind, no_room_left}
use Rattle.h26x_sdp_handles.proofs.sdp_values.put_points.Goals as goal

pub loop-place-preserved : goal.loop-place-preserved
loop-place-preserved c =
    let before = c.loop-place-test.true in
    let room = c.if-place-to.true in
    let same = c.loop-place.auto.to in
    let fits : c.loop-place.place < length c.args.to.now = omega (arith, room, same) in
    record {
      within = omega (arith, before);
      fit = omega (arith, fits);
      put = entry_behind (point_told c.args.it.now c.args.or_default) c.args.points.now c.args.to.now c.loop-place.to c.loop-place.place _ _ before fits c.loop-place.invariant.put
          c.numbers_told.ensures;
    }

pub returns-else-place-to : goal.returns-else-place-to
returns-else-place-to c =
    let full = c.if-place-to.false in
    let same = c.loop-place.auto.to in
    let fit = c.loop-place.invariant.fit in
    no_room_left (point_told c.args.it.now c.args.or_default) c.args.points.now c.args.to.now c.loop-place.to c.loop-place.place (omega (arith, full, same, fit))
    c.loop-place.invariant.within c.loop-place.invariant.put

pub returns-after-loop-place : goal.returns-after-loop-place
returns-after-loop-place c =
    let all = c.loop-place-test.false in
    let within = c.loop-place.invariant.within in
    all_there (point_told c.args.it.now c.args.or_default) c.args.points.now c.args.to.now c.loop-place.to c.loop-place.place (omega (arith, all, within))
    c.loop-place.invariant.fit c.loop-place.invariant.put
