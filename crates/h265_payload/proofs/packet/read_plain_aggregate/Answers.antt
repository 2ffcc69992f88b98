use Rattle.std.proofs.Common.{◌-◌, ◌∙◌, ap, arith, false, None, take, drop, length}
use Rattle.std.proofs.lemmas.List.{length-drop, take_all}
use Rattle.h26x_depacketizer.specs.DepacketizerView.{taken_as}
use Rattle.h26x_depacketizer.proofs.ReceivingLemmas.{units_taken}
use Rattle.h265_payload.specs.Shown.{others_of}
use Rattle.h265_payload.proofs.AggregateLemmas.{plain_accepted, plain_shown, units_without}
use Rattle.h265_payload.proofs.packet.read_plain_aggregate.Goals as goal

pub returns-clause-accepted : goal.returns-clause-accepted
returns-clause-accepted c =
    let all = take_all (length c.args.packet.now - 2) (drop 2 c.args.packet.now) (simp length-drop (omega arith)) in
    record {
      reading = ap taken_as (plain_accepted c.args.packet.now _ c.requires.long c.requires.clear c.requires.kind all c.in_ok-size.ensures.whole)
          ∙ units_taken _ _ (units_without false None (others_of false (take (length c.args.packet.now - 2) (drop 2 c.args.packet.now))));
      checked = c.in_ok-size.ensures.size;
    }

pub returns-clause-shows : goal.returns-clause-shows
returns-clause-shows c =
    let all = take_all (length c.args.packet.now - 2) (drop 2 c.args.packet.now) (simp length-drop (omega arith)) in
    (c.requires.long, plain_shown c.args.packet.now _ c.requires.long c.requires.kind all c.in_ok-size.ensures.whole, c.in_ok-size.ensures.whole)
