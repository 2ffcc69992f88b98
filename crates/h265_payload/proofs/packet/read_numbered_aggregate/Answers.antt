use Rattle.std.proofs.Common.{rules, ◌-◌, ◌≤◌, ◌∙◌, ap, arith, true, take, drop, length}
use Rattle.std.proofs.lemmas.List.{length-drop, take_all}
use Rattle.std.proofs.lemmas.Bool.Decides.{nat_tests}
use Rattle.h26x_depacketizer.specs.DepacketizerView.{taken_as}
use Rattle.h26x_depacketizer.proofs.ReceivingLemmas.{units_taken}
use Rattle.h265_payload.specs.Shown.{others_of, donl_of}
use Rattle.h265_payload.proofs.AggregateLemmas.{numbered_accepted, numbered_shown, numbered_short, units_without}
use Rattle.h265_payload.proofs.packet.read_numbered_aggregate.Goals as goal

pub returns-in_err-size-clause-refused : goal.returns-in_err-size-clause-refused
returns-in_err-size-clause-refused c =
    let all = take_all (length c.args.packet.now - 3) (drop 3 c.args.packet.now) (simp length-drop (omega arith)) in
    let long : 4 ≤ length c.args.packet.now = grind (arith, nat_tests, c.if-packet-lt4.false) in
    let short = numbered_short c.args.packet.now _ long c.requires.clear c.requires.kind all c.in_err-size.ensures.short in
    search (rules, short)

pub returns-clause-accepted : goal.returns-clause-accepted
returns-clause-accepted c =
    let all = take_all (length c.args.packet.now - 3) (drop 3 c.args.packet.now) (simp length-drop (omega arith)) in
    let long : 4 ≤ length c.args.packet.now = grind (arith, nat_tests, c.if-packet-lt4.false) in
    record {
      reading = ap taken_as (numbered_accepted c.args.packet.now _ long c.requires.clear c.requires.kind all c.in_ok-size.ensures.whole)
          ∙ units_taken _ _ (units_without true (donl_of true (drop 2 c.args.packet.now)) (others_of true (take (length c.args.packet.now - 3) (drop 3 c.args.packet.now))));
      checked = c.in_ok-size.ensures.size;
    }

pub returns-clause-shows : goal.returns-clause-shows
returns-clause-shows c =
    let all = take_all (length c.args.packet.now - 3) (drop 3 c.args.packet.now) (simp length-drop (omega arith)) in
    let long : 4 ≤ length c.args.packet.now = grind (arith, nat_tests, c.if-packet-lt4.false) in
    (c.requires.long, numbered_shown c.args.packet.now _ long c.requires.kind all c.in_ok-size.ensures.whole, c.in_ok-size.ensures.whole)
