use Rattle.std.proofs.Common.{rules, ◌-◌, arith, []}
use Rattle.h26x_model.specs.Send.Every.{with_own_aggregates, every_unit, units_items}
use Rattle.h26x_packetizer.specs.Group.{lent_units, may_share, fitting}
use Rattle.h26x_packetizer.proofs.SendLemmas.{sends_none, sends_ok}
use Rattle.h26x_packetizer.proofs.EveryLemmas.{one_group}
use Rattle.h26x_packetizer.proofs.GroupLemmas.{first_several}
use Rattle.h26x_packetizer.proofs.every.push_in_one.Goals as goal

pub returns-clause-sent : goal.returns-clause-sent
returns-clause-sent g c = λ packing go.
    let f = g.C.PayloadFormat.format c.args.codec in
    let every = with_own_aggregates f (g.C.EveryFormat.aggregate c.args.codec) in
    let share = may_share packing (g.C.EveryFormat.is_slice c.args.codec) in
    let start = g.C.EveryFormat.start c.args.codec in
    let each = g.C.EveryFormat.each c.args.codec in
    let limit = c.args.limit in
    let units = lent_units c.args.units.now in
    let don = c.args.don in
    let made = g.S.PacketSink.packets c.args.made.now in
    let fit = go.fit in
    let several = go.several in
    let two = g.met.C.EveryFormat.some_each c.args.codec in
    let split = first_several f share start each limit units (g.met.C.EveryFormat.by_sum c.args.codec) c.requires.limit (omega (arith, two)) (omega (arith, fit, several)) in
    sends_ok every (c.donl_has_two_bytes.ensures.round every (g.met.C.EveryFormat.dons_every c.args.codec)) don don [] (units_items limit units) (every_unit every share limit units)
    made made _ _ (one_group every share limit (fitting share each (limit - start) units) units split fit) (sends_none every don made (search rules)) c.push_group.ensures.sent
