use Rattle.std.proofs.Common.{◌≡◌, ◌++◌, ap, sym}
use Rattle.h26x_model.specs.Send.Plan.{unit_items, sets_items}
use Rattle.h26x_payload.specs.Sets.{sets_list}
use Rattle.h26x_packetizer.specs.Sending.{outgoing_to_items}
use Rattle.h26x_packetizer.proofs.SendLemmas.{sends_ok}
use Rattle.h26x_packetizer.proofs.units.push_outgoing.Goals as goal

pub returns-in_ok-next-in-SetsAndUnit-clause-sent : goal.returns-in_ok-next-in-SetsAndUnit-clause-sent
returns-in_ok-next-in-SetsAndUnit-clause-sent g c =
    let f = g.C.PayloadFormat.format c.args.codec in
    let sets = sets_items f c.args.limit (sets_list c.in-SetsAndUnit.sets) c.args.unit.now in
    let alone = unit_items f c.args.limit c.args.unit.now in
    let is : outgoing_to_items f c.args.limit c.args.unit.now c.args.outgoing ≡ sets ++ alone = ap (outgoing_to_items f c.args.limit c.args.unit.now) c.in-SetsAndUnit.is in
    let first : g.S.PacketSink.packets c.args.made.now ≡ g.S.PacketSink.packets c.reserve-in-SetsAndUnit.new.self = sym c.reserve-in-SetsAndUnit.ensures.same in
    rw first (sends_ok f (c.donl_has_two_bytes.ensures.round f (g.met.C.PayloadFormat.dons c.args.codec)) c.args.don c.in_ok-next-in-SetsAndUnit.next sets alone _
    _ _ _ c.push_unit-in-SetsAndUnit.result is c.in_ok-next-in-SetsAndUnit.ensures.sent c.push_unit-in-SetsAndUnit.ensures.sent)
