use Rattle.std.proofs.Common.{map, arith}
use Rattle.std.proofs.lemmas.List.{length-map}
use Rattle.h26x_rtp_sender.specs.Sent.{sent_view}
use Rattle.h26x_rtp_sender.proofs.NumberLemmas.{held_few}
use Rattle.h26x_rtp_sender.proofs.history.PacketHistory.find.Goals as goal

pub packet_of-requires-clause-few : goal.packet_of-requires-clause-few
packet_of-requires-clause-few c =
    let packets = c.self.inside.packets in
    let few = held_few c.self.inside.bound (map sent_view packets.items) c.self.invariant.all in
    let long = length-map packets.items sent_view in
    omega (arith, few, long, packets.ok.0)
