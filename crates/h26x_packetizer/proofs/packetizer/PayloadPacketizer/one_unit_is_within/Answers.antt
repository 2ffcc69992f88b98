use Rattle.h26x_packetizer.specs.PacketizerView.{packetizer_state}
use Rattle.h26x_packetizer.proofs.packetizer.PayloadPacketizer.one_unit_is_within.Goals as goal

pub returns : goal.returns
returns g c =
    let h = c.args.self.now in
    c.a_unit_sent_as_it_is.ensures.within (packetizer_state (g.C.PayloadFormat.format h.codec) h) c.args.mtu c.args.unit.now (g.met.C.PayloadFormat.fits h.codec)
