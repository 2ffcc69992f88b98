use Rattle.std.proofs.Common.{rules, ◌≡◌, subst, sym}
use Rattle.h26x_model.specs.Send.PacketizerState.{payload_entries}
use Rattle.h26x_model.specs.Carry.Laws.{PacketizerGoesOn}
use Rattle.h26x_packetizer.specs.PacketizerView.{PacketizerView, IsPacketizer, packetizer_state, view_after, view_with_update}
use Rattle.h26x_packetizer.proofs.HeldLemmas.{held_more}
use Rattle.h26x_packetizer.proofs.packetizer.PayloadPacketizer.prepare.Goals as goal

pub returns-clause-is : goal.returns-clause-is
returns-clause-is g c =
    let h = c.args.self.now in
    let f = g.C.PayloadFormat.format h.codec in
    let later = view_with_update h record { are_sent = c.in_ok-brought.brought.are_sent; vps = c.in_ok-vps.vps; sps = c.in_ok-sps.sps; pps = c.in_ok-pps.pps; next_don = c.if-has_donl.next_don } in
    let after : later ≡ view_after f h (payload_entries (packetizer_state f h) c.args.mtu c.args.b.now) = search rules in
    let is : IsPacketizer f (packetizer_state f h) = subst (λ (x : PacketizerView _). IsPacketizer (g.C.PayloadFormat.format x.codec) (packetizer_state (g.C.PayloadFormat.format x.codec) x)) c.self.view_is c.self.invariant in
    let law : PacketizerGoesOn (packetizer_state f h) = c.packetizers_go_on.ensures.goes_on (packetizer_state f h) (g.met.C.PayloadFormat.fits h.codec) (g.met.C.PayloadFormat.dons h.codec) is.is in
    subst (λ (x : PacketizerView _). IsPacketizer f (packetizer_state f x)) (sym after) (held_more (packetizer_state f h) (payload_entries (packetizer_state f h) c.args.mtu c.args.b.now) law is)
