use Rattle.std.proofs.Common.{subst}
use Rattle.h26x_model.specs.Send.PacketizerState.{next_call}
use Rattle.h26x_model.specs.Carry.Laws.{PacketizerGoesOn}
use Rattle.h26x_packetizer.specs.PacketizerView.{PacketizerView, IsPacketizer, packetizer_state}
use Rattle.h26x_packetizer.proofs.HeldLemmas.{held_same}
use Rattle.h26x_packetizer.proofs.packetizer.PayloadPacketizer.goes_as_planned.Goals as goal

pub returns-clause-planned : goal.returns-clause-planned
returns-clause-planned g c =
    let h = c.args.self.now in
    let f = g.C.PayloadFormat.format h.codec in
    let is : IsPacketizer f (packetizer_state f h) = subst (λ (x : PacketizerView _). IsPacketizer (g.C.PayloadFormat.format x.codec) (packetizer_state (g.C.PayloadFormat.format x.codec) x)) c.self.view_is c.self.invariant in
    let law : PacketizerGoesOn (packetizer_state f h) = c.packetizers_go_on.ensures.goes_on (packetizer_state f h) (g.met.C.PayloadFormat.fits h.codec) (g.met.C.PayloadFormat.dons h.codec) is.is in
    law.planned (next_call (packetizer_state f h) c.args.mtu c.args.b.now)

pub returns-clause-without_effect : goal.returns-clause-without_effect
returns-clause-without_effect g c =
    let h = c.args.self.now in
    let f = g.C.PayloadFormat.format h.codec in
    let is : IsPacketizer f (packetizer_state f h) = subst (λ (x : PacketizerView _). IsPacketizer (g.C.PayloadFormat.format x.codec) (packetizer_state (g.C.PayloadFormat.format x.codec) x)) c.self.view_is c.self.invariant in
    let law : PacketizerGoesOn (packetizer_state f h) = c.packetizers_go_on.ensures.goes_on (packetizer_state f h) (g.met.C.PayloadFormat.fits h.codec) (g.met.C.PayloadFormat.dons h.codec) is.is in
    λ none. held_same f h c.args.mtu c.args.b.now law none
