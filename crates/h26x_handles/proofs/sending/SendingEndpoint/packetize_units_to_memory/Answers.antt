use Rattle.std.proofs.Common.{rules, ◌≡◌, subst, ℕ, List}
use Rattle.h26x_packetizer.specs.Group.{lent_units}
use Rattle.h26x_packetizer.specs.Placement.{IsPlacement}
use Rattle.h26x_codec.specs.AnyPacketizer.{any_every_packets}
use Rattle.h26x_handles.specs.Endpoint.{SendingEndpoint}
use Rattle.h26x_handles.specs.States.{sending_units}
use Rattle.h26x_handles.proofs.sending.SendingEndpoint.packetize_units_to_memory.Goals as goal

pub returns-in-Ok-clause-packets : goal.returns-in-Ok-clause-packets
returns-in-Ok-clause-packets c =
    let out = c.packetize_units_to_memory-made in
    let now = c.args.self.now in
    let listed : lent_units c.as_slice.result.now ≡ sending_units now c.args.access_unit.now = search rules in
    subst (λ (units : List (List ℕ)). IsPlacement c.args.headroom (any_every_packets now.settings.packing now.packetizer c.args.mtu units)
    c.args.to.now out.new.to c.args.ends.now out.new.ends c.in-Ok.placement) listed
    (subst (λ (it : SendingEndpoint). IsPlacement c.args.headroom
    (any_every_packets it.settings.packing it.packetizer c.args.mtu (lent_units c.as_slice.result.now)) c.args.to.now out.new.to c.args.ends.now out.new.ends c.in-Ok.placement)
    c.self.view_is c.in-Ok.ensures.packets)
