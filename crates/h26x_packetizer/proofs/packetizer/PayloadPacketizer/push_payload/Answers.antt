use Rattle.std.proofs.Common.{rules, ap, ◌≡◌, ◌∷◌, [], ◌∙◌, arith}
use Rattle.h26x_packetizer.proofs.SendLemmas.{sends_unit, sends_end, waits_more, skipped_more}
use Rattle.h26x_packetizer.specs.Sending.{ArePushed, outgoing_to_items, waiting_with_brought}
use Rattle.h26x_packetizer.specs.PacketizerView.{PacketizerView}
use Rattle.h26x_packetizer.specs.declared.packetizer.Brought.{Brought}
use Rattle.h26x_packetizer.proofs.packetizer.PayloadPacketizer.push_payload.Goals as goal

pub loop-unit-preserved : goal.loop-unit-preserved
loop-unit-preserved g c =
    let f = g.C.PayloadFormat.format c.args.self.now.codec in
    let w = c.args.self.now.waiting in
    let before = waiting_with_brought w c.loop-unit.brought in
    let after = waiting_with_brought w c.next_outgoing-outgoing.new.brought in
    let is : c.loop-unit.unit-iterator ≡ c.in-Some.unit.now ∷ c.next.new.self = search rules in
    let inv = c.loop-unit.invariant in
    let x = g.S.PacketSink.packets c.loop-unit.made in
    let y = g.S.PacketSink.packets c.push_outgoing.new.made in
    let outgoing = outgoing_to_items f c.args.limit c.in-Some.unit.now c.next_outgoing-outgoing.result in
    let codec : c.self.inside.codec ≡ c.args.self.now.codec = ap (λ (h : PacketizerView _). h.codec) c.self.view_is in
    let here : ArePushed f c.loop-unit.don outgoing x y c.in_ok-don.don = rw codec at c.in_ok-don.ensures.sent in
    record {
      small = let n = here.don in omega (arith, n);
      sent = λ all next behind. inv.sent all next (sends_unit f (c.donl_has_two_bytes.ensures.round f (g.met.C.PayloadFormat.dons c.args.self.now.codec)) before after c.args.limit c.loop-unit.don c.in_ok-don.don next c.in-Some.unit.now c.loop-unit.unit-iterator c.next.new.self
          outgoing x y all is (c.next_outgoing-outgoing.ensures.sent c.args.limit) c.next_outgoing-outgoing.ensures.waits here behind);
      before = search rules;
      waits = waits_more f before after _ c.args.limit c.in-Some.unit.now c.loop-unit.unit-iterator c.next.new.self is c.next_outgoing-outgoing.ensures.waits inv.waits;
      skipped = λ all.
          let (left, no_vps, no_sps, no_pps) = inv.skipped all in
          let (here, later) = skipped_more f c.in-Some.unit.now c.loop-unit.unit-iterator c.next.new.self is left in
          let same = (c.next_outgoing-outgoing.ensures.skipped here).1 in
          (later, ap (λ (b : Brought). b.vps) same ∙ no_vps, ap (λ (b : Brought). b.sps) same ∙ no_sps, ap (λ (b : Brought). b.pps) same ∙ no_pps);
    }

pub returns-clause-sent : goal.returns-clause-sent
returns-clause-sent g c =
    let f = g.C.PayloadFormat.format c.args.self.now.codec in
    let none : c.loop-unit.unit-iterator ≡ [] = search rules in
    c.loop-unit.invariant.sent _ _ (sends_end f (waiting_with_brought c.args.self.now.waiting c.loop-unit.brought) c.args.limit c.loop-unit.don c.loop-unit.unit-iterator _ c.loop-unit.invariant.small none)
