use Rattle.std.proofs.Common.{◌≡◌, ◌++◌, ◌∷◌, [], List, map, sym, ap, ◌∙◌, arith}
use Rattle.h26x_rtp_sender.specs.declared.sent.SentPacket.{SentPacket}
use Rattle.h26x_rtp_sender.specs.Sent.{sent_view}
use Rattle.h26x_rtp_sender.specs.History.{last_within}
use Rattle.h26x_rtp_sender.proofs.HistoryLemmas.{one_and_rest, last_stays}
use Rattle.h26x_rtp_sender.proofs.history.hold_all.Goals as goal

pub loop-packet-preserved : goal.loop-packet-preserved
loop-packet-preserved c =
    let at = c.loop-packet in
    let bound = c.args.bound in
    let held = map sent_view at.packets.items in
    let it = sent_view c.in-Some.packet in
    let new = map sent_view c.hold-held.new.packets.items in
    let rest = map sent_view c.pop_front.new.self.items in
    let first : at.rest.items ≡ c.in-Some.packet ∷ c.pop_front.new.self.items = c.in-Some.ensures.items in
    let here = c.hold-held.ensures in
    record {
      last = one_and_rest bound held new rest it here.packets
          ∙ ap (λ (l : List SentPacket). last_within bound (held ++ map sent_view l)) (sym first) ∙ at.invariant.last;
      held = record {
        bytes = here.size;
        within = here.within;
        all = last_stays bound (held ++ it ∷ []) new here.packets;
      };
      room = omega (arith, at.invariant.room, here.len, here.capacity, c.in-Some.ensures.len);
    }
