use Rattle.std.proofs.Common.{rules, ◌≡◌, ◌<◌, ◌++◌, ◌∷◌, [], List, true, false, map, length, sym, ap, ◌∙◌, arith}
use Rattle.std.proofs.lemmas.Bool.Decides.{nat_tests}
use Rattle.std.proofs.lemmas.List.{length-map}
use Rattle.h26x_rtp_sender.specs.declared.sent.SentPacket.{SentPacket}
use Rattle.h26x_rtp_sender.specs.Sent.{sent_view}
use Rattle.h26x_rtp_sender.specs.History.{history_bytes, are_within, last_within}
use Rattle.h26x_rtp_sender.proofs.HistoryLemmas.{place_is, oldest_goes, one_held, one_bytes}
use Rattle.h26x_rtp_sender.proofs.history.hold.Goals as goal

pub loop-packets-preserved : goal.loop-packets-preserved
loop-packets-preserved c =
    let at = c.loop-packets in
    let it = sent_view c.args.packet in
    let gone = c.drop_oldest-held.ensures in
    let more : c.len-more.result ≡ length c.args.packet.payload.items = c.len-more.ensures ∙ c.args.packet.payload.ok.0 in
    let count : c.len.result ≡ length (map sent_view at.packets.items) = c.len.ensures ∙ at.packets.ok.0 ∙ sym (length-map at.packets.items sent_view) in
    let full : c.has_place.result ≡ false = search rules in
    let isnt : are_within c.args.bound (map sent_view at.packets.items ++ it ∷ []) ≡ false =
    place_is c.args.bound at.held c.len.result c.len-more.result (map sent_view at.packets.items) it at.invariant.bytes at.invariant.within count more
    ∙ sym c.has_place.ensures ∙ full in
    let held : c.is_empty.result ≡ false = search rules in
    let empty = c.is_empty.ensures in
    let counted = at.packets.ok.0 in
    let some : 0 < length at.packets.items = grind (arith, nat_tests, held, empty, counted) in
    record {
      last = ap (λ (items : List SentPacket). last_within c.args.bound (map sent_view items ++ it ∷ [])) gone.rest
          ∙ oldest_goes c.args.bound at.packets.items it some isnt ∙ at.invariant.last;
      bytes = omega (arith, at.invariant.bytes, gone.size);
      within = omega (arith, at.invariant.within);
      len = omega (arith, at.invariant.len, gone.len);
      capacity = gone.capacity ∙ at.invariant.capacity;
    }

pub returns-clause-packets : goal.returns-clause-packets
returns-clause-packets c =
    let at = c.loop-packets in
    let it = sent_view c.args.packet in
    let more : c.len-more.result ≡ length c.args.packet.payload.items = c.len-more.ensures ∙ c.args.packet.payload.ok.0 in
    let count : c.len-2.result ≡ length (map sent_view at.packets.items) = c.len-2.ensures ∙ at.packets.ok.0 ∙ sym (length-map at.packets.items sent_view) in
    let free : c.has_place-2.result ≡ true = search rules in
    let is : are_within c.args.bound (map sent_view at.packets.items ++ it ∷ []) ≡ true =
    place_is c.args.bound at.held c.len-2.result c.len-more.result (map sent_view at.packets.items) it at.invariant.bytes at.invariant.within count more
    ∙ sym c.has_place-2.ensures ∙ free in
    ap (map sent_view) c.push_back_reserved.ensures.items ∙ one_held c.args.bound at.packets.items c.args.packet is ∙ at.invariant.last

pub returns-clause-size : goal.returns-clause-size
returns-clause-size c =
    let at = c.loop-packets in
    let more : c.len-more.result ≡ length c.args.packet.payload.items = c.len-more.ensures ∙ c.args.packet.payload.ok.0 in
    let all = one_bytes at.packets.items c.args.packet in
    let new = ap (λ (items : List SentPacket). history_bytes (map sent_view items)) c.push_back_reserved.ensures.items in
    omega (arith, at.invariant.bytes, more, all, new)
