use Rattle.std.proofs.Common.{rules, ◌≡◌, ◌-◌, ◌<◌, ◌≤◌, ◌⊎◌, inl, inr, length, slice_index_or, Some, sym, ap, ◌∙◌, arith}
use Rattle.std.proofs.lemmas.Bool.Decides.{nat_tests}
use Rattle.h26x_core.specs.Sequence.{distance_ahead}
use Rattle.h26x_rtp_sender.specs.declared.sent.SentPacket.{SentPacket}
use Rattle.h26x_rtp_sender.specs.Sent.{sent_view}
use Rattle.h26x_rtp_sender.proofs.NumberLemmas.{found, missed}
use Rattle.h26x_rtp_sender.proofs.history.packet_of.Goals.{then-back-eq0-via-then-back-eq0, then-back-eq0-via-else-back-eq0+then-len-back}
use Rattle.h26x_rtp_sender.proofs.history.packet_of.Goals as goal

pub returns-then-back-eq0 : goal.returns-then-back-eq0
returns-then-back-eq0 c =
    let packets = c.args.packets.now in
    let counted = packets.ok.0 in
    let few = c.requires.few in
    let is : c.from-back.result ≡ distance_ahead c.args.number c.args.next = search rules in
    let past : (c.from-back.result ≡ 0) ⊎ (length packets.items < c.from-back.result) = elim c.then-back-eq0.branch [
      | then-back-eq0-via-then-back-eq0 w ↦ let e = w.if-back-eq0.true in inl (grind (arith, nat_tests, e))
      | then-back-eq0-via-else-back-eq0+then-len-back w ↦ let e = w.if-len-back.true in let len = w.len.ensures in inr (grind (arith, nat_tests, e, len, counted))
    ] in
    sym (missed c.args.next c.args.number c.from-back.result packets.items c.ranges.next.fits c.ranges.number.fits is (omega (arith, few, counted)) c.requires.numbered past)

pub returns : goal.returns
returns c =
    let packets = c.args.packets.now in
    let counted = packets.ok.0 in
    let few = c.requires.few in
    let back = c.from-back.result in
    let it = c.index.result.now in
    let is : back ≡ distance_ahead c.args.number c.args.next = search rules in
    let len = c.len.ensures in
    let some : 0 < back = let e = c.if-back-eq0.false in grind (arith, nat_tests, e) in
    let within : back ≤ length packets.items = let e = c.if-len-back.false in grind (arith, nat_tests, e, len, counted) in
    let place : c.len-2.result - back ≡ length packets.items - back = ap (λ k. k - back) (c.len-2.ensures ∙ counted) in
    ap (λ (x : SentPacket). Some (sent_view x)) (c.index.ensures ∙ ap (λ k. slice_index_or packets.items k it) place)
    ∙ sym (found c.args.next c.args.number back packets.items it c.ranges.next.fits c.ranges.number.fits is (omega (arith, few, counted)) c.requires.numbered some within)
