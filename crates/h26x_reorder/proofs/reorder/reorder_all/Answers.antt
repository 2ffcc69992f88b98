use Rattle.std.proofs.Common.{rules, arith, Bor, ◌≡◌, ◌∙◌, ◌<◌, ◌≤◌, ◌++◌, ◌∷◌, [], ap, map, ℕ, get_or, length, take, subst, sym}
use Rattle.std.proofs.lemmas.Grind.{common_steps}
use Rattle.std.proofs.lemmas.List.{length-map, get_or-map, take_more, take_all}
use Rattle.h26x_reorder.specs.Rtp.{RtpBody}
use Rattle.h26x_reorder.specs.ReorderBuffer.{numbered_packet, reordered, IsPutInOrder}
use Rattle.h26x_reorder.proofs.BufferLemmas.{map_more}
use Rattle.h26x_reorder.proofs.PlaceShiftLemmas.{put_in_order_all}
use Rattle.h26x_reorder.proofs.reorder.reorder_all.Goals as goal

-- the packet that a reference is of
abbrev seen : Bor (ℕ × RtpBody) → ℕ × RtpBody
seen p = p.now

pub loop-packet-preserved : goal.loop-packet-preserved
loop-packet-preserved c =
    let items = c.deref-packet-items.result.now in
    let i = c.loop-packet.packet-index in
    let p : ℕ × RtpBody = c.packet-item.result.now in
    let copy = c.in_ok-copy.field-0 in
    let within : i < length (map seen items) = rw length-map c.loop-packet-test.true in
    let here : get_or (map seen items) i p ≡ p = get_or-map seen items i c.packet-item.result p c.loop-packet-test.true ∙ ap seen (sym c.packet-item.is) in
    let same : numbered_packet copy ≡ p = c.in_ok-copy.ensures ∙ ap (λ (q : Bor (ℕ × RtpBody)). (q.now.0, p.1)) c.packet.view_is in
    let pushed : c.push.new.self.items ≡ c.loop-packet.out.items ++ copy ∷ [] = search rules in
    record {
      count = grind (arith, common_steps);
      room = grind (arith, common_steps);
      copies = ap (map numbered_packet) pushed
          ∙ map_more numbered_packet c.loop-packet.out.items copy
          ∙ ap (λ l. l ++ numbered_packet copy ∷ []) c.loop-packet.invariant.copies
          ∙ ap (λ (q : ℕ × RtpBody). take i (map seen items) ++ q ∷ []) (same ∙ sym here)
          ∙ sym (take_more (map seen items) i p within);
    }

pub returns-clause-in_order : goal.returns-clause-in_order
returns-clause-in_order c =
    let items = c.deref-packet-items.result.now in
    let packets = c.args.packets.now in
    let past : length (map seen items) ≤ c.loop-packet.packet-index = rw length-map c.loop-packet-test.false in
    let given : map numbered_packet c.loop-packet.out.items ≡ reordered c.args.window packets =
    c.loop-packet.invariant.copies ∙ take_all c.loop-packet.packet-index (map seen items) past ∙ ap (map seen) c.deref-packet-items.ensures.value ∙ c.in_ok-ordered.ensures in
    subst (IsPutInOrder c.args.window packets) (sym given) (put_in_order_all c.args.window packets c.requires.some c.requires.half)
