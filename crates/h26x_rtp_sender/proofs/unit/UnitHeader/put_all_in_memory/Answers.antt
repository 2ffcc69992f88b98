use Rattle.std.proofs.Common.{rules, ◌≡◌, ◌≤◌, ◌<◌, ◌+◌, ◌-◌, ◌==◌, nat_eq, ℕ, List, ◌∷◌, length, length-drop, get_or, drop, sym, ap, ◌∙◌, arith, subst}
use Rattle.std.proofs.lemmas.Bool.Decides.{nat_tests}
use Rattle.std.proofs.lemmas.List.{drop_more}
use Rattle.h26x_packetizer.specs.Buffer.{ArePacketEnds, last_end, packets_from}
use Rattle.h26x_rtp_sender.specs.InMemory.{headed_before}
use Rattle.h26x_rtp_sender.specs.Sent.{unit_view, packet_headers}
use Rattle.h26x_rtp_sender.proofs.EndLemmas.{first_reached, heads_left}
use Rattle.h26x_rtp_sender.proofs.unit.UnitHeader.put_all_in_memory.Goals as goal

pub overflow_add-start : goal.overflow_add-start
overflow_add-start c =
    let at = c.loop-end in
    let ends = c.args.ends.now in
    let some : at.end-index < length ends = search rules in
    let long = length-drop at.end-index ends in
    let w = first_reached c.args.headroom at.start (drop at.end-index ends) at.invariant.order (omega (arith, long, some)) in
    let le = at.invariant.within in
    grind (arith, w, le)

pub put_before-requires-clause-within : goal.put_before-requires-clause-within
put_before-requires-clause-within c =
    let at = c.loop-end in
    let ends = c.args.ends.now in
    let some : at.end-index < length ends = search rules in
    let long = length-drop at.end-index ends in
    let w = first_reached c.args.headroom at.start (drop at.end-index ends) at.invariant.order (omega (arith, long, some)) in
    let le = at.invariant.within in
    let size = at.invariant.size in
    grind (arith, w, le, size)

pub loop-end-preserved : goal.loop-end-preserved
loop-end-preserved c =
    let at = c.loop-end in
    let ends = c.args.ends.now in
    let h = c.args.headroom in
    let u = unit_view c.args.self in
    let some : at.end-index < length ends = search rules in
    let end = get_or ends at.end-index 0 in
    let rest = drop (at.end-index + 1) ends in
    let here : drop at.end-index ends ≡ end ∷ rest = drop_more ends at.end-index 0 some in
    let long = length-drop at.end-index ends in
    let behind = length-drop (at.end-index + 1) ends in
    let left = at.invariant.left in
    let last : (at.left == 1) ≡ nat_eq (length rest) 0 = grind (arith, nat_tests, long, behind, left, some) in
    let all = c.args.memory.now in
    let order : ArePacketEnds h at.start (end ∷ rest) = subst (λ (l : List ℕ). ArePacketEnds h at.start l) here at.invariant.order in
    let within : last_end at.start (end ∷ rest) ≤ length all = subst (λ (l : List ℕ). last_end at.start l ≤ length all) here at.invariant.within in
    record {
      memory = heads_left u at.sequence h at.start c.put_before.result all at.memory c.put_before.new.memory rest end (at.left == 1) c.put_before.ensures.written last
          ∙ sym (ap (λ (l : List ℕ). headed_before h at.start l (packet_headers u at.sequence (packets_from h at.start all l)) at.memory) here) ∙ at.invariant.memory;
      size = c.put_before.ensures.size ∙ at.invariant.size;
      order = order.1;
      within = within;
      left = omega (arith, long, behind, left, some);
    }
