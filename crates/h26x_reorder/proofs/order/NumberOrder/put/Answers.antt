use Rattle.std.proofs.Common.{arith, ◌≡◌, ◌<◌, ◌∙◌, ℕ, List, Some, ap, subst, sym, map, length}
use Rattle.std.specs.List.{insert}
use Rattle.std.proofs.lemmas.Bool.Decides.{nat_tests}
use Rattle.std.proofs.lemmas.List.{length-map}
use Rattle.h26x_reorder.proofs.NewestLemmas.{last_put, last_stays}
use Rattle.h26x_reorder.proofs.order.NumberOrder.put.Goals.{then-place-len, else-place-len}
use Rattle.h26x_core.specs.Sequence.{distance_ahead}
use Rattle.h26x_reorder.specs.Rtp.{RtpBody}
use Rattle.h26x_reorder.specs.NumberOrder.{IsPlaceOf}
use Rattle.h26x_reorder.specs.ReorderBuffer.{BufferState, buffer_state, AreHeldInOrder, put_packet, after_push, last_number}
use Rattle.h26x_reorder.proofs.BufferLemmas.{order_at, put_in_order, map_insert, pushed_is}
use Rattle.h26x_reorder.proofs.order.NumberOrder.put.Given.{Over}
use Rattle.h26x_reorder.proofs.order.NumberOrder.put.Goals as goal

-- what is required, of the fields
at : (g : Over) (c : goal.After-self-2-1 g) → IsPlaceOf (buffer_state c.self.inside.window c.self.inside.due (map g.T.Numbered.numbered c.self.inside.held))
    (g.T.Numbered.numbered c.args.packet).0 c.args.due c.args.place
at g c = subst (λ (b : BufferState RtpBody). IsPlaceOf b (g.T.Numbered.numbered c.args.packet).0 c.args.due c.args.place) (sym c.self.view_is) c.requires

near : (g : Over) (c : goal.After-self-2-1 g) → distance_ahead c.args.due (g.T.Numbered.numbered c.args.packet).0 < 32768
near g c = let early = (at g c).early in grind (arith, nat_tests)

-- the packets held with the new one
items : (g : Over) (c : goal.After-self-2-1 g) → map g.T.Numbered.numbered c.insert.new.self
    ≡ put_packet c.args.due (g.T.Numbered.numbered c.args.packet) (map g.T.Numbered.numbered c.self.inside.held)
items g c =
    let n = g.T.Numbered.numbered in
    ap (map n) c.in_ok-insert.ensures.put
    ∙ map_insert n c.self.inside.held c.args.place c.args.packet
    ∙ (at g c).put (n c.args.packet).1

-- the last one's number
last : (g : Over) (c : goal.After-self-2-1 g) → last_number c.if-place-len.newest (map g.T.Numbered.numbered c.insert.new.self) ≡ c.if-place-len.newest
last g c =
    let n = g.T.Numbered.numbered in
    let p = n c.args.packet in
    let held = map n c.self.inside.held in
    let newest = c.if-place-len.newest in
    let few : length held ≡ length c.self.inside.held = length-map c.self.inside.held n in
    let len = c.len.ensures in
    let within = (at g c).in_range in
    let moved : map n c.insert.new.self ≡ insert held c.args.place p = ap (map n) c.in_ok-insert.ensures.put ∙ map_insert n c.self.inside.held c.args.place c.args.packet in
    ap (last_number newest) moved
    ∙ elim c.if-place-len.branch [
      | then-place-len w ↦ last_put newest held c.args.place p (omega (arith, w.if-place-len.true)) ∙ sym (w.newest-is ∙ w.sequence-newest.ensures)
      | else-place-len w ↦ last_stays newest held c.args.place p (omega (arith, w.if-place-len.false))
          ∙ ap (λ (k : ℕ). last_number k held) w.newest-is ∙ c.self.invariant.last ∙ sym w.newest-is
    ]

pub invariant_of-self-2 : goal.invariant_of-self-2
invariant_of-self-2 g c =
    let p = g.T.Numbered.numbered c.args.packet in
    let held = map g.T.Numbered.numbered c.self.inside.held in
    let order = subst (λ (d : ℕ). (d < 65536) × AreHeldInOrder d 0 held) (sym (at g c).due_is) (order_at c.self.inside.window c.self.inside.due p.0 held c.self.invariant.buffer.order) in
    let one = (at g c).small in
    record {
      buffer = record {
        some = c.self.invariant.buffer.some;
        half = c.self.invariant.buffer.half;
        order = (
          order.0,
          subst (AreHeldInOrder c.args.due 0) (sym (items g c)) (put_in_order c.args.due 0 p held order.0 one (omega arith) (near g c) order.1),
        );
      };
      last = last g c;
    }

pub returns-clause-after : goal.returns-clause-after
returns-clause-after g c =
    let p = g.T.Numbered.numbered c.args.packet in
    let b : BufferState RtpBody = buffer_state c.self.inside.window c.self.inside.due (map g.T.Numbered.numbered c.self.inside.held) in
    let due = (at g c).due_is in
    ap (λ (l : List (ℕ × RtpBody)). buffer_state b.window (Some c.args.due) l) (items g c)
    ∙ ap (λ (d : ℕ). buffer_state b.window (Some d) (put_packet d p b.held)) due
    ∙ sym (pushed_is b p (subst (λ (d : ℕ). distance_ahead d p.0 < 32768) due (near g c)))
    ∙ ap (λ (s : BufferState RtpBody). after_push s p) c.self.view_is
