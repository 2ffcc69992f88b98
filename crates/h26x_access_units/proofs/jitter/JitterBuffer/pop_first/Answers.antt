use Rattle.std.proofs.Common.{rules, ◌≡◌, ◌∙◌, ap, sym, Bool, true, List, Some, length, arith}
use Rattle.std.specs.Prelude.{slice_get}
use Rattle.h26x_reorder.specs.Rtp.{RtpBody}
use Rattle.h26x_reorder.specs.ReorderBuffer.{BufferState, numbered_packet, without_first}
use Rattle.h26x_access_units.specs.declared.arrival.Arrival.{Arrival}
use Rattle.h26x_access_units.specs.Arrival.{not_passed}
use Rattle.h26x_access_units.specs.JitterBuffer.{jitter_state, without_arrival_of, without_due}
use Rattle.h26x_access_units.proofs.WaitingLemmas.{begun_first, went_on}
use Rattle.h26x_access_units.proofs.jitter.JitterBuffer.pop_first.Goals as goal

pub invariant_of-self : goal.invariant_of-self
invariant_of-self c =
    let b = c.self.inside.buffer in
    let p = numbered_packet c.in-Some.packet in
    let is : slice_get b.held 0 ≡ Some p = search rules in
    let there = went_on b c.pop_first.new.self p c.self.inside.from c.let_go-self-inside.result c.self.inside.arrivals.items c.let_go-self-inside.new.arrivals.items is c.pop_first.ensures.after
    c.self.invariant.order c.self.invariant.kept (search rules) in
    let len : c.len.result ≡ length p.1.payload = search rules in
    record {
      count = let all = c.self.invariant.count ∙ there.bytes in omega (arith, all, len);
      window = there.window ∙ c.self.invariant.window;
      some = c.self.invariant.some;
      half = c.self.invariant.half;
      order = there.order;
      kept = there.kept;
      first = there.first;
    }

pub returns-in-Some-clause-after : goal.returns-in-Some-clause-after
returns-in-Some-clause-after c =
    let b = c.self.inside.buffer in
    let p = numbered_packet c.in-Some.packet in
    let is : slice_get b.held 0 ≡ Some p = search rules in
    let there = went_on b c.pop_first.new.self p c.self.inside.from c.let_go-self-inside.result c.self.inside.arrivals.items c.let_go-self-inside.new.arrivals.items is c.pop_first.ensures.after
    c.self.invariant.order c.self.invariant.kept (search rules) in
    ap (λ (l : List Arrival). jitter_state c.self.inside.config c.pop_first.new.self l true c.self.inside.is_over) there.waits
    ∙ ap (λ (x : BufferState RtpBody). jitter_state c.self.inside.config x (without_arrival_of b.held (not_passed b.due c.self.inside.arrivals.items)) true c.self.inside.is_over) c.pop_first.ensures.after
    ∙ ap (λ (t : Bool). jitter_state c.self.inside.config (without_first b) (without_arrival_of b.held (not_passed b.due c.self.inside.arrivals.items)) t c.self.inside.is_over) (sym (begun_first b.held c.self.inside.has_begun p is))
    ∙ ap without_due c.self.view_is
