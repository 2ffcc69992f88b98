use Rattle.std.proofs.Common.{rules, false, ◌≡◌, ◌∙◌, ◌<◌, ap, sym, Bool, true, List, [], ◌∷◌, ◌++◌}
use Rattle.h26x_reorder.specs.Rtp.{RtpBody, rtp_body}
use Rattle.h26x_reorder.specs.ReorderBuffer.{BufferState, goes_straight, after_push, without_first}
use Rattle.h26x_reorder.proofs.BufferLemmas.{straight_goes}
use Rattle.h26x_access_units.specs.declared.arrival.Arrival.{Arrival}
use Rattle.h26x_access_units.specs.Arrival.{arrival_of, not_passed}
use Rattle.h26x_access_units.specs.JitterBuffer.{JitterState, jitter_state, with_packet, without_arrival_of, without_due}
use Rattle.h26x_access_units.proofs.WaitingLemmas.{begun_straight, went_straight}
use Rattle.h26x_access_units.proofs.jitter.JitterBuffer.pass.Goals as goal

pub invariant_of-self : goal.invariant_of-self
invariant_of-self c =
    let b = c.self.inside.buffer in
    let number = c.args.number in
    let none = rtp_body 0 false [] in
    let small : number < 65536 = search rules in
    let is : goes_straight b number ≡ true = search rules in
    let it = went_straight b c.pass.new.self c.self.inside.from number c.self.inside.arrivals.items small is (c.pass.ensures none ∙ sym (straight_goes b number none small is)) c.self.invariant.kept c.self.invariant.first in
    record {
      count = c.self.invariant.count ∙ sym it.bytes;
      window = it.window ∙ c.self.invariant.window;
      some = c.self.invariant.some;
      half = c.self.invariant.half;
      order = it.order;
      kept = it.kept;
      first = it.first;
    }

pub returns : goal.returns
returns c = λ now body.
    let b = c.self.inside.buffer in
    let number = c.args.number in
    let none = rtp_body 0 false [] in
    let small : number < 65536 = search rules in
    let is : goes_straight b number ≡ true = search rules in
    let it = went_straight b c.pass.new.self c.self.inside.from number c.self.inside.arrivals.items small is (c.pass.ensures none ∙ sym (straight_goes b number none small is)) c.self.invariant.kept c.self.invariant.first in
    ap (λ (l : List Arrival). jitter_state c.self.inside.config c.pass.new.self l true c.self.inside.is_over) (it.waits now body)
    ∙ ap (λ (x : BufferState RtpBody). jitter_state c.self.inside.config x (without_arrival_of (after_push b (number, body)).held (not_passed b.due c.self.inside.arrivals.items ++ arrival_of number now ∷ [])) true c.self.inside.is_over) (c.pass.ensures body)
    ∙ ap (λ (t : Bool). jitter_state c.self.inside.config (without_first (after_push b (number, body))) (without_arrival_of (after_push b (number, body)).held (not_passed b.due c.self.inside.arrivals.items ++ arrival_of number now ∷ [])) t c.self.inside.is_over) (sym (begun_straight b c.self.inside.has_begun number body small is))
    ∙ ap (λ (j : JitterState). without_due (with_packet now j (number, body))) c.self.view_is
