use Rattle.std.proofs.Common.{rules, arith, ◌≡◌, ◌∙◌, ◌<◌, ◌++◌, ◌∷◌, [], sym, ap, ℕ, List, Vec, Global, map, get_or, length, OnOk, OnErr, subst}
use Rattle.std.proofs.lemmas.Grind.{common_steps}
use Rattle.std.proofs.lemmas.List.{get_or-map, length-map}
use Rattle.std.specs.List.{flat_map}
use Rattle.h26x_core.specs.Front.{IsFrontOf}
use Rattle.h26x_model.specs.Payload.Facts.{IsPayloadFormat}
use Rattle.h26x_model.specs.Payload.Format.{Format}
use Rattle.h26x_model.specs.Receive.DepacketizerState.{units_brought, accepted_packets, depacketization}
use Rattle.h26x_model.specs.Receive.Received.{received}
use Rattle.h26x_model.specs.Carry.Laws.{DepacketizerGoesOn}
use Rattle.h26x_transmission.specs.CodecStates.{codec_depacketizer_state}
use Rattle.h26x_transmission.proofs.TransmissionLemmas.{work_parts, written_of}
use Rattle.h26x_transmission.proofs.TakeLemmas.{left_by_refusal, taken_with, taken_to_end, kept_by_refusals, front_through}
use Rattle.h26x_transmission.proofs.take.take_all.Goals as goal

pub loop-packet-preserved : goal.loop-packet-preserved
loop-packet-preserved g c =
    let o = c.depacketize-outcome.result in
    let pushed : c.push.new.self.items ≡ c.loop-packet.outcomes.items ++ o ∷ [] = search rules in
    let grown : OnOk o (IsFrontOf c.loop-packet.out.items c.depacketize-outcome.new.out.items) = search rules in
    let kept_out : OnErr o (c.depacketize-outcome.new.out.items ≡ c.loop-packet.out.items) = search rules in
    let kept_extra : OnErr o (c.depacketize-outcome.new.codec_extra ≡ c.loop-packet.extra) = search rules in
    let bytes = map (λ (p : Vec ℕ Global). p.items) c.args.packets.now in
    let i = c.loop-packet.packet-index in
    let within : i < length bytes = rw length-map c.loop-packet-test.true in
    let here : c.deref.result.now ≡ get_or bytes i [] = c.deref.ensures.value ∙ ap (λ (p : Vec ℕ Global). p.items) c.packet-item.is
    ∙ sym (get_or-map (λ (p : Vec ℕ Global). p.items) c.args.packets.now i c.packet-item.result [] c.loop-packet-test.true) in
    record {
      count = grind (arith, common_steps);
      room = grind (arith, common_steps);
      kept = front_through o _ _ _ grown kept_out c.loop-packet.invariant.kept;
      same_out = kept_by_refusals _ _ o _ _ _ pushed kept_out c.loop-packet.invariant.same_out;
      same_extra = kept_by_refusals _ _ o _ _ _ pushed kept_extra c.loop-packet.invariant.same_extra;
      same = λ r is. kept_by_refusals _ _ o _ _ _ pushed (c.depacketize-outcome.ensures.kept _ (work_parts (codec_depacketizer_state c.loop-packet.d) c.loop-packet.out.items c.loop-packet.extra _ (c.loop-packet.invariant.taken r is).taken).is_state) (c.loop-packet.invariant.same r is);
      taken = λ r is.
          let w = depacketization r c.args.out.now.items c.args.extra.now in
          let law : DepacketizerGoesOn w = c.depacketizers_go_on.ensures w (c.depacketizer_states.ensures r is) in
          let so_far = c.loop-packet.invariant.taken r is in
          let parts = work_parts (codec_depacketizer_state c.loop-packet.d) c.loop-packet.out.items c.loop-packet.extra _ so_far.taken in
          rw pushed (taken_with w bytes i c.loop-packet.outcomes.items o _ _ law within so_far (rw (← here) (record {
            outcome_is = c.depacketize-outcome.ensures.outcome _ so_far.taken;
            taken = c.depacketize-outcome.ensures.taken _ so_far.taken;
            left = left_by_refusal codec_depacketizer_state o c.loop-packet.d c.depacketize-outcome.new.self c.loop-packet.out.items c.depacketize-outcome.new.out.items c.loop-packet.extra c.depacketize-outcome.new.codec_extra _
                (c.depacketize-outcome.ensures.kept _ parts.is_state) kept_out kept_extra so_far.taken;
          })));
    }

pub returns-clause-received : goal.returns-clause-received
returns-clause-received g c = λ r is none.
    let w = depacketization r c.args.out.now.items c.args.extra.now in
    let law : DepacketizerGoesOn w = c.depacketizers_go_on.ensures w (c.depacketizer_states.ensures r is) in
    let bytes = map (λ (p : Vec ℕ Global). p.items) c.args.packets.now in
    let all = taken_to_end w bytes c.loop-packet.packet-index c.loop-packet.outcomes.items _ (rw length-map c.loop-packet-test.false) (c.loop-packet.invariant.taken r is) in
    let accepted = accepted_packets bytes c.loop-packet.outcomes.items in
    let readings = map r.format.read accepted in (
      received readings,
      c.received_by_places.ensures.are readings,
      written_of (codec_depacketizer_state c.loop-packet.d) c.loop-packet.out.items c.loop-packet.extra w accepted (received readings) all.taken (law.brings none accepted),
    )

pub returns-clause-loss : goal.returns-clause-loss
returns-clause-loss g c = λ r is.
    let w = depacketization r c.args.out.now.items c.args.extra.now in
    let bytes = map (λ (p : Vec ℕ Global). p.items) c.args.packets.now in
    let all = taken_to_end w bytes c.loop-packet.packet-index c.loop-packet.outcomes.items _ (rw length-map c.loop-packet-test.false) (c.loop-packet.invariant.taken r is) in
    let accepted = accepted_packets bytes c.loop-packet.outcomes.items in
    λ s calls mask same some.
    let it = c.what_is_left_is_brought.ensures s w calls (subst (λ (f : Format). IsPayloadFormat f) same (c.depacketizer_states.ensures r is)) some.sender some.calls_are same some.carried mask some.long in
    (it, written_of (codec_depacketizer_state c.loop-packet.d) c.loop-packet.out.items c.loop-packet.extra w accepted (flat_map (λ (units : List (List ℕ)). units) it.written) all.taken (ap (units_brought r) some.some ∙ it.brings))
