use Rattle.std.proofs.Common.{rules, arith, ◌≡◌, ◌++◌, ◌∷◌, [], sym, ap, ℕ, Vec, Global, map, length, slice_get, Some, inr}
use Rattle.std.proofs.lemmas.Grind.{common_steps}
use Rattle.std.proofs.lemmas.Result.{err_from_is_err_and}
use Rattle.h26x_model.specs.Send.PacketizerState.{after_entries, next_call}
use Rattle.h26x_model.specs.Receive.DepacketizerState.{after_packets}
use Rattle.h26x_model.specs.Carry.Laws.{PacketizerGoesOn, DepacketizerGoesOn}
use Rattle.h26x_transmission.specs.CodecStates.{codec_depacketizer_state}
use Rattle.h26x_transmission.specs.Transmissions.{next_calls, made_entries}
use Rattle.h26x_transmission.proofs.TransmissionLemmas.{call_made_next, still_front, work_parts, sent_more, taken_more, transmission_stopped}
use Rattle.h26x_transmission.proofs.transmissions.carry_calls.Goals as goal

pub returns-in_err-was_made-clause-stopped : goal.returns-in_err-was_made-clause-stopped
returns-in_err-was_made-clause-stopped g c = λ s w p_is d_is.
    let ok = c.packetizer_states.ensures.format s p_is in
    let goes : PacketizerGoesOn s = c.packetizers_go_on.ensures.goes_on s ok.limits ok.dons (c.packetizer_states.ensures.state s p_is) in
    let calls = next_calls s c.args.calls.now in
    let call = next_call s c.loop-mtu-item.result.0 c.deref.result.now in
    let next : slice_get calls (length c.loop-mtu.made.items) ≡ Some call =
    call_made_next s c.args.calls.now c.loop-mtu.made.items c.loop-mtu.mtu-index c.loop-mtu-item.result call c.loop-mtu-test.true (search rules) c.loop-mtu-item.is (ap (next_call s c.loop-mtu-item.result.0) (sym c.deref.ensures.value)) in
    let are = c.loop-mtu.invariant.sent s p_is in
    let taken = c.loop-mtu.invariant.taken w d_is in
    let packets = map (λ (p : Vec ℕ Global). p.items) c.loop-mtu.packets.items in
    let (e, err, same) = err_from_is_err_and c.from_residual-in_err-was_made.result c.from_residual-in_err-was_made.ensures.1 in
    rw (err, same) (inr (transmission_stopped s w calls c.loop-mtu.made.items call packets c.in_err-was_made.field-0.0 _ _ _ goes next are
    (c.in_err-was_made.ensures.sent (after_entries s (made_entries s.format c.loop-mtu.made.items calls)) are.stands)
    (c.in_err-was_made.ensures.stopped (after_entries s (made_entries s.format c.loop-mtu.made.items calls)) (after_packets w packets) are.stands taken)))

pub loop-mtu-preserved : goal.loop-mtu-preserved
loop-mtu-preserved g c = record {
  count = grind (arith, common_steps);
  room = grind (arith, common_steps);
  kept = still_front c.args.out.now.items c.loop-mtu.out.items c.carry_call.new.out.items c.loop-mtu.invariant.kept c.in_ok-was_made.ensures.kept;
  sent = λ s p_is.
      let ok = c.packetizer_states.ensures.format s p_is in
      let goes : PacketizerGoesOn s = c.packetizers_go_on.ensures.goes_on s ok.limits ok.dons (c.packetizer_states.ensures.state s p_is) in
      let calls = next_calls s c.args.calls.now in
      let call = next_call s c.loop-mtu-item.result.0 c.deref.result.now in
      let next : slice_get calls (length c.loop-mtu.made.items) ≡ Some call =
      call_made_next s c.args.calls.now c.loop-mtu.made.items c.loop-mtu.mtu-index c.loop-mtu-item.result call c.loop-mtu-test.true (search rules) c.loop-mtu-item.is (ap (next_call s c.loop-mtu-item.result.0) (sym c.deref.ensures.value)) in
      let are = c.loop-mtu.invariant.sent s p_is in
      let pushed : c.push.new.self.items ≡ c.loop-mtu.made.items ++ c.in_ok-was_made.was_made ∷ [] = search rules in
      rw pushed (sent_more s calls c.loop-mtu.made.items c.in_ok-was_made.was_made call (map (λ (p : Vec ℕ Global). p.items) c.loop-mtu.packets.items) (map (λ (p : Vec ℕ Global). p.items) c.carry_call.new.packets.items) _ _
      goes next are (c.in_ok-was_made.ensures.sent (after_entries s (made_entries s.format c.loop-mtu.made.items calls)) are.stands));
  taken = λ w d_is.
      let takes : DepacketizerGoesOn w = c.depacketizers_go_on.ensures w (c.depacketizer_states.ensures w.state (work_parts (codec_depacketizer_state c.args.d.now) c.args.out.now.items c.args.extra.now w d_is).is_state) in
      let packets = map (λ (p : Vec ℕ Global). p.items) c.loop-mtu.packets.items in
      taken_more w packets (map (λ (p : Vec ℕ Global). p.items) c.carry_call.new.packets.items) _ takes (c.in_ok-was_made.ensures.taken (after_packets w packets) (c.loop-mtu.invariant.taken w d_is));
}
