use Rattle.std.proofs.Common.{rules, ◌≡◌, ◌∙◌, ◌<◌, ◌++◌, [], sym, ap, ℕ, List, Some, Vec, Global, map, take, get_or, length}
use Rattle.std.proofs.lemmas.List.{get_or-map, length-map, map-append}
use Rattle.h26x_model.specs.Send.Calls.{call_entries, all_entries}
use Rattle.h26x_model.specs.Send.PacketizerState.{state_packets, after_entries, next_call}
use Rattle.h26x_model.specs.Carry.Laws.{PacketizerGoesOn, calls_like}
use Rattle.h26x_transmission.specs.CodecStates.{codec_packetizer_state}
use Rattle.h26x_transmission.proofs.AgainLemmas.{packets_more, after_more, packets_all}
use Rattle.h26x_transmission.proofs.repeated.packetize_all.Goals as goal

pub loop-payload-preserved : goal.loop-payload-preserved
loop-payload-preserved g c =
    let items = λ (p : Vec ℕ Global). p.items in
    let bytes = map items c.args.payloads.now in
    let i = c.loop-payload.payload-index in
    let within : i < length bytes = rw length-map c.loop-payload-test.true in
    let here : c.deref.result.now ≡ get_or bytes i [] = c.deref.ensures.value ∙ ap items c.payload-item.is
    ∙ sym (get_or-map items c.args.payloads.now i c.payload-item.result [] c.loop-payload-test.true) in
    let appended : c.append.new.self.items ≡ c.loop-payload.packets.items ++ c.in_ok-made.made.items = search rules in
    record {
      sent = λ s is.
          let ok = c.packetizer_states.ensures.format s is in
          let goes : PacketizerGoesOn s = c.packetizers_go_on.ensures.goes_on s ok.limits ok.dons (c.packetizer_states.ensures.state s is) in
          let call = next_call s c.args.limit [] in
          let t = after_entries s (all_entries s.format (calls_like call (take i bytes))) in
          let made : map items c.in_ok-made.made.items ≡ state_packets t (call_entries s.format (next_call s c.args.limit c.deref.result.now)) =
          c.in_ok-made.ensures.packets t (c.loop-payload.invariant.stands s is) in
          packets_more s call bytes i (map items c.loop-payload.packets.items) (map items c.in_ok-made.made.items) (map items c.append.new.self.items) goes within (c.loop-payload.invariant.sent s is)
          (ap (map items) appended ∙ map-append items c.loop-payload.packets.items c.in_ok-made.made.items)
          (made ∙ ap (λ (x : List ℕ). state_packets t (call_entries s.format (next_call s c.args.limit x))) here);
      stands = λ s is.
          let ok = c.packetizer_states.ensures.format s is in
          let goes : PacketizerGoesOn s = c.packetizers_go_on.ensures.goes_on s ok.limits ok.dons (c.packetizer_states.ensures.state s is) in
          let call = next_call s c.args.limit [] in
          let t = after_entries s (all_entries s.format (calls_like call (take i bytes))) in
          let on : codec_packetizer_state c.packetize.new.self ≡ Some (after_entries t (call_entries s.format (next_call s c.args.limit c.deref.result.now))) =
          c.in_ok-made.ensures.after t (c.loop-payload.invariant.stands s is) in
          on ∙ ap (λ (x : List ℕ). Some (after_entries t (call_entries s.format (next_call s c.args.limit x)))) here ∙ ap Some (after_more s call bytes i goes within);
    }

pub returns-clause-sent : goal.returns-clause-sent
returns-clause-sent g c = λ s is. packets_all s (next_call s c.args.limit []) (map (λ (p : Vec ℕ Global). p.items) c.args.payloads.now) c.loop-payload.payload-index _ (rw length-map c.loop-payload-test.false) (c.loop-payload.invariant.sent s is)
