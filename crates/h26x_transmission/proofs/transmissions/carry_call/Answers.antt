use Rattle.std.proofs.Common.{rules, arith, ◌≡◌, ◌∙◌, ◌++◌, ◌≤◌, length, vec_len, vec_capacity, sym, ap, map, ℕ, List, Vec, Global, Err}
use Rattle.std.proofs.lemmas.List.{map-append}
use Rattle.std.proofs.lemmas.Result.{err_from_is_err_and}
use Rattle.h26x_core.specs.declared.error.PacketError.TheVariants.{OutOfMemory}
use Rattle.h26x_model.specs.Send.Calls.{call_entries}
use Rattle.h26x_model.specs.Send.PacketizerState.{state_packets, next_call}
use Rattle.h26x_model.specs.Carry.Laws.{DepacketizerGoesOn}
use Rattle.h26x_transmission.specs.CodecStates.{codec_depacketizer_state}
use Rattle.h26x_transmission.proofs.TransmissionLemmas.{work_parts, none_mapped, none_taken}
use Rattle.h26x_transmission.proofs.transmissions.carry_call.Goals as goal

pub returns-in_err-reserve-in-Ok-clause-stopped : goal.returns-in_err-reserve-in-Ok-clause-stopped
returns-in_err-reserve-in-Ok-clause-stopped g c = λ s w p_is d_is.
    let takes : DepacketizerGoesOn w = c.depacketizers_go_on.ensures w (c.depacketizer_states.ensures w.state (work_parts (codec_depacketizer_state c.args.d.now) c.args.out.now.items c.args.extra.now w d_is).is_state) in
    let memory : c.from_residual.result ≡ Err OutOfMemory = search rules in
    let is : map (λ (p : Vec ℕ Global). p.items) c.in-Ok.made.items ≡ state_packets s (call_entries s.format (next_call s c.args.mtu c.args.payload.now)) = c.in-Ok.ensures.packets s p_is in
    rw memory (none_taken w _ _ takes d_is (λ none.
    let empty : length c.in-Ok.made.items ≡ 0 = none_mapped (λ (p : Vec ℕ Global). p.items) c.in-Ok.made.items (is ∙ none) in
    let count : c.len.result ≡ length c.in-Ok.made.items = search rules in
    let held : vec_len c.args.packets.now ≤ vec_capacity c.args.packets.now = c.args.packets.now.ok.1 in
    let refused = c.in_err-reserve-in-Ok.ensures.succeeds (rw (count, empty) (omega (arith, held))) in
    cc))

pub returns-in_err-deliver-in-Ok-clause-stopped : goal.returns-in_err-deliver-in-Ok-clause-stopped
returns-in_err-deliver-in-Ok-clause-stopped g c = λ s w p_is d_is.
    let is : map (λ (p : Vec ℕ Global). p.items) c.deref.result.now ≡ state_packets s (call_entries s.format (next_call s c.args.mtu c.args.payload.now)) =
    ap (map (λ (p : Vec ℕ Global). p.items)) c.deref.ensures.value ∙ c.in-Ok.ensures.packets s p_is in
    let (e, err, same) = err_from_is_err_and c.from_residual-in_err-deliver-in-Ok.result c.from_residual-in_err-deliver-in-Ok.ensures.1 in
    rw (err, same, ← is) (c.in_err-deliver-in-Ok.ensures.stopped w d_is)

pub returns-in_ok-deliver-in-Ok-clause-taken : goal.returns-in_ok-deliver-in-Ok-clause-taken
returns-in_ok-deliver-in-Ok-clause-taken g c = λ w d_is.
    let items = λ (p : Vec ℕ Global). p.items in
    let made = map items c.deref.result.now in
    let appended : c.append.new.self.items ≡ c.reserve.new.self.items ++ c.in-Ok.made.items = search rules in
    let more : map items c.append.new.self.items ≡ map items c.args.packets.now.items ++ made =
    ap (map items) appended ∙ map-append items c.reserve.new.self.items c.in-Ok.made.items
    ∙ ap (λ (x : List (Vec ℕ Global)). map items x ++ map items c.in-Ok.made.items) c.in_ok-reserve-in-Ok.ensures.items
    ∙ ap (λ (x : List (Vec ℕ Global)). map items c.args.packets.now.items ++ map items x) (sym c.deref.ensures.value) in
    (made, more, c.in_ok-deliver-in-Ok.ensures.taken w d_is)
