use Rattle.std.proofs.Common.{◌≡◌, ◌∙◌, ◌<◌, sym, ap, ℕ, [], Some, Vec, Global, map, get_or, length, take}
use Rattle.std.proofs.lemmas.List.{get_or-map, length-map, append-nil}
use Rattle.std.proofs.lemmas.Result.{err_from_is_err_and}
use Rattle.h26x_model.specs.Receive.DepacketizerState.{after_packets}
use Rattle.h26x_model.specs.Carry.Laws.{DepacketizerGoesOn}
use Rattle.h26x_transmission.specs.CodecStates.{codec_depacketizer_state}
use Rattle.h26x_transmission.proofs.TransmissionLemmas.{still_front, work_parts, same_work, one_more, read_more, stopped, finished}
use Rattle.h26x_transmission.proofs.transmissions.deliver.Goals as goal

pub loop-packet-init : goal.loop-packet-init
loop-packet-init g c = record {
  kept = ([], sym (append-nil c.args.out.now.items));
  taken = λ w is.
      let law : DepacketizerGoesOn w = c.depacketizers_go_on.ensures w (c.depacketizer_states.ensures w.state (work_parts (codec_depacketizer_state c.args.d.now) c.args.out.now.items c.args.extra.now w is).is_state) in
      is ∙ ap Some (sym law.none);
  read = λ w is. tt;
}

pub loop-packet-preserved : goal.loop-packet-preserved
loop-packet-preserved g c =
    let bytes = map (λ (p : Vec ℕ Global). p.items) c.args.packets.now in
    let i = c.loop-packet.packet-index in
    let within : i < length bytes = rw length-map c.loop-packet-test.true in
    let here : c.deref.result.now ≡ get_or bytes i [] = c.deref.ensures.value ∙ ap (λ (p : Vec ℕ Global). p.items) c.packet-item.is
    ∙ sym (get_or-map (λ (p : Vec ℕ Global). p.items) c.args.packets.now i c.packet-item.result [] c.loop-packet-test.true) in
    record {
      kept = still_front c.args.out.now.items c.loop-packet.out.items c.depacketize.new.out.items c.loop-packet.invariant.kept c.in_ok-depacketize.ensures.accepted;
      taken = λ w is.
          let law : DepacketizerGoesOn w = c.depacketizers_go_on.ensures w (c.depacketizer_states.ensures w.state (work_parts (codec_depacketizer_state c.args.d.now) c.args.out.now.items c.args.extra.now w is).is_state) in
          one_more w bytes i _ law within (rw (← here) (c.in_ok-depacketize.ensures.taken _ (c.loop-packet.invariant.taken w is)));
      read = λ w is. read_more w bytes i within (c.loop-packet.invariant.read w is) (rw (← here) (c.in_ok-depacketize.ensures.outcome _ (c.loop-packet.invariant.taken w is)));
    }

pub returns-in_err-depacketize-clause-stopped : goal.returns-in_err-depacketize-clause-stopped
returns-in_err-depacketize-clause-stopped g c = λ w is.
    let bytes = map (λ (p : Vec ℕ Global). p.items) c.args.packets.now in
    let i = c.loop-packet.packet-index in
    let within : i < length bytes = rw length-map c.loop-packet-test.true in
    let here : c.deref.result.now ≡ get_or bytes i [] = c.deref.ensures.value ∙ ap (λ (p : Vec ℕ Global). p.items) c.packet-item.is
    ∙ sym (get_or-map (λ (p : Vec ℕ Global). p.items) c.args.packets.now i c.packet-item.result [] c.loop-packet-test.true) in
    let (e, err, same) = err_from_is_err_and c.from_residual.result c.from_residual.ensures.1 in
    let so_far = c.loop-packet.invariant.taken w is in
    let parts = work_parts (codec_depacketizer_state c.loop-packet.d) c.loop-packet.out.items c.loop-packet.extra (after_packets w (take i bytes)) so_far in
    rw (err, same) (stopped w bytes i c.in_err-depacketize.field-0.0 _ within
    (same_work (codec_depacketizer_state c.loop-packet.d) _ c.loop-packet.out.items _ c.loop-packet.extra _ (ap codec_depacketizer_state (c.in_err-depacketize.ensures.kept _ parts.is_state)) c.in_err-depacketize.ensures.kept_out c.in_err-depacketize.ensures.kept_extra ∙ so_far)
    (c.loop-packet.invariant.read w is) (rw (← here) (c.in_err-depacketize.ensures.outcome _ so_far)))

pub returns-clause-taken : goal.returns-clause-taken
returns-clause-taken g c = λ w is.
    let bytes = map (λ (p : Vec ℕ Global). p.items) c.args.packets.now in
    finished w bytes c.loop-packet.packet-index _ (rw length-map c.loop-packet-test.false) (c.loop-packet.invariant.taken w is)
