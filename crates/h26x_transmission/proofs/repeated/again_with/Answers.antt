use Rattle.std.proofs.Common.{◌≡◌, ◌∙◌, [], sym, ap, ℕ, List, Vec, Global, map, subst}
use Rattle.std.specs.Option.{option_map}
use Rattle.std.specs.List.{flat_map}
use Rattle.std.proofs.lemmas.Result.{err_from_is_err_and}
use Rattle.h26x_core.specs.declared.extra.CodecExtra.TheVariants as extras
use Rattle.h26x_core.specs.ByteStream.{byte_stream}
use Rattle.h26x_model.specs.Send.Calls.{all_entries, all_packets}
use Rattle.h26x_model.specs.Send.Plan.{item_units, units_sent}
use Rattle.h26x_model.specs.Payload.Facts.{AreCarried}
use Rattle.h26x_model.specs.Receive.Received.{received}
use Rattle.h26x_model.specs.Send.PacketizerState.{state_units, state_packets, next_call}
use Rattle.h26x_model.specs.Receive.DepacketizerState.{DepacketizerState, units_brought, depacketization}
use Rattle.h26x_model.specs.Carry.Laws.{DepacketizerGoesOn, calls_like}
use Rattle.h26x_transmission.specs.CodecStates.{codec_depacketizer_state}
use Rattle.h26x_transmission.proofs.TransmissionLemmas.{fresh_plan, fresh_packets}
use Rattle.h26x_transmission.proofs.AgainLemmas.{like_small, written_is, first_refused}
use Rattle.h26x_transmission.proofs.repeated.again_with.Goals as goal

pub returns-in_err-deliver-clause-refused : goal.returns-in_err-deliver-clause-refused
returns-in_err-deliver-clause-refused g c = λ s r p_is d_is t q_is fresh avc.
    let start = c.new-written.result.items in
    let w = depacketization r start extras.None in
    let made = map (λ (p : Vec ℕ Global). p.items) c.deref.result.now in
    let calls = calls_like (next_call s c.args.limit []) (map (λ (p : Vec ℕ Global). p.items) c.args.payloads.now) in
    let all : made ≡ all_packets s.format 0 calls =
    ap (map (λ (p : Vec ℕ Global). p.items)) c.deref.ensures.value ∙ c.in_ok-first.ensures.sent s p_is
    ∙ fresh_packets s (all_entries s.format calls) fresh (c.plans_unit_by_unit.ensures.plan s.format (all_entries s.format calls)) in
    let (e, err, same) = err_from_is_err_and c.from_residual-in_err-deliver.result c.from_residual-in_err-deliver.ensures.1 in
    rw (err, same) (first_refused w made (all_packets s.format 0 calls) c.in_err-deliver.field-0.0 _ avc all
    (c.in_err-deliver.ensures.stopped w (ap (option_map (λ (x : DepacketizerState). depacketization x start extras.None)) d_is)))

pub returns-clause-written : goal.returns-clause-written
returns-clause-written g c = λ r d_is none.
    let start = c.new-written.result.items in
    let w = depacketization r start extras.None in
    let law : DepacketizerGoesOn w = c.depacketizers_go_on.ensures w (c.depacketizer_states.ensures r d_is) in
    let made = map (λ (p : Vec ℕ Global). p.items) c.deref.result.now in
    let same : made ≡ c.from_vec.result = ap (map (λ (p : Vec ℕ Global). p.items)) c.deref.ensures.value ∙ sym c.from_vec.ensures in
    written_is (codec_depacketizer_state c.deliver.new.d) r start c.deliver.new.out.items extras.None c.deliver.new.extra made (received (map r.format.read c.from_vec.result))
    c.new-written.ensures.items (c.in_ok-deliver.ensures.taken w (ap (option_map (λ (x : DepacketizerState). depacketization x start extras.None)) d_is))
    (law.brings none made ∙ ap (λ (x : List (List ℕ)). received (map r.format.read x)) same)

pub returns-clause-carried : goal.returns-clause-carried
returns-clause-carried g c = λ s r p_is d_is fresh fmt can.
    let start = c.new-written.result.items in
    let w = depacketization r start extras.None in
    let is = c.packetizer_states.ensures.state s p_is in
    let calls = calls_like (next_call s c.args.limit []) (map (λ (p : Vec ℕ Global). p.items) c.args.payloads.now) in
    let entries = all_entries s.format calls in
    let units : units_sent s.format entries ≡ state_units s entries = ap (flat_map item_units) (sym (fresh_plan s entries fresh (c.plans_unit_by_unit.ensures.plan s.format entries))) in
    let whole = c.what_calls_send_is_carried.ensures s w calls (c.packetizer_states.ensures.format s p_is) is (like_small (next_call s c.args.limit []) (map (λ (p : Vec ℕ Global). p.items) c.args.payloads.now) is.size) fmt (subst (AreCarried s.format) units can) in
    let made = map (λ (p : Vec ℕ Global). p.items) c.deref.result.now in
    let same : made ≡ state_packets s entries = ap (map (λ (p : Vec ℕ Global). p.items)) c.deref.ensures.value ∙ c.in_ok-first.ensures.sent s p_is in
    written_is (codec_depacketizer_state c.deliver.new.d) r start c.deliver.new.out.items extras.None c.deliver.new.extra made (state_units s entries)
    c.new-written.ensures.items (c.in_ok-deliver.ensures.taken w (ap (option_map (λ (x : DepacketizerState). depacketization x start extras.None)) d_is))
    (ap (units_brought r) same ∙ whole.received) ∙ ap (byte_stream r.is_avc) (sym units)
