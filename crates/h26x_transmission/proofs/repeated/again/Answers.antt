use Rattle.std.proofs.Common.{◌∙◌, sym, ap, ℕ, List, [], ◌∷◌, Vec, Global, map, refl}
use Rattle.h26x_model.specs.Send.Calls.{all_entries, all_packets}
use Rattle.h26x_model.specs.Send.Plan.{units_sent}
use Rattle.h26x_codec.specs.Codec.{codec_format, fresh_depacketizer_state, zero_rule}
use Rattle.h26x_transmission.specs.Repeating.{starting_packetizer, repeated_call, repeated_calls}
use Rattle.h26x_transmission.proofs.TransmissionLemmas.{if_three}
use Rattle.h26x_codec.proofs.RuleLemmas.{cuts_by_its_rule}
use Rattle.h26x_transmission.proofs.repeated.again.Goals as goal

pub returns-clause-first : goal.returns-clause-first
returns-clause-first c = c.again_with.ensures.first (starting_packetizer c.args.codec c.args.donl c.args.max_packet_size) c.packetizer_with-p.ensures (refl, refl)

pub returns-clause-written : goal.returns-clause-written
returns-clause-written c = c.again_with.ensures.written (fresh_depacketizer_state (codec_format c.args.codec c.args.donl)) c.depacketizer_with-d.ensures refl

pub returns-clause-second : goal.returns-clause-second
returns-clause-second c = c.again_with.ensures.second (starting_packetizer c.args.codec c.args.donl c.args.max_packet_size) c.packetizer_with-q.ensures (refl, refl)

pub returns-clause-refused : goal.returns-clause-refused
returns-clause-refused c =
    let s = starting_packetizer c.args.codec c.args.donl c.args.max_packet_size in
    c.again_with.ensures.refused s (fresh_depacketizer_state (codec_format c.args.codec c.args.donl)) c.packetizer_with-p.ensures c.depacketizer_with-d.ensures s c.packetizer_with-q.ensures (refl, refl) refl

pub returns-clause-same : goal.returns-clause-same
returns-clause-same c = λ may.
    let f = codec_format c.args.codec c.args.donl in
    let s = starting_packetizer c.args.codec c.args.donl c.args.max_packet_size in
    let payloads = map (λ (p : Vec ℕ Global). p.items) c.args.payloads.now in
    let call = repeated_call c.args.codec c.args.max_packet_size c.args.limit [] in
    let units = units_sent f (all_entries f (repeated_calls c.args.codec c.args.max_packet_size c.args.limit payloads)) in
    let rule = zero_rule c.args.codec in
    let law = c.sent_again.ensures f rule (cuts_by_its_rule c.args.codec c.args.donl) call payloads units may.kept refl may.apart in
    if_three c.again_with.result (λ it first second written. second ∙ ap (λ (x : List ℕ). all_packets f 0 (repeated_call c.args.codec c.args.max_packet_size c.args.limit x ∷ [])) written ∙ law ∙ sym first)
    (returns-clause-first c) (returns-clause-second c)
    (c.again_with.ensures.carried s (fresh_depacketizer_state f) c.packetizer_with-p.ensures c.depacketizer_with-d.ensures (refl, refl) refl may.carried)
