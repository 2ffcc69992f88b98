use Rattle.std.proofs.Common.{◌≡◌, refl, sym, ap, ℕ, List, [], map, subst}
use Rattle.std.specs.Option.{option_map}
use Rattle.h26x_core.specs.declared.extra.CodecExtra.TheVariants as extras
use Rattle.h26x_model.specs.Send.Calls.{all_entries}
use Rattle.h26x_model.specs.Carry.Loss.{keep}
use Rattle.h26x_model.specs.Send.PacketizerState.{AreWithinLimits}
use Rattle.h26x_model.specs.Receive.DepacketizerState.{DepacketizerState, units_brought, depacketization}
use Rattle.h26x_model.specs.Receive.Received.{received}
use Rattle.h26x_model.specs.Carry.Laws.{PacketizerGoesOn, DepacketizerGoesOn}
use Rattle.h26x_codec.specs.Codec.{fresh_depacketizer_state}
use Rattle.h26x_transmission.specs.CodecStates.{codec_depacketizer_state}
use Rattle.h26x_transmission.specs.Transmissions.{next_calls, made_units}
use Rattle.h26x_transmission.proofs.TransmissionLemmas.{if_ok, if_err, if_both, calls_small, written_of, stopped_transmission, of_fresh}
use Rattle.h26x_transmission.proofs.transmissions.carry.Goals as goal

pub returns-clause-made : goal.returns-clause-made
returns-clause-made g c = λ s p_is. if_ok c.carry_calls.result (λ carried are. are.marks) (c.carry_calls.ensures.sent s p_is)

pub returns-clause-packets : goal.returns-clause-packets
returns-clause-packets g c = λ s p_is. if_ok c.carry_calls.result (λ carried are. are.packets_are) (c.carry_calls.ensures.sent s p_is)

pub returns-clause-waits : goal.returns-clause-waits
returns-clause-waits g c = λ s p_is. if_ok c.carry_calls.result (λ carried are. are.stands) (c.carry_calls.ensures.sent s p_is)

pub returns-clause-within : goal.returns-clause-within
returns-clause-within g c = λ s p_is.
    let goes : PacketizerGoesOn s = c.packetizers_go_on.ensures.goes_on s (c.packetizer_states.ensures.format s p_is).limits (c.packetizer_states.ensures.format s p_is).dons (c.packetizer_states.ensures.state s p_is) in
    if_ok c.carry_calls.result (λ carried are.
    let calls = keep carried.made (next_calls s c.args.calls.now) in
    subst (AreWithinLimits s calls) (sym are.packets_are) (goes.within calls)) (c.carry_calls.ensures.sent s p_is)

pub returns-clause-fewest : goal.returns-clause-fewest
returns-clause-fewest g c = λ s p_is. c.fewest_fragments.ensures s.format (c.packetizer_states.ensures.format s p_is).headers

pub returns-clause-taken : goal.returns-clause-taken
returns-clause-taken g c = λ r d_is.
    c.carry_calls.ensures.taken (depacketization r c.args.out.now.items c.args.extra.now) (ap (option_map (λ (x : DepacketizerState). depacketization x c.args.out.now.items c.args.extra.now)) d_is)

pub returns-clause-any : goal.returns-clause-any
returns-clause-any g c = λ r d_is none.
    let w = depacketization r c.args.out.now.items c.args.extra.now in
    let takes : DepacketizerGoesOn w = c.depacketizers_go_on.ensures w (c.depacketizer_states.ensures r d_is) in
    if_ok c.carry_calls.result (λ carried taken.
    written_of (codec_depacketizer_state c.carry_calls.new.d) c.carry_calls.new.out.items c.carry_calls.new.extra w carried.packets (received (map r.format.read carried.packets)) taken (takes.brings none carried.packets))
    (returns-clause-taken g c r d_is)

pub returns-clause-dons : goal.returns-clause-dons
returns-clause-dons g c = λ s p_is.
    let is = c.packetizer_states.ensures.state s p_is in
    if_ok c.carry_calls.result (λ carried are can.
    (c.what_calls_send_is_carried.ensures s (depacketization (fresh_depacketizer_state s.format) [] extras.None) (keep carried.made (next_calls s c.args.calls.now))
    (c.packetizer_states.ensures.format s p_is) is (calls_small s is.size carried.made c.args.calls.now) refl can).dons)
    (c.carry_calls.ensures.sent s p_is)

pub returns-clause-detected : goal.returns-clause-detected
returns-clause-detected g c = λ s p_is.
    let is = c.packetizer_states.ensures.state s p_is in
    if_ok c.carry_calls.result (λ carried are can.
    (c.what_calls_send_is_carried.ensures s (depacketization (fresh_depacketizer_state s.format) [] extras.None) (keep carried.made (next_calls s c.args.calls.now))
    (c.packetizer_states.ensures.format s p_is) is (calls_small s is.size carried.made c.args.calls.now) refl can).detected)
    (c.carry_calls.ensures.sent s p_is)

pub returns-clause-whole : goal.returns-clause-whole
returns-clause-whole g c = λ s r p_is d_is same.
    let w = depacketization r c.args.out.now.items c.args.extra.now in
    let is = c.packetizer_states.ensures.state s p_is in
    if_both c.carry_calls.result (λ carried are taken can.
    let units = made_units s carried.made (next_calls s c.args.calls.now) in
    let law = c.what_calls_send_is_carried.ensures s w (keep carried.made (next_calls s c.args.calls.now)) (c.packetizer_states.ensures.format s p_is) is (calls_small s is.size carried.made c.args.calls.now) same can in
    written_of (codec_depacketizer_state c.carry_calls.new.d) c.carry_calls.new.out.items c.carry_calls.new.extra w carried.packets units
    taken (subst (λ (x : List (List ℕ)). units_brought r x ≡ units) (sym are.packets_are) law.received))
    (c.carry_calls.ensures.sent s p_is) (returns-clause-taken g c r d_is)

pub returns-clause-stopped : goal.returns-clause-stopped
returns-clause-stopped g c = λ s r p_is d_is.
    let w = depacketization r c.args.out.now.items c.args.extra.now in
    let is = c.packetizer_states.ensures.state s p_is in
    let ok = c.packetizer_states.ensures.format s p_is in
    let goes : PacketizerGoesOn s = c.packetizers_go_on.ensures.goes_on s ok.limits ok.dons is in
    let takes : DepacketizerGoesOn w = c.depacketizers_go_on.ensures w (c.depacketizer_states.ensures r d_is) in
    if_err c.carry_calls.result (λ e it. stopped_transmission s w (next_calls s c.args.calls.now) e _ _ goes takes
    (λ made same can. c.what_calls_send_is_carried.ensures s w (keep made (next_calls s c.args.calls.now)) (c.packetizer_states.ensures.format s p_is) is (calls_small s is.size made c.args.calls.now) same can) it)
    (c.carry_calls.ensures.stopped s w p_is (ap (option_map (λ (x : DepacketizerState). depacketization x c.args.out.now.items c.args.extra.now)) d_is))

pub returns-clause-headline : goal.returns-clause-headline
returns-clause-headline g c = λ s r p_is d_is fresh closed same untold.
    let w = depacketization r c.args.out.now.items c.args.extra.now in
    let is = c.packetizer_states.ensures.state s p_is in
    let ok = c.packetizer_states.ensures.format s p_is in
    let goes : PacketizerGoesOn s = c.packetizers_go_on.ensures.goes_on s ok.limits ok.dons is in
    if_both c.carry_calls.result (λ carried are whole.
    let calls = keep carried.made (next_calls s c.args.calls.now) in
    of_fresh s w calls carried.packets c.carry_calls.new.out.items c.carry_calls.new.extra (record { fresh = fresh; same = same; untold = untold }) goes
    (returns-clause-fewest g c s p_is) (c.plans_unit_by_unit.ensures.plan s.format (all_entries s.format calls))
    (λ can. c.what_calls_send_is_carried.ensures s w calls ok is (calls_small s is.size carried.made c.args.calls.now) same can) are whole)
    (returns-clause-packets g c s p_is) (returns-clause-whole g c s r p_is d_is same)
