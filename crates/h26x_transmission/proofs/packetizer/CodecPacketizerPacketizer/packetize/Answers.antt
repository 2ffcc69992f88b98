use Rattle.std.proofs.Common.{◌≡◌, refl, Some, [], true}
use Rattle.std.specs.Prelude.{IfOk, OnOk}
use Rattle.h26x_model.specs.Send.Calls.{call_entries}
use Rattle.h26x_model.specs.Send.PacketizerState.{PacketizerState, state_packets, after_entries, after_payload, payload_has_no_effect, IsSentAsPlanned, next_call}
use Rattle.h26x_model.specs.Send.Rival.{TakesFewestFragments}
use Rattle.h265_payload.specs.Setting as h265_setting
use Rattle.h266_payload.specs.Setting as h266_setting
use Rattle.h26x_packetizer.specs.Sending.{contents}
use Rattle.h26x_packetizer.specs.PacketizerView.{packetizer_state}
use Rattle.h26x_codec.specs.declared.codec.Codec.TheVariants as codec
use Rattle.h26x_transmission.specs.CodecStates.{codec_packetizer_state}
use Rattle.h26x_transmission.specs.declared.packetizer.CodecPacketizer.TheVariants as p
use Rattle.h26x_codec.proofs.StateLemmas.{of_state, of_states, then_mapped}
use Rattle.h26x_transmission.proofs.AnswerLemmas.{beside_mapped}
use Rattle.h26x_transmission.proofs.packetizer.CodecPacketizerPacketizer.packetize.Goals as goal

pub returns-in-H265-clause-packets : goal.returns-in-H265-clause-packets
returns-in-H265-clause-packets g c = λ s is.
    of_state (λ (x : PacketizerState). IfOk c.packetize-in-H265.result (λ made. contents made.items ≡ state_packets x (call_entries x.format (next_call x c.args.mtu c.args.b.now))))
    (codec_packetizer_state c.args.self.now) (packetizer_state (h265_setting.sending_format c.in-H265.it.codec) c.in-H265.it) s (rw c.in-H265.is refl) is
    c.packetize-in-H265.ensures.packets

pub returns-in-H266-clause-packets : goal.returns-in-H266-clause-packets
returns-in-H266-clause-packets g c = λ s is.
    of_state (λ (x : PacketizerState). IfOk c.packetize-in-H266.result (λ made. contents made.items ≡ state_packets x (call_entries x.format (next_call x c.args.mtu c.args.b.now))))
    (codec_packetizer_state c.args.self.now) (packetizer_state (h266_setting.setting_format c.in-H266.it.codec) c.in-H266.it) s (rw c.in-H266.is refl) is
    c.packetize-in-H266.ensures.packets

pub returns-in-H265-clause-planned : goal.returns-in-H265-clause-planned
returns-in-H265-clause-planned g c = λ s after is later.
    of_states (λ (x y : PacketizerState). IfOk c.packetize-in-H265.result (λ made. IsSentAsPlanned x (next_call x c.args.mtu c.args.b.now) (contents made.items) y))
    (codec_packetizer_state c.args.self.now) _ (packetizer_state (h265_setting.sending_format c.in-H265.it.codec) c.in-H265.it) (packetizer_state (h265_setting.sending_format c.packetize-in-H265.new.self.codec) c.packetize-in-H265.new.self) s after
    (rw c.in-H265.is refl) refl is later c.packetize-in-H265.ensures.planned

pub returns-in-H265-clause-fewest : goal.returns-in-H265-clause-fewest
returns-in-H265-clause-fewest g c = λ s is.
    of_state (λ (x : PacketizerState). TakesFewestFragments x.format) (codec_packetizer_state c.args.self.now)
    (packetizer_state (h265_setting.sending_format c.in-H265.it.codec) c.in-H265.it) s (rw c.in-H265.is refl) is
    (c.fewest_fragments.ensures (h265_setting.sending_format c.in-H265.it.codec) (c.formats_meet_the_facts.ensures codec.H265 c.in-H265.it.codec.codec.has_donl).headers)

pub returns-in-H266-clause-after : goal.returns-in-H266-clause-after
returns-in-H266-clause-after g c = λ s is.
    of_state (λ (x : PacketizerState). OnOk c.packetize-in-H266.result (Some (packetizer_state (h266_setting.setting_format c.packetize-in-H266.new.self.codec) c.packetize-in-H266.new.self) ≡ Some (after_entries x (call_entries x.format (next_call x c.args.mtu c.args.b.now)))))
    (codec_packetizer_state c.args.self.now) (packetizer_state (h266_setting.setting_format c.in-H266.it.codec) c.in-H266.it) s (rw c.in-H266.is refl) is
    (then_mapped (λ it. Some (packetizer_state (h266_setting.setting_format it.codec) it)) _ _ c.packetize-in-H266.result c.packetize-in-H266.ensures.after)

pub returns-in-H266-clause-planned : goal.returns-in-H266-clause-planned
returns-in-H266-clause-planned g c = λ s after is later.
    of_states (λ (x y : PacketizerState). IfOk c.packetize-in-H266.result (λ made. IsSentAsPlanned x (next_call x c.args.mtu c.args.b.now) (contents made.items) y))
    (codec_packetizer_state c.args.self.now) _ (packetizer_state (h266_setting.setting_format c.in-H266.it.codec) c.in-H266.it) (packetizer_state (h266_setting.setting_format c.packetize-in-H266.new.self.codec) c.packetize-in-H266.new.self) s after
    (rw c.in-H266.is refl) refl is later c.packetize-in-H266.ensures.planned

pub returns-in-H266-clause-fewest : goal.returns-in-H266-clause-fewest
returns-in-H266-clause-fewest g c = λ s is.
    of_state (λ (x : PacketizerState). TakesFewestFragments x.format) (codec_packetizer_state c.args.self.now)
    (packetizer_state (h266_setting.setting_format c.in-H266.it.codec) c.in-H266.it) s (rw c.in-H266.is refl) is
    (c.fewest_fragments.ensures _ (c.formats_meet_the_facts.ensures codec.H266 c.in-H266.it.codec.has_donl).headers)

pub returns-in-H265-clause-after : goal.returns-in-H265-clause-after
returns-in-H265-clause-after g c = λ s is.
    of_state (λ (x : PacketizerState). OnOk c.packetize-in-H265.result (Some (packetizer_state (h265_setting.sending_format c.packetize-in-H265.new.self.codec) c.packetize-in-H265.new.self) ≡ Some (after_payload x c.args.mtu c.args.b.now)))
    (codec_packetizer_state c.args.self.now) (packetizer_state (h265_setting.sending_format c.in-H265.it.codec) c.in-H265.it) s (rw c.in-H265.is refl) is
    (then_mapped (λ it. Some (packetizer_state (h265_setting.sending_format it.codec) it)) _ _ c.packetize-in-H265.result c.packetize-in-H265.ensures.after)

pub returns-in-H265-clause-without_effect : goal.returns-in-H265-clause-without_effect
returns-in-H265-clause-without_effect g c = λ s is.
    of_state (λ (x : PacketizerState). payload_has_no_effect x c.args.mtu c.args.b.now ≡ true → IfOk c.packetize-in-H265.result (λ made. (made.items ≡ []) × (p.H265 c.packetize-in-H265.new.self ≡ c.args.self.now)))
    (codec_packetizer_state c.args.self.now) (packetizer_state (h265_setting.sending_format c.in-H265.it.codec) c.in-H265.it) s (rw c.in-H265.is refl) is
    (λ none. rw c.in-H265.is (beside_mapped p.H265 (λ made. made.items ≡ []) _ _ c.packetize-in-H265.result (c.packetize-in-H265.ensures.without_effect none)))

pub returns-in-H266-clause-without_effect : goal.returns-in-H266-clause-without_effect
returns-in-H266-clause-without_effect g c = λ s is.
    of_state (λ (x : PacketizerState). payload_has_no_effect x c.args.mtu c.args.b.now ≡ true → IfOk c.packetize-in-H266.result (λ made. (made.items ≡ []) × (p.H266 c.packetize-in-H266.new.self ≡ c.args.self.now)))
    (codec_packetizer_state c.args.self.now) (packetizer_state (h266_setting.setting_format c.in-H266.it.codec) c.in-H266.it) s (rw c.in-H266.is refl) is
    (λ none. rw c.in-H266.is (beside_mapped p.H266 (λ made. made.items ≡ []) _ _ c.packetize-in-H266.result (c.packetize-in-H266.ensures.without_effect none)))
