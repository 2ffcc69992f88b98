use Rattle.std.proofs.Common.{◌≡◌, refl, Some}
use Rattle.std.specs.Prelude.{OnOk}
use Rattle.h26x_model.specs.Send.Calls.{call_entries}
use Rattle.h26x_model.specs.Send.PacketizerState.{PacketizerState, state_packets, next_call, after_payload}
use Rattle.h265_payload.specs.Setting as h265_setting
use Rattle.h266_payload.specs.Setting as h266_setting
use Rattle.h26x_packetizer.specs.Buffer.{with_packets, IsMemoryWith}
use Rattle.h26x_packetizer.specs.PacketizerView.{packetizer_state}
use Rattle.h26x_transmission.specs.CodecStates.{codec_packetizer_state}
use Rattle.h26x_codec.proofs.StateLemmas.{of_state, then_mapped}
use Rattle.h26x_transmission.proofs.packetizer.CodecPacketizer.packetize_into.Goals as goal

pub returns-in-H265-clause-packets : goal.returns-in-H265-clause-packets
returns-in-H265-clause-packets g c = λ s is.
    of_state (λ (x : PacketizerState). OnOk c.packetize_into-in-H265.result (c.packetize_into-in-H265.new.into ≡ with_packets c.args.into.now (state_packets x (call_entries x.format (next_call x c.args.mtu c.args.b.now))) c.packetize_into-in-H265.new.into.memory))
    (codec_packetizer_state c.args.self.now) (packetizer_state (h265_setting.sending_format c.in-H265.it.codec) c.in-H265.it) s (rw c.in-H265.is refl) is
    c.packetize_into-in-H265.ensures.packets

pub returns-in-H266-clause-packets : goal.returns-in-H266-clause-packets
returns-in-H266-clause-packets g c = λ s is.
    of_state (λ (x : PacketizerState). OnOk c.packetize_into-in-H266.result (c.packetize_into-in-H266.new.into ≡ with_packets c.args.into.now (state_packets x (call_entries x.format (next_call x c.args.mtu c.args.b.now))) c.packetize_into-in-H266.new.into.memory))
    (codec_packetizer_state c.args.self.now) (packetizer_state (h266_setting.setting_format c.in-H266.it.codec) c.in-H266.it) s (rw c.in-H266.is refl) is
    c.packetize_into-in-H266.ensures.packets

pub returns-in-H265-clause-after : goal.returns-in-H265-clause-after
returns-in-H265-clause-after g c = λ s is.
    of_state (λ (x : PacketizerState). OnOk c.packetize_into-in-H265.result (Some (packetizer_state (h265_setting.sending_format c.packetize_into-in-H265.new.self.codec) c.packetize_into-in-H265.new.self) ≡ Some (after_payload x c.args.mtu c.args.b.now)))
    (codec_packetizer_state c.args.self.now) (packetizer_state (h265_setting.sending_format c.in-H265.it.codec) c.in-H265.it) s (rw c.in-H265.is refl) is
    (then_mapped (λ it. Some (packetizer_state (h265_setting.sending_format it.codec) it)) _ _ c.packetize_into-in-H265.result c.packetize_into-in-H265.ensures.after)

pub returns-in-H266-clause-after : goal.returns-in-H266-clause-after
returns-in-H266-clause-after g c = λ s is.
    of_state (λ (x : PacketizerState). OnOk c.packetize_into-in-H266.result (Some (packetizer_state (h266_setting.setting_format c.packetize_into-in-H266.new.self.codec) c.packetize_into-in-H266.new.self) ≡ Some (after_payload x c.args.mtu c.args.b.now)))
    (codec_packetizer_state c.args.self.now) (packetizer_state (h266_setting.setting_format c.in-H266.it.codec) c.in-H266.it) s (rw c.in-H266.is refl) is
    (then_mapped (λ it. Some (packetizer_state (h266_setting.setting_format it.codec) it)) _ _ c.packetize_into-in-H266.result c.packetize_into-in-H266.ensures.after)

pub returns-in-H265-clause-bounded : goal.returns-in-H265-clause-bounded
returns-in-H265-clause-bounded g c = λ s is.
    of_state (λ (x : PacketizerState). OnOk c.packetize_into-in-H265.result (IsMemoryWith c.args.into.now (state_packets x (call_entries x.format (next_call x c.args.mtu c.args.b.now))) c.packetize_into-in-H265.new.into.memory))
    (codec_packetizer_state c.args.self.now) (packetizer_state (h265_setting.sending_format c.in-H265.it.codec) c.in-H265.it) s (rw c.in-H265.is refl) is
    c.packetize_into-in-H265.ensures.bounded

pub returns-in-H266-clause-bounded : goal.returns-in-H266-clause-bounded
returns-in-H266-clause-bounded g c = λ s is.
    of_state (λ (x : PacketizerState). OnOk c.packetize_into-in-H266.result (IsMemoryWith c.args.into.now (state_packets x (call_entries x.format (next_call x c.args.mtu c.args.b.now))) c.packetize_into-in-H266.new.into.memory))
    (codec_packetizer_state c.args.self.now) (packetizer_state (h266_setting.setting_format c.in-H266.it.codec) c.in-H266.it) s (rw c.in-H266.is refl) is
    c.packetize_into-in-H266.ensures.bounded
