use Rattle.std.proofs.Common.{◌≡◌, refl, Some}
use Rattle.std.specs.Prelude.{IfOk, OnOk}
use Rattle.h26x_model.specs.Send.PacketizerState.{PacketizerState, one_unit_packets, after_one_unit}
use Rattle.h265_payload.specs.Setting as h265_setting
use Rattle.h266_payload.specs.Setting as h266_setting
use Rattle.h26x_packetizer.specs.Sending.{contents}
use Rattle.h26x_packetizer.specs.PacketizerView.{packetizer_state}
use Rattle.h26x_transmission.specs.CodecStates.{codec_packetizer_state}
use Rattle.h26x_codec.proofs.StateLemmas.{of_state, then_mapped}
use Rattle.h26x_transmission.proofs.packetizer.CodecPacketizer.packetize_unit.Goals as goal

pub returns-in-H265-clause-packets : goal.returns-in-H265-clause-packets
returns-in-H265-clause-packets g c = λ s is.
    of_state (λ (x : PacketizerState). IfOk c.packetize_unit-in-H265.result (λ made. contents made.items ≡ one_unit_packets x c.args.mtu c.args.unit.now))
    (codec_packetizer_state c.args.self.now) (packetizer_state (h265_setting.sending_format c.in-H265.it.codec) c.in-H265.it) s (rw c.in-H265.is refl) is
    c.packetize_unit-in-H265.ensures.packets

pub returns-in-H265-clause-after : goal.returns-in-H265-clause-after
returns-in-H265-clause-after g c = λ s is.
    of_state (λ (x : PacketizerState). OnOk c.packetize_unit-in-H265.result (Some (packetizer_state (h265_setting.sending_format c.packetize_unit-in-H265.new.self.codec) c.packetize_unit-in-H265.new.self) ≡ Some (after_one_unit x c.args.mtu c.args.unit.now)))
    (codec_packetizer_state c.args.self.now) (packetizer_state (h265_setting.sending_format c.in-H265.it.codec) c.in-H265.it) s (rw c.in-H265.is refl) is
    (then_mapped (λ it. Some (packetizer_state (h265_setting.sending_format it.codec) it)) _ _ c.packetize_unit-in-H265.result c.packetize_unit-in-H265.ensures.after)

pub returns-in-H266-clause-packets : goal.returns-in-H266-clause-packets
returns-in-H266-clause-packets g c = λ s is.
    of_state (λ (x : PacketizerState). IfOk c.packetize_unit-in-H266.result (λ made. contents made.items ≡ one_unit_packets x c.args.mtu c.args.unit.now))
    (codec_packetizer_state c.args.self.now) (packetizer_state (h266_setting.setting_format c.in-H266.it.codec) c.in-H266.it) s (rw c.in-H266.is refl) is
    c.packetize_unit-in-H266.ensures.packets

pub returns-in-H266-clause-after : goal.returns-in-H266-clause-after
returns-in-H266-clause-after g c = λ s is.
    of_state (λ (x : PacketizerState). OnOk c.packetize_unit-in-H266.result (Some (packetizer_state (h266_setting.setting_format c.packetize_unit-in-H266.new.self.codec) c.packetize_unit-in-H266.new.self) ≡ Some (after_one_unit x c.args.mtu c.args.unit.now)))
    (codec_packetizer_state c.args.self.now) (packetizer_state (h266_setting.setting_format c.in-H266.it.codec) c.in-H266.it) s (rw c.in-H266.is refl) is
    (then_mapped (λ it. Some (packetizer_state (h266_setting.setting_format it.codec) it)) _ _ c.packetize_unit-in-H266.result c.packetize_unit-in-H266.ensures.after)
