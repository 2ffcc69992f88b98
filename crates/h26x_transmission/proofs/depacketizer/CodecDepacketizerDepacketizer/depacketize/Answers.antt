use Rattle.std.proofs.Common.{◌≡◌, refl, [], ◌∷◌, Some}
use Rattle.std.specs.Prelude.{OnOk}
use Rattle.h26x_model.specs.Receive.DepacketizerState.{Depacketization, after_packets, IsPacketOutcome}
use Rattle.h265_payload.specs.Setting as h265_setting
use Rattle.h26x_depacketizer.specs.DepacketizerView.{view_depacketization}
use Rattle.h266_payload.specs.Setting as h266_setting
use Rattle.h26x_transmission.specs.CodecStates.{codec_depacketization}
use Rattle.h26x_codec.proofs.StateLemmas.{of_state, then_mapped}
use Rattle.h26x_transmission.proofs.depacketizer.CodecDepacketizerDepacketizer.depacketize.Goals as goal

pub returns-in-H265-clause-outcome : goal.returns-in-H265-clause-outcome
returns-in-H265-clause-outcome g c = λ w is.
    of_state (λ (x : Depacketization). IsPacketOutcome x c.args.packet.now c.depacketize-in-H265.result)
    (codec_depacketization c.args.self.now c.args.out.now.items c.args.codec_extra.now)
    (view_depacketization (h265_setting.setting_format c.in-H265.it.codec) c.in-H265.it c.args.out.now.items c.args.codec_extra.now) w (rw c.in-H265.is refl) is
    c.depacketize-in-H265.ensures.outcome

pub returns-in-H265-clause-taken : goal.returns-in-H265-clause-taken
returns-in-H265-clause-taken g c = λ w is.
    of_state (λ (x : Depacketization). OnOk c.depacketize-in-H265.result
    (Some (view_depacketization (h265_setting.setting_format c.depacketize-in-H265.new.self.codec) c.depacketize-in-H265.new.self c.depacketize-in-H265.new.out.items c.depacketize-in-H265.new.codec_extra) ≡ Some (after_packets x (c.args.packet.now ∷ []))))
    (codec_depacketization c.args.self.now c.args.out.now.items c.args.codec_extra.now)
    (view_depacketization (h265_setting.setting_format c.in-H265.it.codec) c.in-H265.it c.args.out.now.items c.args.codec_extra.now) w (rw c.in-H265.is refl) is
    (then_mapped Some _ _ c.depacketize-in-H265.result c.depacketize-in-H265.ensures.taken)

pub returns-in-H266-clause-outcome : goal.returns-in-H266-clause-outcome
returns-in-H266-clause-outcome g c = λ w is.
    of_state (λ (x : Depacketization). IsPacketOutcome x c.args.packet.now c.depacketize-in-H266.result)
    (codec_depacketization c.args.self.now c.args.out.now.items c.args.codec_extra.now)
    (view_depacketization (h266_setting.setting_format c.in-H266.it.codec) c.in-H266.it c.args.out.now.items c.args.codec_extra.now) w (rw c.in-H266.is refl) is
    c.depacketize-in-H266.ensures.outcome

pub returns-in-H266-clause-taken : goal.returns-in-H266-clause-taken
returns-in-H266-clause-taken g c = λ w is.
    of_state (λ (x : Depacketization). OnOk c.depacketize-in-H266.result
    (Some (view_depacketization (h266_setting.setting_format c.depacketize-in-H266.new.self.codec) c.depacketize-in-H266.new.self c.depacketize-in-H266.new.out.items c.depacketize-in-H266.new.codec_extra) ≡ Some (after_packets x (c.args.packet.now ∷ []))))
    (codec_depacketization c.args.self.now c.args.out.now.items c.args.codec_extra.now)
    (view_depacketization (h266_setting.setting_format c.in-H266.it.codec) c.in-H266.it c.args.out.now.items c.args.codec_extra.now) w (rw c.in-H266.is refl) is
    (then_mapped Some _ _ c.depacketize-in-H266.result c.depacketize-in-H266.ensures.taken)
